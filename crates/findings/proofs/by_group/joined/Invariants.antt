use Rattle.std.proofs.Common.{◌≡◌, ◌++◌, map}
use Rattle.std.specs.List.{flat_map}
use Rattle.findings.proofs.by_group.joined.Given as goal

abbrev pub invariant-loop-group : goal.invariant-loop-group
invariant-loop-group g l = record {
  rest : l.yielded ++ l.group-iterator.rest.items ≡ l.fn.groups.items;
  kept : l.kept.items ≡ map (λ one. one.kept) l.yielded;
  all : l.all.items ≡ flat_map (λ one. one.found.items) l.yielded;
}
