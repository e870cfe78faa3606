use Rattle.std.proofs.Common.{◌≡◌, ◌++◌}
use Rattle.std.specs.List.{flat_map}
use Rattle.findings.proofs.by_group.all_found.Given as goal

abbrev pub invariant-loop-group : goal.invariant-loop-group
invariant-loop-group l = record {
  rest : l.yielded ++ l.group-iterator.rest.items ≡ l.fn.groups.items;
  all : l.all.items ≡ flat_map (λ found. found.items) l.yielded;
}
