use Rattle.std.proofs.Common.{◌≡◌, ◌++◌, ◌*◌, length}
use Rattle.frozen.specs.Kept.{frozen_view}
use Rattle.frozen.specs.Kinds.{AreKinds}
use Rattle.loaders.proofs.looking.in_a_row.Given as goal

abbrev pub invariant-loop-part : goal.invariant-loop-part
invariant-loop-part l = record {
  rest : l.yielded ++ l.part-iterator.rest.items ≡ l.fn.parts.items;
  count : length l.kinds.items ≡ length l.yielded * l.held.geometry.inodes;
  kinds : AreKinds l.held.geometry (frozen_view l.held) l.kinds.items;
}
