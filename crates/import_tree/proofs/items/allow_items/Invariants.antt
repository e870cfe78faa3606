use Rattle.std.proofs.Common.{take}
use Rattle.std.specs.List.{All}
use Rattle.import_tree.specs.Placing.{IsNew}
use Rattle.import_tree.proofs.items.allow_items.Given as goal

abbrev pub invariant-loop-item : goal.invariant-loop-item
invariant-loop-item l = All (IsNew l.frozen) (take l.item-index l.items)
