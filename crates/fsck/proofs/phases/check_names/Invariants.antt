use Rattle.std.proofs.Common.{◌≡◌, ◌++◌, length}
use Rattle.frozen.specs.Kept.{frozen_view}
use Rattle.model.specs.Layout.{inode_count}
use Rattle.directories.specs.Pieces.{AreOfPieces}
use Rattle.phase_names.specs.Told.{IsPart}
use Rattle.fsck.proofs.PartLemmas.{joined_so_far}
use Rattle.fsck.proofs.phases.check_names.Given as goal

abbrev pub invariant-loop-part : goal.invariant-loop-part
invariant-loop-part l = record {
  rest : l.yielded ++ l.part-iterator.rest.items ≡ l.fn.parts.items;
  whole : (are : AreOfPieces (IsPart l.frozen.geometry (frozen_view l.frozen)) (inode_count l.frozen.geometry) l.fn.parts.items) → joined_so_far (IsPart l.frozen.geometry (frozen_view l.frozen)) are.pieces (length l.yielded) l.whole;
}
