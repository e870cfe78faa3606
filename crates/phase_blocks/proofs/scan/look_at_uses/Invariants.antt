use Rattle.phase_blocks.specs.Parts.{Inodes, Uses, Tells, with_uses_below}
use Rattle.frozen.specs.Kept.{frozen_view}
use Rattle.phase_blocks.proofs.scan.look_at_uses.Given as goal

abbrev pub invariant-loop-position : goal.invariant-loop-position
invariant-loop-position l =
    (inodes : Inodes) (uses : Uses) → Tells l.frozen.geometry (frozen_view l.frozen) inodes uses l.fn.part
    → Tells l.frozen.geometry (frozen_view l.frozen) inodes (with_uses_below uses l.number l.position) l.part

abbrev pub invariant-loop-table : goal.invariant-loop-table
invariant-loop-table l =
    (inodes : Inodes) (uses : Uses) → Tells l.frozen.geometry (frozen_view l.frozen) inodes uses l.fn.part
    → Tells l.frozen.geometry (frozen_view l.frozen) inodes (with_uses_below uses l.number l.table) l.part
