use Rattle.std.proofs.Common.{◌<◌, ℕ, IsTrue}
use Rattle.model.specs.Shape.{is_table}
use Rattle.frozen.specs.Kept.{frozen_view}
use Rattle.same_metadata.specs.Same.{HasSameClaim}
use Rattle.same_metadata.proofs.has_same_tables.Given as goal

-- the tables at the positions so far are the same
abbrev pub invariant-loop-position : goal.invariant-loop-position
invariant-loop-position l =
    (m : ℕ) → m < l.position → IsTrue (is_table l.fn.one.geometry m) → HasSameClaim l.fn.one.geometry (frozen_view l.fn.one) (frozen_view l.fn.other) l.fn.number m
