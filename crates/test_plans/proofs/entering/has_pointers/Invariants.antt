use Rattle.std.proofs.Common.{◌<◌, ℕ, IsTrue}
use Rattle.model.specs.Shape.{is_table}
use Rattle.model.specs.Uses.{IsClaim}
use Rattle.frozen.specs.Kept.{frozen_view}
use Rattle.test_plans.proofs.entering.has_pointers.Given as goal

-- each table so far is claimed
abbrev pub invariant-loop-position : goal.invariant-loop-position
invariant-loop-position l =
    (m : ℕ) → m < l.position → IsTrue (is_table l.frozen.geometry m) → (x : ℕ) × IsClaim l.frozen.geometry (frozen_view l.frozen) l.directory m x
