use Rattle.std.proofs.Common.{◌≡◌, ◌<◌, ℕ, length}
use Rattle.std.specs.List.{HoldsAt}
use Rattle.frozen.specs.Kept.{frozen_view}
use Rattle.pictures.specs.Uses.{IsUsedBy}
use Rattle.pictures.specs.Walk.{claims_before}
use Rattle.pictures.proofs.claiming.unclaimed_cells.Given as goal

abbrev pub invariant-loop-address : goal.invariant-loop-address
invariant-loop-address l = record {
  count : length l.cells.items ≡ l.address;
  each : (a : ℕ) → a < l.address → HoldsAt (IsUsedBy l.frozen.geometry (frozen_view l.frozen) (claims_before l.frozen.geometry (frozen_view l.frozen) 0 0 a) a) l.cells.items a;
}
