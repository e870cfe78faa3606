-- Ordered lists of what is reachable.
use Rattle.std.specs.Prelude.{ℕ, List, ◌↔◌}
use Rattle.std.specs.List.{Contains}
use Rattle.std.specs.List.Sorted.{IsStrictlySortedBy}
use Rattle.std.specs.Ordering.{nat_cmp}
use Rattle.model.specs.Layout.{Geometry}
use Rattle.model.specs.View.{View}
use Rattle.model.specs.Reach.{IsReachable}

-- the reachable inodes, each once and in order
pub record AreReached (geo : Geometry) (view : View) (inodes : List ℕ) : Type 0 where
  pub in_order : IsStrictlySortedBy nat_cmp inodes
  pub exactly : (i : ℕ) → Contains inodes i ↔ IsReachable geo view i
