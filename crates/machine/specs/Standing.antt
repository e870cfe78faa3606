-- Snapshots that stand, each with the number of its freeze.
use Rattle.std.specs.Prelude.{ℕ, zero, suc, ◌==◌, ◌<◌, ◌≤◌, ◌||◌, Bool, not, nat_le, List, [], ◌∷◌, length, map, Option, Some, None, if◌then◌else◌}
use Rattle.std.specs.List.{filter}

-- an image, or what shows one, with the number of its freeze
pub record Standing (X : Type 0) : Type 0 where
  pub number : ℕ
  pub image : X

-- the snapshots that stand, the newest first, and how many freezes there were since the volume was mounted
pub record Snapshots (X : Type 0) : Type 0 where
  pub standing : List (Standing X)
  pub freezes : ℕ

abbrev pub none_yet : {X : Type 0} → Snapshots X
none_yet {X} = record { standing = []; freezes = 0 }

-- what stands with this number
abbrev pub image_at : {X : Type 0} → List (Standing X) → ℕ → Option X
image_at [] s = None
image_at (x ∷ xs) s = if x.number == s then Some x.image else image_at xs s

-- what stands with the number of the latest of so many freezes
abbrev pub latest_at : {X : Type 0} → List (Standing X) → ℕ → Option X
latest_at xs zero = None
latest_at xs (suc s) = image_at xs s

-- all but that with this number
abbrev pub others : {X : Type 0} → List (Standing X) → ℕ → List (Standing X)
others {X} xs s = filter (λ (x : Standing X). not (x.number == s)) xs

-- one more begins, with the next number
abbrev pub begun : {X : Type 0} → Snapshots X → X → Snapshots X
begun {X} snapshots image = record { standing = record { number = snapshots.freezes; image = image } ∷ snapshots.standing; freezes = suc snapshots.freezes }

-- that with this number ends
abbrev pub ended : {X : Type 0} → Snapshots X → ℕ → Snapshots X
ended {X} snapshots s = record snapshots { standing = others snapshots.standing s }

-- four stand, or no number is left: the last one is 2^64 - 2
abbrev pub too_many : {X : Type 0} → Snapshots X → Bool
too_many snapshots = nat_le 4 (length snapshots.standing) || nat_le 18446744073709551615 snapshots.freezes

-- The numbers fall, from below n on.
abbrev pub FallBelow : ℕ → List ℕ → Type 0
FallBelow n [] = Unit {0}
FallBelow n (m ∷ ms) = (m < n) × FallBelow m ms

-- Each number is of one freeze since the volume was mounted, the newest stands first, and at most four stand.
pub record AreNumbered {X : Type 0} (snapshots : Snapshots X) : Type 0 where
  pub fall : FallBelow snapshots.freezes (map (λ (x : Standing X). x.number) snapshots.standing)
  pub few : length snapshots.standing ≤ 4
