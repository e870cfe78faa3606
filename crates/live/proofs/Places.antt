-- The places in which the numbers of snapshots are told ascend.
use Rattle.std.proofs.Common.{◌≡◌, ◌≤◌, ℕ, zero, suc, List, [], ◌∷◌, Option, Some, None, slice_get, arith}
use Rattle.frozen.specs.Kept.{Kept}
use Rattle.machine.specs.Standing.{AreNumbered, Snapshots, Standing}
use Rattle.live_states.specs.Snapshots.{places}
use Rattle.live.specs.Places.{Ascend}

-- From m on, the numbers in these places rise.
abbrev RisesFrom : ℕ → List (Option ℕ) → Type 0
RisesFrom m [] = Unit {0}
RisesFrom m (None ∷ told) = RisesFrom m told
RisesFrom m (Some n ∷ told) = (m ≤ n) × RisesFrom (suc n) told

same_number : (m n : ℕ) → Some (Some m) ≡ Some (Some n) → m ≡ n
same_number m n e = cc

-- so none is less, and they ascend
no_less : (m : ℕ) (told : List (Option ℕ)) → RisesFrom m told → (j n : ℕ) → slice_get told j ≡ Some (Some n) → m ≤ n
no_less m [] rises j n e = let bad : None ≡ Some (Some n) = e in cc
no_less m (None ∷ told) rises zero n e = let bad : Some None ≡ Some (Some n) = e in cc
no_less m (None ∷ told) rises (suc j) n e = no_less m told rises j n e
no_less m (Some k ∷ told) rises zero n e = omega (arith, rises.0, same_number k n e)
no_less m (Some k ∷ told) rises (suc j) n e = omega (arith, rises.0, no_less (suc k) told rises.1 j n e)

rising_ascend : (k : ℕ) (told : List (Option ℕ)) → RisesFrom k told → Ascend told
rising_ascend k [] rises i j m n before at_i at_j = let bad : None ≡ Some (Some m) = at_i in cc
rising_ascend k (p ∷ told) rises i zero m n before at_i at_j = absurd (omega (arith, before))
rising_ascend k (None ∷ told) rises zero (suc j) m n before at_i at_j = let bad : Some None ≡ Some (Some m) = at_i in cc
rising_ascend k (None ∷ told) rises (suc i) (suc j) m n before at_i at_j = rising_ascend k told rises i j m n (omega (arith, before)) at_i at_j
rising_ascend k (Some p ∷ told) rises zero (suc j) m n before at_i at_j = omega (arith, same_number p m at_i, no_less (suc p) told rises.1 j n at_j)
rising_ascend k (Some p ∷ told) rises (suc i) (suc j) m n before at_i at_j = rising_ascend (suc p) told rises.1 i j m n (omega (arith, before)) at_i at_j

-- four at most stand, and the newest is told last
places_rise : (standing : List (Standing Kept)) (n : ℕ) → AreNumbered (record { standing = standing; freezes = n }) → RisesFrom 0 (places standing)
places_rise [] n are = tt
places_rise (a ∷ []) n are = (omega arith, tt)
places_rise (b ∷ a ∷ []) n are = (omega arith, (omega (arith, are.fall.1.0), tt))
places_rise (c ∷ b ∷ a ∷ []) n are = (omega arith, (omega (arith, are.fall.1.1.0), (omega (arith, are.fall.1.0), tt)))
places_rise (d ∷ c ∷ b ∷ a ∷ []) n are = (omega arith, (omega (arith, are.fall.1.1.1.0), (omega (arith, are.fall.1.1.0), (omega (arith, are.fall.1.0), tt))))
places_rise (e ∷ d ∷ c ∷ b ∷ a ∷ older) n are = absurd (omega (arith, are.few))

pub places_ascend : (snapshots : Snapshots Kept) → AreNumbered snapshots → Ascend (places snapshots.standing)
places_ascend snapshots are = rising_ascend 0 (places snapshots.standing) (places_rise snapshots.standing snapshots.freezes are)
