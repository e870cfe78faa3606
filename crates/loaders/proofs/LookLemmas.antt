-- What is known of the numbers of groups, one behind another.
use Rattle.std.proofs.Common.{◌≡◌, ◌<◌, ◌≤◌, ◌+◌, ◌*◌, ℕ, zero, suc, List, [], ◌∷◌, ◌++◌, length, Some, slice_get, sym, subst, arith, mul-le-mul_right}
use Rattle.std.proofs.lemmas.Nat.{mul-le}
use Rattle.std.proofs.lemmas.Option.{none-some}
use Rattle.model.specs.Layout.{Geometry, IsGeometry}
use Rattle.model.specs.View.{View}
use Rattle.frozen.specs.declared.kinds.Kind.{Kind}
use Rattle.frozen.specs.Kinds.{AreKinds, IsKind}
use Rattle.loaders.specs.Looking.{AreKindsFrom}

-- the numbers of a group are below those of the next one, and those of all groups are few
pub numbers_of : (geo : Geometry) → IsGeometry geo → (g : ℕ) → g < geo.groups → g * geo.inodes + geo.inodes ≤ 65_536
numbers_of geo ok g low =
    let next : (g + 1) * geo.inodes ≤ geo.groups * geo.inodes = mul-le-mul_right geo.inodes (omega (arith, low)) in
    let all : geo.groups * geo.inodes ≤ 64 * 1024 = mul-le geo.groups geo.inodes 64 1024 ok.few_groups ok.few_inodes in
    let one : (g + 1) * geo.inodes ≡ g * geo.inodes + geo.inodes = omega arith in
    omega (arith, next, all, one)

-- what holds of the elements of two lists holds of those of the one behind the other
pub behind : {X : Type 0} (P : ℕ → X → Type 0) (xs ys : List X) → ((i : ℕ) (y : X) → slice_get xs i ≡ Some y → P i y) → ((k : ℕ) (y : X) → slice_get ys k ≡ Some y → P (length xs + k) y)
    → (i : ℕ) (y : X) → slice_get (xs ++ ys) i ≡ Some y → P i y
behind P [] ys all more i y at = let e : 0 + i ≡ i = omega arith in subst (λ (n : ℕ). P n y) e (more i y at)
behind P (x ∷ xs) ys all more zero y at = all 0 y at
behind P (x ∷ xs) ys all more (suc i) y at =
    behind (λ k. P (suc k)) xs ys (λ k w h. all (suc k) w h)
    (λ k w h. let e : length (x ∷ xs) + k ≡ suc (length xs + k) = omega arith in subst (λ (n : ℕ). P n w) e (more k w h)) i y at

-- one number more of a group
pub kinds_push : (geo : Geometry) (view : View) (first : ℕ) (kinds : List Kind) (kind : Kind) (i : ℕ) → first + length kinds ≡ i → AreKindsFrom geo view first kinds → IsKind geo view i kind
    → AreKindsFrom geo view first (kinds ++ kind ∷ [])
kinds_push geo view first kinds kind i at are is =
    behind (λ k one. IsKind geo view (first + k) one) kinds (kind ∷ []) are (λ k one h. last k one h)
  where
    last : (k : ℕ) (one : Kind) → slice_get (kind ∷ []) k ≡ Some one → IsKind geo view (first + (length kinds + k)) one
    last zero one h =
        let e : i ≡ first + (length kinds + 0) = omega (arith, at) in
        let same : kind ≡ one = cc in
        subst (λ (one : Kind). IsKind geo view (first + (length kinds + 0)) one) same (subst (λ (n : ℕ). IsKind geo view n kind) e is)
    last (suc k) one h = absurd (none-some one h)

-- and those of a group more
pub kinds_behind : (geo : Geometry) (view : View) (kinds part : List Kind) (first : ℕ) → length kinds ≡ first → AreKinds geo view kinds → AreKindsFrom geo view first part → AreKinds geo view (kinds ++ part)
kinds_behind geo view kinds part first at are more =
    behind (λ k one. IsKind geo view k one) kinds part are (λ k one h. subst (λ (n : ℕ). IsKind geo view (n + k) one) (sym at) (more k one h))

-- nothing is known
pub no_kinds : (geo : Geometry) (view : View) (first : ℕ) (kinds : List Kind) → kinds ≡ [] → AreKindsFrom geo view first kinds
no_kinds geo view first kinds none k kind at = absurd (none-some kind (subst (λ (ks : List Kind). slice_get ks k ≡ Some kind) none at))
