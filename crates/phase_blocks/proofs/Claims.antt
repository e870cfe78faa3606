-- Uses, and sets of them that grow by one.
use Rattle.std.proofs.Common.{◌≡◌, ◌<◌, ◌*◌, ◌/◌, ℕ, zero, suc, ◌&&◌, eqb, leb, ltb, ◌⊎◌, inl, inr, refl, sym, ◌∙◌, arith, IsTrue}
use Rattle.std.proofs.lemmas.Bool.{or_cases, or_left, or_right, and_parts, and_from, eqb-true, eq-eqb, ltb-true}
use Rattle.std.proofs.lemmas.Nat.{div_below}
use Rattle.std.proofs.lemmas.Option.{same_Some}
use Rattle.model.specs.Layout.{Geometry, inode_count, is_number}
use Rattle.model.specs.View.{View}
use Rattle.model.specs.Uses.{IsUse}
use Rattle.phase_blocks.specs.declared.parts.Claim.{Claim}
use Rattle.phase_blocks.specs.Parts.{Uses, with_use}

abbrev pub claim : ℕ → ℕ → ℕ → Claim
claim a i k = record { block = a; inode = i; position = k }

-- a number stands in some group
pub group_of_number : (geo : Geometry) (i : ℕ) → IsTrue (is_number geo i) → i / geo.inodes < geo.groups
group_of_number geo i t =
    let low : i < inode_count geo = ltb-true i (inode_count geo) (and_parts (leb 2 i) (ltb i (inode_count geo)) t).1 in
    div_below i geo.inodes geo.groups (some_inode geo.inodes low) low
  where
    some_inode : (inodes : ℕ) → i < geo.groups * inodes → 0 < inodes
    some_inode zero low = absurd (omega (arith, low))
    some_inode (suc inodes) low = omega arith

-- a use has one value
pub use_value : (geo : Geometry) (view : View) (i k v w : ℕ) → IsUse geo view i k v → IsUse geo view i k w → v ≡ w
use_value geo view i k v w u x = same_Some v w (sym u ∙ x)

-- t has the uses of s, and the use of position k by inode i
pub record AddsUse (s t : Uses) (i k : ℕ) : Type 0 where
  pub keeps : (j l : ℕ) → IsTrue (s j l) → IsTrue (t j l)
  pub has : IsTrue (t i k)
  pub only : (j l : ℕ) → IsTrue (t j l) → IsTrue (s j l) ⊎ ((j ≡ i) × (l ≡ k))

pub with_use_adds : (s : Uses) (i k : ℕ) → AddsUse s (with_use s i k) i k
with_use_adds s i k = record {
  keeps = λ j l u. or_left (s j l) (eqb j i && eqb l k) u;
  has = or_right (s i k) (eqb i i && eqb k k) (and_from (eqb i i) (eqb k k) (eq-eqb i i refl) (eq-eqb k k refl));
  only = λ j l u. elim (or_cases (s j l) (eqb j i && eqb l k) u) [
    | inl h ↦ inl h
    | inr h ↦ inr (let p = and_parts (eqb j i) (eqb l k) h in (eqb-true j i p.0, eqb-true l k p.1))
  ];
}
