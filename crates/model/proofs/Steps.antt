-- One step on the way from a position to the record. This file alone opens record_use and use_at.
use Rattle.std.proofs.Common.{◌≡◌, ℕ, suc, Bool, true, false, cond, ◌&&◌, inl, inr, refl, sym, ap, ◌∙◌, Option, Some, None, IsTrue}
use Rattle.std.specs.Bool.{then_some}
use Rattle.std.specs.Option.{option_and_then, option_map_or}
use Rattle.std.proofs.lemmas.Option.{none-some}
use Rattle.model.specs.Layout.{Geometry, is_data_address, is_number}
use Rattle.model.specs.View.{View, Inode}
use Rattle.model.specs.Shape.{table_of, place_in_table, field_at, pointer_in}
use Rattle.model.specs.Uses.{is_sound, has_position, use_within, record_use, use_at}
use Rattle.model.proofs.Shape.{table_cases, shallow}

guard : (b : Bool) (f : ℕ → Option ℕ) (o : Option ℕ) → cond b (option_and_then f o) None ≡ option_and_then f (cond b o None)
guard true f o = refl
guard false f o = refl

pub guarded : (b : Bool) (o : Option ℕ) (v : ℕ) → cond b o None ≡ Some v → (b ≡ true) × (o ≡ Some v)
guarded true o v e = (refl, e)
guarded false o v e = absurd (none-some v e)

-- ---- one step on the way
module _ (geo : Geometry) (view : View) (inode : Inode) where
  -- the pointer for position k in the table that stands in block t
  abbrev pub read : ℕ → ℕ → Option ℕ
  read k t = then_some (has_position geo inode k && is_data_address geo t) (pointer_in (view.bytes t) (place_in_table geo k))

  -- the pointer for position k in the record
  abbrev pub field : ℕ → Option ℕ
  field k = then_some (has_position geo inode k) (field_at geo inode k)

  within_record : (n k : ℕ) → table_of geo k ≡ None → use_within (suc n) geo view inode k ≡ field k
  within_record n k none = ap (λ o. option_map_or (λ m. option_and_then (read k) (use_within n geo view inode m)) o (field k)) none

  within_table : (n k m : ℕ) → table_of geo k ≡ Some m → use_within (suc n) geo view inode k ≡ option_and_then (read k) (use_within n geo view inode m)
  within_table n k m one = ap (λ o. option_map_or (λ m. option_and_then (read k) (use_within n geo view inode m)) o (field k)) one

  enough : (k m : ℕ) → table_of geo k ≡ Some m → use_within 1 geo view inode m ≡ use_within 2 geo view inode m
  enough k m one = elim (table_cases geo m) [
    | inl none ↦ within_record 0 m none ∙ sym (within_record 1 m none)
    | inr two ↦ within_table 0 m two.0 two.1 ∙ ap (option_and_then (read m)) (sym (within_record 0 two.0 (shallow geo k m two.0 one two.1))) ∙ sym (within_table 1 m two.0 two.1)
  ]

  pub use_in_record : (k : ℕ) → table_of geo k ≡ None → record_use geo view inode k ≡ cond (is_sound geo inode) (field k) None
  unfolding record_use
  use_in_record k none = ap (λ o. cond (is_sound geo inode) o None) (within_record 1 k none)

  pub use_in_table : (k m : ℕ) → table_of geo k ≡ Some m → record_use geo view inode k ≡ option_and_then (read k) (record_use geo view inode m)
  unfolding record_use
  use_in_table k m one =
      ap (λ o. cond (is_sound geo inode) o None) (within_table 1 k m one ∙ ap (option_and_then (read k)) (enough k m one))
      ∙ guard (is_sound geo inode) (read k) (use_within 2 geo view inode m)

  pub use_sound : (k v : ℕ) → record_use geo view inode k ≡ Some v → IsTrue (is_sound geo inode)
  unfolding record_use
  use_sound k v u = (guarded (is_sound geo inode) (use_within 2 geo view inode k) v u).0

-- a number that is looked at uses what its record uses, and another uses nothing
pub use_at_is : (geo : Geometry) (view : View) (i k : ℕ) → use_at geo view i k ≡ cond (is_number geo i) (record_use geo view (view.inode i) k) None
unfolding use_at
use_at_is geo view i k = refl
