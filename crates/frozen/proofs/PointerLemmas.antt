-- The value at a position stands in the record or in a table, which is used itself.
use Rattle.std.proofs.Common.{◌≡◌, ℕ, ◌&&◌, Option, Some, None, IsTrue, true, false, refl, sym, ap, ◌∙◌}
use Rattle.std.specs.Bool.{then_some}
use Rattle.std.specs.Option.{option_and_then}
use Rattle.model.specs.Layout.{Geometry, is_data_address, is_number}
use Rattle.model.specs.View.{View, Inode}
use Rattle.model.specs.Shape.{field_at, place_in_table, pointer_in, table_of}
use Rattle.model.specs.Uses.{has_position, is_sound, record_use, use_at}
use Rattle.inode.specs.Parts.{without_attributes}
use Rattle.model.proofs.Steps.{use_in_table, use_sound}
use Rattle.model.proofs.UseLemmas.{use_of_record}
use Rattle.model.proofs.Uses.{OfRecord, use_of}

module _ (geo : Geometry) (view : View) (inode : Inode) (k : ℕ) where
  pub none_unless : ((v : ℕ) → record_use geo view inode k ≡ Some v → ⊥) → record_use geo view inode k ≡ None
  none_unless no_use = go (record_use geo view inode k) refl
    where
      go : (o : Option ℕ) → record_use geo view inode k ≡ o → o ≡ None
      go None e = refl
      go (Some v) e = absurd (no_use v e)

  module _ (sound : IsTrue (is_sound geo inode)) (has : IsTrue (has_position geo inode k)) where
    pub in_record : table_of geo k ≡ None → record_use geo view inode k ≡ Some (field_at geo inode k)
    in_record none = use_of geo view inode k (field_at geo inode k) sound (OfRecord none has refl)

    in_table : (m : ℕ) → table_of geo k ≡ Some m
        → record_use geo view inode k ≡ option_and_then (λ t. then_some (is_data_address geo t) (pointer_in (view.bytes t) (place_in_table geo k))) (record_use geo view inode m)
    in_table m one =
        use_in_table geo view inode k m one
        ∙ ap (λ b. option_and_then (λ t. then_some (b && is_data_address geo t) (pointer_in (view.bytes t) (place_in_table geo k))) (record_use geo view inode m)) has

    pub through_table : (m t place : ℕ) → table_of geo k ≡ Some m → record_use geo view inode m ≡ Some t → place ≡ place_in_table geo k
        → record_use geo view inode k ≡ then_some (is_data_address geo t) (pointer_in (view.bytes t) place)
    through_table m t place one uses at =
        in_table m one ∙ ap (option_and_then (λ t. then_some (is_data_address geo t) (pointer_in (view.bytes t) (place_in_table geo k)))) uses
        ∙ ap (λ p. then_some (is_data_address geo t) (pointer_in (view.bytes t) p)) (sym at)

    pub through_none : (m : ℕ) → table_of geo k ≡ Some m → record_use geo view inode m ≡ None → record_use geo view inode k ≡ None
    through_none m one none = in_table m one ∙ ap (option_and_then (λ t. then_some (is_data_address geo t) (pointer_in (view.bytes t) (place_in_table geo k)))) none

-- no use is told by the attributes
pub uses_without_attributes : (geo : Geometry) (view : View) (inode : Inode) (k : ℕ) → record_use geo view (without_attributes inode) k ≡ record_use geo view inode k
unfolding record_use
uses_without_attributes geo view inode k = refl

-- a free record is not sound, and uses nothing
pub free_unsound : (geo : Geometry) (inode : Inode) → inode.mode ≡ 0 → is_sound geo inode ≡ false
free_unsound geo inode free = ap (λ m. is_sound geo (record inode { mode = m })) free

pub free_no_use : (geo : Geometry) (view : View) (i k : ℕ) → IsTrue (is_number geo i) → (view.inode i).mode ≡ 0 → use_at geo view i k ≡ None
free_no_use geo view i k number free =
    use_of_record geo view i k number ∙ none_unless geo view (view.inode i) k (λ v u. let bad : false ≡ true = sym (free_unsound geo (view.inode i) free) ∙ use_sound geo view (view.inode i) k v u in cc)
