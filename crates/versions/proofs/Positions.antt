-- What a record of few blocks uses, whichever version of the layout it is in: its first pointers, its indirect block, and what stands there.
use Rattle.std.proofs.Common.{◌≡◌, ◌<◌, ◌≤◌, ◌-◌, ◌+◌, ℕ, eqb, ltb, cond, refl, sym, ap, ap₂, ◌∙◌, subst, arith, Some, None, IsTrue, slice_index}
use Rattle.std.proofs.lemmas.Bool.{lt-ltb, le-ltb, eq-eqb, cond-true}
use Rattle.std.proofs.lemmas.Option.{none-some}
use Rattle.model.specs.Layout.{Geometry, is_data_address}
use Rattle.model.specs.View.{View, Inode}
use Rattle.model.specs.Shape.{most_blocks, table_of, place_in_table, first_block, field_at, pointer_in}
use Rattle.model.specs.Uses.{blocks_of, has_position, is_sound, record_use}
use Rattle.model.proofs.Shape.{Direct, Middle, Deep, First, Double, Second, standing, InFirst, InSecond, InDouble, holds, numbers, direct_none, first_stands, some_table, reach_parts, reach_from}
use Rattle.model.proofs.Uses.{OfRecord, OfTable, pointer_at, use_of, below_has, sound_few}

-- Where the value that is used at position k stands, if the first table has position `first`: among the record's first pointers, as the pointer to the indirect block, or there.
pub data Small (geo : Geometry) (view : View) (inode : Inode) (first k v : ℕ) : Type 0 where
  Near : k < 12 → k < blocks_of inode.size → v ≡ slice_index inode.direct k → Small geo view inode first k v
  Table : k ≡ first → 12 < blocks_of inode.size → v ≡ inode.indirect → Small geo view inode first k v
  Behind : 12 ≤ k → k < 268 → k < blocks_of inode.size → IsTrue (is_data_address geo inode.indirect) → v ≡ pointer_in (view.bytes inode.indirect) (k - 12) → Small geo view inode first k v

module _ (geo : Geometry) (view : View) (inode : Inode) where
  field_near : (k : ℕ) → k < 12 → field_at geo inode k ≡ slice_index inode.direct k
  field_near k low = cond-true (ltb k 12) (slice_index inode.direct k) (cond (eqb k (most_blocks geo)) inode.indirect inode.double) (lt-ltb k 12 low)

  field_first : field_at geo inode (most_blocks geo) ≡ inode.indirect
  field_first = let most = (numbers geo).1.most in rw (le-ltb (most_blocks geo) 12 (omega arith), eq-eqb (most_blocks geo) (most_blocks geo) refl) refl

  begins : (k : ℕ) → IsTrue (has_position geo inode k) → first_block geo k < blocks_of inode.size
  begins k has = (reach_parts geo (blocks_of inode.size) k has).1

  first_pointer : (t : ℕ) → record_use geo view inode (most_blocks geo) ≡ Some t → t ≡ inode.indirect
  first_pointer t u = elim (pointer_at geo view inode (most_blocks geo) t u) [
    | OfRecord none has is ↦ is ∙ field_first
    | OfTable m x one has uses address is ↦ absurd (none-some m (sym (first_stands geo).1 ∙ one))
  ]

  module _ (few : blocks_of inode.size ≤ 268) where
    in_record : (k v : ℕ) → table_of geo k ≡ None → IsTrue (has_position geo inode k) → v ≡ field_at geo inode k → Small geo view inode (most_blocks geo) k v
    in_record k v none has is = let below = begins k has in elim (standing geo k) [
      | Direct low t f ↦ Near low (omega arith) (is ∙ field_near k low)
      | Middle from low t p f ↦ absurd (none-some (most_blocks geo) (sym none ∙ t))
      | Deep j p at small low t place f ↦ absurd (none-some (most_blocks geo + 2 + j) (sym none ∙ t))
      | First at t f ↦ Table at (omega arith) (is ∙ ap (field_at geo inode) at ∙ field_first)
      | Double at t f ↦ absurd (omega arith)
      | Second j at t p f ↦ absurd (none-some (most_blocks geo + 1) (sym none ∙ t))
    ]

    pub small : (k v : ℕ) → record_use geo view inode k ≡ Some v → Small geo view inode (most_blocks geo) k v
    small k v u = elim (pointer_at geo view inode k v u) [
      | OfRecord none has is ↦ in_record k v none has is
      | OfTable m t one has uses address is ↦ let below = begins k has in elim (holds geo k m one) [
        | InFirst from low at place f g none ↦
            let pointer = first_pointer t (subst (λ q. record_use geo view inode q ≡ Some t) at uses) in
            Behind from low (omega arith) (subst (λ a. IsTrue (is_data_address geo a)) pointer address)
            (is ∙ ap₂ (λ a p. pointer_in (view.bytes a) p) pointer place)
        | InSecond j p at less low from place f g t2 ↦ absurd (omega arith)
        | InDouble j at from p f g none ↦ absurd (omega arith)
      ]
    ]

  module _ (sound : IsTrue (is_sound geo inode)) where
    few_enough : blocks_of inode.size ≤ most_blocks geo
    few_enough = sound_few geo inode sound

    behind : (k : ℕ) → 12 ≤ k → k < 268 → (table_of geo k ≡ Some (most_blocks geo)) × (place_in_table geo k ≡ k - 12)
    behind k from low = let most = (numbers geo).1.most in elim (standing geo k) [
      | Direct few t f ↦ absurd (omega arith)
      | Middle here few t p f ↦ (t, p)
      | Deep j p at less few t place f ↦ absurd (omega arith)
      | First at t f ↦ absurd (omega arith)
      | Double at t f ↦ absurd (omega arith)
      | Second j at t p f ↦ absurd (omega arith)
    ]

    the_table : 12 < blocks_of inode.size → record_use geo view inode (most_blocks geo) ≡ Some inode.indirect
    the_table many =
        use_of geo view inode (most_blocks geo) inode.indirect sound
        (OfRecord (first_stands geo).1 (reach_from geo (blocks_of inode.size) (most_blocks geo) (some_table geo) (omega (arith, (first_stands geo).0, many))) (sym field_first))

    pub use_small : (k v : ℕ) → Small geo view inode (most_blocks geo) k v → record_use geo view inode k ≡ Some v
    use_small k v (Near low below is) = use_of geo view inode k v sound (OfRecord (direct_none geo k low) (below_has geo inode k below few_enough) (is ∙ sym (field_near k low)))
    use_small k v (Table at many is) = ap (record_use geo view inode) at ∙ the_table many ∙ ap Some (sym is)
    use_small k v (Behind from low below address is) =
        let at = behind k from low in
        use_of geo view inode k v sound
        (OfTable (most_blocks geo) inode.indirect at.0 (below_has geo inode k below few_enough) (the_table (omega arith)) address
        (is ∙ ap (pointer_in (view.bytes inode.indirect)) (sym at.1)))
