-- What a record uses. Above this file nobody opens the words of Uses.
use Rattle.std.proofs.Common.{◌≡◌, ◌<◌, ℕ, ◌≤◌, ◌%◌, ◌&&◌, ◌||◌, eqb, ltb, leb, inl, inr, refl, sym, ap, ◌∙◌, subst, arith, Option, Some, None, IsTrue, IsFalse, List}
use Rattle.std.specs.Bool.{then_some}
use Rattle.std.specs.Option.{option_and_then}
use Rattle.std.proofs.lemmas.Bool.{both_ways, cases_Bool, cases_eq, ltb-true, leb-true, le-leb, eq-eqb, ne_eqb, and_parts, and_from, cond-true, cond-false}
use Rattle.std.proofs.lemmas.Option.{none-some, same_Some}
use Rattle.model.specs.Layout.{Geometry, is_data_address, is_number}
use Rattle.model.specs.View.{View, Inode, new_file}
use Rattle.model.specs.Cells.{SetBytes, updated}
use Rattle.model.specs.Shape.{most_blocks, position_count, is_table, table_of, place_in_table, first_block, reaches, top, field_at, pointer_in}
use Rattle.model.specs.Uses.{blocks_of, has_position, is_sound, is_sound_at, record_use, use_at, IsUse, IsClaim}
use Rattle.model.proofs.UseLemmas.{then_some_parts}
use Rattle.model.proofs.Alike.{same_then, same_cond}
use Rattle.model.proofs.Steps.{guarded, read, field, use_in_record, use_in_table, use_sound, use_at_is}
use Rattle.model.proofs.Shape.{table_cases, place_inside, by_way, shallow, table_is_table, one_position, own_first, some_table, direct_none, many_blocks, comes_with, reach_parts, reach_from, reach_table, top_none, top_step, IsAbove, Next, Further}

some_parts : (f : ℕ → Option ℕ) (o : Option ℕ) (v : ℕ) → option_and_then f o ≡ Some v → (t : ℕ) × (o ≡ Some t) × (f t ≡ Some v)
some_parts f None v e = absurd (none-some v e)
some_parts f (Some t) v e = (t, refl, e)

pub same_some : (f g : ℕ → Option ℕ) (o : Option ℕ) → ((a : ℕ) → o ≡ Some a → f a ≡ g a) → option_and_then f o ≡ option_and_then g o
same_some f g None h = refl
same_some f g (Some a) h = h a refl

-- Where the pointer stands by which a record uses value v at position k.
pub data PointerAt (geo : Geometry) (view : View) (inode : Inode) (k v : ℕ) : Type 0 where
  OfRecord : table_of geo k ≡ None → IsTrue (has_position geo inode k) → v ≡ field_at geo inode k → PointerAt geo view inode k v
  OfTable : (m t : ℕ) → table_of geo k ≡ Some m → IsTrue (has_position geo inode k) → record_use geo view inode m ≡ Some t → IsTrue (is_data_address geo t)
      → v ≡ pointer_in (view.bytes t) (place_in_table geo k) → PointerAt geo view inode k v

pub pointer_at : (geo : Geometry) (view : View) (inode : Inode) (k v : ℕ) → record_use geo view inode k ≡ Some v → PointerAt geo view inode k v
pointer_at geo view inode k v u = elim (table_cases geo k) [
  | inl none ↦
      let used = guarded (is_sound geo inode) (field geo view inode k) v (sym (use_in_record geo view inode k none) ∙ u) in
      let parts = then_some_parts (has_position geo inode k) (field_at geo inode k) v used.1 in
      OfRecord none parts.0 (sym parts.1)
  | inr one ↦
      let used = some_parts (read geo view inode k) (record_use geo view inode one.0) v (sym (use_in_table geo view inode k one.0 one.1) ∙ u) in
      let parts = then_some_parts (has_position geo inode k && is_data_address geo used.0) (pointer_in (view.bytes used.0) (place_in_table geo k)) v used.2 in
      let both = and_parts (has_position geo inode k) (is_data_address geo used.0) parts.0 in
      OfTable one.0 used.0 one.1 both.0 used.1 both.1 (sym parts.1)
]

pub use_of : (geo : Geometry) (view : View) (inode : Inode) (k v : ℕ) → IsTrue (is_sound geo inode) → PointerAt geo view inode k v → record_use geo view inode k ≡ Some v
use_of geo view inode k v sound (OfRecord none has is) =
    use_in_record geo view inode k none ∙ cond-true (is_sound geo inode) (field geo view inode k) None sound
    ∙ ap (λ b. then_some b (field_at geo inode k)) has ∙ ap Some (sym is)
use_of geo view inode k v sound (OfTable m t one has uses address is) =
    use_in_table geo view inode k m one ∙ ap (option_and_then (read geo view inode k)) uses
    ∙ ap (λ b. then_some b (pointer_in (view.bytes t) (place_in_table geo k))) (and_from (has_position geo inode k) (is_data_address geo t) has address)
    ∙ ap Some (sym is)

-- who uses a position has it
pub use_has : (geo : Geometry) (view : View) (inode : Inode) (k v : ℕ) → record_use geo view inode k ≡ Some v → IsTrue (has_position geo inode k)
use_has geo view inode k v u = elim (pointer_at geo view inode k v u) [
  | OfRecord none has is ↦ has
  | OfTable m t one has uses address is ↦ has
]

-- and who does not have it does not use it
pub no_position_no_use : (geo : Geometry) (view : View) (inode : Inode) (k : ℕ) → IsFalse (has_position geo inode k) → record_use geo view inode k ≡ None
no_position_no_use geo view inode k none = go (record_use geo view inode k) refl
  where
    go : (o : Option ℕ) → record_use geo view inode k ≡ o → record_use geo view inode k ≡ None
    go None e = e
    go (Some v) e = absurd (both_ways (has_position geo inode k) none (use_has geo view inode k v e))

-- a position that is had below the tables stands below the blocks
pub has_below : (geo : Geometry) (inode : Inode) (k : ℕ) → k < most_blocks geo → IsTrue (has_position geo inode k) → k < blocks_of inode.size
has_below geo inode k low h =
    let few = ltb-true (first_block geo k) (blocks_of inode.size) (and_parts (ltb k (position_count geo)) (ltb (first_block geo k) (blocks_of inode.size)) h).1 in
    let own = own_first geo k low in
    omega arith

-- who has so many blocks has each position below them
pub below_has : (geo : Geometry) (inode : Inode) (k : ℕ) → k < blocks_of inode.size → blocks_of inode.size ≤ most_blocks geo → IsTrue (has_position geo inode k)
below_has geo inode k low few =
    let inside : k < position_count geo = omega (arith, low, few, some_table geo) in
    let own : first_block geo k < blocks_of inode.size = omega (arith, own_first geo k (omega (arith, low, few))) in
    reach_from geo (blocks_of inode.size) k inside own

-- a sound record has few enough blocks
pub sound_few : (geo : Geometry) (inode : Inode) → IsTrue (is_sound geo inode) → blocks_of inode.size ≤ most_blocks geo
sound_few geo inode sound = leb-true (blocks_of inode.size) (most_blocks geo) (and_parts (eqb inode.mode 1 || eqb inode.mode 2 && ltb 0 inode.size && eqb (inode.size % 1024) 0) (leb (blocks_of inode.size) (most_blocks geo)) sound).1

-- ---- the same in two views
-- a position is used alike if its table is, and if its pointer there is the same
pub agree_step : (geo : Geometry) (v w : View) (inode : Inode) (k : ℕ) → ((m : ℕ) → table_of geo k ≡ Some m → record_use geo v inode m ≡ record_use geo w inode m)
    → ((m t : ℕ) → table_of geo k ≡ Some m → IsTrue (has_position geo inode k) → record_use geo v inode m ≡ Some t → IsTrue (is_data_address geo t)
    → pointer_in (v.bytes t) (place_in_table geo k) ≡ pointer_in (w.bytes t) (place_in_table geo k))
    → record_use geo v inode k ≡ record_use geo w inode k
agree_step geo v w inode k tables pointers = elim (table_cases geo k) [
  | inl none ↦ use_in_record geo v inode k none ∙ sym (use_in_record geo w inode k none)
  | inr one ↦
      use_in_table geo v inode k one.0 one.1
      ∙ same_some (read geo v inode k) (read geo w inode k) (record_use geo v inode one.0) (λ t uses.
      same_then (has_position geo inode k && is_data_address geo t) _ _ (λ h.
      let both = and_parts (has_position geo inode k) (is_data_address geo t) h in pointers one.0 t one.1 both.0 uses both.1))
      ∙ ap (option_and_then (read geo w inode k)) (tables one.0 one.1)
      ∙ sym (use_in_table geo w inode k one.0 one.1)
]

pub above_more : (geo : Geometry) (k m x : ℕ) → table_of geo k ≡ Some m → IsAbove geo m x → IsAbove geo k x
above_more geo k m x h (Next g) = Further m h g
above_more geo k m x h (Further t g e) = absurd (none-some x (sym (shallow geo k m t h g) ∙ e))

-- what is on the way is a table
pub above_table : (geo : Geometry) (k m : ℕ) → IsAbove geo k m → IsTrue (is_table geo m)
above_table geo k m (Next h) = le-leb (most_blocks geo) m (table_is_table geo k m h)
above_table geo k m (Further t h g) = le-leb (most_blocks geo) m (table_is_table geo t m g)

-- a record uses the same at a position where the tables on the way hold the same
pub record_uses_agree : (geo : Geometry) (v w : View) (inode : Inode) (k : ℕ)
    → ((m t : ℕ) → IsAbove geo k m → record_use geo v inode m ≡ Some t → IsTrue (is_data_address geo t) → v.bytes t ≡ w.bytes t)
    → record_use geo v inode k ≡ record_use geo w inode k
record_uses_agree geo v w inode k =
    by_way geo
    (λ k. ((m t : ℕ) → IsAbove geo k m → record_use geo v inode m ≡ Some t → IsTrue (is_data_address geo t) → v.bytes t ≡ w.bytes t) → record_use geo v inode k ≡ record_use geo w inode k)
    (λ k tables same. agree_step geo v w inode k (λ m h. tables m h (λ x t a u d. same x t (above_more geo k m x h a) u d))
    (λ m t h has u d. ap (λ bytes. pointer_in bytes (place_in_table geo k)) (same m t (Next h) u d))) k

-- ---- inodes
pub use_number : (geo : Geometry) (view : View) (i k v : ℕ) → IsUse geo view i k v → IsTrue (is_number geo i) × (record_use geo view (view.inode i) k ≡ Some v)
use_number geo view i k v u = guarded (is_number geo i) (record_use geo view (view.inode i) k) v (sym (use_at_is geo view i k) ∙ u)

pub number_use : (geo : Geometry) (view : View) (i k v : ℕ) → IsTrue (is_number geo i) → record_use geo view (view.inode i) k ≡ Some v → IsUse geo view i k v
number_use geo view i k v number u = use_at_is geo view i k ∙ cond-true (is_number geo i) (record_use geo view (view.inode i) k) None number ∙ u

-- an inode has each position that it uses
pub used_has : (geo : Geometry) (view : View) (i k v : ℕ) → IsUse geo view i k v → IsTrue (has_position geo (view.inode i) k)
used_has geo view i k v u = use_has geo view (view.inode i) k v (use_number geo view i k v u).1

-- an inode whose record does not have a position does not use it
pub no_position_none : (geo : Geometry) (view : View) (i k : ℕ) → IsFalse (has_position geo (view.inode i) k) → use_at geo view i k ≡ None
no_position_none geo view i k none = go (use_at geo view i k) refl
  where
    go : (o : Option ℕ) → use_at geo view i k ≡ o → use_at geo view i k ≡ None
    go None e = e
    go (Some v) e = absurd (both_ways (has_position geo (view.inode i) k) none (used_has geo view i k v e))

-- what an inode uses: its record is sound, and has a pointer
pub record IsUsedAt (geo : Geometry) (view : View) (i k v : ℕ) : Type 0 where
  pub sound : IsTrue (is_sound_at geo view i)
  pub pointer : PointerAt geo view (view.inode i) k v

pub use_parts : (geo : Geometry) (view : View) (i k v : ℕ) → IsUse geo view i k v → IsUsedAt geo view i k v
use_parts geo view i k v u =
    let r = use_number geo view i k v u in record {
      sound = and_from (is_number geo i) (is_sound geo (view.inode i)) r.0 (use_sound geo view (view.inode i) k v r.1);
      pointer = pointer_at geo view (view.inode i) k v r.1;
    }

pub use_from : (geo : Geometry) (view : View) (i k v : ℕ) → IsUsedAt geo view i k v → IsUse geo view i k v
use_from geo view i k v h =
    let parts = and_parts (is_number geo i) (is_sound geo (view.inode i)) h.sound in
    number_use geo view i k v parts.0 (use_of geo view (view.inode i) k v parts.1 h.pointer)

-- a use of a position that has a table is with a claim of that table
pub table_claimed : (geo : Geometry) (view : View) (i k v m : ℕ) → table_of geo k ≡ Some m → IsUse geo view i k v → (t : ℕ) × IsClaim geo view i m t
table_claimed geo view i k v m one u =
    let r = use_number geo view i k v u in
    elim (pointer_at geo view (view.inode i) k v r.1) [
      | OfRecord none has is ↦ absurd (none-some m (sym none ∙ one))
      | OfTable x t h has uses address is ↦
          (t, (subst (λ n. IsUse geo view i n t) (same_Some x m (sym h ∙ one)) (number_use geo view i x t r.0 uses), address))
    ]

-- where each use is a claim, a sound inode claims each position that it has
pub has_claims : (geo : Geometry) (view : View) (i : ℕ) → ((k v : ℕ) → IsUse geo view i k v → IsTrue (is_data_address geo v)) → IsTrue (is_sound_at geo view i)
    → (k : ℕ) → IsTrue (has_position geo (view.inode i) k) → (a : ℕ) × IsClaim geo view i k a
has_claims geo view i claims sound =
    by_way geo (λ k. IsTrue (has_position geo (view.inode i) k) → (a : ℕ) × IsClaim geo view i k a) step
  where
    claimed : (k v : ℕ) → PointerAt geo view (view.inode i) k v → (a : ℕ) × IsClaim geo view i k a
    claimed k v at = let u = use_from geo view i k v (record { sound = sound; pointer = at }) in (v, (u, claims k v u))

    step : (k : ℕ) → ((m : ℕ) → table_of geo k ≡ Some m → IsTrue (has_position geo (view.inode i) m) → (a : ℕ) × IsClaim geo view i m a)
        → IsTrue (has_position geo (view.inode i) k) → (a : ℕ) × IsClaim geo view i k a
    step k tables has = elim (table_cases geo k) [
      | inl none ↦ claimed k (field_at geo (view.inode i) k) (OfRecord none has refl)
      | inr one ↦
          let table = tables one.0 one.1 (reach_table geo (blocks_of (view.inode i).size) k one.0 one.1 has) in
          claimed k (pointer_in (view.bytes table.0) (place_in_table geo k))
          (OfTable one.0 table.0 one.1 has (use_number geo view i one.0 table.0 table.1.0).1 table.1.1 refl)
    ]

-- two views in which an inode has the same record, and the tables that it claims on the way hold the same, use the same there
pub uses_agree : (geo : Geometry) (v w : View) (i k : ℕ) → (IsTrue (is_number geo i) → v.inode i ≡ w.inode i)
    → ((m a : ℕ) → IsAbove geo k m → IsClaim geo v i m a → v.bytes a ≡ w.bytes a) → use_at geo v i k ≡ use_at geo w i k
uses_agree geo v w i k same tables =
    use_at_is geo v i k
    ∙ same_cond (is_number geo i) (record_use geo v (v.inode i) k) (record_use geo w (w.inode i) k) None (λ number.
    record_uses_agree geo v w (v.inode i) k (λ m t a u d. tables m t a (number_use geo v i m t number u, d))
    ∙ ap (λ r. record_use geo w r k) (same number))
    ∙ sym (use_at_is geo w i k)

-- the same step by step: an inode uses a position alike if it uses its table alike, and if its pointer there is the same
pub uses_step : (geo : Geometry) (v w : View) (i k : ℕ) → (IsTrue (is_number geo i) → v.inode i ≡ w.inode i)
    → ((m : ℕ) → table_of geo k ≡ Some m → use_at geo v i m ≡ use_at geo w i m)
    → ((m t : ℕ) → table_of geo k ≡ Some m → IsTrue (has_position geo (v.inode i) k) → IsClaim geo v i m t → pointer_in (v.bytes t) (place_in_table geo k) ≡ pointer_in (w.bytes t) (place_in_table geo k))
    → use_at geo v i k ≡ use_at geo w i k
uses_step geo v w i k same tables pointers =
    use_at_is geo v i k
    ∙ same_cond (is_number geo i) (record_use geo v (v.inode i) k) (record_use geo w (w.inode i) k) None (λ number.
    agree_step geo v w (v.inode i) k
    (λ m h. sym (of_record v m number) ∙ tables m h ∙ of_record w m number ∙ ap (λ r. record_use geo w r m) (sym (same number)))
    (λ m t h has u d. pointers m t h has (number_use geo v i m t number u, d))
    ∙ ap (λ r. record_use geo w r k) (same number))
    ∙ sym (use_at_is geo w i k)
  where
    of_record : (x : View) (m : ℕ) → IsTrue (is_number geo i) → use_at geo x i m ≡ record_use geo x (x.inode i) m
    of_record x m number = use_at_is geo x i m ∙ cond-true (is_number geo i) (record_use geo x (x.inode i) m) None number

-- ---- new bytes of one block
module _ (geo : Geometry) (view : View) (a : ℕ) (bytes : List ℕ) where
  abbrev pub after : View
  after = updated view (SetBytes a bytes)

  pub elsewhere : (b : ℕ) → (b ≡ a → ⊥) → view.bytes b ≡ after.bytes b
  elsewhere b differs = sym (cond-false (eqb b a) bytes (view.bytes b) (ne_eqb b a differs))

  pub here : (b : ℕ) → b ≡ a → after.bytes b ≡ bytes
  here b e = cond-true (eqb b a) bytes (view.bytes b) (eq-eqb b a e)

  -- bytes of a block that an inode does not claim as a table change none of its uses
  pub bytes_leave_uses : (i : ℕ) → ((m : ℕ) → IsTrue (is_table geo m) → IsClaim geo view i m a → ⊥) → (k : ℕ) → use_at geo view i k ≡ use_at geo after i k
  bytes_leave_uses i none k =
      uses_agree geo view after i k (λ number. refl) (λ m b above c. elsewhere b (λ e. none m (above_table geo k m above) (subst (λ x. IsClaim geo view i m x) e c)))

  -- ---- bytes of a block that inode i claims as one table alone
  module _ (i m : ℕ) (only : (l : ℕ) → IsTrue (is_table geo l) → IsClaim geo view i l a → l ≡ m) where
    -- what has none of the changed pointers on its way is used alike
    free_uses_agree : (Free : ℕ → Type 0) → ((k t : ℕ) → table_of geo k ≡ Some t → Free k → Free t)
        → ((k : ℕ) → Free k → table_of geo k ≡ Some m → IsTrue (has_position geo (view.inode i) k) → pointer_in (view.bytes a) (place_in_table geo k) ≡ pointer_in bytes (place_in_table geo k))
        → (k : ℕ) → Free k → use_at geo view i k ≡ use_at geo after i k
    free_uses_agree Free up pointers = by_way geo (λ k. Free k → use_at geo view i k ≡ use_at geo after i k) step
      where
        step : (k : ℕ) → ((t : ℕ) → table_of geo k ≡ Some t → Free t → use_at geo view i t ≡ use_at geo after i t) → Free k → use_at geo view i k ≡ use_at geo after i k
        step k tables free = uses_step geo view after i k (λ number. refl) (λ t h. tables t h (up k t h free)) (λ l t h has claim. elim (cases_eq t a) [
          | inl e ↦
              let is : l ≡ m = only l (le-leb (most_blocks geo) l (table_is_table geo k l h)) (subst (λ x. IsClaim geo view i l x) e claim) in
              ap (λ b. pointer_in (view.bytes b) (place_in_table geo k)) e ∙ pointers k free (h ∙ ap Some is) has ∙ ap (λ block. pointer_in block (place_in_table geo k)) (sym (here t e))
          | inr differs ↦ ap (λ block. pointer_in block (place_in_table geo k)) (elsewhere t differs)
        ])

    -- bytes with the same pointers at the places of all positions that the inode has change no use
    pub table_bytes_leave_uses : ((k : ℕ) → table_of geo k ≡ Some m → IsTrue (has_position geo (view.inode i) k) → pointer_in (view.bytes a) (place_in_table geo k) ≡ pointer_in bytes (place_in_table geo k))
        → (k : ℕ) → use_at geo view i k ≡ use_at geo after i k
    table_bytes_leave_uses pointers k = free_uses_agree (λ q. Unit {0}) (λ q t h f. tt) (λ q f h has. pointers q h has) k tt

    -- bytes with another pointer at the place of position p alone
    module _ (p : ℕ) (inside : table_of geo p ≡ Some m) (others : (k : ℕ) → (k ≡ p → ⊥) → table_of geo k ≡ Some m → IsTrue (has_position geo (view.inode i) k) → pointer_in (view.bytes a) (place_in_table geo k) ≡ pointer_in bytes (place_in_table geo k)) where
      -- what does not have p on its way is used as before
      pub other_uses_stay : (k : ℕ) → (k ≡ p → ⊥) → (IsAbove geo k p → ⊥) → use_at geo view i k ≡ use_at geo after i k
      other_uses_stay k differs apart =
          free_uses_agree (λ q. (q ≡ p → ⊥) × (IsAbove geo q p → ⊥)) (λ q t h free. ((λ e. free.1 (Next (h ∙ ap Some e))), (λ above. free.1 (above_more geo q t p h above)))) (λ q free h has. others q free.0 h has) k (differs, apart)

      -- and p has the new pointer
      pub table_bytes_move : IsClaim geo view i m a → IsTrue (has_position geo (view.inode i) p) → IsUse geo after i p (pointer_in bytes (place_in_table geo p))
      table_bytes_move claim has =
          let there = sym (other_uses_stay m self above) ∙ claim.0 in
          use_from geo after i p (pointer_in bytes (place_in_table geo p)) (record {
            sound = (use_parts geo view i m a claim.0).sound;
            pointer = OfTable m a inside has (use_number geo after i m a there).1 claim.1 (ap (λ block. pointer_in block (place_in_table geo p)) (sym (here a refl)));
          })
        where
          self : m ≡ p → ⊥
          self e = none-some m (sym (shallow geo p m m inside (ap (table_of geo) e ∙ inside)) ∙ ap (table_of geo) e ∙ inside)

          above : IsAbove geo m p → ⊥
          above (Next h) = none-some m (sym (shallow geo p m p inside h) ∙ inside)
          above (Further t h g) = none-some p (sym (shallow geo p m t inside h) ∙ g)

  -- where one place of a table changed, the pointers of other positions are the same
  pub others_by_place : (p m : ℕ) → table_of geo p ≡ Some m → ((q : ℕ) → q < 256 → (q ≡ place_in_table geo p → ⊥) → pointer_in (view.bytes a) q ≡ pointer_in bytes q)
      → (k : ℕ) → k < position_count geo → (k ≡ p → ⊥) → table_of geo k ≡ Some m → pointer_in (view.bytes a) (place_in_table geo k) ≡ pointer_in bytes (place_in_table geo k)
  others_by_place p m inside places k low differs h =
      places (place_in_table geo k) (place_inside geo k m low h) (λ e. differs (one_position geo k p m h inside e))

-- ---- records alike
-- two sound records that have a position, with the same pointer in the record on its way, use the same there in each view
pub same_field : (geo : Geometry) (view : View) (x y : Inode) → IsTrue (is_sound geo x) → IsTrue (is_sound geo y)
    → (k : ℕ) → IsTrue (has_position geo x k) → IsTrue (has_position geo y k) → field_at geo x (top geo k) ≡ field_at geo y (top geo k)
    → record_use geo view x k ≡ record_use geo view y k
same_field geo view x y sx sy =
    by_way geo (λ k. IsTrue (has_position geo x k) → IsTrue (has_position geo y k) → field_at geo x (top geo k) ≡ field_at geo y (top geo k) → record_use geo view x k ≡ record_use geo view y k) step
  where
    step : (k : ℕ) → ((m : ℕ) → table_of geo k ≡ Some m → IsTrue (has_position geo x m) → IsTrue (has_position geo y m) → field_at geo x (top geo m) ≡ field_at geo y (top geo m) → record_use geo view x m ≡ record_use geo view y m)
        → IsTrue (has_position geo x k) → IsTrue (has_position geo y k) → field_at geo x (top geo k) ≡ field_at geo y (top geo k) → record_use geo view x k ≡ record_use geo view y k
    step k tables hx hy same = elim (table_cases geo k) [
      | inl none ↦
          let at = top_none geo k none in
          use_of geo view x k (field_at geo x k) sx (OfRecord none hx refl)
          ∙ ap Some (ap (field_at geo x) (sym at) ∙ same ∙ ap (field_at geo y) at)
          ∙ sym (use_of geo view y k (field_at geo y k) sy (OfRecord none hy refl))
      | inr one ↦
          let at = top_step geo k one.0 one.1 in
          use_in_table geo view x k one.0 one.1
          ∙ ap (λ b. option_and_then (λ t. then_some (b && is_data_address geo t) (pointer_in (view.bytes t) (place_in_table geo k))) (record_use geo view x one.0)) (hx ∙ sym hy)
          ∙ ap (option_and_then (read geo view y k))
          (tables one.0 one.1 (reach_table geo (blocks_of x.size) k one.0 one.1 hx) (reach_table geo (blocks_of y.size) k one.0 one.1 hy)
          (ap (field_at geo x) (sym at) ∙ same ∙ ap (field_at geo y) at))
          ∙ sym (use_in_table geo view y k one.0 one.1)
    ]

-- two sound records with as many blocks and the same pointers use the same in each view
pub same_fields : (geo : Geometry) (view : View) (x y : Inode) → IsTrue (is_sound geo x) → IsTrue (is_sound geo y) → blocks_of x.size ≡ blocks_of y.size → ((k : ℕ) → field_at geo x k ≡ field_at geo y k)
    → (k : ℕ) → record_use geo view x k ≡ record_use geo view y k
same_fields geo view x y sx sy blocks fields k = elim (cases_Bool (has_position geo x k)) [
  | inl has ↦ same_field geo view x y sx sy k has (sym same ∙ has) (fields (top geo k))
  | inr none ↦ no_position_no_use geo view x k none ∙ sym (no_position_no_use geo view y k (sym same ∙ none))
]
  where
    same : has_position geo x k ≡ has_position geo y k
    same = ap (λ n. reaches geo n k) blocks

-- the record of a new file is sound, for it has no block
pub new_file_sound : (geo : Geometry) → IsTrue (is_sound geo new_file)
new_file_sound geo = le-leb 0 (most_blocks geo) (omega arith)

-- ---- a sound record of one block uses that block alone
module _ (geo : Geometry) (view : View) (inode : Inode) (block : ℕ) (sound : IsTrue (is_sound geo inode)) (one : blocks_of inode.size ≡ 1) (first : field_at geo inode 0 ≡ block) where
  pub first_of_one : record_use geo view inode 0 ≡ Some block
  first_of_one =
      use_of geo view inode 0 block sound
      (OfRecord (direct_none geo 0 (omega arith)) (below_has geo inode 0 (omega (arith, one)) (sound_few geo inode sound)) (sym first))

  pub only_of_one : (k v : ℕ) → record_use geo view inode k ≡ Some v → (k ≡ 0) × (v ≡ block)
  only_of_one k v u =
      let few : first_block geo k < 1 = subst (λ n. first_block geo k < n) one (reach_parts geo (blocks_of inode.size) k (use_has geo view inode k v u)).1 in
      let zero : k ≡ 0 = elim (comes_with geo 0 k (let many = many_blocks geo in omega arith) (omega (arith, few))) [
        | inl e ↦ e
        | inr above ↦ absurd (no_way above)
      ] in
      (zero, same_Some v block (sym u ∙ ap (record_use geo view inode) zero ∙ first_of_one))
    where
      no_way : IsAbove geo 0 k → ⊥
      no_way (Next h) = none-some k (sym (direct_none geo 0 (omega arith)) ∙ h)
      no_way (Further t h g) = none-some t (sym (direct_none geo 0 (omega arith)) ∙ h)
