-- Entries that were taken, block by block.
use Rattle.std.proofs.Common.{◌≡◌, ℕ, true, false, eqb, List, [], ◌∷◌, ◌++◌, inl, inr, refl, sym, ap, ◌∙◌, subst, IsTrue, IsFalse, Contains, eqb-true, eq-eqb, ne_eqb}
use Rattle.std.proofs.lemmas.Bool.{cases_eq, cond-true, cond-false, or_cases, or_left, or_right, both_ways, false_from_ne_true}
use Rattle.std.proofs.lemmas.List.Elements.{filter-append}
use Rattle.ordering.specs.Cuts.{Cell, Pending, cell_of}
use Rattle.queue_model.specs.Entries.{Entry, Queue, Represents, has_id, may_go, AreTaken}
use Rattle.queue_model.proofs.Lists.{contains_head, contains_tail}
use Rattle.queue_model.proofs.Standing.{same_entry}
use Rattle.softdep_queue.specs.Ties.{of_block, WereTaken}

module _ (home : Cell → ℕ) where
  pub of_here : (b : ℕ) (e : Entry) (ws : List Entry) → home (cell_of e.change) ≡ b → of_block home b (e ∷ ws) ≡ e ∷ of_block home b ws
  of_here b e ws d = cond-true (eqb (home (cell_of e.change)) b) (e ∷ of_block home b ws) (of_block home b ws) (eq-eqb (home (cell_of e.change)) b d)

  pub of_other : (b : ℕ) (e : Entry) (ws : List Entry) → (home (cell_of e.change) ≡ b → ⊥) → of_block home b (e ∷ ws) ≡ of_block home b ws
  of_other b e ws d = cond-false (eqb (home (cell_of e.change)) b) (e ∷ of_block home b ws) (of_block home b ws) (ne_eqb (home (cell_of e.change)) b d)

  pub of_append : (b : ℕ) (es ws : List Entry) → of_block home b (es ++ ws) ≡ of_block home b es ++ of_block home b ws
  of_append b es ws = filter-append (λ (e : Entry). eqb (home (cell_of e.change)) b) es ws

  pub of_own : (a : ℕ) (es : List Entry) → ((e : Entry) → Contains es e → home (cell_of e.change) ≡ a) → of_block home a es ≡ es
  of_own a [] own = refl
  of_own a (e ∷ es) own = of_here a e es (own e (contains_head e es)) ∙ ap (λ l. e ∷ l) (of_own a es (λ x m. own x (contains_tail e x es m)))

  pub of_none : (a b : ℕ) (es : List Entry) → ((e : Entry) → Contains es e → home (cell_of e.change) ≡ a) → (b ≡ a → ⊥) → of_block home b es ≡ []
  of_none a b [] own d = refl
  of_none a b (e ∷ es) own d = of_other b e es (λ h. d (sym h ∙ own e (contains_head e es))) ∙ of_none a b es (λ x m. own x (contains_tail e x es m)) d

  -- what is among those of a block is among all
  pub has_of : (b : ℕ) (ws : List Entry) (i : ℕ) → IsTrue (has_id (of_block home b ws) i) → IsTrue (has_id ws i)
  has_of b [] i t = t
  has_of b (e ∷ ws) i t = elim (cases_eq (home (cell_of e.change)) b) [
    | inl d ↦ elim (or_cases (eqb i e.id) (has_id (of_block home b ws) i) (subst (λ l. IsTrue (has_id l i)) (of_here b e ws d) t)) [
      | inl same ↦ or_left (eqb i e.id) (has_id ws i) same
      | inr there ↦ or_right (eqb i e.id) (has_id ws i) (has_of b ws i there)
    ]
    | inr d ↦ or_right (eqb i e.id) (has_id ws i) (has_of b ws i (subst (λ l. IsTrue (has_id l i)) (of_other b e ws d) t))
  ]

  pub not_of : (b : ℕ) (ws : List Entry) (i : ℕ) → IsFalse (has_id ws i) → IsFalse (has_id (of_block home b ws) i)
  not_of b ws i f = false_from_ne_true (has_id (of_block home b ws) i) (λ t. both_ways (has_id ws i) f (has_of b ws i t))

  module _ (queue : Queue) where
    -- each block's were taken one by one
    pub by_block : (ws : List Entry) → WereTaken home queue ws → (b : ℕ) → AreTaken queue b (of_block home b ws)
    by_block [] each b = tt
    by_block (e ∷ ws) each b = elim (cases_eq (home (cell_of e.change)) b) [
      | inl d ↦ subst (AreTaken queue b) (sym (of_here b e ws d)) (
        subst (λ k. Contains (queue.lists k) e) d each.0,
        not_of b ws e.id each.1,
        subst (λ k. IsTrue (may_go queue.pending (has_id (of_block home k ws)) e)) d each.2,
        by_block ws each.3 b,
      )
      | inr d ↦ subst (AreTaken queue b) (sym (of_other b e ws d)) (by_block ws each.3 b)
    ]

    -- an id among them is that of one of them, which stands in its block's list, and is among those of this block
    pub taken_entry : (ws : List Entry) → WereTaken home queue ws → (i : ℕ) → IsTrue (has_id ws i)
        → (e : Entry) × Contains ws e × Contains (queue.lists (home (cell_of e.change))) e × (e.id ≡ i) × IsTrue (has_id (of_block home (home (cell_of e.change)) ws) i)
    taken_entry [] each i t = absurd (let bad : false ≡ true = t in cc)
    taken_entry (e ∷ ws) each i t = elim (or_cases (eqb i e.id) (has_id ws i) t) [
      | inl same ↦ (
        e,
        contains_head e ws,
        each.0,
        sym (eqb-true i e.id same),
        subst (λ l. IsTrue (has_id l i)) (sym (of_here (home (cell_of e.change)) e ws refl)) (or_left (eqb i e.id) (has_id (of_block home (home (cell_of e.change)) ws) i) same),
      )
      | inr there ↦ let x = taken_entry ws each.3 i there in (x.0, contains_tail e x.0 ws x.1, x.2, x.3, older (home (cell_of x.0.change)) x.4)
    ]
      where
        older : (b : ℕ) → IsTrue (has_id (of_block home b ws) i) → IsTrue (has_id (of_block home b (e ∷ ws)) i)
        older b t = elim (cases_eq (home (cell_of e.change)) b) [
          | inl d ↦ subst (λ l. IsTrue (has_id l i)) (sym (of_here b e ws d)) (or_right (eqb i e.id) (has_id (of_block home b ws) i) t)
          | inr d ↦ subst (λ l. IsTrue (has_id l i)) (sym (of_other b e ws d)) t
        ]

    module _ (q : List Pending) (r : Represents home queue q) (ws : List Entry) (each : WereTaken home queue ws) where
      -- an entry of a block that was taken is among those of the block
      pub own_of : (b : ℕ) (e : Entry) → Contains (queue.lists b) e → IsTrue (has_id ws e.id) → IsTrue (has_id (of_block home b ws) e.id)
      own_of b e m t =
          let x = taken_entry ws each e.id t in
          let same = same_entry home queue q r (home (cell_of x.0.change)) b x.0 e x.2 m x.3 in
          subst (λ k. IsTrue (has_id (of_block home k ws) e.id)) same.1 x.4

      -- and among those of no other block
      pub apart_of : (a b : ℕ) (e : Entry) → Contains (queue.lists a) e → (b ≡ a → ⊥) → IsFalse (has_id (of_block home b ws) e.id)
      apart_of a b e m d = false_from_ne_true (has_id (of_block home b ws) e.id) (λ t. d (block_of ws t each))
        where
          block_of : (ws : List Entry) → IsTrue (has_id (of_block home b ws) e.id) → WereTaken home queue ws → b ≡ a
          block_of [] t each = absurd (let bad : false ≡ true = t in cc)
          block_of (x ∷ ws) t each = elim (cases_eq (home (cell_of x.change)) b) [
            | inl h ↦ elim (or_cases (eqb e.id x.id) (has_id (of_block home b ws) e.id) (subst (λ l. IsTrue (has_id l e.id)) (of_here b x ws h) t)) [
              | inl same ↦ sym h ∙ (same_entry home queue q r (home (cell_of x.change)) a x e each.0 m (sym (eqb-true e.id x.id same))).1
              | inr there ↦ block_of ws there each.3
            ]
            | inr h ↦ block_of ws (subst (λ l. IsTrue (has_id l e.id)) (of_other b x ws h) t) each.3
          ]
