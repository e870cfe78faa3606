-- The cells while the claims are gone through, in order of their inodes and positions.
use Rattle.std.proofs.Common.{◌≡◌, ◌≢◌, ℕ, ◌+◌, ◌<◌, ◌≤◌, Bool, true, cond, ◌&&◌, eqb, ltb, leb, List, [], ◌∷◌, ◌++◌, length, set, get_or, ◌⊎◌, inl, inr, ◌↔◌, refl, sym, ◌∙◌, subst, arith, IsTrue, IsFalse}
use Rattle.std.proofs.lemmas.Bool.{and_parts, cases_eq, leb-true, ltb-true, false≢true}
use Rattle.std.proofs.lemmas.List.{get_or-set_same, get_or-set_other, get_or_append_left, get_or_push, length-set}
use Rattle.std.proofs.lemmas.Option.{same_Some}
use Rattle.std.specs.List.{HoldsAt}
use Rattle.model.specs.Layout.{Geometry, inode_count, is_data_address, is_number, root}
use Rattle.model.specs.View.{View}
use Rattle.model.specs.Shape.{most_blocks, tables}
use Rattle.model.specs.Uses.{Before, IsClaim, blocks_of, is_sound, is_sound_at}
use Rattle.model.proofs.Ranges.{use_places}
use Rattle.model.proofs.Uses.{sound_few, use_number, use_parts}
use Rattle.pictures.specs.Uses.{IsUsedAs, IsUsedBy, ShowEach, claims_of, purpose}
use Rattle.pictures.specs.Walk.{ShowBefore, claimed_again, claims_before}
use Rattle.pictures.specs.declared.uses.Use.{Use}
use Rattle.pictures.proofs.SetLemmas.{AddsClaim, same_use, used_again}

-- ---- orders of places
still_before : (j l i k : ℕ) → Before j l i k → Before j l i (k + 1)
still_before j l i k (inl h) = inl h
still_before j l i k (inr h) = inr (h.0, omega (arith, h.1))

last_before : (j l i k : ℕ) → Before j l i (k + 1) → Before j l i k ⊎ ((j ≡ i) × (l ≡ k))
last_before j l i k (inl h) = inl (inl h)
last_before j l i k (inr h) = elim (cases_eq l k) [
  | inl e ↦ inr (h.0, e)
  | inr apart ↦ inl (inr (h.0, omega (arith, h.1, apart)))
]

-- ---- where claims stand
module _ (geo : Geometry) (view : View) where
  claim_sound : (i k a : ℕ) → IsClaim geo view i k a → IsTrue (is_sound_at geo view i)
  claim_sound i k a c = (use_parts geo view i k a c.0).sound

  few_blocks : (i : ℕ) → IsTrue (is_sound_at geo view i) → blocks_of (view.inode i).size ≤ most_blocks geo
  few_blocks i sound = sound_few geo (view.inode i) (and_parts (is_number geo i) (is_sound geo (view.inode i)) sound).1

  claim_number : (i k a : ℕ) → IsClaim geo view i k a → i < inode_count geo
  claim_number i k a c =
      ltb-true i (inode_count geo) (and_parts (leb root i) (ltb i (inode_count geo)) (use_number geo view i k a c.0).0).1

  -- ---- from one place to another between which nothing is claimed
  moves : (i k m n : ℕ) (cells : List Use) → ((j l a : ℕ) → IsClaim geo view j l a → Before j l i k ↔ Before j l m n) → ShowBefore geo view i k cells → ShowBefore geo view m n cells
  moves i k m n cells same show = record {
    count = show.count;
    each = λ a low d. same_use geo view (claims_before geo view i k a) (claims_before geo view m n a)
        (λ j l. ((λ h. (h.0, (same j l a h.0).0 h.1)), (λ h. (h.0, (same j l a h.0).1 h.1)))) a (get_or cells a d) (show.each a low d);
  }

  -- behind an inode's last claim the next inode begins
  pub next_inode : (i k : ℕ) (cells : List Use) → ((l a : ℕ) → IsClaim geo view i l a → l < k) → ShowBefore geo view i k cells → ShowBefore geo view (i + 1) 0 cells
  next_inode i k cells low = moves i k (i + 1) 0 cells (λ j l a c. (forth j l, back j l a c))
    where
      forth : (j l : ℕ) → Before j l i k → Before j l (i + 1) 0
      forth j l (inl h) = inl (omega (arith, h))
      forth j l (inr h) = inl (omega (arith, h.0))

      back : (j l a : ℕ) → IsClaim geo view j l a → Before j l (i + 1) 0 → Before j l i k
      back j l a c (inl h) = elim (cases_eq j i) [
        | inl e ↦ inr (e, low l a (subst (λ n. IsClaim geo view n l a) e c))
        | inr apart ↦ inl (omega (arith, h, apart))
      ]
      back j l a c (inr h) = absurd (omega (arith, h.1))

  pub next_inode_of_unsound : (i : ℕ) (cells : List Use) → IsFalse (is_sound_at geo view i) → ShowBefore geo view i 0 cells → ShowBefore geo view (i + 1) 0 cells
  next_inode_of_unsound i cells unsound = next_inode i 0 cells (λ l a c. absurd (false≢true (sym unsound ∙ claim_sound i l a c)))

  pub next_inode_of_sound : (i end : ℕ) (cells : List Use) → end ≡ most_blocks geo + tables (blocks_of (view.inode i).size) → ShowBefore geo view i end cells → ShowBefore geo view (i + 1) 0 cells
  next_inode_of_sound i end cells is = next_inode i end cells (λ l a c. elim (use_places geo view i l a c.0) [
    | inl low ↦ omega (arith, is, low, few_blocks i (claim_sound i l a c))
    | inr table ↦ omega (arith, is, table.1)
  ])

  -- behind an inode's blocks stand its tables
  pub to_tables : (i k most : ℕ) (cells : List Use) → IsTrue (is_sound_at geo view i) → k ≡ blocks_of (view.inode i).size → most ≡ most_blocks geo → ShowBefore geo view i k cells → ShowBefore geo view i most cells
  to_tables i k most cells sound count is = moves i k i most cells (λ j l a c. (forth j l, back j l a c))
    where
      forth : (j l : ℕ) → Before j l i k → Before j l i most
      forth j l (inl h) = inl h
      forth j l (inr h) = inr (h.0, omega (arith, h.1, count, is, few_blocks i sound))

      back : (j l a : ℕ) → IsClaim geo view j l a → Before j l i most → Before j l i k
      back j l a c (inl h) = inl h
      back j l a c (inr h) = elim (use_places geo view i l a (subst (λ n. IsClaim geo view n l a) h.0 c).0) [
        | inl low ↦ inr (h.0, omega (arith, count, low))
        | inr table ↦ absurd (let from = leb-true (most_blocks geo) l table.0 in omega (arith, is, h.1, from))
      ]

  -- where nothing is claimed the cells stay
  pub no_claim_here : (i k : ℕ) (cells : List Use) → ((a : ℕ) → IsClaim geo view i k a → ⊥) → ShowBefore geo view i k cells → ShowBefore geo view i (k + 1) cells
  no_claim_here i k cells none = moves i k i (k + 1) cells (λ j l a c. (still_before j l i k, back j l a c))
    where
      back : (j l a : ℕ) → IsClaim geo view j l a → Before j l i (k + 1) → Before j l i k
      back j l a c h = elim (last_before j l i k h) [
        | inl before ↦ before
        | inr e ↦ absurd (none a (subst (λ n. IsClaim geo view n k a) e.0 (subst (λ n. IsClaim geo view j n a) e.1 c)))
      ]

  -- all claims are those of the inodes of the volume
  pub all_claims : (i : ℕ) (cells : List Use) → inode_count geo ≤ i → ShowBefore geo view i 0 cells → ShowEach geo (IsUsedAs geo view) cells
  all_claims i cells end show = record {
    count = show.count;
    each = λ a low d. same_use geo view (claims_before geo view i 0 a) (claims_of geo view a)
        (λ j l. ((λ h. h.0), (λ c. (c, inl (omega (arith, end, claim_number j l a c)))))) a (get_or cells a d) (show.each a low d);
  }

  -- ---- a claim
  module _ (i k a : ℕ) (claim : IsClaim geo view i k a) where
    adds : AddsClaim (claims_before geo view i k a) (claims_before geo view i (k + 1) a) i k
    adds = record {
      new = (claim, inr (refl, omega arith));
      keeps = λ j l h. (h.0, still_before j l i k h.1);
      before = λ j l h. h.1;
      only = λ j l h. elim (last_before j l i k h.1) [ inl before ↦ inl (h.0, before) | inr e ↦ inr e ];
    }

    elsewhere : (b : ℕ) → b ≢ a → (j l : ℕ) → claims_before geo view i k b j l ↔ claims_before geo view i (k + 1) b j l
    elsewhere b apart j l = ((λ h. (h.0, still_before j l i k h.1)), back)
      where
        back : claims_before geo view i (k + 1) b j l → claims_before geo view i k b j l
        back h = elim (last_before j l i k h.1) [
          | inl before ↦ (h.0, before)
          | inr e ↦ absurd (apart (same_Some b a (sym (subst (λ n. IsClaim geo view n k b) e.0 (subst (λ n. IsClaim geo view j n b) e.1 h.0)).0 ∙ claim.0)))
        ]

    pub claim_here : (cells : List Use) → ShowBefore geo view i k cells → (d : Use) → ShowBefore geo view i (k + 1) (set cells a (claimed_again (get_or cells a d) (purpose geo view i k)))
    claim_here cells show d = record {
      count = length-set cells a (claimed_again (get_or cells a d) (purpose geo view i k)) ∙ show.count;
      each = λ b low e. elim (cases_eq b a) [
        | inl here ↦ subst (λ n. IsUsedBy geo view (claims_before geo view i (k + 1) n) n (get_or (set cells a (claimed_again (get_or cells a d) (purpose geo view i k))) n e)) (sym here)
            (subst (IsUsedBy geo view (claims_before geo view i (k + 1) a) a) (sym (get_or-set_same cells a (claimed_again (get_or cells a d) (purpose geo view i k)) e (omega (arith, show.count, low, here))))
            (used_again geo view (claims_before geo view i k a) (claims_before geo view i (k + 1) a) a i k claim.1 adds (get_or cells a d) (show.each a (omega (arith, low, here)) d)))
        | inr apart ↦ subst (IsUsedBy geo view (claims_before geo view i (k + 1) b) b) (sym (get_or-set_other cells a b (claimed_again (get_or cells a d) (purpose geo view i k)) e apart))
            (same_use geo view (claims_before geo view i k b) (claims_before geo view i (k + 1) b) (elsewhere b apart) b (get_or cells b e) (show.each b low e))
      ];
    }

-- one cell more behind the others
pub one_more : (P : ℕ → Use → Type 0) (n : ℕ) (cells : List Use) (cell : Use) → length cells ≡ n → ((a : ℕ) → a < n → HoldsAt (P a) cells a) → P n cell
    → (a : ℕ) → a < n + 1 → HoldsAt (P a) (cells ++ cell ∷ []) a
one_more P n cells cell count each here a low d = elim (cases_eq a n) [
  | inl e ↦ subst (λ m. P m (get_or (cells ++ cell ∷ []) m d)) (sym e) (subst (P n) (sym (get_or_push cells cell d n count)) here)
  | inr apart ↦ subst (P a) (sym (get_or_append_left cells (cell ∷ []) d a (omega (arith, count, low, apart)))) (each a (omega (arith, low, apart)) d)
]
