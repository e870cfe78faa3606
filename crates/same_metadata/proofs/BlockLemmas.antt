-- When two images hold the same block at an address, and at a claim.
use Rattle.std.proofs.Common.{◌≡◌, ◌<◌, ◌≤◌, inl, inr, ap₂, ltb, ℕ, Bool, false, List, [], Option, Some, None, unwrap_or, length, ◌↔◌, IsTrue, refl, sym, ap, ◌∙◌, subst, arith}
use Rattle.std.proofs.lemmas.Bool.{cases_Bool, cond-true, both_ways, ltb-true}
use Rattle.std.proofs.lemmas.Bool.Decides.{nat_tests}
use Rattle.std.proofs.lemmas.Option.{none-some, same_Some}
use mathlib.Core.Path.{fun_ext}
use Rattle.std.proofs.lemmas.List.{get_or_past}
use Rattle.model.specs.View.{view_of}
use Rattle.model.specs.Metadata.{SameMetadata}
use Rattle.model.specs.Layout.{Geometry, block_count, is_data_address}
use Rattle.model.specs.Uses.{claim_at}
use Rattle.model.proofs.UseLemmas.{claim_from, claim_parts}
use Rattle.frozen.specs.Kept.{Kept, KeepsFrame, frozen_view, kept_at, kept_bytes}
use Rattle.same_metadata.specs.Same.{HasSameClaim}

-- what is not so is told by false
pub told_not : {P : Type 0} → (P → ⊥) → IsTrue false ↔ P
told_not wrong = ((λ e. absurd (both_ways false refl e)), (λ p. absurd (wrong p)))

-- a block that is kept has bytes, and one that is not has none
pub kept_or_not : (kept : Kept) → KeepsFrame kept → (blocks : List (Option (List ℕ))) (a : ℕ) (b : List ℕ) → kept_at kept.blocks a ≡ Some b → kept_at blocks a ≡ None
    → kept_bytes kept.blocks a ≡ kept_bytes blocks a → ⊥
kept_or_not kept frame blocks a b some none same =
    let empty : b ≡ [] = sym (ap (λ o. unwrap_or o []) some) ∙ same ∙ ap (λ o. unwrap_or o []) none in
    let long = (frame.whole a b some).length in
    let short : length b ≡ 0 = ap (λ (l : List ℕ). length l) empty in omega (arith, long, short)

module _ (one other : Kept) (same : one.geometry ≡ other.geometry) where
  -- the bytes of a data block are those that are kept
  data_bytes : (kept : Kept) (a : ℕ) → IsTrue (is_data_address kept.geometry a) → (frozen_view kept).bytes a ≡ kept_bytes kept.blocks a
  data_bytes kept a t = cond-true (is_data_address kept.geometry a) (kept_bytes kept.blocks a) [] t

  there : (a : ℕ) → IsTrue (is_data_address one.geometry a) → IsTrue (is_data_address other.geometry a)
  there a t = subst (λ (geo : Geometry). IsTrue (is_data_address geo a)) same t

  pub one_claim : (i k a : ℕ) → claim_at one.geometry (frozen_view one) i k ≡ Some a → (told : Bool) → (IsTrue told ↔ (kept_bytes one.blocks a ≡ kept_bytes other.blocks a))
      → IsTrue told ↔ HasSameClaim one.geometry (frozen_view one) (frozen_view other) i k
  one_claim i k a claimed told means =
      let at = (claim_parts one.geometry (frozen_view one) i k a claimed).1 in (
        (λ yes b c.
            let is : a ≡ b = same_Some a b (sym claimed ∙ claim_from one.geometry (frozen_view one) i k b c) in
            subst (λ n. (frozen_view one).bytes n ≡ (frozen_view other).bytes n) is (data_bytes one a at ∙ means.0 yes ∙ sym (data_bytes other a (there a at)))),
        (λ h. means.1 (sym (data_bytes one a at) ∙ h a (claim_parts one.geometry (frozen_view one) i k a claimed) ∙ data_bytes other a (there a at))),
      )

  pub no_claim : (i k : ℕ) → claim_at one.geometry (frozen_view one) i k ≡ None → HasSameClaim one.geometry (frozen_view one) (frozen_view other) i k
  no_claim i k none a c = absurd (none-some a (sym none ∙ claim_from one.geometry (frozen_view one) i k a c))

  -- those that keep the same blocks have the same metadata
  pub same_blocks : KeepsFrame one → KeepsFrame other → ((a : ℕ) → a < block_count one.geometry → kept_bytes one.blocks a ≡ kept_bytes other.blocks a)
      → SameMetadata one.geometry (frozen_view one) (frozen_view other)
  same_blocks frame frame' each =
      let geo = one.geometry in
      let bytes : kept_bytes one.blocks ≡ kept_bytes other.blocks = fun_ext (λ a. elim (cases_Bool (ltb a (block_count geo))) [
        | inl low ↦ each a (ltb-true a (block_count geo) low)
        | inr high ↦
            let past : block_count geo ≤ a = grind (arith, nat_tests, high) in
            past_all one frame a past ∙ sym (past_all other frame' a (omega (arith, past, ap (λ (g : Geometry). block_count g) same)))
      ]) in
      subst (λ view. SameMetadata geo (frozen_view one) view) (ap₂ view_of same bytes) (record {
        inode = λ i t. refl;
        number_marked = λ i t. refl;
        block_marked = λ a t. refl;
        tables = λ i m a is c. refl;
        directory_blocks = λ d k a t c. refl;
      })
    where
      past_all : (kept : Kept) → KeepsFrame kept → (a : ℕ) → block_count kept.geometry ≤ a → kept_bytes kept.blocks a ≡ []
      past_all kept frame a past = ap (λ o. unwrap_or o []) (get_or_past kept.blocks a None (omega (arith, frame.count, past)))
