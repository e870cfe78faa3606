-- Each claim is its block's owner, or a lesser claim of the block stands.
use Rattle.std.proofs.Common.{◌≡◌, ◌<◌, ℕ, suc, inl, inr, ◌↔◌, ap, arith, Option, Some, None}
use Rattle.std.proofs.lemmas.Bool.{cases_eq}
use Rattle.std.proofs.lemmas.Option.{none-some, same_Some}
use Rattle.findings.specs.declared.finding.Finding.TheVariants.{Duplicate}
use Rattle.model.specs.Layout.{Geometry, is_data_address}
use Rattle.model.specs.View.{View}
use Rattle.model.specs.Shape.{position_count}
use Rattle.model.specs.Uses.{IsClaim, IsOwner, Before, use_at, blocks_of}
use Rattle.findings.specs.Findings.{IsFinding}
use Rattle.model.proofs.Decide.{Decided, both_decided, either_decided, decided_along, decide_true, decide_le, decide_below}
use Rattle.model.proofs.Shape.{reach_parts}
use Rattle.model.proofs.Uses.{use_has, use_number}

pub decide_some : (o : Option ℕ) (a : ℕ) → Decided (o ≡ Some a)
decide_some None a = inr (none-some a)
decide_some (Some b) a = decided_along (ap Some) (same_Some b a) (cases_eq b a)

pub decide_claim : (geo : Geometry) (view : View) (i k a : ℕ) → Decided (IsClaim geo view i k a)
decide_claim geo view i k a = both_decided (decide_some (use_at geo view i k) a) (decide_true (is_data_address geo a))

pub decide_before : (j l i k : ℕ) → Decided (Before j l i k)
decide_before j l i k = either_decided (decide_le (suc j) i) (both_decided (cases_eq j i) (decide_le (suc l) k))

-- a claim stands at a position that files have
pub claim_low : (geo : Geometry) (view : View) (i k a : ℕ) → IsClaim geo view i k a → k < position_count geo
claim_low geo view i k a c =
    let u = use_number geo view i k a c.0 in (reach_parts geo (blocks_of (view.inode i).size) k (use_has geo view (view.inode i) k a u.1)).0

module _ (geo : Geometry) (view : View) (i k a : ℕ) where
  abbrev Lesser : ℕ → ℕ → Type 0
  Lesser j l = IsClaim geo view j l a × Before j l i k

  decide_lesser : Decided ((j : ℕ) × (j < suc i) × ((l : ℕ) × (l < position_count geo) × Lesser j l))
  decide_lesser = decide_below (λ j. (l : ℕ) × (l < position_count geo) × Lesser j l)
      (λ j. decide_below (Lesser j) (λ l. both_decided (decide_claim geo view j l a) (decide_before j l i k)) (position_count geo)) (suc i)

  low_before : (j l : ℕ) → Before j l i k → j < suc i
  low_before j l b = omega arith

pub duplicate_or_owner : (geo : Geometry) (view : View) (i k a : ℕ) → IsClaim geo view i k a
    → IsFinding geo view (Duplicate i k a) ↔ (IsOwner geo view a i k → ⊥)
duplicate_or_owner geo view i k a c = (
  (λ f o. o.least f.1 f.2 f.3 f.4),
  (λ not_owner. elim (decide_lesser geo view i k a) [
    | inl h ↦ (c, h.0, h.2.0, h.2.2.0, h.2.2.1)
    | inr none ↦ absurd (not_owner (record { claims = c; least = λ j l d b. none (j, low_before geo view i k a j l b, (l, claim_low geo view j l a d, (d, b))) }))
  ]),
)
