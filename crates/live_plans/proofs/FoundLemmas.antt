-- Where a path leads, by the slot in which its last part was found.
use Rattle.std.proofs.Common.{◌≡◌, ◌/◌, ℕ, List, [], ◌∷◌, refl, sym, ap, ◌∙◌, true, is_some, Option, Some, None, Result, Ok, Err}
use Rattle.std.specs.Bool.{then_some}
use Rattle.std.specs.Option.{option_map, option_and_then}
use Rattle.std.proofs.lemmas.Bool.{false≢true}
use Rattle.std.proofs.lemmas.Option.{none-some}
use Rattle.model.specs.Layout.{Geometry, root, is_data_address}
use Rattle.model.specs.View.{View}
use Rattle.model.specs.Metadata.{SameMetadata}
use Rattle.model.specs.Uses.{IsClaim, claim_at}
use Rattle.model.specs.Slots.{Good, slot, number_in}
use Rattle.model.proofs.Same.{same_facts}
use Rattle.model.proofs.SlotLemmas.{slot_content}
use Rattle.model.proofs.UseLemmas.{claim_parts}
use Rattle.layout.specs.declared.refusal.Refusal.{Refusal}
use Rattle.layout.specs.declared.refusal.Refusal.TheVariants.{NotFound}
use Rattle.frozen.specs.Kept.{Kept, frozen_view}
use Rattle.machine.specs.Paths.{last_part, lookup, slot_of, target, walk}
use Rattle.live_paths.specs.Shown.{IsShownBy}

-- what is kept is shown by itself
pub self_shown : (kept : Kept) → IsShownBy kept (frozen_view kept)
self_shown kept = record {
  inode = λ i n. refl;
  number_marked = λ i n. refl;
  block_marked = λ a n. refl;
  tables = λ i m a t c. refl;
  directory_blocks = λ d k a t c. refl;
}

pub same_claim : (geo : Geometry) (v w : View) → SameMetadata geo v w → (d k : ℕ) → claim_at geo v d k ≡ claim_at geo w d k
unfolding claim_at
same_claim geo v w m d k = ap (option_and_then (λ a. then_some (is_data_address geo a) a)) ((same_facts geo v w m).uses d k)

module _ (geo : Geometry) (view : View) where
  -- a claim that is found is one
  pub is_claimed : (n k : ℕ) (found : Option ℕ) → is_some found ≡ true → found ≡ claim_at geo view n k → (x : ℕ) × IsClaim geo view n k x
  is_claimed n k None some is = absurd (false≢true some)
  is_claimed n k (Some x) some is = (x, claim_parts geo view n k x (sym is))

  -- an entry stands in a block that its directory claims
  pub entry_claims : (d s i : ℕ) (name : List ℕ) → slot geo view d s ≡ Good i name → claim_at geo view d (s / 16) ≡ None → ⊥
  entry_claims d s i name e none =
      let at = slot_content geo view d s (Good i name) (λ q. cc) e in
      none-some at.block (sym none ∙ at.claimed)

  abbrev leads : ℕ → Result ℕ Refusal
  leads i = Ok i

  abbrev named : Option ℕ → Result ℕ Refusal
  named o = elim o [ None ↦ Err NotFound | Some i ↦ Ok i ]

  abbrev behind : List (List ℕ) → Result ℕ Refusal → Result ℕ Refusal
  behind parts r = elim r [ Err x ↦ Err x | Ok d ↦ named (lookup geo view d (last_part parts)) ]

  target_is : (parts : List (List ℕ)) → (parts ≡ [] → ⊥) → target geo view parts ≡ behind parts (walk geo view root parts)
  unfolding target
  target_is [] some = absurd (some refl)
  target_is (part ∷ parts) some = refl

  module _ (parts : List (List ℕ)) (some : parts ≡ [] → ⊥) where
    pub target_found : (d s n : ℕ) → walk geo view root parts ≡ Ok d → slot_of geo view d (last_part parts) ≡ Some s → number_in (slot geo view d s) ≡ n → target geo view parts ≡ Ok n
    unfolding lookup
    target_found d s n walks found number =
        target_is parts some ∙ ap (behind parts) walks
        ∙ ap (λ o. named (option_map (λ t. number_in (slot geo view d t)) o)) found ∙ ap leads number

    pub target_missing : (d : ℕ) → walk geo view root parts ≡ Ok d → slot_of geo view d (last_part parts) ≡ None → target geo view parts ≡ Err NotFound
    unfolding lookup
    target_missing d walks none =
        target_is parts some ∙ ap (behind parts) walks ∙ ap (λ o. named (option_map (λ t. number_in (slot geo view d t)) o)) none

    pub target_ends : (r : Refusal) → walk geo view root parts ≡ Err r → target geo view parts ≡ Err r
    target_ends r ends = target_is parts some ∙ ap (behind parts) ends
