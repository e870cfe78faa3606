-- The directory that a new name goes to, in which no slot has it.
use Rattle.std.proofs.Common.{◌≡◌, ◌<◌, ℕ, zero, suc, Bool, true, false, List, [], ◌∷◌, inl, inr, refl, sym, ap, ◌∙◌, subst, arith, IsTrue, Option, Some, None, Result, Ok, Err}
use Rattle.std.specs.Prelude.{is_none, unwrap_or}
use Rattle.std.specs.Bool.{then_some}
use Rattle.std.specs.List.{list_all}
use Rattle.std.specs.Option.{option_or, option_map}
use Rattle.std.specs.Result.{result_err}
use Rattle.std.proofs.lemmas.Bool.{cases_eq, both_ways}
use Rattle.std.proofs.lemmas.Slice.Eq.{bytes_eq-Decides}
use Rattle.model.specs.Layout.{Geometry, root}
use Rattle.model.specs.View.{View}
use Rattle.model.specs.Slots.{Good, slot, number_in}
use Rattle.model.specs.Reach.{IsReachableDirectory, slot_count}
use Rattle.model.proofs.SlotLemmas.{slot_content}
use Rattle.layout.specs.declared.refusal.Refusal.{Refusal}
use Rattle.layout.specs.declared.refusal.Refusal.TheVariants.{BadName, Exists, NotFound, IsRoot}
use Rattle.machine.specs.Below.{first_below}
use Rattle.machine.specs.Paths.{is_part, parts, parts_of, has_name, slot_of, lookup, walk, target, last_part, holder, name_in}
use Rattle.machine.specs.Causes.{bad_name, no_way, taken, missing}
use Rattle.machine.proofs.Walks.{when_none, no_error, parts_good, walk_reaches, root_leads, last_good, not_some}

-- a good path's parts
pub good_parts : (p : List ℕ) → bad_name p ≡ None → IsTrue (list_all is_part (parts p))
good_parts p e = go (parts_of p) refl (when_none (is_none (parts_of p)) BadName e)
  where
    go : (o : Option (List (List ℕ))) → parts_of p ≡ o → is_none o ≡ false → IsTrue (list_all is_part (unwrap_or (parts_of p) []))
    go None was f = absurd (both_ways true f refl)
    go (Some ps) was f = subst (λ o. IsTrue (list_all is_part (unwrap_or o []))) (sym was) (parts_good p ps was)

first_none : (n : ℕ) (p : ℕ → Bool) (k : ℕ) → first_below n p ≡ None → k < n → p k ≡ false
unfolding first_below
first_none zero p k e b = absurd (omega (arith, b))
first_none (suc n) p k e b = go (first_below n p) refl (λ was low. first_none n p k was low) e
  where
    last : (q : Bool) → then_some q n ≡ None → q ≡ false
    last true e = not_some n e
    last false e = refl

    go : (o : Option ℕ) → first_below n p ≡ o → (first_below n p ≡ None → k < n → p k ≡ false) → option_or o (then_some (p n) n) ≡ None → p k ≡ false
    go (Some j) was rest e = not_some j e
    go None was rest e = elim (cases_eq k n) [
      | inl same ↦ subst (λ j. p j ≡ false) (sym same) (last (p n) e)
      | inr differs ↦ rest was (omega (arith, b, differs))
    ]

module _ (geo : Geometry) (view : View) where
  abbrev lookup_end : Option ℕ → Result ℕ Refusal
  lookup_end o = elim o [ None ↦ Err NotFound | Some i ↦ Ok i ]

  -- no slot of d has the name
  pub no_slot : (d : ℕ) (name : List ℕ) → lookup geo view d name ≡ None → (t j : ℕ) → slot geo view d t ≡ Good j name → ⊥
  unfolding lookup slot_of
  no_slot d name e t j is =
      let at = slot_content geo view d t (Good j name) (λ q. cc) is in
      both_ways (has_name (slot geo view d t) name) (first_none (slot_count geo) (λ s. has_name (slot geo view d s) name) t (found (slot_of geo view d name) e) at.below)
      (ap (λ x. has_name x name) is ∙ (bytes_eq-Decides name name).1 refl)
    where
      found : (o : Option ℕ) → option_map (λ s. number_in (slot geo view d s)) o ≡ None → o ≡ None
      found None e = refl
      found (Some s) e = not_some (number_in (slot geo view d s)) e

  -- where a path leads to a directory in which its name is not taken
  pub record IsNewPlace (p : List ℕ) : Type 0 where
    pub reachable : IsReachableDirectory geo view (holder geo view p)
    pub part : IsTrue (is_part (name_in p))
    pub new : (t j : ℕ) → slot geo view (holder geo view p) t ≡ Good j (name_in p) → ⊥

  not_ok : {P : Type 0} (r : Refusal) (x : ℕ) → Err r ≡ Ok x → P
  not_ok r x e = absurd cc

  some : (ps : List (List ℕ)) (h : ℕ) → IsTrue (list_all is_part ps) → walk geo view root ps ≡ Ok h → IsTrue (is_part (last_part ps))
  unfolding walk
  some [] h good e = not_ok IsRoot h e
  some (part ∷ ps) h good e = last_good geo view part ps good

  ended : (o : Option ℕ) → is_none (result_err (lookup_end o)) ≡ false → o ≡ None
  ended None f = refl
  ended (Some i) f = absurd (both_ways true f refl)

  not_there : (ps : List (List ℕ)) (d : ℕ) → walk geo view root ps ≡ Ok d → is_none (result_err (target geo view ps)) ≡ false → lookup geo view d (last_part ps) ≡ None
  unfolding target walk
  not_there [] d e f = not_ok IsRoot d e
  not_there (part ∷ ps) d e f = ended (lookup geo view d (last_part (part ∷ ps)))
      (sym (ap (λ r. is_none (result_err (walked r))) e) ∙ f)
    where
      walked : Result ℕ Refusal → Result ℕ Refusal
      walked r = elim r [ Err x ↦ Err x | Ok q ↦ elim (lookup geo view q (last_part (part ∷ ps))) [ None ↦ Err NotFound | Some i ↦ Ok i ] ]

  pub new_place : (p : List ℕ) → bad_name p ≡ None → no_way geo view p ≡ None → taken geo view p ≡ None → IsNewPlace p
  new_place p good way free =
      let ps = good_parts p good in
      let way' : walk geo view root (parts p) ≡ Ok (holder geo view p) = no_error (walk geo view root (parts p)) 0 way in
      record {
        reachable = walk_reaches geo view (parts p) root (holder geo view p) ps (root_leads geo view) way';
        part = some (parts p) (holder geo view p) ps way';
        new = no_slot (holder geo view p) (name_in p) (not_there (parts p) (holder geo view p) way' (when_none (is_none (missing geo view p)) Exists free));
      }
