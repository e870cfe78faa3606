-- Where a path leads: what it walks through is reachable.
use Rattle.std.proofs.Common.{◌≡◌, ◌<◌, ◌≤◌, ◌*◌, ◌%◌, ◌+◌, ℕ, zero, suc, Bool, true, false, cond, not, ◌&&◌, eqb, leb, List, [], ◌∷◌, take, drop, length, inl, inr, refl, sym, ap, ◌∙◌, subst, arith, IsTrue, Option, Some, None, Result, Ok, Err}
use Rattle.std.specs.Prelude.{slice_index}
use Rattle.std.specs.Bool.{then_some}
use Rattle.std.specs.List.{list_all, slice_split}
use Rattle.std.specs.Option.{option_or, option_map}
use Rattle.std.specs.Result.{result_unwrap_or, result_err}
use Rattle.std.proofs.lemmas.Bool.{cases_Bool, and_parts, both_ways}
use Rattle.std.proofs.lemmas.Slice.Eq.{bytes_eq-Decides}
use Rattle.model.specs.Layout.{Geometry, is_number, root}
use Rattle.model.specs.View.{View, u32_at}
use Rattle.model.specs.Uses.{is_directory_at}
use Rattle.model.specs.Slots.{Slot, Absent, Empty, Good, Bad, slot, slot_with, number_in, is_name, is_dot, is_dot_dot, fits_slot}
use Rattle.model.specs.Reach.{IsReachableDirectory, IsReachable, IsEntry, slot_count}
use Rattle.model.specs.Rules.{ObeysRules}
use Rattle.model.proofs.SlotLemmas.{chosen, slot_content}
use Rattle.layout.specs.declared.refusal.Refusal.{Refusal}
use Rattle.layout.specs.declared.refusal.Refusal.TheVariants.{NotFound, NotDirectory, IsRoot}
use Rattle.machine.specs.Below.{first_below, first_of, when}
use Rattle.machine.specs.Paths.{is_part, parts_of, has_name, slot_of, lookup, walk, target, last_part}
use Rattle.machine.proofs.Clears.{named_reachable}

-- ---- lists of causes

pub not_some : {X P : Type 0} (x : X) → Some x ≡ None → P
not_some x e = absurd cc

pub none_of : {X : Type 0} (o : Option X) (os : List (Option X)) → first_of (o ∷ os) ≡ None → (o ≡ None) × (first_of os ≡ None)
none_of None os e = (refl, e)
none_of (Some x) os e = not_some x e

-- none of these causes holds
abbrev pub Quiet : {X : Type 0} → List (Option X) → Type 0
Quiet [] = Unit {0}
Quiet (o ∷ os) = (o ≡ None) × Quiet os

pub quiet : {X : Type 0} (os : List (Option X)) → first_of os ≡ None → Quiet os
quiet [] e = tt
quiet (o ∷ os) e = let h = none_of o os e in (h.0, quiet os h.1)

pub when_none : {X : Type 0} (b : Bool) (x : X) → when b x ≡ None → b ≡ false
when_none true x e = not_some x e
when_none false x e = refl

pub no_error : {X E : Type 0} (r : Result X E) (d : X) → result_err r ≡ None → r ≡ Ok (result_unwrap_or r d)
no_error (Ok x) d e = refl
no_error (Err x) d e = not_some x e

-- ---- the first number that passes

pub first_found : (n : ℕ) (p : ℕ → Bool) (k : ℕ) → first_below n p ≡ Some k → (k < n) × (p k ≡ true)
unfolding first_below
first_found zero p k e = not_some k (sym e)
first_found (suc n) p k e = go (first_below n p) refl (first_found n p k) e
  where
    go : (o : Option ℕ) → first_below n p ≡ o → (first_below n p ≡ Some k → (k < n) × (p k ≡ true)) → option_or o (then_some (p n) n) ≡ Some k → (k < suc n) × (p k ≡ true)
    go (Some j) was below e = let r = below (was ∙ e) in (omega (arith, r.0), r.1)
    go None was below e = elim (cases_Bool (p n)) [
      | inl t ↦ let same : Some n ≡ Some k = sym (ap (λ b. then_some b n) t) ∙ e in let is : n ≡ k = cc in (omega (arith, is), subst (λ j. p j ≡ true) is t)
      | inr f ↦ not_some k (sym e ∙ ap (λ b. then_some b n) f)
    ]

-- ---- names

named : (x : Slot) (name : List ℕ) → has_name x name ≡ true → x ≡ Good (number_in x) name
named Absent name e = absurd (both_ways false refl e)
named Empty name e = absurd (both_ways false refl e)
named (Good number own) name e = ap (λ n. Good number n) ((bytes_eq-Decides own name).0 e)
named Bad name e = absurd (both_ways false refl e)

-- the slot of a name that is found
pub record IsNamed (geo : Geometry) (view : View) (d : ℕ) (name : List ℕ) (i : ℕ) : Type 0 where
  pub place : ℕ
  pub first : slot_of geo view d name ≡ Some place
  pub good : slot geo view d place ≡ Good i name

pub lookup_found : (geo : Geometry) (view : View) (d : ℕ) (name : List ℕ) (i : ℕ) → lookup geo view d name ≡ Some i → IsNamed geo view d name i
unfolding lookup slot_of
lookup_found geo view d name i e = go (slot_of geo view d name) refl e
  where
    at : (s : ℕ) → slot_of geo view d name ≡ Some s → has_name (slot geo view d s) name ≡ true
    at s was = (first_found (slot_count geo) (λ s. has_name (slot geo view d s) name) s was).1

    go : (o : Option ℕ) → slot_of geo view d name ≡ o → option_map (λ s. number_in (slot geo view d s)) o ≡ Some i → IsNamed geo view d name i
    go None was e = not_some i (sym e)
    go (Some s) was e =
        let same : Some (number_in (slot geo view d s)) ≡ Some i = e in
        let is : number_in (slot geo view d s) ≡ i = cc in
        record { place = s; first = was; good = named (slot geo view d s) name (at s was) ∙ ap (λ n. Good n name) is }

-- a good slot has a name that fits it
good_fits : (geo : Geometry) (s number len : ℕ) (bytes : List ℕ) (i : ℕ) (name : List ℕ) → slot_with geo s number len bytes ≡ Good i name → IsTrue (fits_slot s name)
good_fits geo s number len bytes i name e =
    elim (chosen (eqb number 0) Empty (cond (is_number geo number && leb len 56 && is_name (take len bytes) && fits_slot s (take len bytes)) (Good number (take len bytes)) Bad) (Good i name) e) [
      | inl h ↦ absurd (let bad : Empty ≡ Good i name = h.1 in cc)
      | inr h ↦ elim (chosen (is_number geo number && leb len 56 && is_name (take len bytes) && fits_slot s (take len bytes)) (Good number (take len bytes)) Bad (Good i name) h.1) [
        | inl k ↦ subst (λ n. IsTrue (fits_slot s n)) (same k.1) (and_parts (is_number geo number && leb len 56 && is_name (take len bytes)) (fits_slot s (take len bytes)) k.0).1
        | inr k ↦ absurd (let bad : Bad ≡ Good i name = k.1 in cc)
      ]
    ]
  where
    same : Good number (take len bytes) ≡ Good i name → take len bytes ≡ name
    same e = cc

pub slot_fits : (geo : Geometry) (view : View) (d s i : ℕ) (name : List ℕ) → slot geo view d s ≡ Good i name → IsTrue (fits_slot s name)
slot_fits geo view d s i name e =
    let at = slot_content geo view d s (Good i name) (λ q. cc) e in
    good_fits geo s (u32_at (view.bytes at.block) (64 * (s % 16))) (slice_index (view.bytes at.block) (64 * (s % 16) + 4)) (drop (64 * (s % 16) + 8) (view.bytes at.block)) i name at.content

-- a part of a path stands behind the dots
pub part_behind : (s : ℕ) (name : List ℕ) → IsTrue (is_part name) → IsTrue (fits_slot s name) → 2 ≤ s
part_behind zero name part fits =
    absurd (both_ways (not (is_dot name)) (ap not fits) (and_parts (is_name name) (not (is_dot name)) (and_parts (is_name name && not (is_dot name)) (not (is_dot_dot name)) part).0).1)
part_behind (suc zero) name part fits = absurd (both_ways (not (is_dot_dot name)) (ap not fits) (and_parts (is_name name && not (is_dot name)) (not (is_dot_dot name)) part).1)
part_behind (suc (suc s)) name part fits = omega arith

pub named_entry : (geo : Geometry) (view : View) (d : ℕ) (name : List ℕ) (i : ℕ) → IsTrue (is_part name) → IsReachableDirectory geo view d → (h : IsNamed geo view d name i) → IsEntry geo view d h.place i
named_entry geo view d name i part r h =
    record { reachable = r; after_dots = part_behind h.place name part (slot_fits geo view d h.place i name h.good); names = (name, h.good) }

-- ---- paths

some_of : {X : Type 0} (b : Bool) (x y : X) → then_some b x ≡ Some y → (b ≡ true) × (x ≡ y)
some_of true x y e = (refl, cc)
some_of false x y e = not_some y (sym e)

pub parts_good : (path : List ℕ) (ps : List (List ℕ)) → parts_of path ≡ Some ps → IsTrue (list_all is_part ps)
unfolding parts_of
parts_good [] ps e = not_some ps (sym e)
parts_good (c ∷ []) ps e = subst (λ qs. IsTrue (list_all is_part qs)) (some_of (eqb c 47) [] ps e).1 refl
parts_good (c ∷ d ∷ bytes) ps e =
    let pieces = slice_split (λ b. eqb b 47) (d ∷ bytes) in
    let h = some_of (eqb c 47 && leb (2 + length bytes) 4096 && list_all is_part pieces) pieces ps e in
    subst (λ qs. IsTrue (list_all is_part qs)) h.1 (and_parts (eqb c 47 && leb (2 + length bytes) 4096) (list_all is_part pieces) h.0).1

module _ (geo : Geometry) (view : View) where
  abbrev pub Leads : ℕ → Type 0
  Leads d = IsTrue (is_directory_at geo view d) → IsReachableDirectory geo view d

  pub entry_leads : (d s i : ℕ) → IsEntry geo view d s i → Leads i
  entry_leads d s i e dir = (suc e.reachable.0, (d, s, e.reachable.1, e.after_dots, e.names, dir))

  pub root_leads : Leads root
  root_leads dir = (0, (refl, dir))

  not_ok : {X E P : Type 0} (r : E) (x : X) → Err r ≡ Ok x → P
  not_ok r x e = absurd cc

  abbrev found : ℕ → Result ℕ Refusal
  found x = Ok x

  ok_same : (x y : ℕ) → found x ≡ found y → x ≡ y
  ok_same x y e = cc

  abbrev on : List (List ℕ) → Option ℕ → Result ℕ Refusal
  on ps o = elim o [ None ↦ Err NotFound | Some i ↦ walk geo view i ps ]

  pub walk_reaches : (ps : List (List ℕ)) (d h : ℕ) → IsTrue (list_all is_part ps) → Leads d → walk geo view d ps ≡ Ok h → IsReachableDirectory geo view h
  unfolding walk
  walk_reaches [] d h good leads e = not_ok IsRoot h e
  walk_reaches (part ∷ []) d h good leads e = elim (chosen (is_directory_at geo view d) (Ok d) (Err NotDirectory) (Ok h) e) [
    | inl k ↦ subst (λ q. IsReachableDirectory geo view q) (ok_same d h k.1) (leads k.0)
    | inr k ↦ not_ok NotDirectory h k.1
  ]
  walk_reaches (part ∷ next ∷ ps) d h good leads e = elim (chosen (is_directory_at geo view d) (on (next ∷ ps) (lookup geo view d part)) (Err NotDirectory) (Ok h) e) [
    | inl k ↦ go (lookup geo view d part) refl (λ i. walk_reaches (next ∷ ps) i h pieces.1) k.1 (leads k.0)
    | inr k ↦ not_ok NotDirectory h k.1
  ]
    where
      pieces : IsTrue (is_part part) × IsTrue (list_all is_part (next ∷ ps))
      pieces = and_parts (is_part part) (list_all is_part (next ∷ ps)) good

      go : (o : Option ℕ) → lookup geo view d part ≡ o → ((i : ℕ) → Leads i → walk geo view i (next ∷ ps) ≡ Ok h → IsReachableDirectory geo view h)
          → on (next ∷ ps) o ≡ Ok h → IsReachableDirectory geo view d → IsReachableDirectory geo view h
      go None was rest e r = not_ok NotFound h e
      go (Some i) was rest e r = let at = lookup_found geo view d part i was in
          rest i (entry_leads d at.place i (named_entry geo view d part i pieces.0 r at)) e

  -- what a path leads to is the root, or has an entry
  pub record IsTarget (ps : List (List ℕ)) (i : ℕ) : Type 0 where
    pub holder : ℕ
    pub way : walk geo view root ps ≡ Ok holder
    pub reachable : IsReachableDirectory geo view holder
    pub named : IsNamed geo view holder (last_part ps) i
    pub entry : IsEntry geo view holder named.place i

  pub last_good : (part : List ℕ) (ps : List (List ℕ)) → IsTrue (list_all is_part (part ∷ ps)) → IsTrue (is_part (last_part (part ∷ ps)))
  last_good part [] good = (and_parts (is_part part) true good).0
  last_good part (next ∷ ps) good = last_good next ps (and_parts (is_part part) (list_all is_part (next ∷ ps)) good).1

  abbrev at_end : List (List ℕ) → ℕ → Option ℕ → Result ℕ Refusal
  at_end ps d o = elim o [ None ↦ Err NotFound | Some i ↦ Ok i ]

  abbrev after_walk : List (List ℕ) → Result ℕ Refusal → Result ℕ Refusal
  after_walk ps r = elim r [ Err x ↦ Err x | Ok d ↦ elim (lookup geo view d (last_part ps)) [ None ↦ Err NotFound | Some i ↦ Ok i ] ]

  pub target_found : (part : List ℕ) (ps : List (List ℕ)) (i : ℕ) → IsTrue (list_all is_part (part ∷ ps)) → target geo view (part ∷ ps) ≡ Ok i → IsTarget (part ∷ ps) i
  unfolding target
  target_found part ps i good e = go (walk geo view root (part ∷ ps)) refl e
    where
      here : (d : ℕ) → walk geo view root (part ∷ ps) ≡ Ok d → (o : Option ℕ) → lookup geo view d (last_part (part ∷ ps)) ≡ o → at_end (part ∷ ps) d o ≡ Ok i → IsTarget (part ∷ ps) i
      here d way None was e = not_ok NotFound i e
      here d way (Some j) was e =
          let r = walk_reaches (part ∷ ps) root d good root_leads way in
          let at = lookup_found geo view d (last_part (part ∷ ps)) i (was ∙ ap Some (ok_same j i e)) in
          record { holder = d; way = way; reachable = r; named = at; entry = named_entry geo view d (last_part (part ∷ ps)) i (last_good part ps good) r at }

      go : (r : Result ℕ Refusal) → walk geo view root (part ∷ ps) ≡ r → after_walk (part ∷ ps) r ≡ Ok i → IsTarget (part ∷ ps) i
      go (Err x) was e = not_ok x i e
      go (Ok d) was e = here d was (lookup geo view d (last_part (part ∷ ps))) refl e

  pub target_reachable : ObeysRules geo view → (ps : List (List ℕ)) (i : ℕ) → IsTrue (list_all is_part ps) → target geo view ps ≡ Ok i → IsReachable geo view i
  unfolding target
  target_reachable o [] i good e = inl (subst (λ q. IsReachableDirectory geo view q) (ok_same root i e) (root_leads o.rule1))
  target_reachable o (part ∷ ps) i good e = let t = target_found part ps i good e in named_reachable geo view o t.holder t.named.place i t.reachable (last_part (part ∷ ps), t.named.good)
