-- Another name in the same slot keeps the balance.
use Rattle.std.proofs.Common.{◌≡◌, ◌≤◌, ℕ, true, false, leb, List, [], ◌∷◌, inl, inr, refl, sym, ap, ◌∙◌, subst, arith, IsTrue, Some, None, Ok, Option}
use Rattle.std.specs.Prelude.{unwrap_or, is_none, length}
use Rattle.std.specs.Result.{result_unwrap_or}
use Rattle.std.specs.List.{list_all}
use Rattle.std.specs.Option.{option_map_or}
use Rattle.std.proofs.lemmas.Bool.{both_ways}
use Rattle.model.specs.Layout.{Geometry, root}
use Rattle.model.specs.View.{View}
use Rattle.model.specs.Cells.{SetBytes, updated}
use Rattle.model.specs.Uses.{is_sound, use_at}
use Rattle.model.specs.Slots.{Slot, Good, Bad, slot, Names}
use Rattle.model.specs.Reach.{IsReachableDirectory, IsReachable, IsEntry, HasEntries}
use Rattle.model.specs.Rules.{ObeysRules, UsesAreClaims, SlotsAreRight}
use Rattle.model.proofs.SlotChange.{slot_uses, slot_before, slot_now, slot_others, at_or_not}
use Rattle.model.proofs.SameReach.{reach_obeys, slots_right}
use Rattle.layout.specs.declared.refusal.Refusal.TheVariants.{IsRoot, BadName}
use Rattle.machine.specs.Paths.{parts, parts_of, holder, name_in, slot_at, number_at, target, walk, last_part, is_part, slot_of}
use Rattle.machine.specs.Cells.{with_slot}
use Rattle.machine.specs.Causes.{top, bad_name, missing, is_root_path}
use Rattle.machine.proofs.Walks.{when_none, no_error, target_found}
use Rattle.machine.proofs.Holders.{good_parts}
use Rattle.machine.proofs.Putting.{PutsEntry}
use Rattle.machine.proofs.Naming.{ChangesName, once, kept, back, count_change}

module _ (geo : Geometry) (v : View) (o : ObeysRules geo v) (i d s : ℕ) (first name entry : List ℕ) (p : PutsEntry geo v d s entry (Good i first) (Good i name))
    (reachable : IsReachableDirectory geo v d) (after_dots : 2 ≤ s) (new : (t j : ℕ) → slot geo v d t ≡ Good j name → ⊥) where
  abbrev bytes : List ℕ
  bytes = with_slot (v.bytes p.block) s entry

  abbrev pub w : View
  w = updated v (SetBytes p.block bytes)

  pub uses : (j k : ℕ) → use_at geo v j k ≡ use_at geo w j k
  uses = slot_uses geo v p.block bytes d s (Good i first) (Good i name) p.one o.rule3

  slots : (e t : ℕ) → ((e ≡ d) × (t ≡ s) → ⊥) → slot geo v e t ≡ slot geo w e t
  slots = slot_others geo v p.block bytes d s (Good i first) (Good i name) p.one o.rule3

  before : slot geo v d s ≡ Good i first
  before = slot_before geo v p.block bytes d s (Good i first) (Good i name) p.one o.rule3

  after : slot geo w d s ≡ Good i name
  after = slot_now geo v p.block bytes d s (Good i first) (Good i name) p.one o.rule3

  at_slot : (x : View) (y : Slot) (e t : ℕ) → (e ≡ d) × (t ≡ s) → slot geo x e t ≡ y → slot geo x d s ≡ y
  at_slot x y e t here q = subst (λ z. slot geo x z s ≡ y) here.0 (subst (λ z. slot geo x e z ≡ y) here.1 q)

  from_slot : (x : View) (y : Slot) (e t : ℕ) → (e ≡ d) × (t ≡ s) → slot geo x d s ≡ y → slot geo x e t ≡ y
  from_slot x y e t here q = subst (λ z. slot geo x e z ≡ y) (sym here.1) (subst (λ z. slot geo x z s ≡ y) (sym here.0) q)

  is_i : {j : ℕ} {one other : List ℕ} → Good i one ≡ Good j other → i ≡ j
  is_i e = cc

  names_kept : (e t j : ℕ) → Names geo v e t j → Names geo w e t j
  names_kept e t j n = elim (at_or_not d s e t) [
    | inr other ↦ (n.0, sym (slots e t other) ∙ n.1)
    | inl here ↦ (name, from_slot w (Good j name) e t here (after ∙ ap (λ q. Good q name) (is_i (sym before ∙ at_slot v (Good j n.0) e t here n.1))))
  ]

  names_back : (e t j : ℕ) → Names geo w e t j → Names geo v e t j
  names_back e t j n = elim (at_or_not d s e t) [
    | inr other ↦ (n.0, slots e t other ∙ n.1)
    | inl here ↦ (first, from_slot v (Good j first) e t here (before ∙ ap (λ q. Good q first) (is_i (sym after ∙ at_slot w (Good j n.0) e t here n.1))))
  ]

  change : ChangesName geo v w d s (Good i first) (Good i name)
  change = record {
    reach = record { directories = λ j. refl; names = λ e t j dir. (names_kept e t j, names_back e t j) };
    slots = slots;
    before = before;
    after = after;
    reachable = reachable;
    after_dots = after_dots;
    below = p.below;
  }

  reach_kept_at : (j : ℕ) → IsReachable geo v j → IsReachable geo w j
  reach_kept_at j (inl r) = inl (kept geo v w d s (Good i first) (Good i name) change j r)
  reach_kept_at j (inr r) = inr (r.0, r.1, r.2, record { reachable = kept geo v w d s (Good i first) (Good i name) change r.1 r.3.reachable; after_dots = r.3.after_dots; names = names_kept r.1 r.2 j r.3.names })

  pub renamed_reach : (j : ℕ) → IsReachable geo w j → IsReachable geo v j
  renamed_reach j (inl r) = inl (back geo v w d s (Good i first) (Good i name) change j r)
  renamed_reach j (inr r) = inr (r.0, r.1, r.2, record { reachable = back geo v w d s (Good i first) (Good i name) change r.1 r.3.reachable; after_dots = r.3.after_dots; names = names_back r.1 r.2 j r.3.names })

  pub renamed_count : (j n : ℕ) → HasEntries geo w j n → HasEntries geo v j n
  renamed_count j n e =
      let c = count_change geo v w d s (Good i first) (Good i name) change j n e in
      let same : once (Good i first) j ≡ once (Good i name) j = refl in
      subst (λ q. HasEntries geo v j q) (omega (arith, c.2, same)) c.1

  claims_right : UsesAreClaims geo w
  claims_right = record {
    claims = λ n k x h. o.rule3.claims n k x (uses n k ∙ h);
    marked = λ n k a c. o.rule3.marked n k a (uses n k ∙ c.0, c.1);
    once = λ n k m l a c e. o.rule3.once n k m l a (uses n k ∙ c.0, c.1) (uses m l ∙ e.0, e.1);
  }

  names_right : SlotsAreRight geo w
  names_right = slots_right geo v w change.reach d s (Good i name) slots after o
      (λ e. (let bad : Good i name ≡ Bad = e in cc))
      (λ t j k other e two apart is. new t j (subst (λ (q : List ℕ). slot geo v d t ≡ Good j q) (same_name e) is))
      (λ j other q e. subst (λ q. IsTrue (is_sound geo (v.inode q))) (is_i e) (o.rule6.sound d s i reachable (first, before)))
      (λ j h. h)
    where
      same_name : {k : ℕ} {other : List ℕ} → Good i name ≡ Good k other → other ≡ name
      same_name e = cc

  pub renamed_obeys : ObeysRules geo w
  renamed_obeys = reach_obeys geo v w change.reach o o.rule2 claims_right o.rule4 names_right (λ j n r e. o.rule8 j n (renamed_reach j r) (renamed_count j n e))

-- ---- where a path leads to an entry

pub record IsPlace (geo : Geometry) (view : View) (p : List ℕ) : Type 0 where
  pub entry : IsEntry geo view (holder geo view p) (slot_at geo view p) (number_at geo view p)
  pub good : slot geo view (holder geo view p) (slot_at geo view p) ≡ Good (number_at geo view p) (name_in p)

-- the parts of a path that is not "/" lead from a directory
place_by : (geo : Geometry) (view : View) (ps : List (List ℕ)) (i : ℕ) → IsTrue (list_all is_part ps) → leb (length ps) 0 ≡ false → target geo view ps ≡ Ok i
    → IsEntry geo view (result_unwrap_or (walk geo view root ps) 0) (unwrap_or (slot_of geo view (result_unwrap_or (walk geo view root ps) 0) (last_part ps)) 0) i
    × (slot geo view (result_unwrap_or (walk geo view root ps) 0) (unwrap_or (slot_of geo view (result_unwrap_or (walk geo view root ps) 0) (last_part ps)) 0) ≡ Good i (last_part ps))
place_by geo view [] i good some e = absurd (both_ways true some refl)
place_by geo view (part ∷ ps) i good some e =
    let t = target_found geo view part ps i good e in
    let at : unwrap_or (slot_of geo view t.holder (last_part (part ∷ ps))) 0 ≡ t.named.place = ap (λ o. unwrap_or o 0) t.named.first in
    subst (λ h. IsEntry geo view h (unwrap_or (slot_of geo view h (last_part (part ∷ ps))) 0) i × (slot geo view h (unwrap_or (slot_of geo view h (last_part (part ∷ ps))) 0) ≡ Good i (last_part (part ∷ ps))))
    (sym (ap (λ r. result_unwrap_or r 0) t.way))
    (subst (λ s. IsEntry geo view t.holder s i × (slot geo view t.holder s ≡ Good i (last_part (part ∷ ps)))) (sym at) (t.entry, t.named.good))

not_root : (p : List ℕ) → bad_name p ≡ None → top p ≡ None → leb (length (parts p)) 0 ≡ false
not_root p good e = go (parts_of p) refl (when_none (is_none (parts_of p)) BadName good) (when_none (is_root_path p) IsRoot e)
  where
    go : (o : Option (List (List ℕ))) → parts_of p ≡ o → is_none o ≡ false → option_map_or (λ ps. leb (length ps) 0) (parts_of p) false ≡ false → leb (length (parts p)) 0 ≡ false
    go None was f g = absurd (both_ways true f refl)
    go (Some ps) was f g = subst (λ o. leb (length (unwrap_or o [])) 0 ≡ false) (sym was) (sym (ap (λ o. option_map_or (λ qs. leb (length qs) 0) o false) was) ∙ g)

pub place_at : (geo : Geometry) (view : View) (p : List ℕ) → bad_name p ≡ None → top p ≡ None → missing geo view p ≡ None → IsPlace geo view p
place_at geo view p good some there =
    let h = place_by geo view (parts p) (number_at geo view p) (good_parts p good) (not_root p good some) (no_error (target geo view (parts p)) 0 there) in
    record { entry = h.0; good = h.1 }
