-- The entry of an empty directory goes: the update in its order, and the entries that are left.
use Rattle.std.proofs.Common.{◌≡◌, ◌≤◌, ◌+◌, ℕ, suc, Bool, true, false, not, ◌&&◌, eqb, List, [], ◌∷◌, ◌⊎◌, inl, inr, refl, sym, ap, ◌∙◌, subst, arith, IsTrue, IsFalse, Contains, eqb-true, eq-eqb}
use Rattle.std.proofs.lemmas.Bool.{both_ways, and_parts, or_cases}
use Rattle.model.specs.Layout.{Geometry, is_number, root}
use Rattle.model.specs.View.{View}
use Rattle.model.specs.Slots.{Empty, Good, slot, Names}
use Rattle.model.proofs.Finite.{entries_exist}
use Rattle.model.specs.Reach.{HasEntries, IsReachableDirectory, IsEntry}
use Rattle.model.specs.Rules.{ObeysRules}
use Rattle.model.proofs.SlotLemmas.{number_low, directory_number, reachable_directory}
use Rattle.model.proofs.SlotChange.{slot_now}
use Rattle.model.proofs.Prune.{pruned}
use Rattle.ordering.specs.Cuts.{Cell, Block, Pending, users_view}
use Rattle.ordering.specs.Places.{HasPlace}
use Rattle.ordering.specs.Ghosts.{Ghost, Gone, at_rest}
use Rattle.ordering.specs.Agrees.{AllAgree}
use Rattle.ordering.specs.OneSlot.{ChangesSlot, MayRemoveDirectory, removed_directory, same_gone}
use Rattle.ordering.specs.Histories.{RemovesDirectory}
use Rattle.ordering.proofs.Bits.{users_obey}
use Rattle.ordering.proofs.Places.{place_of, slot_change}
use Rattle.ordering.proofs.Prune.{prune_place_back}
use Rattle.machine.specs.Cells.{with_slot}
use Rattle.plans_data.specs.Issues.{Issues, Nothing, Then}
use Rattle.plans_naming.specs.Entries.{no_entry, slot_written}
use Rattle.plans_naming.specs.RemoveDirectory.{CanRemove}
use Rattle.plans_naming.proofs.Tallies.{one_less, two_less, two_counted}
use Rattle.plans_naming.proofs.Puts.{empties_slot}

module _ (geo : Geometry) (disk : View) (q : List Pending) (held safe : ℕ → Bool)
    (i b d s block : ℕ) (name : List ℕ) (after : List Cell) (can : CanRemove geo (users_view disk q) i b d s block name after) (not_safe : IsFalse (safe i))
    (all : AllAgree geo disk q (at_rest held safe)) where
  abbrev ghost : Ghost
  ghost = at_rest held safe

  abbrev users : View
  users = users_view disk q

  abbrev zeroed : List ℕ
  zeroed = with_slot (users.bytes block) s no_entry

  abbrev pub with_gone : Ghost
  with_gone = removed_directory i d s block b ghost

  abbrev pub q1 : List Pending
  q1 = slot_written block (users.bytes block) s no_entry after ∷ q

  abbrev users1 : View
  users1 = users_view disk q1

  pub o : ObeysRules geo users
  o = users_obey geo disk q ghost all

  pub change : ChangesSlot geo users block zeroed d s (Good i name) Empty
  change = empties_slot geo users d s block (Good i name) can.place

  remove : MayRemoveDirectory geo users ghost after block zeroed d s i b name
  remove = record { change = change; directory = can.directory; empty = can.empty; first = can.first; blocks = can.own_first; not_entering = refl; not_safe = not_safe }

  pub entry_issues : Issues geo disk q ghost q1 with_gone
  entry_issues = Then (slot_written block (users.bytes block) s no_entry after) with_gone Nothing (RemovesDirectory after block zeroed d s i b name remove)

  the_entry : IsEntry geo users d s i
  the_entry = record { reachable = can.place.reachable; after_dots = can.place.after_dots; names = (name, can.place.holds) }

  not_root : i ≡ root → ⊥
  not_root e = o.rule7.no_root d s (subst (λ x. IsEntry geo users d s x) e the_entry)

  only_entry : (e t : ℕ) → IsEntry geo users e t i → (e ≡ d) × (t ≡ s)
  only_entry e t x = o.rule7.once e t d s i can.directory x the_entry

  pub reached : IsReachableDirectory geo users i
  reached = (suc can.place.reachable.0, (d, s, can.place.reachable.1, can.place.after_dots, the_entry.names, can.directory))

  pub pruned_now : IsReachableDirectory geo users1 i → ⊥
  pruned_now = pruned geo users block zeroed d s i name (slot_change change.slot) o can.place.after_dots not_root only_entry can.empty

  pub places_back : (j e t c : ℕ) → HasPlace geo users1 j e t c → HasPlace geo users j e t c
  places_back = prune_place_back geo users block zeroed d s i name (slot_change change.slot) o can.place.after_dots not_root only_entry can.empty

  pub apart : d ≡ i → ⊥
  apart e = can.empty s i can.place.after_dots (subst (λ k. Names geo users k s i) e the_entry.names)

  up : Names geo users i 1 d
  up = elim (o.rule5 i reached).1 [
    | inl p ↦ absurd (not_root p.0)
    | inr p ↦ subst (λ k. Names geo users i 1 k) (only_entry p.1 p.2 p.4).0 p.3
  ]

  place_entry : HasPlace geo users i d s block
  place_entry = record { reachable = can.place.reachable; names = the_entry.names; block = can.place.claim }

  place_dot : HasPlace geo users i i 0 b
  place_dot = record { reachable = reached; names = (o.rule5 i reached).0; block = can.first }

  place_up : HasPlace geo users d i 1 b
  place_up = record { reachable = reached; names = up; block = can.first }

  gone_entry : (c : ℕ) → HasPlace geo users1 i d s c → ⊥
  gone_entry c p = let now : slot geo users1 d s ≡ Empty = slot_now geo users block zeroed d s (Good i name) Empty (slot_change change.slot) o.rule3 in
      let n : slot geo users1 d s ≡ Good i p.names.0 = p.names.1 in cc

  pub its_number : IsTrue (is_number geo i)
  its_number = directory_number geo users i can.directory

  pub parent_number : IsTrue (is_number geo d)
  parent_number = directory_number geo users d (reachable_directory geo users d can.place.reachable)

  -- the directory has two entries fewer, and its parent one
  pub fewer_of_it : (m : ℕ) → HasEntries geo users1 i m → m + 2 ≤ (users.inode i).links
  fewer_of_it m h =
      let less = two_less geo users1 users i (omega (arith, number_low geo i its_number)) d s i 0 block b (places_back i) place_entry place_dot
      gone_entry (λ c p. pruned_now p.reachable) (λ e. apart e.0) m h in
      let enough = o.rule8 i less.0 (inl reached) less.1 in
      omega (arith, less.2, enough)

  pub fewer_of_parent : (m : ℕ) → HasEntries geo users1 d m → m + 1 ≤ (users.inode d).links
  fewer_of_parent m h =
      let less = one_less geo users1 users d (omega (arith, number_low geo d parent_number)) i 1 b (places_back d) place_up (λ c p. pruned_now p.reachable) m h in
      let enough = o.rule8 d less.0 (inl can.place.reachable) less.1 in
      omega (arith, less.2, enough)

  pub parent_links : 2 ≤ (users.inode d).links
  parent_links =
      let own = place_of geo users d d 0 can.place.reachable (o.rule5 d can.place.reachable).0 in
      let n = entries_exist geo users d in
      let two = two_counted geo users d (omega (arith, number_low geo d parent_number)) d 0 own.0 own.1 i 1 b place_up (λ e. apart e.0) n.0 n.1 in
      let enough = o.rule8 d n.0 (inl can.place.reachable) n.1 in
      omega (arith, two, enough)

  -- what is gone
  is_witness : (g k : Gone) → IsTrue (same_gone g k) → (g.witness ≡ k.witness) × (g.number ≡ k.number)
  is_witness g k t =
      let p = and_parts (eqb g.number k.number) _ t in
      let p1 = and_parts (eqb g.directory k.directory) _ p.1 in
      let p2 = and_parts (eqb g.slot k.slot) _ p1.1 in
      let p3 = and_parts (eqb g.block k.block) _ p2.1 in
      (eqb-true g.witness k.witness p3.1, eqb-true g.number k.number p.0)

  pub gone_is : (g : Gone) → IsTrue (with_gone.gone g) → (g.witness ≡ block) × ((g.number ≡ i) ⊎ (g.number ≡ d))
  gone_is g t = elim (or_cases (same_gone g (record { number = i; directory = d; slot = s; block = block; witness = block })) _ t) [
    | inl first ↦ let h = is_witness g (record { number = i; directory = d; slot = s; block = block; witness = block }) first in (h.0, inl h.1)
    | inr more ↦ elim (or_cases (same_gone g (record { number = i; directory = i; slot = 0; block = b; witness = block })) _ more) [
      | inl second ↦ let h = is_witness g (record { number = i; directory = i; slot = 0; block = b; witness = block }) second in (h.0, inl h.1)
      | inr last ↦ elim (or_cases (same_gone g (record { number = d; directory = i; slot = 1; block = b; witness = block })) false last) [
        | inl third ↦ let h = is_witness g (record { number = d; directory = i; slot = 1; block = b; witness = block }) third in (h.0, inr h.1)
        | inr none ↦ absurd (both_ways false refl none)
      ]
    ]
  ]

  pub gone_first : (g : Gone) → IsTrue (with_gone.gone g) → Contains (Block block ∷ []) (Block g.witness)
  gone_first g t = subst (λ y. Contains (Block block ∷ []) (Block y)) (sym (gone_is g t).0) (0, omega arith, refl)

  -- nothing is gone of other numbers
  pub none_other : (g : Gone) → (with_gone.gone g && not (eqb g.number i) && not (eqb g.number d)) ≡ false
  none_other g = by (with_gone.gone g) refl
    where
      not_false : (x y : Bool) → (x && not true && y) ≡ false
      not_false true y = refl
      not_false false y = refl

      not_last : (x y : Bool) → (x && y && not true) ≡ false
      not_last true true = refl
      not_last true false = refl
      not_last false y = refl

      by : (t : Bool) → with_gone.gone g ≡ t → (with_gone.gone g && not (eqb g.number i) && not (eqb g.number d)) ≡ false
      by false e = ap (λ x. x && not (eqb g.number i) && not (eqb g.number d)) e
      by true e = elim (gone_is g e).1 [
        | inl mine ↦ ap (λ x. with_gone.gone g && not x && not (eqb g.number d)) (eq-eqb g.number i mine) ∙ not_false (with_gone.gone g) (not (eqb g.number d))
        | inr its ↦ ap (λ x. with_gone.gone g && not (eqb g.number i) && not x) (eq-eqb g.number d its) ∙ not_last (with_gone.gone g) (not (eqb g.number i))
      ]
