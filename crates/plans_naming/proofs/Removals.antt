-- A name of a file goes, and then a link: each in its order, whatever else the first one comes after.
use Rattle.std.proofs.Common.{◌≡◌, ◌≤◌, ◌+◌, ℕ, Bool, false, eqb, List, [], ◌∷◌, inl, inr, refl, sym, subst, arith, IsTrue, Contains, eq-eqb}
use mathlib.Core.Path.{fun_ext}
use Rattle.std.proofs.lemmas.Bool.{both_ways, and_from, or_cases}
use Rattle.model.specs.Layout.{Geometry, is_number}
use Rattle.model.specs.View.{View, Inode}
use Rattle.model.specs.Cells.{SetInode, SetBytes}
use Rattle.model.specs.Uses.{is_sound}
use Rattle.model.specs.Slots.{Empty, Good, Names}
use Rattle.model.specs.Reach.{HasEntries, IsReachable}
use Rattle.model.specs.Rules.{ObeysRules}
use Rattle.model.proofs.SlotLemmas.{number_low, names_stands}
use Rattle.model.proofs.SameReach.{reach_kept, SameReach}
use Rattle.model.proofs.SlotChange.{slot_before}
use Rattle.ordering.specs.Cuts.{Cell, Block, Pending, users_view}
use Rattle.ordering.specs.Places.{HasPlace}
use Rattle.ordering.specs.Ghosts.{Ghost, Gone, at_rest}
use Rattle.ordering.specs.Agrees.{AllAgree}
use Rattle.ordering.specs.Kinds.{SameBody, MayLower, settled}
use Rattle.ordering.specs.OneSlot.{ChangesSlot, MayRemove, HasOtherName, removed, is_gone_at}
use Rattle.ordering.specs.Histories.{Removes, Lowers}
use Rattle.ordering.proofs.Bits.{users_obey}
use Rattle.ordering.proofs.Places.{place_of, slot_change}
use Rattle.ordering.proofs.SlotKinds.{reach, place_was, gone_parts}
use Rattle.ordering.proofs.Removal.{entries_less}
use Rattle.plans_data.specs.Issues.{Issues, Nothing, Then}
use Rattle.plans_naming.proofs.Rests.{same_ghost, out_again}

module _ (geo : Geometry) (disk : View) (q : List Pending) (held safe : ℕ → Bool)
    (after : List Cell) (block : ℕ) (bytes : List ℕ) (d s i : ℕ) (name : List ℕ) (safe' : ℕ → Bool)
    (change : ChangesSlot geo (users_view disk q) block bytes d s (Good i name) Empty) (file : ((users_view disk q).inode i).mode ≡ 1)
    (fewer_safe : (f : ℕ) → IsTrue (safe' f) → IsTrue (safe f)) (other_name : IsTrue (safe' i) → HasOtherName geo (users_view disk q) after block i)
    (all : AllAgree geo disk q (at_rest held safe)) where
  abbrev ghost : Ghost
  ghost = at_rest held safe

  abbrev pub gone : Ghost
  gone = removed i d s block safe' ghost

  abbrev users : View
  users = users_view disk q

  abbrev pub q1 : List Pending
  q1 = record { change = SetBytes block bytes; after = after } ∷ q

  abbrev users1 : View
  users1 = users_view disk q1

  o : ObeysRules geo users
  o = users_obey geo disk q ghost all

  remove : MayRemove geo users ghost safe' after block bytes d s i name
  remove = record { change = change; file = file; not_entering = refl; fewer_safe = fewer_safe; other_name = other_name }

  pub removed_leads : Issues geo disk q ghost q1 gone
  removed_leads = Then (record { change = SetBytes block bytes; after = after }) gone Nothing (Removes after block bytes d s i name safe' remove)

  names_it : Names geo users d s i
  names_it = (name, slot_before geo users block bytes d s (Good i name) Empty (slot_change change.slot) o.rule3)

  pub it_number : IsTrue (is_number geo i)
  it_number = (names_stands geo users d s i names_it).number

  pub it_sound : IsTrue (is_sound geo (users.inode i))
  it_sound = o.rule6.sound d s i change.reachable names_it

  pub it_reachable : IsReachable geo users i
  it_reachable = inr (and_from (is_number geo i) (is_sound geo (users.inode i)) it_number it_sound, d, s, record { reachable = change.reachable; after_dots = change.after_dots; names = names_it })

  same : SameReach geo users users1
  same = reach geo disk q ghost after block bytes d s i name safe' remove o

  pub was : (j e t c : ℕ) → HasPlace geo users1 j e t c → HasPlace geo users j e t c × ((e ≡ d) × (t ≡ s) → ⊥)
  was = place_was geo disk q ghost after block bytes d s i name safe' remove o users (slot_change change.slot) o.rule3 same

  -- it has an entry fewer
  pub fewer_left : (m : ℕ) → HasEntries geo users1 i m → m + 1 ≤ (users.inode i).links
  fewer_left m h =
      let there = reach_kept geo users users1 same d change.reachable in
      let less = entries_less geo users1 users i d s (omega (arith, number_low geo i it_number)) (λ e t b p. (was i e t b p).0) there change.reachable names_it
      (λ n. let p = place_of geo users1 i d s there n in (was i d s p.0 p.1).1 (refl, refl)) m h in
      let enough = o.rule8 i less.0 it_reachable less.1 in
      omega (arith, less.2, enough)

  pub gone_witness : (g : Gone) → IsTrue (gone.gone g) → Contains (Block block ∷ []) (Block g.witness)
  gone_witness g t = elim (or_cases (is_gone_at g i d s block) false t) [
    | inl here ↦ subst (λ y. Contains (Block block ∷ []) (Block y)) (sym (gone_parts g i d s block here).witness) (0, omega arith, refl)
    | inr none ↦ absurd (both_ways false refl none)
  ]

  pub at_rest_again : settled i gone ≡ at_rest held safe'
  at_rest_again = same_ghost refl (fun_ext (λ g. out_again (is_gone_at g i d s block) (eqb g.number i) (λ t. eq-eqb g.number i (gone_parts g i d s block t).number))) refl refl refl refl

  pub lower_leads : (x : Inode) → SameBody geo (users.inode i) x → (users.inode i).links ≤ x.links + 1
      → Issues geo disk q ghost (record { change = SetInode i x; after = Block block ∷ [] } ∷ q1) (at_rest held safe')
  lower_leads x body links =
      let lower : MayLower geo users1 gone (Block block ∷ []) i x = record {
        body = body;
        witnesses = λ g t e. gone_witness g t;
        links = λ m h. (let few = fewer_left m h in omega (arith, few, links));
      } in
      subst (λ g. Issues geo disk q ghost (record { change = SetInode i x; after = Block block ∷ [] } ∷ q1) g) at_rest_again
      (Then (record { change = SetInode i x; after = Block block ∷ [] }) (settled i gone) removed_leads (Lowers (Block block ∷ []) i x lower))
