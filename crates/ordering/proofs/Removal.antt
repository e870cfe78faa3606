-- A name of a file is removed by two updates, each of its kind.
use Rattle.std.proofs.Common.{◌≡◌, ℕ, ◌<◌, ◌≤◌, Bool, cond, eqb, List, [], ◌∷◌, inl, inr, refl, sym, ap, subst, IsFalse, arith, Contains, eq-eqb, ne_eqb}
use Rattle.std.proofs.lemmas.Bool.{both_ways, cond-true, cond-false, or_cases, and_from}
use Rattle.model.specs.Layout.{Geometry, inode_count}
use Rattle.model.specs.View.{View, Inode}
use Rattle.model.specs.Cells.{SetBytes, updated}
use Rattle.model.specs.Slots.{Good, Empty, slot, number_in, Names}
use Rattle.model.specs.Reach.{IsReachable, IsReachableDirectory, HasEntries, entries_of, entries_in, names_once, slot_count}
use Rattle.model.specs.Rules.{ObeysRules}
use Rattle.model.specs.Layout.{is_number}
use Rattle.model.specs.Uses.{is_sound}
use Rattle.model.proofs.Sums.{sum-lt}
use Rattle.model.proofs.Finite.{reachable_set}
use Rattle.model.proofs.SlotLemmas.{names_from_number, number_from_names, names_stands, number_low, number_below, directory_number, reachable_directory}
use Rattle.model.proofs.EntryCounts.{once_le, in_le}
use Rattle.model.proofs.SlotChange.{slot_before}
use Rattle.model.proofs.SameReach.{reach_kept, SameReach}
use Rattle.ordering.specs.Cuts.{Block, Pending, users_view}
use Rattle.ordering.specs.Places.{HasPlace}
use Rattle.ordering.specs.Ghosts.{Ghost, Gone}
use Rattle.ordering.specs.Agrees.{AllAgree}
use Rattle.ordering.specs.Kinds.{MayLower, settled}
use Rattle.ordering.specs.OneSlot.{removed, is_gone_at}
use Rattle.ordering.specs.Remove.{removal, MayRemoveName}
use Rattle.ordering.proofs.Places.{place_of, slot_change, places_stay}
use Rattle.ordering.proofs.Bits.{users_obey}
use Rattle.ordering.proofs.Records.{lower_keeps}
use Rattle.ordering.proofs.SlotKinds.{remove_keeps, reach, place_was, gone_parts}

-- one place fewer is one entry fewer
pub entries_less : (geo : Geometry) (v w : View) (i d s : ℕ) → 1 ≤ i → ((e t b : ℕ) → HasPlace geo v i e t b → HasPlace geo w i e t b)
    → IsReachableDirectory geo v d → IsReachableDirectory geo w d → Names geo w d s i → (Names geo v d s i → ⊥) → (m : ℕ) → HasEntries geo v i m → (n : ℕ) × HasEntries geo w i n × (m < n)
entries_less geo v w i d s low within there then names gone m h =
    let other = reachable_set geo w in
    let at = names_stands geo w d s i names in
    let stay = places_stay geo v w i within in
    let strict : entries_in geo v i d < entries_in geo w i d =
    sum-lt (slot_count geo) (names_once geo v i d) (names_once geo w i d) s (λ t b. once_le geo v w i low stay d t there) at.place.below once_lt in
    let mine : cond (h.0 d) (entries_in geo v i d) 0 ≡ entries_in geo v i d = ap (λ b. cond b (entries_in geo v i d) 0) ((h.1 d).1 there) in
    let yours : cond (other.0 d) (entries_in geo w i d) 0 ≡ entries_in geo w i d = ap (λ b. cond b (entries_in geo w i d) 0) ((other.1 d).1 then) in
    let less = sum-lt (inode_count geo) (λ e. cond (h.0 e) (entries_in geo v i e) 0) (λ e. cond (other.0 e) (entries_in geo w i e) 0) d
    (λ e b. in_le geo v w i low stay h.0 other.0 h.1 other.1 e) (number_below geo d (directory_number geo w d (reachable_directory geo w d then)))
    (omega (arith, strict, mine, yours)) in
    (entries_of geo w other.0 i, (other.0, other.1, refl), omega (arith, less, h.2))
  where
    once_lt : names_once geo v i d s < names_once geo w i d s
    once_lt =
        let one : names_once geo w i d s ≡ 1 = cond-true (eqb (number_in (slot geo w d s)) i) 1 0 (eq-eqb (number_in (slot geo w d s)) i (number_from_names geo w d s i names)) in
        let none : names_once geo v i d s ≡ 0 = cond-false (eqb (number_in (slot geo v d s)) i) 1 0 (ne_eqb (number_in (slot geo v d s)) i (λ e. gone (names_from_number geo v d s i low e))) in
        omega (arith, one, none)

pub removal_keeps : (geo : Geometry) (disk : View) (q : List Pending) (ghost : Ghost) (safe : ℕ → Bool) (block : ℕ) (bytes : List ℕ) (d s i : ℕ) (name : List ℕ) (fewer : Inode)
    → ((g : Gone) → IsFalse (ghost.gone g)) → MayRemoveName geo (users_view disk q) ghost safe block bytes d s i name fewer
    → AllAgree geo disk q ghost → AllAgree geo disk (removal i fewer block bytes q) (settled i (removed i d s block safe ghost))
removal_keeps geo disk q ghost safe block bytes d s i name fewer none may all =
    lower_keeps geo disk q1 (removed i d s block safe ghost) (Block block ∷ []) i fewer lower (remove_keeps geo disk q ghost [] block bytes d s i name safe may.remove all)
  where
    u0 : View
    u0 = users_view disk q

    u1 : View
    u1 = updated u0 (SetBytes block bytes)

    q1 : List Pending
    q1 = record { change = SetBytes block bytes; after = [] } ∷ q

    rules : ObeysRules geo u0
    rules = users_obey geo disk q ghost all

    names : Names geo u0 d s i
    names = (name, slot_before geo u0 block bytes d s (Good i name) Empty (slot_change may.remove.change.slot) rules.rule3)

    same : SameReach geo u0 u1
    same = reach geo disk q ghost [] block bytes d s i name safe may.remove rules

    was : (j e t c : ℕ) → HasPlace geo u1 j e t c → HasPlace geo u0 j e t c × ((e ≡ d) × (t ≡ s) → ⊥)
    was = place_was geo disk q ghost [] block bytes d s i name safe may.remove rules u0 (slot_change may.remove.change.slot) rules.rule3 same

    lower : MayLower geo u1 (removed i d s block safe ghost) (Block block ∷ []) i fewer
    lower = record {
      body = may.body;
      witnesses = λ g t e. elim (or_cases (is_gone_at g i d s block) (ghost.gone g) t) [
        | inl here ↦ subst (λ x. Contains (Block block ∷ []) (Block x)) (sym (gone_parts g i d s block here).witness) (0, omega arith, refl)
        | inr old ↦ absurd (both_ways (ghost.gone g) (none g) old)
      ];
      links = λ m h.
          let number = (names_stands geo u0 d s i names).number in
          let there = reach_kept geo u0 u1 same d may.remove.change.reachable in
          let less = entries_less geo u1 u0 i d s (omega (arith, number_low geo i number)) (λ e t b p. (was i e t b p).0) there may.remove.change.reachable names
          (λ n. let p = place_of geo u1 i d s there n in (was i d s p.0 p.1).1 (refl, refl)) m h in
          let entry : IsReachable geo u0 i = inr (and_from (is_number geo i) (is_sound geo (u0.inode i)) number may.body.sound, d, s, record { reachable = may.remove.change.reachable; after_dots = may.remove.change.after_dots; names = names }) in
          let enough = rules.rule8 i less.0 entry less.1 in
          let few = may.links in
          omega (arith, enough, less.2, few);
    }
