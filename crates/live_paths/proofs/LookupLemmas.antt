-- What the first slot that is sought says in each view of which the metadata is kept.
use Rattle.std.proofs.Common.{◌≡◌, ◌≢◌, ◌<◌, ℕ, Bool, true, false, not, ◌&&◌, eqb, leb, List, refl, sym, ap, ◌∙◌, arith, IsTrue, IsFalse, Option, Some, None}
use Rattle.std.specs.Prelude.{MatchOption, IfSome, IfNone, is_some}
use Rattle.std.specs.Borrow.{Bor}
use Rattle.std.proofs.lemmas.Bool.{both_ways}
use Rattle.std.proofs.lemmas.Slice.Eq.{bytes_eq-Decides}
use Rattle.model.specs.View.{View}
use Rattle.model.specs.Slots.{Slot, Absent, Empty, Good, Bad, slot, number_in}
use Rattle.model.specs.Reach.{slot_count}
use Rattle.frozen.specs.Kept.{Kept}
use Rattle.machine.specs.Causes.{has_names}
use Rattle.machine.specs.Paths.{has_name, slot_of}
use Rattle.machine.specs.Room.{has_room, is_empty}
use Rattle.machine.proofs.Decisions.{any_here, any_none}
use Rattle.live_paths.specs.declared.scan.Entry.{Entry}
use Rattle.live_paths.specs.declared.scan.Sought.{Sought}
use Rattle.live_paths.specs.declared.scan.Sought.TheVariants.{Name, Room, AnyName}
use Rattle.live_paths.specs.Shown.{IsShownBy}
use Rattle.live_paths.specs.Sought.{is_sought, kept_slot, IsFirst, NoneIsSought}
use Rattle.live_paths.proofs.Firsts.{first_here, first_none}
use Rattle.live_paths.proofs.ShownLemmas.{shown_slot}

named_is : (x : Slot) (name : List ℕ) → has_name x name ≡ true → x ≡ Good (number_in x) name
named_is Absent name e = absurd (both_ways false refl e)
named_is Empty name e = absurd (both_ways false refl e)
named_is (Good number own) name e = ap (λ n. Good number n) ((bytes_eq-Decides own name).0 e)
named_is Bad name e = absurd (both_ways false refl e)

empty_is : (x : Slot) → is_empty x ≡ true → x ≡ Empty
empty_is Absent e = absurd (both_ways false refl e)
empty_is Empty e = refl
empty_is (Good number name) e = absurd (both_ways false refl e)
empty_is Bad e = absurd (both_ways false refl e)

module _ (kept : Kept) (view : View) (shown : IsShownBy kept view) (d : ℕ) where
  -- what is sought is so in the view
  there : (sought : Sought) (s : ℕ) (b : Bool) → is_sought sought s (kept_slot kept d s) ≡ b → is_sought sought s (slot kept.geometry view d s) ≡ b
  there sought s b e = ap (is_sought sought s) (sym (shown_slot kept view shown d s)) ∙ e

  none_there : (sought : Sought) (end : ℕ) → NoneIsSought kept d sought 0 end → (s : ℕ) → s < end → is_sought sought s (slot kept.geometry view d s) ≡ false
  none_there sought end none s below = there sought s false (none s (omega arith) below)

  -- ---- a name
  module _ (name : Bor (List ℕ)) where
    pub name_good : (e : Entry) → IsFirst kept d (Name name) 0 (slot_count kept.geometry) e → slot kept.geometry view d e.slot ≡ Good e.number name.now
    name_good e first =
        named_is (slot kept.geometry view d e.slot) name.now (there (Name name) e.slot true first.met)
        ∙ ap (λ n. Good n name.now) (ap number_in (sym (shown_slot kept view shown d e.slot)) ∙ first.number)

    pub name_found : (o : Option Entry) → IfSome o (IsFirst kept d (Name name) 0 (slot_count kept.geometry)) → IfNone o (NoneIsSought kept d (Name name) 0 (slot_count kept.geometry))
        → MatchOption o (slot_of kept.geometry view d name.now ≡ None) (λ e. (slot_of kept.geometry view d name.now ≡ Some e.slot) × (number_in (slot kept.geometry view d e.slot) ≡ e.number))
    unfolding slot_of
    name_found None first none = first_none (slot_count kept.geometry) (λ s. has_name (slot kept.geometry view d s) name.now) (none_there (Name name) (slot_count kept.geometry) none)
    name_found (Some e) first none = (
      first_here (slot_count kept.geometry) (λ s. has_name (slot kept.geometry view d s) name.now) e.slot first.below (there (Name name) e.slot true first.met) (none_there (Name name) e.slot first.before),
      ap number_in (name_good e first),
    )

    pub entry_found : (o : Option Entry) → IfSome o (IsFirst kept d (Name name) 0 (slot_count kept.geometry)) → IfSome o (λ e. slot kept.geometry view d e.slot ≡ Good e.number name.now)
    entry_found None first = tt
    entry_found (Some e) first = name_good e first

  -- ---- an empty slot
  pub no_room : NoneIsSought kept d Room 0 (slot_count kept.geometry) → IsFalse (has_room kept.geometry view d)
  no_room none = any_none (slot_count kept.geometry) (λ s. is_empty (slot kept.geometry view d s)) (none_there Room (slot_count kept.geometry) none)

  pub room_found : (e : Entry) → IsFirst kept d Room 0 (slot_count kept.geometry) e
      → (e.slot < slot_count kept.geometry) × (slot kept.geometry view d e.slot ≡ Empty) × ((t : ℕ) → t < e.slot → slot kept.geometry view d t ≢ Empty)
  room_found e first = (
    first.below,
    empty_is (slot kept.geometry view d e.slot) (there Room e.slot true first.met),
    (λ t below empty. both_ways (is_empty (slot kept.geometry view d t)) (none_there Room e.slot first.before t below) (ap is_empty empty)),
  )

  pub has_the_room : (e : Entry) → IsFirst kept d Room 0 (slot_count kept.geometry) e → IsTrue (has_room kept.geometry view d)
  has_the_room e first = any_here (slot_count kept.geometry) (λ s. is_empty (slot kept.geometry view d s)) e.slot first.below (there Room e.slot true first.met)

  -- ---- any name
  pub names_found : (o : Option Entry) → IfSome o (IsFirst kept d AnyName 0 (slot_count kept.geometry)) → IfNone o (NoneIsSought kept d AnyName 0 (slot_count kept.geometry)) → is_some o ≡ has_names kept.geometry view d
  names_found None first none = sym (any_none (slot_count kept.geometry) (λ s. leb 2 s && not (eqb (number_in (slot kept.geometry view d s)) 0)) (none_there AnyName (slot_count kept.geometry) none))
  names_found (Some e) first none = sym (any_here (slot_count kept.geometry) (λ s. leb 2 s && not (eqb (number_in (slot kept.geometry view d s)) 0)) e.slot first.below (there AnyName e.slot true first.met))
