-- A new entry in a directory is one of the path's, and the updates of a command carry it out.
use Rattle.std.proofs.Common.{◌≡◌, ◌+◌, ◌/◌, ℕ, Bool, true, List, [], ◌∷◌, sym, ap, ap₂, ◌∙◌, subst, All, IsTrue, IsFalse, Some, Ok}
use Rattle.std.specs.Prelude.{IfSome, unwrap_or}
use Rattle.std.specs.Result.{result_unwrap_or}
use Rattle.model.specs.Layout.{Geometry, is_number, root}
use Rattle.model.specs.View.{View, Inode}
use Rattle.model.specs.Uses.{blocks_of}
use Rattle.model.specs.Slots.{Empty, slot}
use Rattle.ordering.specs.Cuts.{Pending, users_view}
use Rattle.frozen.specs.Kept.{Kept, KeepsMetadata, frozen_view}
use Rattle.machine.specs.Causes.{Accepts}
use Rattle.machine.specs.Cells.{IsEntryFor, block_of}
use Rattle.machine.specs.Command.{Answer, Command, Create, Done, Link, Mkdir, Number}
use Rattle.machine.specs.Effects.{file_with, AreDots, with_links}
use Rattle.machine.specs.Paths.{holder, last_part, name_in, number_at, parts_of, target, walk}
use Rattle.machine.specs.Room.{IsFreeBlock, IsFreeNumber, has_room}
use Rattle.machine.specs.State.{State}
use Rattle.machine.proofs.Decisions.{reachable_sound, sound_parts}
use Rattle.machine.proofs.Walks.{parts_good, target_reachable}
use Rattle.metadata.specs.Shown.{Shows}
use Rattle.metadata.proofs.ShownLemmas.{shows_metadata}
use Rattle.plans_data.specs.Append.{IsKeptIn}
use Rattle.plans_data.specs.Carried.{Stands}
use Rattle.plans_data.specs.Now.{now}
use Rattle.plans_naming.specs.Create.{born}
use Rattle.plans_naming.specs.Entries.{HasBlocks, HasOtherBlocks, slot_written}
use Rattle.plans_naming.specs.Grow.{empty_block, grown}
use Rattle.plans_naming.specs.Link.{raised}
use Rattle.plans_naming.specs.Make.{made}
use Rattle.plans_naming.specs.Plans.{create_plan, create_plan_grown, link_plan, link_plan_grown, make_plan, make_plan_grown, slot_block}
use Rattle.courses.specs.After.{IsBeforeEntry}
use Rattle.courses.specs.Done.{IsDoneBy, InSlot, InNewBlock, CreatesInSlot, CreatesInNewBlock, LinksInSlot, LinksInNewBlock, MakesInSlot, MakesInNewBlock}
use Rattle.live_paths.specs.Shown.{IsShownBy}
use Rattle.live_places.specs.Chosen.{AreChosen, IsEmptySlot, IsNewBlock, IsOther, IsOwn, IsPlace}
use Rattle.live_places.specs.declared.choosing.Places.{Places}
use Rattle.live_places.specs.declared.choosing.Place.{Place}
use Rattle.live_places.specs.declared.choosing.Place.TheVariants.{Slot, NewBlock}
use Rattle.live_states.specs.Drafts.{Draft, over}
use Rattle.live_plans.specs.Entered.{EntersAt, EntersNewBlock, EntersSlot}
use Rattle.live_plans.proofs.NewBlocks.{are_apart, others}
use Rattle.live_states.specs.Planned.{IsOfVolume, IsPlanned}
use Rattle.live_plans.specs.declared.entering.NewEntry.{NewEntry}
use Rattle.live_creations.specs.Made.{Created, DirectoryMade, Linked, Makes}
use Rattle.live_creations.specs.Named.{IsFile, IsNewIn}

-- ---- the entry
module _ (geo : Geometry) (view : View) (path : List ℕ) (ps : List (List ℕ)) (e : parts_of path ≡ Some ps) (d : ℕ) (way : walk geo view root ps ≡ Ok d) (n : ℕ) (old new : Draft) where
  pub to : holder geo view path ≡ d
  to = ap (λ o. result_unwrap_or (walk geo view root (unwrap_or o [])) 0) e ∙ ap (λ r. result_unwrap_or r 0) way

  says_it : (entry : List ℕ) → IsEntryFor n (last_part ps) entry → IsEntryFor n (name_in path) entry
  says_it entry says = subst (λ name. IsEntryFor n name entry) (sym (ap (λ o. last_part (unwrap_or o [])) e)) says

  module _ (s block : ℕ) (empty : IsEmptySlot geo view d s block) where
    pub at : block ≡ slot_block geo view path s
    at = sym (ap (λ h. block_of geo view h (s / 16)) to ∙ ap (λ o. unwrap_or o 0) empty.stands)

    pub in_slot : (x : EntersSlot geo view d n (last_part ps) s block old new) → InSlot geo view path n s x.entry x.after
    in_slot x = record {
      empty = subst (λ h. slot geo view h s ≡ Empty) (sym to) empty.empty;
      says = says_it x.entry x.says;
      record_first = x.record_first;
      others_first = subst (λ h. HasOtherBlocks geo view h (slot_block geo view path s) x.after) (sym to) (subst (λ b. HasOtherBlocks geo view d b x.after) at x.others_first);
      only = subst (λ h. All (IsBeforeEntry geo view h n) x.after) (sym to) x.only;
    }

  pub in_new_block : (inode : Inode) (block : ℕ) (tables : List ℕ) → IsNewBlock geo view d block tables → (x : EntersNewBlock geo view d inode n (last_part ps) block tables old new)
      → InNewBlock geo view path n block x.kept x.slot x.entry x.after
  in_new_block inode block tables is x = record {
    full = subst (λ h. IsFalse (has_room geo view h)) (sym to) is.none;
    free = is.choice.free;
    keeps = subst (λ h. IsKeptIn geo view h (blocks_of (view.inode h).size) block x.kept) (sym to) x.keeps;
    apart = are_apart geo view (blocks_of (view.inode d).size) block tables x.kept x.tables is.choice;
    stands = subst (λ h. x.slot / 16 ≡ blocks_of (view.inode h).size) (sym to) x.stands;
    says = says_it x.entry x.says;
    record_first = x.record_first;
    blocks_first = subst (λ h. HasBlocks geo view h x.after) (sym to) x.blocks_first;
    only = subst (λ h. All (IsBeforeEntry geo view h n) x.after) (sym to) x.only;
  }

-- ---- a command is carried out by an equal list, in the name of an equal number, with an equal answer
pub done_as : (geo : Geometry) (disk : View) (q : List Pending) (old : State) (safe : ℕ → Bool) (command : Command) (answer : ℕ → Answer) (n m : ℕ) (u w : List Pending)
    → m ≡ n → w ≡ u → IsDoneBy geo disk q old safe command (answer n) n u (now disk u old) safe → IsDoneBy geo disk q old safe command (answer m) m w (now disk w old) safe
done_as geo disk q old safe command answer n m u w number list done =
    subst (λ k. IsDoneBy geo disk q old safe command (answer k) k w (now disk w old) safe) (sym number)
    (subst (λ l. IsDoneBy geo disk q old safe command (answer n) n l (now disk l old) safe) (sym list) done)

-- what users see over a device is what is kept
pub seen : (kept : Kept) (disk : View) (q : List Pending) (old : State) (safe : ℕ → Bool) → Stands kept.geometry disk q old safe → Shows kept old.view → Shows kept (users_view disk q)
seen kept disk q old safe stands shows = subst (λ v. Shows kept v) (sym stands.same) shows

pub free_number : (kept : Kept) (view : View) → Shows kept view → (n : ℕ) → IsFreeNumber kept.geometry (frozen_view kept) n → IsFreeNumber kept.geometry view n
free_number kept view shows n free = record { number = free.number; unmarked = sym (shows.number_marked n) ∙ free.unmarked }

-- ---- a new file
module _ (geo : Geometry) (disk : View) (q : List Pending) (old : State) (safe : ℕ → Bool) (path words : List ℕ) (ps : List (List ℕ)) (e : parts_of path ≡ Some ps) (d : ℕ) (way : walk geo (users_view disk q) root ps ≡ Ok d)
    (n : ℕ) (free : IsFreeNumber geo (users_view disk q) n) (draft named : Draft) (file : draft.file ≡ n) (names : over q named.updates ≡ born n (file_with words) [] q) where
  abbrev view : View
  view = users_view disk q

  pub create_done : (place : Place) → IsPlace geo view d place → EntersAt geo view d (view.inode d) n (last_part ps) place named draft
      → IsDoneBy geo disk q old safe (Create path words) (Number draft.file) draft.file (over q draft.updates) (now disk (over q draft.updates) old) safe
  create_done (Slot s block) is x =
      done_as geo disk q old safe (Create path words) Number n draft.file (create_plan geo view path words n s x.entry x.after q) (over q draft.updates) file
      (x.goes_on.pending q ∙ ap₂ (λ b l. slot_written b (view.bytes b) s x.entry x.after ∷ l) (at geo view path ps e d way n named draft s block is) names)
      (CreatesInSlot path words n s x.entry x.after free (in_slot geo view path ps e d way n named draft s block is x))
  create_done (NewBlock block tables) is x =
      done_as geo disk q old safe (Create path words) Number n draft.file (create_plan_grown geo view path words n block x.kept x.slot x.entry x.after q) (over q draft.updates) file
      (x.goes_on.pending q ∙ ap₂ (λ h l. slot_written block empty_block x.slot x.entry x.after ∷ grown geo h (view.inode h) block x.kept l) (sym (to geo view path ps e d way n named draft)) names)
      (CreatesInNewBlock path words n block x.kept x.slot x.entry x.after free (in_new_block geo view path ps e d way n named draft (view.inode d) block tables is x))

pub entered_geometry : (geo : Geometry) (v : View) (d : ℕ) (inode : Inode) (n : ℕ) (name : List ℕ) (place : Place) (old new : Draft) → EntersAt geo v d inode n name place old new → new.geometry ≡ old.geometry
entered_geometry geo v d inode n name (Slot s block) old new enters = enters.goes_on.geometry
entered_geometry geo v d inode n name (NewBlock block tables) old new enters = enters.goes_on.geometry

pub entered_file : (geo : Geometry) (v : View) (d : ℕ) (inode : Inode) (n : ℕ) (name : List ℕ) (place : Place) (old new : Draft) → EntersAt geo v d inode n name place old new → new.file ≡ old.file
entered_file geo v d inode n name (Slot s block) old new enters = enters.goes_on.file
entered_file geo v d inode n name (NewBlock block tables) old new enters = enters.goes_on.file

module _ (geo : Geometry) (view : View) (new : NewEntry) (first : List Pending → List Pending) (draft : Draft) (makes : Makes geo view new first draft) where
  pub made_geometry : draft.geometry ≡ geo
  made_geometry = entered_geometry geo view new.directory new.parent new.number new.name.now new.place makes.named draft makes.enters ∙ makes.names.geometry

  pub made_file : draft.file ≡ new.number
  made_file = entered_file geo view new.directory new.parent new.number new.name.now new.place makes.named draft makes.enters ∙ makes.names.file

-- and by the name and the record that the directory has
pub entered_as : (geo : Geometry) (view : View) (new : NewEntry) (name : List ℕ) (parent : Inode) (named draft : Draft) → new.name.now ≡ name → new.parent ≡ parent
    → EntersAt geo view new.directory new.parent new.number new.name.now new.place named draft → EntersAt geo view new.directory parent new.number name new.place named draft
entered_as geo view new name parent named draft is record_is enters =
    subst (λ ns. EntersAt geo view new.directory parent new.number ns new.place named draft) is
    (subst (λ (i : Inode). EntersAt geo view new.directory i new.number new.name.now new.place named draft) record_is enters)

pub create_planned : (kept : Kept) (path words : List ℕ) (ps : List (List ℕ)) (new : NewEntry) (draft : Draft) → KeepsMetadata kept → IsOfVolume kept → parts_of path ≡ Some ps
    → new.name.now ≡ last_part ps → new.parent ≡ (frozen_view kept).inode new.directory → IsFreeNumber kept.geometry (frozen_view kept) new.number
    → ((view : View) → IsShownBy kept view → IsNewIn kept.geometry view ps new.directory) → ((view : View) → IsShownBy kept view → IsPlace kept.geometry view new.directory new.place)
    → ((old : State) → Shows kept old.view → Accepts kept.geometry old (Create path words))
    → ((view : View) → Shows kept view → Created kept.geometry view new words draft) → IsPlanned kept (Create path words) (Number draft.file) draft
create_planned kept path words ps new draft keeps volume e name parent free is fits accepts created =
    let here = created volume.old.view volume.shows in
    record {
      geometry = made_geometry kept.geometry volume.old.view new (born new.number (file_with words) []) draft here;
      accepted = accepts;
      done = λ disk q old safe stands shows.
          let view = users_view disk q in
          let sees = seen kept disk q old safe stands shows in
          let shown = shows_metadata kept view keeps sees in
          let makes = created view sees in
          create_done kept.geometry disk q old safe path words ps e new.directory (is view shown).directory new.number (free_number kept view sees new.number free) draft makes.named
          (made_file kept.geometry view new (born new.number (file_with words) []) draft makes) (makes.names.pending q) new.place (fits view shown)
          (entered_as kept.geometry view new (last_part ps) (view.inode new.directory) makes.named draft name (parent ∙ sees.inode new.directory) makes.enters);
    }

-- ---- a file's other name
module _ (geo : Geometry) (disk : View) (q : List Pending) (old : State) (safe : ℕ → Bool) (path other : List ℕ) (ps qs : List (List ℕ)) (f : parts_of path ≡ Some ps) (e : parts_of other ≡ Some qs)
    (d : ℕ) (way : walk geo (users_view disk q) root qs ≡ Ok d) (n : ℕ) (leads : target geo (users_view disk q) ps ≡ Ok n) (draft named : Draft) (file : draft.file ≡ n)
    (names : over q named.updates ≡ raised n ((users_view disk q).inode n) q) where
  abbrev users : View
  users = users_view disk q

  number_is : number_at geo users path ≡ n
  number_is = ap (λ o. result_unwrap_or (target geo users (unwrap_or o [])) 0) f ∙ ap (λ r. result_unwrap_or r 0) leads

  pub linked_done : (place : Place) → IsPlace geo users d place → EntersAt geo users d (users.inode d) n (last_part qs) place named draft
      → IsDoneBy geo disk q old safe (Link path other) Done draft.file (over q draft.updates) (now disk (over q draft.updates) old) safe
  linked_done (Slot s block) is x =
      let m = number_at geo users path in
      done_as geo disk q old safe (Link path other) (λ k. Done) m draft.file (link_plan geo users path other s x.entry x.after q) (over q draft.updates) (file ∙ sym number_is)
      (x.goes_on.pending q ∙ ap₂ (λ b l. slot_written b (users.bytes b) s x.entry x.after ∷ l) (at geo users other qs e d way n named draft s block is)
      (names ∙ ap (λ k. raised k (users.inode k) q) (sym number_is)))
      (LinksInSlot path other s x.entry x.after (subst (λ k. InSlot geo users other k s x.entry x.after) (sym number_is) (in_slot geo users other qs e d way n named draft s block is x)))
  linked_done (NewBlock block tables) is x =
      let m = number_at geo users path in
      done_as geo disk q old safe (Link path other) (λ k. Done) m draft.file (link_plan_grown geo users path other block x.kept x.slot x.entry x.after q) (over q draft.updates) (file ∙ sym number_is)
      (x.goes_on.pending q ∙ ap₂ (λ h l. slot_written block empty_block x.slot x.entry x.after ∷ grown geo h (users.inode h) block x.kept l) (sym (to geo users other qs e d way n named draft))
      (names ∙ ap (λ k. raised k (users.inode k) q) (sym number_is)))
      (LinksInNewBlock path other block x.kept x.slot x.entry x.after
      (subst (λ k. InNewBlock geo users other k block x.kept x.slot x.entry x.after) (sym number_is) (in_new_block geo users other qs e d way n named draft (users.inode d) block tables is x)))

pub link_planned : (kept : Kept) (path other : List ℕ) (ps qs : List (List ℕ)) (new : NewEntry) (draft : Draft) → KeepsMetadata kept → IsOfVolume kept → parts_of path ≡ Some ps → parts_of other ≡ Some qs
    → new.name.now ≡ last_part qs → new.parent ≡ (frozen_view kept).inode new.directory
    → ((view : View) → IsShownBy kept view → IsFile kept.geometry view ps new.number)
    → ((view : View) → IsShownBy kept view → IsNewIn kept.geometry view qs new.directory) → ((view : View) → IsShownBy kept view → IsPlace kept.geometry view new.directory new.place)
    → ((old : State) → Shows kept old.view → Accepts kept.geometry old (Link path other))
    → ((view : View) → Shows kept view → Linked kept.geometry view new draft) → IsPlanned kept (Link path other) Done draft
link_planned kept path other ps qs new draft keeps volume f e name parent file is fits accepts linked =
    let here = linked volume.old.view volume.shows in
    record {
      geometry = made_geometry kept.geometry volume.old.view new (raised new.number (volume.old.view.inode new.number)) draft here;
      accepted = accepts;
      done = λ disk q old safe stands shows.
          let view = users_view disk q in
          let sees = seen kept disk q old safe stands shows in
          let shown = shows_metadata kept view keeps sees in
          let makes = linked view sees in
          linked_done kept.geometry disk q old safe path other ps qs f e new.directory (is view shown).directory new.number (file view shown).leads draft makes.named
          (made_file kept.geometry view new (raised new.number (view.inode new.number)) draft makes) (makes.names.pending q) new.place (fits view shown)
          (entered_as kept.geometry view new (last_part qs) (view.inode new.directory) makes.named draft name (parent ∙ sees.inode new.directory) makes.enters);
    }

-- on a volume a file's number is one
pub file_number : (kept : Kept) (volume : IsOfVolume kept) (path : List ℕ) (ps : List (List ℕ)) (i : ℕ) → parts_of path ≡ Some ps → target kept.geometry volume.old.view ps ≡ Ok i → IsTrue (is_number kept.geometry i)
file_number kept volume path ps i f leads =
    let view = volume.old.view in
    (sound_parts kept.geometry view i (reachable_sound kept.geometry view i (target_reachable kept.geometry view volume.stands.balance.rules ps i (parts_good path ps f) leads))).0

-- ---- a new directory
-- the places that were chosen for one
pub record HasPlaces (geo : Geometry) (view : View) (d own : ℕ) (place : Place) : Type 0 where
  pub free : IsFreeBlock geo view own
  pub fits : IsPlace geo view d place
  pub apart : IsOther place own

pub has_places : (geo : Geometry) (view : View) (d own : ℕ) (places : Places) → places.own ≡ Some own → AreChosen geo view d true places → HasPlaces geo view d own places.place
has_places geo view d own places is chosen = record {
  free = (subst (IsOwn geo view true) is chosen.own).1;
  fits = chosen.place;
  apart = subst (λ o. IfSome o (IsOther places.place)) is chosen.apart;
}

module _ (geo : Geometry) (disk : View) (q : List Pending) (old : State) (safe : ℕ → Bool) (path words : List ℕ) (ps : List (List ℕ)) (e : parts_of path ≡ Some ps) (d : ℕ) (way : walk geo (users_view disk q) root ps ≡ Ok d)
    (n : ℕ) (free : IsFreeNumber geo (users_view disk q) n) (own : ℕ) (dots : List ℕ) (are : AreDots n d dots) (draft named : Draft) (file : draft.file ≡ n)
    (names : over q named.updates ≡ made n own words dots d ((users_view disk q).inode d) q) where
  abbrev seen_by : View
  seen_by = users_view disk q

  is_to : holder geo seen_by path ≡ d
  is_to = to geo seen_by path ps e d way n named draft

  dots_there : AreDots n (holder geo seen_by path) dots
  dots_there = subst (λ h. AreDots n h dots) (sym is_to) are

  names_there : over q named.updates ≡ made n own words dots (holder geo seen_by path) (seen_by.inode (holder geo seen_by path)) q
  names_there = names ∙ ap (λ h. made n own words dots h (seen_by.inode h) q) (sym is_to)

  pub mkdir_done : (place : Place) → HasPlaces geo seen_by d own place
      → EntersAt geo seen_by d (with_links (seen_by.inode d) ((seen_by.inode d).links + 1)) n (last_part ps) place named draft
      → IsDoneBy geo disk q old safe (Mkdir path words) (Number draft.file) draft.file (over q draft.updates) (now disk (over q draft.updates) old) safe
  mkdir_done (Slot s block) has x =
      done_as geo disk q old safe (Mkdir path words) Number n draft.file (make_plan geo seen_by path words n own dots s x.entry x.after q) (over q draft.updates) file
      (x.goes_on.pending q ∙ ap₂ (λ b l. slot_written b (seen_by.bytes b) s x.entry x.after ∷ l) (at geo seen_by path ps e d way n named draft s block has.fits) names_there)
      (MakesInSlot path words n own dots s x.entry x.after free has.free dots_there (in_slot geo seen_by path ps e d way n named draft s block has.fits x))
  mkdir_done (NewBlock block tables) has x =
      done_as geo disk q old safe (Mkdir path words) Number n draft.file (make_plan_grown geo seen_by path words n own dots block x.kept x.slot x.entry x.after q) (over q draft.updates) file
      (x.goes_on.pending q
      ∙ ap₂ (λ h l. slot_written block empty_block x.slot x.entry x.after ∷ grown geo h (with_links (seen_by.inode h) ((seen_by.inode h).links + 1)) block x.kept l) (sym is_to) names_there)
      (MakesInNewBlock path words n own dots block x.kept x.slot x.entry x.after free has.free dots_there (others own block tables x.kept x.tables has.apart)
      (in_new_block geo seen_by path ps e d way n named draft (with_links (seen_by.inode d) ((seen_by.inode d).links + 1)) block tables has.fits x))

pub mkdir_planned : (kept : Kept) (path words : List ℕ) (ps : List (List ℕ)) (new : NewEntry) (own : ℕ) (draft : Draft) → KeepsMetadata kept → IsOfVolume kept → parts_of path ≡ Some ps
    → new.name.now ≡ last_part ps → new.parent ≡ with_links ((frozen_view kept).inode new.directory) (((frozen_view kept).inode new.directory).links + 1)
    → IsFreeNumber kept.geometry (frozen_view kept) new.number
    → ((view : View) → IsShownBy kept view → IsNewIn kept.geometry view ps new.directory) → ((view : View) → IsShownBy kept view → HasPlaces kept.geometry view new.directory own new.place)
    → ((old : State) → Shows kept old.view → Accepts kept.geometry old (Mkdir path words))
    → ((view : View) → Shows kept view → DirectoryMade kept.geometry view new own words draft) → IsPlanned kept (Mkdir path words) (Number draft.file) draft
mkdir_planned kept path words ps new own draft keeps volume e name parent free is fits accepts makes_it =
    let here = makes_it volume.old.view volume.shows in
    record {
      geometry = made_geometry kept.geometry volume.old.view new (made new.number own words here.dots new.directory (volume.old.view.inode new.directory)) draft here.makes;
      accepted = accepts;
      done = λ disk q old safe stands shows.
          let view = users_view disk q in
          let sees = seen kept disk q old safe stands shows in
          let shown = shows_metadata kept view keeps sees in
          let there = makes_it view sees in
          mkdir_done kept.geometry disk q old safe path words ps e new.directory (is view shown).directory new.number (free_number kept view sees new.number free) own there.dots there.are_dots draft there.makes.named
          (made_file kept.geometry view new (made new.number own words there.dots new.directory (view.inode new.directory)) draft there.makes) (there.makes.names.pending q) new.place (fits view shown)
          (entered_as kept.geometry view new (last_part ps) (with_links (view.inode new.directory) ((view.inode new.directory).links + 1)) there.makes.named draft name
          (parent ∙ ap (λ (i : Inode). with_links i (i.links + 1)) (sees.inode new.directory)) there.makes.enters);
    }
