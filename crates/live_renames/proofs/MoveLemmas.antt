-- What the updates of a file that loses a name do, one after the other.
use Rattle.std.proofs.Common.{◌≡◌, ◌+◌, ℕ, List, [], ◌∷◌, All, arith, ap, ap₂, map, subst, sym, ◌∙◌}
use Rattle.model.specs.Layout.{Geometry}
use Rattle.model.specs.View.{Inode, View}
use Rattle.model.specs.Cells.{SetInode}
use Rattle.machine.specs.Effects.{with_links}
use Rattle.machine.specs.Paths.{last_part}
use Rattle.ordering.specs.Cuts.{Block, Cell}
use Rattle.frozen.specs.Kept.{Kept, frozen_view}
use Rattle.machine.specs.Cells.{IsEntryFor}
use Rattle.metadata.specs.Shown.{Shows}
use Rattle.plans_naming.specs.Entries.{no_entry, slot_written}
use Rattle.courses.specs.After.{AreBlocks}
use Rattle.live_plans.specs.declared.locating.Found.{Found}
use Rattle.live_renames.specs.Renamed.{IsRenamed}
use Rattle.plans_naming.specs.Link.{raised}
use Rattle.plans_naming.specs.Move.{left}
use Rattle.updates.specs.declared.cell.Cell as program
use Rattle.updates.specs.Places.{IsCell}
use Rattle.updates.specs.Values.{cell}
use Rattle.live_places.specs.declared.choosing.Place.{Place}
use Rattle.live_places.specs.declared.choosing.Place.TheVariants.{Slot, NewBlock}
use Rattle.live_states.specs.Drafts.{Draft, GoesOn, over}
use Rattle.live_plans.specs.Entered.{EntersAt}
use Rattle.live_states.specs.Planned.{IsOfVolume}
use Rattle.live_renames.specs.declared.renaming.Ends.{Ends}
use Rattle.live_renames.specs.Moved.{AreFirst, IsMoved}

pub none_cells : (geo : Geometry) (xs : List program.Cell) → xs ≡ [] → All (IsCell geo) (map cell xs)
none_cells geo [] e = λ k d below. absurd (omega (arith, below))
none_cells geo (x ∷ xs) e = cc

-- a record in the blocks that are lent is the one that is kept
pub record_there : (held kept : Kept) (n : ℕ) → held ≡ kept → (frozen_view held).inode n ≡ (frozen_view kept).inode n
record_there held kept n e = ap (λ (k : Kept). (frozen_view k).inode n) e

-- the old slot is emptied, and the record put back
pub left_goes_on : (old middle new : Draft) (n block s : ℕ) (inode record' : Inode) (bytes : List ℕ) (after last : List Cell)
    → record' ≡ inode → last ≡ Block block ∷ []
    → GoesOn old middle (λ q. slot_written block bytes s no_entry after ∷ q) → GoesOn middle new (λ q. record { change = SetInode n record'; after = last } ∷ q)
    → GoesOn old new (left n inode block bytes s after)
left_goes_on old middle new n block s inode record' bytes after last same is first second = record {
  geometry = second.geometry ∙ first.geometry;
  file = second.file ∙ first.file;
  pending = λ q.
      second.pending q
      ∙ ap (λ qs. record { change = SetInode n record'; after = last } ∷ qs) (first.pending q)
      ∙ ap₂ (λ x l. record { change = SetInode n x; after = l } ∷ slot_written block bytes s no_entry after ∷ over q old.updates) same is;
}

-- a name is entered on the same volume, in the name of the same file
pub entered_geometry : (geo : Geometry) (v : View) (d : ℕ) (inode : Inode) (n : ℕ) (name : List ℕ) (place : Place) (old new : Draft) → EntersAt geo v d inode n name place old new → new.geometry ≡ old.geometry
entered_geometry geo v d inode n name (Slot s block) old new enters = enters.goes_on.geometry
entered_geometry geo v d inode n name (NewBlock block tables) old new enters = enters.goes_on.geometry

pub entered_file : (geo : Geometry) (v : View) (d : ℕ) (inode : Inode) (n : ℕ) (name : List ℕ) (place : Place) (old new : Draft) → EntersAt geo v d inode n name place old new → new.file ≡ old.file
entered_file geo v d inode n name (Slot s block) old new enters = enters.goes_on.file
entered_file geo v d inode n name (NewBlock block tables) old new enters = enters.goes_on.file

-- an entry gets another name, after the directory's blocks
pub renamed_with : (kept : Kept) (found : Found) (name entry : List ℕ) (after : List Cell) (geo : Geometry) (bytes : List ℕ) (first last : Draft)
    → first ≡ record { geometry = geo; file = found.number; updates = [] } → geo ≡ kept.geometry → IsEntryFor found.number name entry
    → ((view : View) → Shows kept view → AreBlocks kept.geometry view found.directory after) → ((view : View) → Shows kept view → view.bytes found.block ≡ bytes)
    → GoesOn first last (λ q. slot_written found.block bytes found.slot entry after ∷ q) → IsRenamed kept found name last
renamed_with kept found name entry after geo bytes first last is same says blocks held goes = record {
  geometry = goes.geometry ∙ ap (λ (d : Draft). d.geometry) is ∙ same;
  file = goes.file ∙ ap (λ (d : Draft). d.file) is;
  entry = entry;
  says = says;
  after = after;
  others_first = λ view shows. record { needs = λ k b below claim differs. (blocks view shows).needs k b below claim; only = (blocks view shows).only };
  pending = λ view shows q.
      goes.pending q
      ∙ ap (λ (d : Draft). slot_written found.block bytes found.slot entry after ∷ over q d.updates) is
      ∙ ap (λ b. slot_written found.block b found.slot entry after ∷ q) (sym (held view shows));
}

-- a number gets a link more, after nothing
pub raises : (n : ℕ) (x y : Inode) (after : List Cell) (old new : Draft) → x ≡ y → after ≡ []
    → GoesOn old new (λ q. record { change = SetInode n (with_links x (x.links + 1)); after = after } ∷ q) → GoesOn old new (raised n y)
raises n x y after old new same none goes = record {
  geometry = goes.geometry;
  file = goes.file;
  pending = λ q. goes.pending q ∙ ap₂ (λ (i : Inode) (cs : List Cell). record { change = SetInode n (with_links i (i.links + 1)); after = cs } ∷ over q old.updates) same none;
}

-- a file's name goes to another directory
pub moved_with : (kept : Kept) (volume : IsOfVolume kept) (ends : Ends) (qs : List (List ℕ)) (place : Place) (geo : Geometry) (first with_link entered last : Draft) (parent : Inode) (name : List ℕ) (after : List Cell)
    → first ≡ record { geometry = geo; file = ends.found.number; updates = [] } → geo ≡ kept.geometry
    → GoesOn first with_link (raised ends.found.number ((frozen_view kept).inode ends.found.number))
    → parent ≡ (frozen_view kept).inode ends.directory → name ≡ last_part qs
    → ((view : View) → Shows kept view → EntersAt kept.geometry view ends.directory parent ends.found.number name place with_link entered)
    → AreFirst kept.geometry (frozen_view kept) qs place after
    → ((view : View) → Shows kept view → GoesOn entered last (left ends.found.number (view.inode ends.found.number) ends.found.block (view.bytes ends.found.block) ends.found.slot after))
    → IsMoved kept ends qs place last
moved_with kept volume ends qs place geo first with_link entered last parent name after is same raised_by record_is name_is enters before leaves =
    let n = ends.found.number in
    let d = ends.directory in
    let users = volume.old.view in
    record {
      geometry = (leaves users volume.shows).geometry ∙ entered_geometry kept.geometry users d parent n name place with_link entered (enters users volume.shows)
          ∙ raised_by.geometry ∙ ap (λ (e : Draft). e.geometry) is ∙ same;
      file = (leaves users volume.shows).file ∙ entered_file kept.geometry users d parent n name place with_link entered (enters users volume.shows)
          ∙ raised_by.file ∙ ap (λ (e : Draft). e.file) is;
      with_link = with_link;
      raises = λ view shows q. raised_by.pending q ∙ ap (λ (e : Draft). raised n ((frozen_view kept).inode n) (over q e.updates)) is ∙ ap (λ (x : Inode). raised n x q) (shows.inode n);
      entered = entered;
      enters = λ view shows. subst (λ x. EntersAt kept.geometry view d (view.inode d) n x place with_link entered) name_is
          (subst (λ (x : Inode). EntersAt kept.geometry view d x n name place with_link entered) (record_is ∙ shows.inode d) (enters view shows));
      after = after;
      first = before;
      leaves = leaves;
    }
