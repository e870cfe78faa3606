-- The plans of the commands that change names, update by update.
use Rattle.std.proofs.Common.{◌≡◌, ℕ, ◌+◌, ◌-◌, true, List, [], ◌∷◌, refl, ap, ◌∙◌, arith}
use Rattle.model.specs.Layout.{Geometry}
use Rattle.model.specs.View.{View, Inode}
use Rattle.model.specs.Rules.{ObeysRules}
use Rattle.model.specs.Uses.{blocks_of}
use Rattle.model.specs.Slots.{Slot, Empty, Good}
use Rattle.model.proofs.Places.{put_here, put_there}
use Rattle.ordering.specs.Cuts.{Cell, Block, Pending, users_view}
use Rattle.ordering.proofs.Data.{directory_mode}
use Rattle.machine.specs.Cells.{with_slot}
use Rattle.machine.specs.Effects.{file_with, with_links}
use Rattle.plans_data.specs.Append.{Holder, filled, linked}
use Rattle.plans_data.proofs.Holders.{first_of, linked_inodes}
use Rattle.plans_data.specs.Freeing.{freeing}
use Rattle.plans_naming.specs.Entries.{StandsAt, slot_written, no_entry}
use Rattle.plans_naming.specs.Grow.{CanEnterGrown, empty_block, grown}
use Rattle.plans_naming.specs.Create.{CanCreate, CanCreateGrown, born, creating, creating_grown}
use Rattle.plans_naming.specs.Link.{CanLink, CanLinkGrown, raised, linking, linking_grown}
use Rattle.plans_naming.specs.Unlink.{CanUnlink, lowered, unlinking, unlinking_last}
use Rattle.plans_naming.specs.Make.{CanMakeIn, CanMakeGrown, made, making, making_grown}
use Rattle.plans_naming.specs.Rename.{CanRename, renaming}
use Rattle.plans_naming.specs.Move.{CanMove, CanMoveGrown, left, moving, moving_grown}
use Rattle.plans_naming.specs.RemoveDirectory.{CanRemove, removing, removing_name}
use Rattle.courses.proofs.Walks.{Start}
use Rattle.courses.proofs.Pieces.{unmarked_no_files, place_no_files, reachable_mode, one_block, Still, Fitting, nothing_yet, record_still, record_fits, directory_still, bytes_fits, bytes_still, freeing_still, grown_still, born_still, made_still}

module _ (geo : Geometry) (disk : View) (q : List Pending) (rules : ObeysRules geo (users_view disk q)) where
  abbrev start : View
  start = users_view disk q

  -- slot s of a block of a directory is written
  pub slot_still : (file : ℕ) (d s block : ℕ) (what : Slot) (bytes : List ℕ) (t : ℕ) (entry : List ℕ) (after : List Cell) (p : List Pending) → StandsAt geo start d s block what → Still geo disk file q p → Still geo disk file q (slot_written block bytes t entry after ∷ p)
  slot_still file d s block what bytes t entry after p place f = bytes_still geo disk file q block (with_slot bytes t entry) after p (place_no_files geo start rules d s block what place) f

  -- slot s of the new block is written
  new_slot_still : (file : ℕ) (d b : ℕ) (holder : Holder) (s : ℕ) (name entry : List ℕ) (after : List Cell) (p : List Pending) → CanEnterGrown geo start d b holder s name after → Still geo disk file q p → Still geo disk file q (slot_written b empty_block s entry after ∷ p)
  new_slot_still file d b holder s name entry after p can f = bytes_still geo disk file q b (with_slot empty_block s entry) after p (unmarked_no_files geo start rules b can.grow.free.unmarked) f

  -- the directory of an entry has grown
  entered_still : (file : ℕ) (d : ℕ) (parent : Inode) (b : ℕ) (holder : Holder) (s : ℕ) (name : List ℕ) (after : List Cell) (p : List Pending) → parent.mode ≡ (start.inode d).mode → CanEnterGrown geo start d b holder s name after
      → Still geo disk file q p → Still geo disk file q (grown geo d parent b holder p)
  entered_still file d parent b holder s name after p mode can f = grown_still geo disk file q rules d parent b holder p (mode ∙ reachable_mode geo start d can.reachable) can.reachable can.grow f

  raised_still : (file i : ℕ) → Still geo disk file q (raised i (start.inode i) q)
  raised_still file i = record_still geo disk file q i (with_links (start.inode i) ((start.inode i).links + 1)) q (nothing_yet geo disk file q)

  -- ---- commands

  pub creating_fits : (file n : ℕ) (words : List ℕ) (d s block : ℕ) (name entry : List ℕ) (after : List Cell) → CanCreate geo start n d s block name entry after → Still geo disk file q (creating n words block (start.bytes block) s entry after q)
  creating_fits file n words d s block name entry after can = slot_still file d s block Empty (start.bytes block) s entry after (born n (file_with words) [] q) can.place (born_still geo disk file q n (file_with words) q (nothing_yet geo disk file q))

  pub creating_grown_fits : (file n : ℕ) (words : List ℕ) (d b : ℕ) (kept : Holder) (s : ℕ) (name entry : List ℕ) (after : List Cell) → CanCreateGrown geo start n d b kept s name entry after → Still geo disk file q (creating_grown geo n words d (start.inode d) b kept s entry after q)
  creating_grown_fits file n words d b kept s name entry after can =
      new_slot_still file d b kept s name entry after (grown geo d (start.inode d) b kept (born n (file_with words) [] q)) can.enter
      (entered_still file d (start.inode d) b kept s name after (born n (file_with words) [] q) refl can.enter (born_still geo disk file q n (file_with words) q (nothing_yet geo disk file q)))

  pub linking_fits : (file i d s block : ℕ) (name entry : List ℕ) (after : List Cell) → CanLink geo start i d s block name entry after → Still geo disk file q (linking i (start.inode i) block (start.bytes block) s entry after q)
  linking_fits file i d s block name entry after can = slot_still file d s block Empty (start.bytes block) s entry after (raised i (start.inode i) q) can.place (raised_still file i)

  pub linking_grown_fits : (file i d b : ℕ) (kept : Holder) (s : ℕ) (name entry : List ℕ) (after : List Cell) → CanLinkGrown geo start i d b kept s name entry after
      → Still geo disk file q (linking_grown geo i (start.inode i) d (start.inode d) b kept s entry after q)
  linking_grown_fits file i d b kept s name entry after can =
      new_slot_still file d b kept s name entry after (grown geo d (start.inode d) b kept (raised i (start.inode i) q)) can.enter
      (entered_still file d (start.inode d) b kept s name after (raised i (start.inode i) q) refl can.enter (raised_still file i))

  pub unlinking_fits : (i d s block : ℕ) (name : List ℕ) → CanUnlink geo start i d s block name → Fitting geo disk i q (unlinking i (start.inode i) block (start.bytes block) s q)
  unlinking_fits i d s block name can =
      let f = bytes_fits geo disk i q block (with_slot (start.bytes block) s no_entry) [] q [] (place_no_files geo start rules d s block (Good i name) can.place) Start in
      record_fits geo disk i q (with_links (start.inode i) ((start.inode i).links - 1)) (Block block ∷ []) (slot_written block (start.bytes block) s no_entry [] ∷ q) true (block ∷ [])
      f can.file (one_block geo _ block (block ∷ []) (first_of block []))

  pub unlinking_last_fits : (file i d s block : ℕ) (name : List ℕ) (blocks : List ℕ) → CanUnlink geo start i d s block name → Still geo disk file q (unlinking_last i blocks block (start.bytes block) s q)
  unlinking_last_fits file i d s block name blocks can =
      freeing_still geo disk file q i blocks (Block block ∷ []) (slot_written block (start.bytes block) s no_entry [] ∷ q) (slot_still file d s block (Good i name) (start.bytes block) s no_entry [] q can.place (nothing_yet geo disk file q))

  pub making_fits : (file i b : ℕ) (words dots : List ℕ) (d s block : ℕ) (name entry : List ℕ) (after : List Cell) → CanMakeIn geo start i b dots d s block name entry after
      → Still geo disk file q (making i b words dots d (start.inode d) block (start.bytes block) s entry after q)
  making_fits file i b words dots d s block name entry after can =
      slot_still file d s block Empty (start.bytes block) s entry after (made i b words dots d (start.inode d) q) can.place
      (made_still geo disk file q i b words dots d (start.inode d) q (unmarked_no_files geo start rules b can.make.block_unmarked) (nothing_yet geo disk file q))

  pub making_grown_fits : (file i a : ℕ) (words dots : List ℕ) (d b : ℕ) (kept : Holder) (s : ℕ) (name entry : List ℕ) (after : List Cell) → CanMakeGrown geo start i a dots d b kept s name entry after
      → Still geo disk file q (making_grown geo i a words dots d (start.inode d) b kept s entry after q)
  making_grown_fits file i a words dots d b kept s name entry after can =
      let parent = with_links (start.inode d) ((start.inode d).links + 1) in
      new_slot_still file d b kept s name entry after (grown geo d parent b kept (made i a words dots d (start.inode d) q)) can.enter
      (entered_still file d parent b kept s name after (made i a words dots d (start.inode d) q) refl can.enter
      (made_still geo disk file q i a words dots d (start.inode d) q (unmarked_no_files geo start rules a can.make.block_unmarked) (nothing_yet geo disk file q)))

  -- a directory gets fewer links
  lowered_still : (file d : ℕ) (fewer block : ℕ) (p : List Pending) → (start.inode d).mode ≡ 2 → Still geo disk file q p → Still geo disk file q (lowered d (start.inode d) fewer block p)
  lowered_still file d fewer block p two f = directory_still geo disk file q d (with_links (start.inode d) ((start.inode d).links - fewer)) (Block block ∷ []) p two f

  pub removing_fits : (file i b d s block : ℕ) (name : List ℕ) (after : List Cell) (blocks : List ℕ) → CanRemove geo start i b d s block name after
      → Still geo disk file q (removing i blocks d (start.inode d) block (start.bytes block) s after q)
  removing_fits file i b d s block name after blocks can =
      lowered_still file d 1 block (freeing i blocks (Block block ∷ []) (slot_written block (start.bytes block) s no_entry after ∷ q)) (reachable_mode geo start d can.place.reachable)
      (freeing_still geo disk file q i blocks (Block block ∷ []) (slot_written block (start.bytes block) s no_entry after ∷ q)
      (slot_still file d s block (Good i name) (start.bytes block) s no_entry after q can.place (nothing_yet geo disk file q)))

  pub removing_name_fits : (file i b d s block : ℕ) (name : List ℕ) (after : List Cell) → CanRemove geo start i b d s block name after
      → Still geo disk file q (removing_name i (start.inode i) d (start.inode d) block (start.bytes block) s after q)
  removing_name_fits file i b d s block name after can =
      lowered_still file d 1 block (lowered i (start.inode i) 2 block (slot_written block (start.bytes block) s no_entry after ∷ q)) (reachable_mode geo start d can.place.reachable)
      (lowered_still file i 2 block (slot_written block (start.bytes block) s no_entry after ∷ q) (directory_mode geo start i can.directory)
      (slot_still file d s block (Good i name) (start.bytes block) s no_entry after q can.place (nothing_yet geo disk file q)))

  pub renaming_fits : (file i d s block : ℕ) (name other entry : List ℕ) (after : List Cell) → CanRename geo start i d s block name other entry after → Still geo disk file q (renaming block (start.bytes block) s entry after q)
  renaming_fits file i d s block name other entry after can = slot_still file d s block (Good i name) (start.bytes block) s entry after q can.place (nothing_yet geo disk file q)

  -- the old slot is emptied, and then the file has its old record again
  left_fits : (i d s block : ℕ) (name : List ℕ) (after : List Cell) (p : List Pending) → StandsAt geo start d s block (Good i name) → ((users_view disk p).inode i).mode ≡ 1 → Still geo disk i q p
      → Fitting geo disk i q (left i (start.inode i) block (start.bytes block) s after p)
  left_fits i d s block name after p place one f =
      let g = bytes_fits geo disk i q block (with_slot (start.bytes block) s no_entry) after p f.0 (place_no_files geo start rules d s block (Good i name) place) f.1 in
      record_fits geo disk i q (start.inode i) (Block block ∷ []) (slot_written block (start.bytes block) s no_entry after ∷ p) true (block ∷ f.0) g one (one_block geo _ block (block ∷ f.0) (first_of block f.0))

  pub moving_fits : (i d' s' block' : ℕ) (name' entry : List ℕ) (after' : List Cell) (d s block : ℕ) (name : List ℕ) (after : List Cell) → CanMove geo start i d' s' block' name' entry after' d s block name after
      → Fitting geo disk i q (moving i (start.inode i) block' (start.bytes block') s' entry after' block (start.bytes block) s after q)
  moving_fits i d' s' block' name' entry after' d s block name after can =
      left_fits i d s block name after (linking i (start.inode i) block' (start.bytes block') s' entry after' q) can.from
      (ap (λ (y : Inode). y.mode) (put_here start.inode i (with_links (start.inode i) ((start.inode i).links + 1))) ∙ can.to.file)
      (linking_fits i i d' s' block' name' entry after' can.to)

  -- a directory that grows leaves a file's record
  pub other_record : (i d : ℕ) (parent : Inode) (b : ℕ) (holder : Holder) (p : List Pending) → (i ≡ d → ⊥) → (users_view disk (grown geo d parent b holder p)).inode i ≡ (users_view disk p).inode i
  other_record i d parent b holder p other =
      put_there (users_view disk (linked geo d (blocks_of parent.size) b holder (filled b empty_block p))).inode d i _ other
      ∙ ap (λ (f : ℕ → Inode). f i) (linked_inodes geo disk d (blocks_of parent.size) b holder (filled b empty_block p))

  pub moving_grown_fits : (i d' b : ℕ) (kept : Holder) (s' : ℕ) (name' entry : List ℕ) (after' : List Cell) (d s block : ℕ) (name : List ℕ) (after : List Cell) → CanMoveGrown geo start i d' b kept s' name' entry after' d s block name after
      → Fitting geo disk i q (moving_grown geo i (start.inode i) d' (start.inode d') b kept s' entry after' block (start.bytes block) s after q)
  moving_grown_fits i d' b kept s' name' entry after' d s block name after can =
      let one = can.to.file in
      let other : i ≡ d' → ⊥ = λ e. let same = ap (λ j. (start.inode j).mode) e in let two = reachable_mode geo start d' can.to.enter.reachable in omega (arith, one, two, same) in
      left_fits i d s block name after (linking_grown geo i (start.inode i) d' (start.inode d') b kept s' entry after' q) can.from
      (ap (λ (y : Inode). y.mode) (other_record i d' (start.inode d') b kept (raised i (start.inode i) q) other)
      ∙ ap (λ (y : Inode). y.mode) (put_here start.inode i (with_links (start.inode i) ((start.inode i).links + 1))) ∙ one)
      (linking_grown_fits i i d' b kept s' name' entry after' can.to)
