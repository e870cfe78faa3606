-- How a command that no cause refuses is carried out by updates: what it chooses, and what it issues.
use Rattle.std.specs.Prelude.{◌≡◌, ◌≢◌, ℕ, ◌<◌, ◌≤◌, ◌-◌, ◌/◌, Bool, true, List, [], ◌∷◌, ◌++◌, length, drop, replicate, Some, slice_get, IsTrue, IsFalse}
use Rattle.std.specs.List.{All, Contains}
use Rattle.model.specs.Layout.{Geometry}
use Rattle.model.specs.View.{View, free_inode}
use Rattle.model.specs.Cells.{put_at}
use Rattle.model.specs.Uses.{blocks_of}
use Rattle.model.specs.Slots.{Empty, slot}
use Rattle.findings.specs.declared.repair.Repair.{Repair}
use Rattle.ordering.specs.Cuts.{Cell, Record, Block, Pending, users_view}
use Rattle.ordering.specs.OneSlot.{IsKnown}
use Rattle.machine.specs.State.{State, Plan, is_open, is_kept}
use Rattle.machine.specs.Command.{Command, Create, Mkdir, Link, Unlink, Rmdir, Rename, Write, Truncate, Close, RepairAt, Answer, Done, Number, SetAttributes}
use Rattle.machine.specs.Paths.{holder, name_in, number_at}
use Rattle.machine.specs.Room.{IsFreeNumber, IsFreeBlock, has_room}
use Rattle.machine.specs.Cells.{IsEntryFor, block_of, seen}
use Rattle.machine.specs.Causes.{file_of}
use Rattle.machine.specs.Effects.{AreDots, IsOverwritten, size_after}
use Rattle.plans_data.specs.Now.{now, becomes}
use Rattle.plans_data.specs.Append.{Holder, IsKeptIn, AreApart, new_blocks, blocks_on_way, appended, sized}
use Rattle.plans_data.specs.Freeing.{AreGivenUp, held_with}
use Rattle.plans_data.specs.Write.{written, relocated, held_besides}
use Rattle.plans_data.specs.Truncate.{truncation}
use Rattle.plans_data.specs.Relink.{closing, repairing, goes_away, held_if, held_after, inode_of, open_of, without_handle}
use Rattle.plans_data.specs.Lists.{given_up_with}
use Rattle.plans_data.specs.Plans.{IsChoice, holder_of, named_by}
use Rattle.plans_naming.specs.Entries.{HasBlocks, HasOtherBlocks}
use Rattle.plans_naming.specs.Grow.{AreOther}
use Rattle.plans_naming.specs.Unlink.{StaysWith, safe_but}
use Rattle.plans_naming.specs.Plans.{slot_block, entry_block, create_plan, create_plan_grown, make_plan, make_plan_grown, link_plan, link_plan_grown, rename_plan, move_plan, move_plan_grown, unlink_plan, unlink_plan_last, remove_plan, remove_plan_last}
use Rattle.courses.specs.After.{AreBlocks, AreGroundsWith, AreOtherBlocks, IsBeforeEntry, IsNewCell}
use Rattle.plans_data.specs.Attributes.{attributing}

-- In slot s, which is empty, of the directory that holds the last part of a path, this entry gives a number that part as its name.
pub record InSlot (geo : Geometry) (view : View) (path : List ℕ) (number s : ℕ) (entry : List ℕ) (after : List Cell) : Type 0 where
  pub empty : slot geo view (holder geo view path) s ≡ Empty
  pub says : IsEntryFor number (name_in path) entry
  -- it is written after the number's record and the directory's other blocks, and after nothing else
  pub record_first : Contains after (Record number)
  pub others_first : HasOtherBlocks geo view (holder geo view path) (slot_block geo view path s) after
  pub only : All (IsBeforeEntry geo view (holder geo view path) number) after

-- And so in slot s of a new block b, where no slot of the directory is empty.
pub record InNewBlock (geo : Geometry) (view : View) (path : List ℕ) (number b : ℕ) (kept : Holder) (s : ℕ) (entry : List ℕ) (after : List Cell) : Type 0 where
  pub full : IsFalse (has_room geo view (holder geo view path))
  pub free : IsFreeBlock geo view b
  -- the pointer to the block is kept where its position has its pointer
  pub keeps : IsKeptIn geo view (holder geo view path) (blocks_of (view.inode (holder geo view path)).size) b kept
  pub apart : AreApart (b ∷ new_blocks kept)
  pub stands : s / 16 ≡ blocks_of (view.inode (holder geo view path)).size
  pub says : IsEntryFor number (name_in path) entry
  -- it is written after the number's record and the directory's blocks, and after nothing else
  pub record_first : Contains after (Record number)
  pub blocks_first : HasBlocks geo view (holder geo view path) after
  pub only : All (IsBeforeEntry geo view (holder geo view path) number) after

-- The last link of an inode goes that is not open, and these are its blocks, but for those that a snapshot keeps.
pub record GoesWith (geo : Geometry) (old : State) (number : ℕ) (blocks : List ℕ) : Type 0 where
  pub closed : IsFalse (is_open old number)
  pub given_up : AreGivenUp geo old number free_inode blocks

-- Over a device with this pending, in this state and with these safe files, a command is answered so by updates in the name of one file: what is pending with them, the state then, and the files that are safe then.
pub data IsDoneBy (geo : Geometry) (disk : View) (q : List Pending) (old : State) (safe : ℕ → Bool) : Command → Answer → ℕ → List Pending → State → (ℕ → Bool) → Type 0 where
  -- a file is created, with its entry in an empty slot, or in a new block of the directory
  CreatesInSlot : (p words : List ℕ) (n s : ℕ) (entry : List ℕ) (after : List Cell) → IsFreeNumber geo (users_view disk q) n → InSlot geo (users_view disk q) p n s entry after
      → IsDoneBy geo disk q old safe (Create p words) (Number n) n (create_plan geo (users_view disk q) p words n s entry after q) (now disk (create_plan geo (users_view disk q) p words n s entry after q) old) safe
  CreatesInNewBlock : (p words : List ℕ) (n b : ℕ) (kept : Holder) (s : ℕ) (entry : List ℕ) (after : List Cell) → IsFreeNumber geo (users_view disk q) n → InNewBlock geo (users_view disk q) p n b kept s entry after
      → IsDoneBy geo disk q old safe (Create p words) (Number n) n (create_plan_grown geo (users_view disk q) p words n b kept s entry after q) (now disk (create_plan_grown geo (users_view disk q) p words n b kept s entry after q) old) safe
  -- a directory is made, with its dots in block a
  MakesInSlot : (p words : List ℕ) (i a : ℕ) (dots : List ℕ) (s : ℕ) (entry : List ℕ) (after : List Cell)
      → IsFreeNumber geo (users_view disk q) i → IsFreeBlock geo (users_view disk q) a → AreDots i (holder geo (users_view disk q) p) dots → InSlot geo (users_view disk q) p i s entry after
      → IsDoneBy geo disk q old safe (Mkdir p words) (Number i) i (make_plan geo (users_view disk q) p words i a dots s entry after q) (now disk (make_plan geo (users_view disk q) p words i a dots s entry after q) old) safe
  MakesInNewBlock : (p words : List ℕ) (i a : ℕ) (dots : List ℕ) (b : ℕ) (kept : Holder) (s : ℕ) (entry : List ℕ) (after : List Cell)
      → IsFreeNumber geo (users_view disk q) i → IsFreeBlock geo (users_view disk q) a → AreDots i (holder geo (users_view disk q) p) dots → AreOther a b kept → InNewBlock geo (users_view disk q) p i b kept s entry after
      → IsDoneBy geo disk q old safe (Mkdir p words) (Number i) i (make_plan_grown geo (users_view disk q) p words i a dots b kept s entry after q) (now disk (make_plan_grown geo (users_view disk q) p words i a dots b kept s entry after q) old) safe
  -- the file of a path gets one more name
  LinksInSlot : (p r : List ℕ) (s : ℕ) (entry : List ℕ) (after : List Cell) → InSlot geo (users_view disk q) r (number_at geo (users_view disk q) p) s entry after
      → IsDoneBy geo disk q old safe (Link p r) Done (number_at geo (users_view disk q) p) (link_plan geo (users_view disk q) p r s entry after q) (now disk (link_plan geo (users_view disk q) p r s entry after q) old) safe
  LinksInNewBlock : (p r : List ℕ) (b : ℕ) (kept : Holder) (s : ℕ) (entry : List ℕ) (after : List Cell) → InNewBlock geo (users_view disk q) r (number_at geo (users_view disk q) p) b kept s entry after
      → IsDoneBy geo disk q old safe (Link p r) Done (number_at geo (users_view disk q) p) (link_plan_grown geo (users_view disk q) p r b kept s entry after q) (now disk (link_plan_grown geo (users_view disk q) p r b kept s entry after q) old) safe
  -- an entry gets another name in its slot, after the directory's other blocks
  RenamesInSlot : (p r : List ℕ) (entry : List ℕ) (after : List Cell) → holder geo (users_view disk q) p ≡ holder geo (users_view disk q) r
      → IsEntryFor (number_at geo (users_view disk q) p) (name_in r) entry → AreOtherBlocks geo (users_view disk q) (holder geo (users_view disk q) p) (entry_block geo (users_view disk q) p) after
      → IsDoneBy geo disk q old safe (Rename p r) Done (number_at geo (users_view disk q) p) (rename_plan geo (users_view disk q) p entry after q) (now disk (rename_plan geo (users_view disk q) p entry after q) old) safe
  -- or its file gets one in another directory, and this one goes, after the new one and the grounds of its directory
  MovesToSlot : (p r : List ℕ) (s : ℕ) (entry : List ℕ) (after' after : List Cell) → holder geo (users_view disk q) p ≢ holder geo (users_view disk q) r
      → InSlot geo (users_view disk q) r (number_at geo (users_view disk q) p) s entry after' → Contains after (Block (slot_block geo (users_view disk q) r s))
      → AreGroundsWith geo (users_view disk q) (holder geo (users_view disk q) r) (entry_block geo (users_view disk q) p) (λ c. c ≡ Block (slot_block geo (users_view disk q) r s)) after
      → IsDoneBy geo disk q old safe (Rename p r) Done (number_at geo (users_view disk q) p) (move_plan geo (users_view disk q) p r s entry after' after q) (now disk (move_plan geo (users_view disk q) p r s entry after' after q) old) safe
  MovesToNewBlock : (p r : List ℕ) (b : ℕ) (kept : Holder) (s : ℕ) (entry : List ℕ) (after' after : List Cell) → holder geo (users_view disk q) p ≢ holder geo (users_view disk q) r
      → InNewBlock geo (users_view disk q) r (number_at geo (users_view disk q) p) b kept s entry after' → Contains after (Block b)
      → AreGroundsWith geo (users_view disk q) (holder geo (users_view disk q) r) (entry_block geo (users_view disk q) p) (IsNewCell b kept) after
      → ((x : ℕ) → Contains (blocks_on_way kept) x → IsKnown after (entry_block geo (users_view disk q) p) (Block x))
      → IsDoneBy geo disk q old safe (Rename p r) Done (number_at geo (users_view disk q) p) (move_plan_grown geo (users_view disk q) p r b kept s entry after' after q) (now disk (move_plan_grown geo (users_view disk q) p r b kept s entry after' after q) old) safe
  -- a name of a file goes, and the file stays, or goes with it
  UnlinksName : (p : List ℕ) → StaysWith old (number_at geo (users_view disk q) p) (((users_view disk q).inode (number_at geo (users_view disk q) p)).links - 1)
      → IsDoneBy geo disk q old safe (Unlink p) Done (number_at geo (users_view disk q) p) (unlink_plan geo (users_view disk q) p q) (now disk (unlink_plan geo (users_view disk q) p q) old) (safe_but (number_at geo (users_view disk q) p) safe)
  UnlinksFile : (p : List ℕ) (blocks : List ℕ) → ((users_view disk q).inode (number_at geo (users_view disk q) p)).links ≡ 1 → GoesWith geo (now disk q old) (number_at geo (users_view disk q) p) blocks
      → IsDoneBy geo disk q old safe (Unlink p) Done (number_at geo (users_view disk q) p) (unlink_plan_last geo (users_view disk q) p blocks q)
      (becomes disk (unlink_plan_last geo (users_view disk q) p blocks q) (held_with geo (now disk q old) (number_at geo (users_view disk q) p) free_inode) old) (safe_but (number_at geo (users_view disk q) p) safe)
  -- and so with a directory, after its own blocks
  RemovesName : (p : List ℕ) (after : List Cell) → AreBlocks geo (users_view disk q) (number_at geo (users_view disk q) p) after
      → StaysWith old (number_at geo (users_view disk q) p) (((users_view disk q).inode (number_at geo (users_view disk q) p)).links - 2)
      → IsDoneBy geo disk q old safe (Rmdir p) Done (number_at geo (users_view disk q) p) (remove_plan geo (users_view disk q) p after q) (now disk (remove_plan geo (users_view disk q) p after q) old) safe
  RemovesDirectory : (p : List ℕ) (blocks : List ℕ) (after : List Cell) → AreBlocks geo (users_view disk q) (number_at geo (users_view disk q) p) after
      → ((users_view disk q).inode (number_at geo (users_view disk q) p)).links ≡ 2 → GoesWith geo (now disk q old) (number_at geo (users_view disk q) p) blocks
      → IsDoneBy geo disk q old safe (Rmdir p) Done (number_at geo (users_view disk q) p) (remove_plan_last geo (users_view disk q) p blocks after q)
      (becomes disk (remove_plan_last geo (users_view disk q) p blocks after q) (held_with geo (now disk q old) (number_at geo (users_view disk q) p) free_inode) old) safe
  -- a block of a file is written in place, after the last one, or elsewhere where a snapshot keeps it
  WritesInPlace : (h k : ℕ) (piece bytes : List ℕ) → IsOverwritten piece (seen geo (users_view disk q) (file_of old h) k) bytes
      → k < blocks_of ((users_view disk q).inode (file_of old h)).size → IsFalse (is_kept old (block_of geo (users_view disk q) (file_of old h) k))
      → IsDoneBy geo disk q old safe (Write h k piece) Done (file_of old h)
      (written (file_of old h) ((users_view disk q).inode (file_of old h)) (block_of geo (users_view disk q) (file_of old h) k) bytes (size_after (users_view disk q) (file_of old h) k piece) q)
      (becomes disk (written (file_of old h) ((users_view disk q).inode (file_of old h)) (block_of geo (users_view disk q) (file_of old h) k) bytes (size_after (users_view disk q) (file_of old h) k piece) q) old.held old) safe
  WritesBehind : (h k : ℕ) (piece bytes : List ℕ) (b : ℕ) (news : List ℕ) → IsOverwritten piece (seen geo (users_view disk q) (file_of old h) k) bytes
      → IsChoice geo (users_view disk q) k b news → blocks_of ((users_view disk q).inode (file_of old h)).size ≤ k
      → IsDoneBy geo disk q old safe (Write h k piece) Done (file_of old h)
      (appended geo (file_of old h) ((users_view disk q).inode (file_of old h)) k b bytes (size_after (users_view disk q) (file_of old h) k piece) (holder_of geo (users_view disk q) (file_of old h) k b news) q)
      (becomes disk (appended geo (file_of old h) ((users_view disk q).inode (file_of old h)) k b bytes (size_after (users_view disk q) (file_of old h) k piece) (holder_of geo (users_view disk q) (file_of old h) k b news) q) old.held old) safe
  WritesElsewhere : (h k : ℕ) (piece bytes : List ℕ) (b : ℕ) → IsOverwritten piece (seen geo (users_view disk q) (file_of old h) k) bytes → IsFreeBlock geo (users_view disk q) b
      → k < blocks_of ((users_view disk q).inode (file_of old h)).size → IsTrue (is_kept old (block_of geo (users_view disk q) (file_of old h) k))
      → IsDoneBy geo disk q old safe (Write h k piece) Done (file_of old h)
      (relocated geo (file_of old h) ((users_view disk q).inode (file_of old h)) k b bytes (size_after (users_view disk q) (file_of old h) k piece) (holder_of geo (users_view disk q) (file_of old h) k b []) q)
      (becomes disk (relocated geo (file_of old h) ((users_view disk q).inode (file_of old h)) k b bytes (size_after (users_view disk q) (file_of old h) k piece) (holder_of geo (users_view disk q) (file_of old h) k b []) q) (held_besides geo (now disk q old) (file_of old h) k) old) safe
  -- a file gets a size that is no larger
  TruncatesFile : (h size : ℕ)
      → IsDoneBy geo disk q old safe (Truncate h size) Done (file_of old h)
      (truncation (file_of old h) ((users_view disk q).inode (file_of old h)) size (given_up_with geo (now disk q old) (file_of old h) (sized ((users_view disk q).inode (file_of old h)) size)) q)
      (becomes disk (truncation (file_of old h) ((users_view disk q).inode (file_of old h)) size (given_up_with geo (now disk q old) (file_of old h) (sized ((users_view disk q).inode (file_of old h)) size)) q)
      (held_with geo (now disk q old) (file_of old h) (sized ((users_view disk q).inode (file_of old h)) size)) old) safe
  -- an inode gets other attributes
  SetsItsAttributes : (n : ℕ) (words : List ℕ)
      → IsDoneBy geo disk q old safe (SetAttributes n words) Done n
      (attributing n ((users_view disk q).inode n) words q) (becomes disk (attributing n ((users_view disk q).inode n) words q) old.held old) safe
  -- a handle is closed, and a file that was removed goes with its last one
  ClosesHandle : (h : ℕ)
      → IsDoneBy geo disk q old safe (Close h) Done (file_of old h)
      (closing (file_of old h) ((users_view disk q).inode (file_of old h)) (is_open (without_handle h old) (file_of old h)) (given_up_with geo (now disk q old) (file_of old h) free_inode) q)
      (becomes disk (closing (file_of old h) ((users_view disk q).inode (file_of old h)) (is_open (without_handle h old) (file_of old h)) (given_up_with geo (now disk q old) (file_of old h) free_inode) q)
      (held_if (goes_away ((users_view disk q).inode (file_of old h)).links (is_open (without_handle h old) (file_of old h))) geo (now disk q old) (file_of old h)) (without_handle h old)) safe
  -- repair k of the plan
  CarriesOutRepair : (k : ℕ) (plan : Plan) (r : Repair) → old.plan ≡ Some plan → slice_get plan.repairs k ≡ Some r
      → IsDoneBy geo disk q old safe (RepairAt k) Done (named_by r)
      (repairing r (inode_of (users_view disk q) r) (open_of old r) (given_up_with geo (now disk q old) (named_by r) free_inode) q)
      (record (becomes disk (repairing r (inode_of (users_view disk q) r) (open_of old r) (given_up_with geo (now disk q old) (named_by r) free_inode) q) (held_after geo (now disk q old) r) old) { plan = Some (record plan { done = put_at plan.done k true }) }) safe

-- Of a write: its block gets the piece and nothing else. Behind the piece, below the file's size or not, stands what users saw of the whole block, or zeroes in a block behind the last one.
abbrev pub LeavesTheRest : {geo : Geometry} {disk : View} {q : List Pending} {old : State} {safe : ℕ → Bool} {command : Command} {answer : Answer} {file : ℕ} {plan : List Pending} {new : State} {safe' : ℕ → Bool}
    → IsDoneBy geo disk q old safe command answer file plan new safe' → Type 0
LeavesTheRest {geo = geo} {disk = disk} {q = q} {old = old} (WritesInPlace h k piece bytes over inside free) =
    bytes ≡ piece ++ drop (length piece) ((users_view disk q).bytes (block_of geo (users_view disk q) (file_of old h) k))
LeavesTheRest (WritesBehind h k piece bytes b news over choice past) = bytes ≡ piece ++ drop (length piece) (replicate 1024 0)
LeavesTheRest {geo = geo} {disk = disk} {q = q} {old = old} (WritesElsewhere h k piece bytes b over free inside kept) =
    bytes ≡ piece ++ drop (length piece) ((users_view disk q).bytes (block_of geo (users_view disk q) (file_of old h) k))
LeavesTheRest _ = Unit {0}
