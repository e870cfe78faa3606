-- The plans of the commands, each with what it asks for, what is held after it, and the files that no stop loses then.
use Rattle.std.specs.Prelude.{◌≡◌, ℕ, Bool, List, IsFalse, IsTrue}
use Rattle.model.specs.Layout.{Geometry}
use Rattle.model.specs.View.{View, free_inode}
use Rattle.model.specs.Uses.{is_sound_at}
use Rattle.findings.specs.declared.repair.Repair.{Repair}
use Rattle.ordering.specs.Cuts.{Cell, Pending, users_view}
use Rattle.machine.specs.State.{State, is_open}
use Rattle.machine.specs.Cells.{block_of}
use Rattle.machine.specs.Effects.{size_after}
use Rattle.plans_data.specs.Now.{now}
use Rattle.plans_data.specs.Append.{Holder, appended, sized}
use Rattle.plans_data.specs.Freeing.{held_with}
use Rattle.plans_data.specs.Write.{MayWriteInPlace, MayWriteAppended, MayWriteMoved, written, relocated, held_besides}
use Rattle.plans_data.specs.Truncate.{MayTruncate, truncation}
use Rattle.plans_data.specs.Attributes.{attributing}
use Rattle.plans_data.specs.Relink.{MayRelink, MayClose, MayRepair, relinking, closing, repairing, goes_away, held_if, held_after, inode_of, open_of, without_handle}
use Rattle.plans_naming.specs.Entries.{UnmarkedAreNotHeld}
use Rattle.plans_naming.specs.Create.{CanCreate, CanCreateGrown, creating, creating_grown}
use Rattle.plans_naming.specs.Link.{CanLink, CanLinkGrown, linking, linking_grown}
use Rattle.plans_naming.specs.Unlink.{CanUnlink, CanFree, unlinking, unlinking_last, safe_but}
use Rattle.plans_naming.specs.Make.{CanMakeIn, CanMakeGrown, making, making_grown}
use Rattle.plans_naming.specs.Rename.{CanRename, renaming}
use Rattle.plans_naming.specs.Move.{CanMove, CanMoveGrown, moving, moving_grown}
use Rattle.plans_naming.specs.RemoveDirectory.{CanRemove, removing, removing_name}

-- Over a device with this pending, in this state and with these safe files: the number that the plan writes in the name of, what is pending with the plan, what is held after it, and the files that are safe after it.
pub data IsPlan (geo : Geometry) (disk : View) (q : List Pending) (old : State) (safe : ℕ → Bool) : ℕ → List Pending → (ℕ → Bool) → (ℕ → Bool) → Type 0 where
  -- a block of a file is written in place, after the last one, or elsewhere
  WritesInPlace : (n k : ℕ) (piece bytes : List ℕ) → MayWriteInPlace geo (now disk q old) n k piece bytes
      → IsPlan geo disk q old safe n (written n ((users_view disk q).inode n) (block_of geo (users_view disk q) n k) bytes (size_after (users_view disk q) n k piece) q) old.held safe
  WritesAppended : (n k b : ℕ) (piece bytes : List ℕ) (holder : Holder) → MayWriteAppended geo (now disk q old) n k b piece bytes holder
      → IsPlan geo disk q old safe n (appended geo n ((users_view disk q).inode n) k b bytes (size_after (users_view disk q) n k piece) holder q) old.held safe
  WritesMoved : (n k b : ℕ) (piece bytes : List ℕ) (holder : Holder) → MayWriteMoved geo (now disk q old) n k b piece bytes holder
      → IsPlan geo disk q old safe n (relocated geo n ((users_view disk q).inode n) k b bytes (size_after (users_view disk q) n k piece) holder q) (held_besides geo (now disk q old) n k) safe
  -- a file gets a smaller size
  Truncates : (n size : ℕ) (blocks : List ℕ) → MayTruncate geo (now disk q old) n size blocks
      → IsPlan geo disk q old safe n (truncation n ((users_view disk q).inode n) size blocks q) (held_with geo (now disk q old) n (sized ((users_view disk q).inode n) size)) safe
  -- an inode gets other attributes
  SetsAttributes : (n : ℕ) (words : List ℕ) → IsTrue (is_sound_at geo (users_view disk q) n)
      → IsPlan geo disk q old safe n (attributing n ((users_view disk q).inode n) words q) old.held safe
  -- an inode gets another number of links, or goes
  Relinks : (n links : ℕ) (blocks : List ℕ) → MayRelink geo (now disk q old) n links blocks
      → IsPlan geo disk q old safe n (relinking n ((users_view disk q).inode n) links (is_open old n) blocks q) (held_if (goes_away links (is_open old n)) geo (now disk q old) n) safe
  -- a handle is closed
  Closes : (h n : ℕ) (blocks : List ℕ) → MayClose geo (now disk q old) h n blocks
      → IsPlan geo disk q old safe n (closing n ((users_view disk q).inode n) (is_open (without_handle h old) n) blocks q) (held_if (goes_away ((users_view disk q).inode n).links (is_open (without_handle h old) n)) geo (now disk q old) n) safe
  -- a repair
  Repairs : (r : Repair) (file : ℕ) (blocks : List ℕ) → MayRepair geo (now disk q old) r blocks
      → IsPlan geo disk q old safe file (repairing r (inode_of (users_view disk q) r) (open_of old r) blocks q) (held_after geo (now disk q old) r) safe
  -- a file is created
  Creates : (n : ℕ) (words : List ℕ) (d s block : ℕ) (name entry : List ℕ) (after : List Cell) → CanCreate geo (users_view disk q) n d s block name entry after
      → IsPlan geo disk q old safe n (creating n words block ((users_view disk q).bytes block) s entry after q) old.held safe
  CreatesGrown : (n : ℕ) (words : List ℕ) (d b : ℕ) (kept : Holder) (s : ℕ) (name entry : List ℕ) (after : List Cell) → UnmarkedAreNotHeld (users_view disk q) old.held → CanCreateGrown geo (users_view disk q) n d b kept s name entry after
      → IsPlan geo disk q old safe n (creating_grown geo n words d ((users_view disk q).inode d) b kept s entry after q) old.held safe
  -- a file gets one more name
  Links : (i d s block : ℕ) (name entry : List ℕ) (after : List Cell) → CanLink geo (users_view disk q) i d s block name entry after
      → IsPlan geo disk q old safe i (linking i ((users_view disk q).inode i) block ((users_view disk q).bytes block) s entry after q) old.held safe
  LinksGrown : (i d b : ℕ) (kept : Holder) (s : ℕ) (name entry : List ℕ) (after : List Cell) → UnmarkedAreNotHeld (users_view disk q) old.held → CanLinkGrown geo (users_view disk q) i d b kept s name entry after
      → IsPlan geo disk q old safe i (linking_grown geo i ((users_view disk q).inode i) d ((users_view disk q).inode d) b kept s entry after q) old.held safe
  -- a name of a file goes, and the file stays or goes with it
  Unlinks : (i d s block : ℕ) (name : List ℕ) → CanUnlink geo (users_view disk q) i d s block name
      → IsPlan geo disk q old safe i (unlinking i ((users_view disk q).inode i) block ((users_view disk q).bytes block) s q) old.held (safe_but i safe)
  UnlinksLast : (i d s block : ℕ) (name : List ℕ) (blocks : List ℕ) → CanUnlink geo (users_view disk q) i d s block name → CanFree geo (now disk q old) i blocks → ((users_view disk q).inode i).links ≡ 1
      → IsPlan geo disk q old safe i (unlinking_last i blocks block ((users_view disk q).bytes block) s q) (held_with geo (now disk q old) i free_inode) (safe_but i safe)
  -- a directory is made
  Makes : (i b : ℕ) (words dots : List ℕ) (d s block : ℕ) (name entry : List ℕ) (after : List Cell) → CanMakeIn geo (users_view disk q) i b dots d s block name entry after → UnmarkedAreNotHeld (users_view disk q) old.held
      → IsPlan geo disk q old safe i (making i b words dots d ((users_view disk q).inode d) block ((users_view disk q).bytes block) s entry after q) old.held safe
  MakesGrown : (i a : ℕ) (words dots : List ℕ) (d b : ℕ) (kept : Holder) (s : ℕ) (name entry : List ℕ) (after : List Cell) → UnmarkedAreNotHeld (users_view disk q) old.held → CanMakeGrown geo (users_view disk q) i a dots d b kept s name entry after
      → IsPlan geo disk q old safe i (making_grown geo i a words dots d ((users_view disk q).inode d) b kept s entry after q) old.held safe
  -- a directory is removed, and its inode goes or stays
  Removes : (i b d s block : ℕ) (name : List ℕ) (after : List Cell) (blocks : List ℕ) → CanRemove geo (users_view disk q) i b d s block name after → CanFree geo (now disk q old) i blocks → ((users_view disk q).inode i).links ≡ 2 → IsFalse (safe i)
      → IsPlan geo disk q old safe i (removing i blocks d ((users_view disk q).inode d) block ((users_view disk q).bytes block) s after q) (held_with geo (now disk q old) i free_inode) safe
  RemovesName : (i b d s block : ℕ) (name : List ℕ) (after : List Cell) → CanRemove geo (users_view disk q) i b d s block name after → IsFalse (safe i)
      → IsPlan geo disk q old safe i (removing_name i ((users_view disk q).inode i) d ((users_view disk q).inode d) block ((users_view disk q).bytes block) s after q) old.held safe
  -- an entry gets another name in its slot
  Renames : (i d s block : ℕ) (name other entry : List ℕ) (after : List Cell) → CanRename geo (users_view disk q) i d s block name other entry after
      → IsPlan geo disk q old safe i (renaming block ((users_view disk q).bytes block) s entry after q) old.held safe
  -- the name of a file goes to another directory
  Moves : (i d' s' block' : ℕ) (name' entry : List ℕ) (after' : List Cell) (d s block : ℕ) (name : List ℕ) (after : List Cell) → CanMove geo (users_view disk q) i d' s' block' name' entry after' d s block name after
      → IsPlan geo disk q old safe i (moving i ((users_view disk q).inode i) block' ((users_view disk q).bytes block') s' entry after' block ((users_view disk q).bytes block) s after q) old.held safe
  MovesGrown : (i d' b : ℕ) (kept : Holder) (s' : ℕ) (name' entry : List ℕ) (after' : List Cell) (d s block : ℕ) (name : List ℕ) (after : List Cell) → UnmarkedAreNotHeld (users_view disk q) old.held
      → CanMoveGrown geo (users_view disk q) i d' b kept s' name' entry after' d s block name after
      → IsPlan geo disk q old safe i (moving_grown geo i ((users_view disk q).inode i) d' ((users_view disk q).inode d') b kept s' entry after' block ((users_view disk q).bytes block) s after q) old.held safe
