-- Each plan, over another device with other updates pending over which users see the same.
use Rattle.std.proofs.Common.{◌≡◌, ℕ, Bool, List, ◌++◌, sym, subst, IsTrue}
use Rattle.model.specs.Layout.{Geometry}
use Rattle.model.specs.View.{View, free_inode}
use Rattle.ordering.specs.Cuts.{Pending, users_view}
use Rattle.machine.specs.State.{State, is_open}
use Rattle.machine.specs.Cells.{block_of}
use Rattle.machine.specs.Effects.{size_after}
use Rattle.plans_data.specs.Append.{appended, sized}
use Rattle.plans_data.specs.Freeing.{held_with}
use Rattle.plans_data.specs.Write.{MayWriteInPlace, MayWriteAppended, MayWriteMoved, written, relocated, held_besides}
use Rattle.plans_data.specs.Truncate.{MayTruncate, truncation}
use Rattle.plans_data.specs.Relink.{MayRelink, MayClose, MayRepair, relinking, closing, repairing, goes_away, held_if, held_after, inode_of, open_of, without_handle}
use Rattle.plans_naming.specs.Entries.{UnmarkedAreNotHeld}
use Rattle.plans_naming.specs.Create.{CanCreate, CanCreateGrown, creating, creating_grown}
use Rattle.plans_naming.specs.Link.{CanLink, CanLinkGrown, linking, linking_grown}
use Rattle.plans_naming.specs.Unlink.{CanUnlink, CanFree, unlinking, unlinking_last, safe_but}
use Rattle.plans_naming.specs.Make.{CanMakeIn, CanMakeGrown, making, making_grown}
use Rattle.plans_naming.specs.Rename.{CanRename, renaming}
use Rattle.plans_naming.specs.Move.{CanMove, CanMoveGrown, moving, moving_grown}
use Rattle.plans_naming.specs.RemoveDirectory.{CanRemove, removing, removing_name}
use Rattle.courses.specs.Plans.{IsPlan, WritesInPlace, WritesAppended, WritesMoved, Truncates, Relinks, Closes, Repairs, Creates, CreatesGrown, Links, LinksGrown, Unlinks, UnlinksLast, Makes, MakesGrown, Removes, RemovesName, Renames, Moves, MovesGrown, SetsAttributes}
use Rattle.cut_courses.proofs.OnTop.{IsOnTop, appended_top, closing_top, creating_grown_top, creating_top, linking_grown_top, linking_top, making_grown_top, making_top, moving_grown_top, moving_top, relinking_top, relocated_top, removing_name_top, removing_top, renaming_top, repairing_top, truncation_top, unlinking_last_top, unlinking_top, written_top, attributing_top}
use Rattle.plans_data.specs.Attributes.{attributing}
use Rattle.model.specs.Uses.{is_sound_at}

module _ (geo : Geometry) (disk : View) (q : List Pending) (old : State) (safe : ℕ → Bool) (durable : View) (unsynced : List Pending) (e : users_view durable unsynced ≡ users_view disk q) where
  abbrev Lifted : ℕ → List Pending → (ℕ → Bool) → (ℕ → Bool) → Type 0
  Lifted file p held' safe' = (us : List Pending) × (p ≡ us ++ q) × IsPlan geo durable unsynced old safe file (us ++ unsynced) held' safe'

  -- what is asked of what users see
  back : (P : View → Type 0) → P (users_view disk q) → P (users_view durable unsynced)
  back P x = subst P (sym e) x

  lift : (F : View → List Pending → List Pending) (H : View → ℕ → Bool) (safe' : ℕ → Bool) (file : ℕ) → IsOnTop (F (users_view disk q))
      → IsPlan geo durable unsynced old safe file (F (users_view durable unsynced) unsynced) (H (users_view durable unsynced)) safe' → Lifted file (F (users_view disk q) q) (H (users_view disk q)) safe'
  lift F H safe' file top plan = (
    top.0,
    top.1 q,
    subst (λ p. IsPlan geo durable unsynced old safe file p (H (users_view disk q)) safe') (top.1 unsynced)
        (subst (λ v. IsPlan geo durable unsynced old safe file (F v unsynced) (H v) safe') e plan),
  )

  pub lifted : (file : ℕ) (p : List Pending) (held' safe' : ℕ → Bool) → IsPlan geo disk q old safe file p held' safe' → Lifted file p held' safe'
  lifted _ _ _ _ (WritesInPlace n k piece bytes m0) =
      lift (λ v p. written n (v.inode n) (block_of geo v n k) bytes (size_after v n k piece) p) (λ v. old.held) safe n
      (written_top n ((users_view disk q).inode n) (block_of geo (users_view disk q) n k) bytes (size_after (users_view disk q) n k piece))
      (WritesInPlace n k piece bytes (back (λ v. MayWriteInPlace geo (record old { view = v }) n k piece bytes) m0))
  lifted _ _ _ _ (WritesAppended n k b piece bytes holder m0) =
      lift (λ v p. appended geo n (v.inode n) k b bytes (size_after v n k piece) holder p) (λ v. old.held) safe n
      (appended_top geo n ((users_view disk q).inode n) k b bytes (size_after (users_view disk q) n k piece) holder)
      (WritesAppended n k b piece bytes holder (back (λ v. MayWriteAppended geo (record old { view = v }) n k b piece bytes holder) m0))
  lifted _ _ _ _ (WritesMoved n k b piece bytes holder m0) =
      lift (λ v p. relocated geo n (v.inode n) k b bytes (size_after v n k piece) holder p) (λ v. (held_besides geo (record old { view = v }) n k)) safe n
      (relocated_top geo n ((users_view disk q).inode n) k b bytes (size_after (users_view disk q) n k piece) holder)
      (WritesMoved n k b piece bytes holder (back (λ v. MayWriteMoved geo (record old { view = v }) n k b piece bytes holder) m0))
  lifted _ _ _ _ (Truncates n size blocks m0) =
      lift (λ v p. truncation n (v.inode n) size blocks p) (λ v. (held_with geo (record old { view = v }) n (sized (v.inode n) size))) safe n
      (truncation_top n ((users_view disk q).inode n) size blocks)
      (Truncates n size blocks (back (λ v. MayTruncate geo (record old { view = v }) n size blocks) m0))
  lifted _ _ _ _ (SetsAttributes n words m0) =
      lift (λ v p. attributing n (v.inode n) words p) (λ v. old.held) safe n
      (attributing_top n ((users_view disk q).inode n) words)
      (SetsAttributes n words (back (λ v. IsTrue (is_sound_at geo v n)) m0))
  lifted _ _ _ _ (Relinks n links blocks m0) =
      lift (λ v p. relinking n (v.inode n) links (is_open old n) blocks p) (λ v. (held_if (goes_away links (is_open old n)) geo (record old { view = v }) n)) safe n
      (relinking_top n ((users_view disk q).inode n) links (is_open old n) blocks)
      (Relinks n links blocks (back (λ v. MayRelink geo (record old { view = v }) n links blocks) m0))
  lifted _ _ _ _ (Closes h n blocks m0) =
      lift (λ v p. closing n (v.inode n) (is_open (without_handle h old) n) blocks p) (λ v. (held_if (goes_away (v.inode n).links (is_open (without_handle h old) n)) geo (record old { view = v }) n)) safe n
      (closing_top n ((users_view disk q).inode n) (is_open (without_handle h old) n) blocks)
      (Closes h n blocks (back (λ v. MayClose geo (record old { view = v }) h n blocks) m0))
  lifted _ _ _ _ (Repairs r file blocks m0) =
      lift (λ v p. repairing r (inode_of v r) (open_of old r) blocks p) (λ v. (held_after geo (record old { view = v }) r)) safe file
      (repairing_top r (inode_of (users_view disk q) r) (open_of old r) blocks)
      (Repairs r file blocks (back (λ v. MayRepair geo (record old { view = v }) r blocks) m0))
  lifted _ _ _ _ (Creates n words d s block name entry after m0) =
      lift (λ v p. creating n words block (v.bytes block) s entry after p) (λ v. old.held) safe n
      (creating_top n words block ((users_view disk q).bytes block) s entry after)
      (Creates n words d s block name entry after (back (λ v. CanCreate geo v n d s block name entry after) m0))
  lifted _ _ _ _ (CreatesGrown n words d b kept s name entry after m0 m1) =
      lift (λ v p. creating_grown geo n words d (v.inode d) b kept s entry after p) (λ v. old.held) safe n
      (creating_grown_top geo n words d ((users_view disk q).inode d) b kept s entry after)
      (CreatesGrown n words d b kept s name entry after (back (λ v. UnmarkedAreNotHeld v old.held) m0) (back (λ v. CanCreateGrown geo v n d b kept s name entry after) m1))
  lifted _ _ _ _ (Links i d s block name entry after m0) =
      lift (λ v p. linking i (v.inode i) block (v.bytes block) s entry after p) (λ v. old.held) safe i
      (linking_top i ((users_view disk q).inode i) block ((users_view disk q).bytes block) s entry after)
      (Links i d s block name entry after (back (λ v. CanLink geo v i d s block name entry after) m0))
  lifted _ _ _ _ (LinksGrown i d b kept s name entry after m0 m1) =
      lift (λ v p. linking_grown geo i (v.inode i) d (v.inode d) b kept s entry after p) (λ v. old.held) safe i
      (linking_grown_top geo i ((users_view disk q).inode i) d ((users_view disk q).inode d) b kept s entry after)
      (LinksGrown i d b kept s name entry after (back (λ v. UnmarkedAreNotHeld v old.held) m0) (back (λ v. CanLinkGrown geo v i d b kept s name entry after) m1))
  lifted _ _ _ _ (Unlinks i d s block name m0) =
      lift (λ v p. unlinking i (v.inode i) block (v.bytes block) s p) (λ v. old.held) (safe_but i safe) i
      (unlinking_top i ((users_view disk q).inode i) block ((users_view disk q).bytes block) s)
      (Unlinks i d s block name (back (λ v. CanUnlink geo v i d s block name) m0))
  lifted _ _ _ _ (UnlinksLast i d s block name blocks m0 m1 m2) =
      lift (λ v p. unlinking_last i blocks block (v.bytes block) s p) (λ v. (held_with geo (record old { view = v }) i free_inode)) (safe_but i safe) i
      (unlinking_last_top i blocks block ((users_view disk q).bytes block) s)
      (UnlinksLast i d s block name blocks (back (λ v. CanUnlink geo v i d s block name) m0) (back (λ v. CanFree geo (record old { view = v }) i blocks) m1) (back (λ v. (v.inode i).links ≡ 1) m2))
  lifted _ _ _ _ (Makes i b words dots d s block name entry after m0 m1) =
      lift (λ v p. making i b words dots d (v.inode d) block (v.bytes block) s entry after p) (λ v. old.held) safe i
      (making_top i b words dots d ((users_view disk q).inode d) block ((users_view disk q).bytes block) s entry after)
      (Makes i b words dots d s block name entry after (back (λ v. CanMakeIn geo v i b dots d s block name entry after) m0) (back (λ v. UnmarkedAreNotHeld v old.held) m1))
  lifted _ _ _ _ (MakesGrown i a words dots d b kept s name entry after m0 m1) =
      lift (λ v p. making_grown geo i a words dots d (v.inode d) b kept s entry after p) (λ v. old.held) safe i
      (making_grown_top geo i a words dots d ((users_view disk q).inode d) b kept s entry after)
      (MakesGrown i a words dots d b kept s name entry after (back (λ v. UnmarkedAreNotHeld v old.held) m0) (back (λ v. CanMakeGrown geo v i a dots d b kept s name entry after) m1))
  lifted _ _ _ _ (Removes i b d s block name after blocks m0 m1 m2 m3) =
      lift (λ v p. removing i blocks d (v.inode d) block (v.bytes block) s after p) (λ v. (held_with geo (record old { view = v }) i free_inode)) safe i
      (removing_top i blocks d ((users_view disk q).inode d) block ((users_view disk q).bytes block) s after)
      (Removes i b d s block name after blocks (back (λ v. CanRemove geo v i b d s block name after) m0) (back (λ v. CanFree geo (record old { view = v }) i blocks) m1) (back (λ v. (v.inode i).links ≡ 2) m2) m3)
  lifted _ _ _ _ (RemovesName i b d s block name after m0 m1) =
      lift (λ v p. removing_name i (v.inode i) d (v.inode d) block (v.bytes block) s after p) (λ v. old.held) safe i
      (removing_name_top i ((users_view disk q).inode i) d ((users_view disk q).inode d) block ((users_view disk q).bytes block) s after)
      (RemovesName i b d s block name after (back (λ v. CanRemove geo v i b d s block name after) m0) m1)
  lifted _ _ _ _ (Renames i d s block name other entry after m0) =
      lift (λ v p. renaming block (v.bytes block) s entry after p) (λ v. old.held) safe i
      (renaming_top block ((users_view disk q).bytes block) s entry after)
      (Renames i d s block name other entry after (back (λ v. CanRename geo v i d s block name other entry after) m0))
  lifted _ _ _ _ (Moves i d' s' block' name' entry after' d s block name after m0) =
      lift (λ v p. moving i (v.inode i) block' (v.bytes block') s' entry after' block (v.bytes block) s after p) (λ v. old.held) safe i
      (moving_top i ((users_view disk q).inode i) block' ((users_view disk q).bytes block') s' entry after' block ((users_view disk q).bytes block) s after)
      (Moves i d' s' block' name' entry after' d s block name after (back (λ v. CanMove geo v i d' s' block' name' entry after' d s block name after) m0))
  lifted _ _ _ _ (MovesGrown i d' b kept s' name' entry after' d s block name after m0 m1) =
      lift (λ v p. moving_grown geo i (v.inode i) d' (v.inode d') b kept s' entry after' block (v.bytes block) s after p) (λ v. old.held) safe i
      (moving_grown_top geo i ((users_view disk q).inode i) d' ((users_view disk q).inode d') b kept s' entry after' block ((users_view disk q).bytes block) s after)
      (MovesGrown i d' b kept s' name' entry after' d s block name after (back (λ v. UnmarkedAreNotHeld v old.held) m0) (back (λ v. CanMoveGrown geo v i d' b kept s' name' entry after' d s block name after) m1))
