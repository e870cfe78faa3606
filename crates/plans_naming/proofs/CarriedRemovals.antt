-- Each removal of a name that no cause refuses is carried out by its updates.
use Rattle.std.proofs.Common.{◌≡◌, ◌-◌, ◌/◌, ℕ, Bool, List, refl, sym, subst, arith, IsTrue, IsFalse}
use Rattle.std.proofs.lemmas.Bool.{false_from_ne_true}
use Rattle.model.specs.Layout.{Geometry}
use Rattle.model.specs.View.{View, free_inode}
use Rattle.model.specs.Uses.{is_directory_at}
use Rattle.ordering.specs.Cuts.{Cell, Pending, users_view}
use Rattle.ordering.proofs.Data.{directory_mode}
use Rattle.machine.specs.State.{State, is_open}
use Rattle.machine.specs.Command.{Unlink, Rmdir, Done}
use Rattle.machine.specs.Paths.{holder, name_in, number_at, slot_at}
use Rattle.machine.specs.Cells.{block_of}
use Rattle.machine.specs.Causes.{Accepts}
use Rattle.plans_data.specs.Freeing.{AreGivenUp, HeldAreUnclaimed, held_with}
use Rattle.plans_data.specs.Now.{becomes}
use Rattle.plans_naming.specs.Entries.{HasBlocks}
use Rattle.plans_data.specs.Carried.{Stands, IsCarriedOut}
use Rattle.plans_naming.specs.Unlink.{CanUnlink, CanFree, StaysWith, safe_but, unlinking, unlinking_last}
use Rattle.plans_naming.specs.RemoveDirectory.{CanRemove, removing, removing_name}
use Rattle.plans_naming.proofs.AcceptedCommands.{accepted_unlink, accepted_remove}
use Rattle.plans_naming.proofs.Unlinks.{unlinking_unlinks, unlinking_leads}
use Rattle.plans_naming.proofs.UnlinkLast.{unlinking_last_unlinks, unlinking_last_issues}
use Rattle.plans_naming.proofs.RemoveName.{removing_name_removes, removing_name_issues}
use Rattle.plans_naming.proofs.RemoveLast.{removing_removes, removing_issues}
use Rattle.plans_data.proofs.Stands.{carried}
use Rattle.plans_naming.proofs.CarriedOut.{over}

module _ (geo : Geometry) (disk : View) (q : List Pending) (old : State) (safe : ℕ → Bool) (stands : Stands geo disk q old safe) where
  abbrev v : View
  v = old.view

  abbrev it : List ℕ → ℕ
  it p = number_at geo v p

  abbrev in_block : List ℕ → ℕ
  in_block p = block_of geo v (holder geo v p) (slot_at geo v p / 16)

  abbrev unlinked_plan : List ℕ → List Pending
  unlinked_plan p = unlinking (it p) (v.inode (it p)) (in_block p) (v.bytes (in_block p)) (slot_at geo v p) q

  pub carries_unlink : (p : List ℕ) → Accepts geo old (Unlink p) → StaysWith old (it p) ((v.inode (it p)).links - 1)
      → IsCarriedOut geo disk q old (Unlink p) Done (unlinked_plan p) (record old { view = users_view disk (unlinked_plan p) }) safe (safe_but (it p) safe)
  carries_unlink p accepts stays =
      let can = accepted_unlink geo old stands.balance stands.geometry p accepts in
      carried geo disk q old safe stands (Unlink p) Done (unlinked_plan p) (record old { view = users_view disk (unlinked_plan p) }) (safe_but (it p) safe)
      (accepts, unlinking_unlinks geo old p (in_block p) (name_in p) can stays disk q stands.same) refl
      (over geo disk q old safe stands (λ w. unlinking (it p) (w.inode (it p)) (in_block p) (w.bytes (in_block p)) (slot_at geo v p) q) (safe_but (it p) safe)
      (unlinking_leads geo disk q old.held safe (it p) (holder geo v p) (slot_at geo v p) (in_block p) (name_in p)
      (subst (λ w. CanUnlink geo w (it p) (holder geo v p) (slot_at geo v p) (in_block p) (name_in p)) (sym stands.same) can) stands.agree))

  -- what is held is no inode's
  held_unclaimed : HeldAreUnclaimed geo old
  held_unclaimed a t c = (stands.balance.held_block a t).0 c

  abbrev freed_plan : List ℕ → List ℕ → List Pending
  freed_plan p blocks = unlinking_last (it p) blocks (in_block p) (v.bytes (in_block p)) (slot_at geo v p) q

  pub carries_unlink_last : (p : List ℕ) → Accepts geo old (Unlink p) → (v.inode (it p)).links ≡ 1 → IsFalse (is_open old (it p)) → (blocks : List ℕ) → AreGivenUp geo old (it p) free_inode blocks
      → IsCarriedOut geo disk q old (Unlink p) Done (freed_plan p blocks) (becomes disk (freed_plan p blocks) (held_with geo old (it p) free_inode) old) safe (safe_but (it p) safe)
  carries_unlink_last p accepts one closed blocks given =
      let can = accepted_unlink geo old stands.balance stands.geometry p accepts in
      let free : CanFree geo old (it p) blocks = record { closed = closed; given_up = given; held = held_unclaimed } in
      carried geo disk q old safe stands (Unlink p) Done (freed_plan p blocks) (becomes disk (freed_plan p blocks) (held_with geo old (it p) free_inode) old) (safe_but (it p) safe)
      (accepts, unlinking_last_unlinks geo old p (in_block p) (name_in p) blocks can free one disk q stands.same safe stands.agree) refl
      (unlinking_last_issues geo old (it p) (holder geo v p) (slot_at geo v p) (in_block p) (name_in p) blocks can free one disk q stands.same safe stands.agree)

  -- a directory is none of the files that no stop loses
  no_file : (i : ℕ) → IsTrue (is_directory_at geo v i) → IsFalse (safe i)
  no_file i dir = false_from_ne_true (safe i) (λ t. let one = stands.files i t in let two = directory_mode geo v i dir in omega (arith, one, two))

  abbrev removed_plan : List ℕ → List Cell → List Pending
  removed_plan p after = removing_name (it p) (v.inode (it p)) (holder geo v p) (v.inode (holder geo v p)) (in_block p) (v.bytes (in_block p)) (slot_at geo v p) after q

  pub carries_remove : (p : List ℕ) → Accepts geo old (Rmdir p) → (after : List Cell) → HasBlocks geo v (it p) after → StaysWith old (it p) ((v.inode (it p)).links - 2)
      → IsCarriedOut geo disk q old (Rmdir p) Done (removed_plan p after) (record old { view = users_view disk (removed_plan p after) }) safe safe
  carries_remove p accepts after own stays =
      let can = accepted_remove geo old stands.balance stands.geometry p accepts after own in
      let i = it p in
      let b = block_of geo v i 0 in
      let d = holder geo v p in
      carried geo disk q old safe stands (Rmdir p) Done (removed_plan p after) (record old { view = users_view disk (removed_plan p after) }) safe
      (accepts, removing_name_removes geo old p b (in_block p) (name_in p) after can disk q stands.same safe (no_file i can.directory) stands.agree stays) refl
      (over geo disk q old safe stands (λ w. removing_name i (w.inode i) d (w.inode d) (in_block p) (w.bytes (in_block p)) (slot_at geo v p) after q) safe
      (removing_name_issues geo disk q old.held safe i b d (slot_at geo v p) (in_block p) (name_in p) after
      (subst (λ w. CanRemove geo w i b d (slot_at geo v p) (in_block p) (name_in p) after) (sym stands.same) can) (no_file i can.directory) stands.agree))

  abbrev removed_last_plan : List ℕ → List ℕ → List Cell → List Pending
  removed_last_plan p blocks after = removing (it p) blocks (holder geo v p) (v.inode (holder geo v p)) (in_block p) (v.bytes (in_block p)) (slot_at geo v p) after q

  pub carries_remove_last : (p : List ℕ) → Accepts geo old (Rmdir p) → (after : List Cell) → HasBlocks geo v (it p) after → (v.inode (it p)).links ≡ 2 → IsFalse (is_open old (it p)) → (blocks : List ℕ) → AreGivenUp geo old (it p) free_inode blocks
      → IsCarriedOut geo disk q old (Rmdir p) Done (removed_last_plan p blocks after) (becomes disk (removed_last_plan p blocks after) (held_with geo old (it p) free_inode) old) safe safe
  carries_remove_last p accepts after own two closed blocks given =
      let can = accepted_remove geo old stands.balance stands.geometry p accepts after own in
      let free : CanFree geo old (it p) blocks = record { closed = closed; given_up = given; held = held_unclaimed } in
      let i = it p in
      let b = block_of geo v i 0 in
      carried geo disk q old safe stands (Rmdir p) Done (removed_last_plan p blocks after) (becomes disk (removed_last_plan p blocks after) (held_with geo old (it p) free_inode) old) safe
      (accepts, removing_removes geo old p b (in_block p) (name_in p) after blocks can free two disk q stands.same safe (no_file i can.directory) stands.agree) refl
      (removing_issues geo old i b (holder geo v p) (slot_at geo v p) (in_block p) (name_in p) after blocks can free two disk q stands.same safe (no_file i can.directory) stands.agree)
