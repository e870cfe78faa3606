-- Each rename that no cause refuses is carried out by its updates.
use Rattle.std.proofs.Common.{◌≡◌, ◌/◌, ℕ, Bool, List, ◌∷◌, refl, sym, subst, IsFalse, Contains}
use Rattle.model.specs.Layout.{Geometry}
use Rattle.model.specs.View.{View}
use Rattle.model.specs.Uses.{blocks_of}
use Rattle.model.specs.Slots.{Empty, slot}
use Rattle.ordering.specs.Cuts.{Cell, Record, Block, Pending, users_view}
use Rattle.ordering.specs.Ghosts.{at_rest}
use Rattle.ordering.specs.OneSlot.{IsKnown}
use Rattle.machine.specs.State.{State}
use Rattle.machine.specs.Command.{Rename, Done}
use Rattle.machine.specs.Paths.{holder, name_in, number_at, slot_at}
use Rattle.machine.specs.Room.{IsFreeBlock, has_room}
use Rattle.machine.specs.Cells.{IsEntryFor, block_of}
use Rattle.machine.specs.Causes.{Accepts}
use Rattle.plans_data.specs.Append.{Holder, IsKeptIn, AreApart, new_blocks, blocks_on_way}
use Rattle.plans_naming.specs.Entries.{HasBlocks, HasOtherBlocks}
use Rattle.plans_data.specs.Carried.{Stands, IsCarriedOut}
use Rattle.plans_naming.specs.Move.{CanMove, CanMoveGrown, HasGrounds, moving, moving_grown}
use Rattle.plans_naming.specs.Rename.{CanRename, renaming}
use Rattle.plans_naming.proofs.AcceptedCommands.{accepted_rename, accepted_move, accepted_move_grown}
use Rattle.plans_naming.proofs.MoveEffect.{moving_renames}
use Rattle.plans_naming.proofs.Moving.{moving_leads}
use Rattle.plans_naming.proofs.MoveGrown.{moving_grown_issues}
use Rattle.plans_naming.proofs.MoveGrownEffect.{moving_grown_renames}
use Rattle.plans_naming.proofs.Renaming.{renaming_renames, renaming_leads}
use Rattle.plans_data.proofs.Stands.{carried}
use Rattle.plans_naming.proofs.CarriedOut.{over, not_held, not_held'}

module _ (geo : Geometry) (disk : View) (q : List Pending) (old : State) (safe : ℕ → Bool) (stands : Stands geo disk q old safe) where
  abbrev v : View
  v = old.view

  pub carries_rename : (p r : List ℕ) → Accepts geo old (Rename p r) → holder geo v p ≡ holder geo v r → (entry : List ℕ) (after : List Cell) → IsEntryFor (number_at geo v p) (name_in r) entry
      → HasOtherBlocks geo v (holder geo v p) (block_of geo v (holder geo v p) (slot_at geo v p / 16)) after
      → IsCarriedOut geo disk q old (Rename p r) Done (renaming (block_of geo v (holder geo v p) (slot_at geo v p / 16)) (v.bytes (block_of geo v (holder geo v p) (slot_at geo v p / 16))) (slot_at geo v p) entry after q)
      (record old { view = users_view disk (renaming (block_of geo v (holder geo v p) (slot_at geo v p / 16)) (v.bytes (block_of geo v (holder geo v p) (slot_at geo v p / 16))) (slot_at geo v p) entry after q) }) safe safe
  carries_rename p r accepts within entry after says others =
      let i = number_at geo v p in
      let d = holder geo v p in
      let s = slot_at geo v p in
      let c = block_of geo v d (s / 16) in
      let can = accepted_rename geo old stands.balance stands.geometry p r accepts within entry after says others in
      carried geo disk q old safe stands (Rename p r) Done (renaming c (v.bytes c) s entry after q) (record old { view = users_view disk (renaming c (v.bytes c) s entry after q) }) safe
      (accepts, renaming_renames geo old p r c (name_in p) entry after can within disk q stands.same) refl
      (over geo disk q old safe stands (λ w. renaming c (w.bytes c) s entry after q) safe
      (renaming_leads geo disk q (at_rest old.held safe) i d s c (name_in p) (name_in r) entry after (subst (λ w. CanRename geo w i d s c (name_in p) (name_in r) entry after) (sym stands.same) can)))

  -- the file that goes to another directory, and the slot and the block that it leaves
  abbrev it : List ℕ → ℕ
  it p = number_at geo v p

  abbrev was_at : List ℕ → ℕ
  was_at p = slot_at geo v p

  abbrev was_in : List ℕ → ℕ
  was_in p = block_of geo v (holder geo v p) (slot_at geo v p / 16)

  abbrev moved : List ℕ → List ℕ → ℕ → List ℕ → List Cell → List Cell → List Pending
  moved p r s entry after' after =
      moving (it p) (v.inode (it p)) (block_of geo v (holder geo v r) (s / 16)) (v.bytes (block_of geo v (holder geo v r) (s / 16))) s entry after' (was_in p) (v.bytes (was_in p)) (was_at p) after q

  abbrev moved_grown : List ℕ → List ℕ → ℕ → Holder → ℕ → List ℕ → List Cell → List Cell → List Pending
  moved_grown p r e kept s entry after' after = moving_grown geo (it p) (v.inode (it p)) (holder geo v r) (v.inode (holder geo v r)) e kept s entry after' (was_in p) (v.bytes (was_in p)) (was_at p) after q

  pub carries_move : (p r : List ℕ) → Accepts geo old (Rename p r) → (holder geo v p ≡ holder geo v r → ⊥) → (s : ℕ) (entry : List ℕ) (after' after : List Cell) → slot geo v (holder geo v r) s ≡ Empty
      → IsEntryFor (it p) (name_in r) entry → Contains after' (Record (it p)) → HasOtherBlocks geo v (holder geo v r) (block_of geo v (holder geo v r) (s / 16)) after'
      → Contains after (Block (block_of geo v (holder geo v r) (s / 16))) → HasGrounds geo v (holder geo v r) (was_in p) after
      → IsCarriedOut geo disk q old (Rename p r) Done (moved p r s entry after' after) (record old { view = users_view disk (moved p r s entry after' after) }) safe safe
  carries_move p r accepts apart s entry after' after empty says first others entry_first grounds =
      let d = holder geo v p in
      let e = holder geo v r in
      let c = block_of geo v e (s / 16) in
      let can = accepted_move geo old stands.balance stands.geometry p r accepts apart s entry after' after empty says first others entry_first grounds in
      carried geo disk q old safe stands (Rename p r) Done (moved p r s entry after' after) (record old { view = users_view disk (moved p r s entry after' after) }) safe
      (accepts, moving_renames geo old p r s c entry after' (was_in p) (name_in p) after (stands.balance).rules can disk q stands.same) refl
      (over geo disk q old safe stands (λ w. moving (it p) (w.inode (it p)) c (w.bytes c) s entry after' (was_in p) (w.bytes (was_in p)) (was_at p) after q) safe
      (moving_leads geo disk q old.held safe (it p) e s c (name_in r) entry after' d (was_at p) (was_in p) (name_in p) after
      (subst (λ w. CanMove geo w (it p) e s c (name_in r) entry after' d (was_at p) (was_in p) (name_in p) after) (sym stands.same) can) stands.agree))

  pub carries_move_grown : (p r : List ℕ) → Accepts geo old (Rename p r) → (holder geo v p ≡ holder geo v r → ⊥) → (e : ℕ) (kept : Holder) (s : ℕ) (entry : List ℕ) (after' after : List Cell) → IsFalse (has_room geo v (holder geo v r))
      → IsFreeBlock geo v e → IsKeptIn geo v (holder geo v r) (blocks_of (v.inode (holder geo v r)).size) e kept → AreApart (e ∷ new_blocks kept) → s / 16 ≡ blocks_of (v.inode (holder geo v r)).size → IsEntryFor (it p) (name_in r) entry
      → Contains after' (Record (it p)) → HasBlocks geo v (holder geo v r) after'
      → Contains after (Block e) → HasGrounds geo v (holder geo v r) (was_in p) after
      → ((x : ℕ) → Contains (blocks_on_way kept) x → IsKnown after (was_in p) (Block x))
      → IsCarriedOut geo disk q old (Rename p r) Done (moved_grown p r e kept s entry after' after) (record old { view = users_view disk (moved_grown p r e kept s entry after' after) }) safe safe
  carries_move_grown p r accepts apart e kept s entry after' after no_room block keeps news at says first blocks entry_first grounds table =
      let d = holder geo v p in
      let g = holder geo v r in
      let can = accepted_move_grown geo old stands.balance stands.geometry p r accepts apart e kept s entry after' after no_room block keeps news at says first blocks entry_first grounds table in
      carried geo disk q old safe stands (Rename p r) Done (moved_grown p r e kept s entry after' after) (record old { view = users_view disk (moved_grown p r e kept s entry after' after) }) safe
      (accepts, moving_grown_renames geo old p r e kept s entry after' (was_in p) (name_in p) after can disk q stands.same safe (not_held geo disk q old safe stands) stands.agree) refl
      (over geo disk q old safe stands (λ w. moving_grown geo (it p) (w.inode (it p)) g (w.inode g) e kept s entry after' (was_in p) (w.bytes (was_in p)) (was_at p) after q) safe
      (moving_grown_issues geo disk q old.held safe (it p) g e kept s (name_in r) entry after' d (was_at p) (was_in p) (name_in p) after (not_held' geo disk q old safe stands)
      (subst (λ w. CanMoveGrown geo w (it p) g e kept s (name_in r) entry after' d (was_at p) (was_in p) (name_in p) after) (sym stands.same) can) stands.agree))
