-- What was found on the kept blocks is what a choice says in each view of which they hold the metadata.
use Rattle.std.proofs.Common.{◌≡◌, ◌<◌, ◌≤◌, ◌+◌, ℕ, Bool, true, false, cond, ◌⊎◌, inl, inr, sym, ap, ◌∙◌, arith, IsTrue, IsFalse}
use Rattle.model.specs.Layout.{Geometry}
use Rattle.model.specs.View.{View}
use Rattle.model.specs.Uses.{is_directory_at}
use Rattle.frozen.specs.Kept.{Kept, frozen_view}
use Rattle.layout.specs.declared.refusal.Refusal.{Refusal}
use Rattle.layout.specs.declared.refusal.Refusal.TheVariants.{NoBlock, TooBig}
use Rattle.machine.specs.Room.{is_full, unmarked_blocks}
use Rattle.live_paths.specs.Shown.{IsShownBy}
use Rattle.live_places.specs.declared.choosing.Places.{Places}
use Rattle.live_places.specs.declared.rooms.Room.{Room}
use Rattle.live_places.specs.Chosen.{AreChosen, blocks_needed}
use Rattle.live_places.specs.Rooms.{IsRoomOf, blocks_for}
use Rattle.live_places.specs.Taken.{IsTaken, free_below}
use Rattle.live_places.proofs.FreeCounts.{none_below}
use Rattle.live_places.proofs.RoomLemmas.{room_not_full, room_takes}
use Rattle.live_places.proofs.ShownLemmas.{chosen_there, full_there, needed_there, unmarked_there}

-- ---- how many blocks are needed
module _ (geo : Geometry) (view : View) (d : ℕ) (own : Bool) (room : Room) (is : IsRoomOf geo view d room) where
  pub needed_alone : own ≡ false → blocks_needed geo view d own ≡ free_below geo view 0 + blocks_for room
  needed_alone e =
      let none : ◌≡◌ {A = ℕ} (cond own 1 0) 0 = ap (λ b. cond b 1 0) e in
      omega (arith, none, none_below geo view, room_takes geo view d room is)

  pub needed_both : own ≡ true → (a : ℕ) → IsTaken geo view 0 a → blocks_needed geo view d own ≡ free_below geo view (a + 1) + blocks_for room
  needed_both e a taken =
      let one : ◌≡◌ {A = ℕ} (cond own 1 0) 1 = ap (λ b. cond b 1 0) e in
      omega (arith, one, none_below geo view, taken.more, room_takes geo view d room is)

  -- where there is no block at all
  pub needed_some : own ≡ true → unmarked_blocks geo view ≤ free_below geo view 0 → unmarked_blocks geo view < blocks_needed geo view d own
  needed_some e none =
      let one : ◌≡◌ {A = ℕ} (cond own 1 0) 1 = ap (λ b. cond b 1 0) e in
      omega (arith, one, none, none_below geo view)

-- ---- in a view that is shown
module _ (kept : Kept) (view : View) (shown : IsShownBy kept view) (d : ℕ) (directory : IsTrue (is_directory_at kept.geometry (frozen_view kept) d)) (own : Bool) where
  abbrev pub Refused : Refusal → Type 0
  Refused r =
      ((r ≡ TooBig) × IsTrue (is_full kept.geometry view d))
      ⊎ ((r ≡ NoBlock) × IsFalse (is_full kept.geometry view d) × (unmarked_blocks kept.geometry view < blocks_needed kept.geometry view d own))

  pub too_big : (r : Refusal) → r ≡ TooBig → IsTrue (is_full kept.geometry (frozen_view kept) d) → Refused r
  too_big r e full = inl (e, sym (full_there kept view shown d directory) ∙ full)

  module _ (room : Room) (is : IsRoomOf kept.geometry (frozen_view kept) d room) where
    left : IsFalse (is_full kept.geometry view d)
    left = sym (full_there kept view shown d directory) ∙ room_not_full kept.geometry (frozen_view kept) d room is

    module _ (n : ℕ) (needed : blocks_needed kept.geometry (frozen_view kept) d own ≡ n) where
      pub too_few : (r : Refusal) → r ≡ NoBlock → unmarked_blocks kept.geometry (frozen_view kept) < n → Refused r
      too_few r e few = inr (e, left, omega (arith, few, needed, unmarked_there kept view shown, needed_there kept view shown d directory own))

      pub enough : (places : Places) → n ≤ unmarked_blocks kept.geometry (frozen_view kept) → AreChosen kept.geometry (frozen_view kept) d own places
          → IsFalse (is_full kept.geometry view d) × (blocks_needed kept.geometry view d own ≤ unmarked_blocks kept.geometry view) × AreChosen kept.geometry view d own places
      enough places many are = (left, omega (arith, many, needed, unmarked_there kept view shown, needed_there kept view shown d directory own), chosen_there kept view shown d directory own places are)
