-- What the room of a directory takes, and whether the directory is full.
use Rattle.std.proofs.Common.{◌≡◌, ◌<◌, ◌≤◌, ◌+◌, ◌/◌, ℕ, not, ◌&&◌, leb, sym, ap, ◌∙◌, arith, IsTrue, IsFalse, None}
use Rattle.std.proofs.lemmas.Bool.{cond-true, cond-false, and_parts, and_from, false_from_ne_true, leb-true, le-leb}
use Rattle.std.proofs.lemmas.Option.{none-some}
use Rattle.model.specs.Layout.{Geometry}
use Rattle.model.specs.View.{View}
use Rattle.model.specs.Shape.{most_blocks}
use Rattle.model.specs.Uses.{blocks_of, claim_at}
use Rattle.model.specs.Slots.{Absent, Empty, slot}
use Rattle.model.proofs.Shape.{new_few}
use Rattle.model.proofs.SlotLemmas.{slot_content}
use Rattle.machine.specs.Room.{has_room, is_full, blocks_to_append, blocks_to_enter}
use Rattle.live_places.specs.declared.rooms.Room.{Room}
use Rattle.live_places.specs.declared.rooms.Room.TheVariants.{Slot, NewBlock}
use Rattle.live_places.specs.Rooms.{IsRoomOf, blocks_for}

module _ (geo : Geometry) (view : View) (d : ℕ) where
  -- an empty slot stands in a block that the directory claims
  pub empty_claims : (s : ℕ) → slot geo view d s ≡ Empty → claim_at geo view d (s / 16) ≡ None → ⊥
  empty_claims s e none =
      let at = slot_content geo view d s Empty (λ bad. let differs : Absent ≡ Empty = bad in cc) e in
      none-some at.block (sym none ∙ at.claimed)

  -- where no slot is empty and no position is left
  pub full_with : IsFalse (has_room geo view d) → most_blocks geo ≤ blocks_of (view.inode d).size → IsTrue (is_full geo view d)
  full_with none many = and_from (not (has_room geo view d)) (leb (most_blocks geo) (blocks_of (view.inode d).size)) (ap not none) (le-leb (most_blocks geo) (blocks_of (view.inode d).size) many)

  -- there is room, or a position is left
  not_full : blocks_of (view.inode d).size < most_blocks geo → IsFalse (is_full geo view d)
  not_full few = false_from_ne_true (is_full geo view d) (λ t.
      let many = leb-true (most_blocks geo) (blocks_of (view.inode d).size) (and_parts (not (has_room geo view d)) (leb (most_blocks geo) (blocks_of (view.inode d).size)) t).1 in
      omega (arith, few, many))

  pub room_not_full : (room : Room) → IsRoomOf geo view d room → IsFalse (is_full geo view d)
  room_not_full (Slot s block) is = ap (λ r. not r && leb (most_blocks geo) (blocks_of (view.inode d).size)) is.room
  room_not_full (NewBlock tables) is = not_full is.left

  -- two tables at most come with a block
  pub room_few : (room : Room) → IsRoomOf geo view d room → blocks_for room ≤ 3
  room_few (Slot s block) is = omega arith
  room_few (NewBlock tables) is = omega (arith, is.tables, new_few geo (blocks_of (view.inode d).size) is.left)

  -- how many blocks an entry takes
  pub room_takes : (room : Room) → IsRoomOf geo view d room → blocks_to_enter geo view d ≡ blocks_for room
  room_takes (Slot s block) is = cond-true (has_room geo view d) 0 (blocks_to_append geo (view.inode d)) is.room
  room_takes (NewBlock tables) is = cond-false (has_room geo view d) 0 (blocks_to_append geo (view.inode d)) is.none ∙ ap (λ n. 1 + n) is.tables
