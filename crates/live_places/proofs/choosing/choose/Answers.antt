use Rattle.std.proofs.Common.{◌≡◌, ◌+◌, ℕ, refl, subst, IsTrue}
use Rattle.std.proofs.lemmas.Result.{err_from_is_err_and}
use Rattle.frozen.specs.Kept.{Kept, frozen_view}
use Rattle.machine.specs.Room.{is_full}
use Rattle.live_places.specs.declared.rooms.Room.{Room}
use Rattle.live_places.specs.Chosen.{blocks_needed}
use Rattle.live_places.specs.Rooms.{IsRoomOf, blocks_for}
use Rattle.live_places.specs.Taken.{free_below}
use Rattle.live_places.proofs.ChoiceLemmas.{needed_alone, needed_both, needed_some, too_big, too_few, enough}
use Rattle.live_places.proofs.RoomLemmas.{room_few}
use Rattle.live_places.proofs.ShownLemmas.{chosen_alone, chosen_both}
use Rattle.live_places.proofs.choosing.choose.Goals as goal

-- what is found in the blocks that are lent is found in those that are kept
room_there : (held kept : Kept) (d : ℕ) (room : Room) → held ≡ kept → IsRoomOf held.geometry (frozen_view held) d room → IsRoomOf kept.geometry (frozen_view kept) d room
room_there held kept d room e = subst (λ (k : Kept). IsRoomOf k.geometry (frozen_view k) d room) e

full_there : (held kept : Kept) (d : ℕ) → held ≡ kept → IsTrue (is_full held.geometry (frozen_view held) d) → IsTrue (is_full kept.geometry (frozen_view kept) d)
full_there held kept d e = subst (λ (k : Kept). IsTrue (is_full k.geometry (frozen_view k) d)) e

pub place_in-requires : goal.place_in-requires
place_in-requires c = room_few c.frozen.result.now.geometry (frozen_view c.frozen.result.now) c.args.directory c.in_ok-room.room c.in_ok-room.ensures.room

pub place_in-requires-2 : goal.place_in-requires-2
place_in-requires-2 c = room_few c.frozen.result.now.geometry (frozen_view c.frozen.result.now) c.args.directory c.in_ok-room.room c.in_ok-room.ensures.room

pub returns-in_err-room-clause-refused : goal.returns-in_err-room-clause-refused
returns-in_err-room-clause-refused c = λ view shown.
    let p = err_from_is_err_and c.from_residual.result c.from_residual.ensures.1 in
    rw (p.1, p.2)
    (too_big c.args.metadata.now view shown c.args.directory c.requires c.args.own c.in_err-room.field-0.0 c.in_err-room.ensures.full.0
    (full_there c.frozen.result.now c.args.metadata.now c.args.directory c.frozen.ensures.same c.in_err-room.ensures.full.1))

pub returns-in_err-place-clause-refused : goal.returns-in_err-place-clause-refused
returns-in_err-place-clause-refused c = λ view shown.
    let kept = c.args.metadata.now in
    let d = c.args.directory in
    let room = c.in_ok-room.room in
    let is = room_there c.frozen.result.now kept d room c.frozen.ensures.same c.in_ok-room.ensures.room in
    let p = err_from_is_err_and c.from_residual-in_err-place.result c.from_residual-in_err-place.ensures.1 in
    rw (p.1, p.2)
    (too_few kept view shown d c.requires c.args.own room is (free_below kept.geometry (frozen_view kept) 0 + blocks_for room)
    (needed_alone kept.geometry (frozen_view kept) d c.args.own room is c.if-not-own.true)
    c.in_err-place.field-0.0 c.in_err-place.ensures.too_few.0 c.in_err-place.ensures.too_few.1)

pub returns-then-not-own-clause-chosen : goal.returns-then-not-own-clause-chosen
returns-then-not-own-clause-chosen c = λ view shown.
    let kept = c.args.metadata.now in
    let d = c.args.directory in
    let room = c.in_ok-room.room in
    let is = room_there c.frozen.result.now kept d room c.frozen.ensures.same c.in_ok-room.ensures.room in
    let placed = c.in_ok-place.ensures.placed d is in
    enough kept view shown d c.requires c.args.own room is (free_below kept.geometry (frozen_view kept) 0 + blocks_for room)
    (needed_alone kept.geometry (frozen_view kept) d c.args.own room is c.if-not-own.true)
    _ c.in_ok-place.ensures.enough
    (chosen_alone kept.geometry (frozen_view kept) d c.args.own c.in_ok-place.place c.if-not-own.true placed.0 placed.1)

pub returns-in_err-block-clause-refused : goal.returns-in_err-block-clause-refused
returns-in_err-block-clause-refused c = λ view shown.
    let kept = c.args.metadata.now in
    let d = c.args.directory in
    let room = c.in_ok-room.room in
    let is = room_there c.frozen.result.now kept d room c.frozen.ensures.same c.in_ok-room.ensures.room in
    let p = err_from_is_err_and c.from_residual-in_err-block.result c.from_residual-in_err-block.ensures.1 in
    rw (p.1, p.2)
    (too_few kept view shown d c.requires c.args.own room is (blocks_needed kept.geometry (frozen_view kept) d c.args.own) refl
    c.in_err-block.field-0.0 c.in_err-block.ensures.none.0
    (needed_some kept.geometry (frozen_view kept) d c.args.own room is c.if-not-own.false c.in_err-block.ensures.none.1))

pub returns-in_err-place-2-clause-refused : goal.returns-in_err-place-2-clause-refused
returns-in_err-place-2-clause-refused c = λ view shown.
    let kept = c.args.metadata.now in
    let d = c.args.directory in
    let room = c.in_ok-room.room in
    let is = room_there c.frozen.result.now kept d room c.frozen.ensures.same c.in_ok-room.ensures.room in
    let p = err_from_is_err_and c.from_residual-in_err-place-2.result c.from_residual-in_err-place-2.ensures.1 in
    rw (p.1, p.2)
    (too_few kept view shown d c.requires c.args.own room is (free_below kept.geometry (frozen_view kept) (c.in_ok-block.block + 1) + blocks_for room)
    (needed_both kept.geometry (frozen_view kept) d c.args.own room is c.if-not-own.false c.in_ok-block.block c.in_ok-block.ensures.taken)
    c.in_err-place-2.field-0.0 c.in_err-place-2.ensures.too_few.0 c.in_err-place-2.ensures.too_few.1)

pub returns-clause-chosen : goal.returns-clause-chosen
returns-clause-chosen c = λ view shown.
    let kept = c.args.metadata.now in
    let d = c.args.directory in
    let room = c.in_ok-room.room in
    let is = room_there c.frozen.result.now kept d room c.frozen.ensures.same c.in_ok-room.ensures.room in
    let placed = c.in_ok-place-2.ensures.placed d is in
    enough kept view shown d c.requires c.args.own room is (free_below kept.geometry (frozen_view kept) (c.in_ok-block.block + 1) + blocks_for room)
    (needed_both kept.geometry (frozen_view kept) d c.args.own room is c.if-not-own.false c.in_ok-block.block c.in_ok-block.ensures.taken)
    _ c.in_ok-place-2.ensures.enough
    (chosen_both kept.geometry (frozen_view kept) d c.args.own c.in_ok-block.block c.in_ok-place-2.place c.if-not-own.false c.in_ok-block.ensures.taken.next placed.0 placed.1)
