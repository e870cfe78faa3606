use Rattle.std.proofs.Common.{refl, arith}
use Rattle.softdep_queue.proofs.Rooms.{still_holds}
use Rattle.softdep_queue.proofs.table.Table.reserve.Goals as goal

pub returns-in_err-reserve-clause-held : goal.returns-in_err-reserve-clause-held
returns-in_err-reserve-clause-held c =
    still_holds c.args.self.now _ (record {
      nodes = c.reserve.ensures.items;
      links = refl;
      stacks = λ b. refl;
      count = refl;
      room = omega arith;
      taken = refl;
      spare = omega arith;
      latest = refl;
      pending = refl;
    })

pub returns-in_err-reserve-2-clause-held : goal.returns-in_err-reserve-2-clause-held
returns-in_err-reserve-2-clause-held c =
    let spare = c.reserve-2.ensures.capacity in
    still_holds c.args.self.now _ (record {
      nodes = c.reserve.ensures.items;
      links = refl;
      stacks = λ b. refl;
      count = refl;
      room = omega arith;
      taken = c.reserve-2.ensures.items;
      spare = omega (arith, spare);
      latest = refl;
      pending = refl;
    })

pub returns-in_err-make_room-clause-held : goal.returns-in_err-make_room-clause-held
returns-in_err-make_room-clause-held c =
    let spare = c.reserve-2.ensures.capacity in
    let room = c.make_room.ensures.grown in
    still_holds c.args.self.now _ (record {
      nodes = c.reserve.ensures.items;
      links = refl;
      stacks = c.make_room.ensures.stacks;
      count = c.make_room.ensures.count;
      room = omega (arith, room);
      taken = c.reserve-2.ensures.items;
      spare = omega (arith, spare);
      latest = refl;
      pending = refl;
    })

pub returns-clause-held : goal.returns-clause-held
returns-clause-held c =
    let spare = c.reserve-2.ensures.capacity in
    let room = c.make_room.ensures.grown in
    still_holds c.args.self.now _ (record {
      nodes = c.reserve.ensures.items;
      links = c.reserve-3.ensures.kept;
      stacks = c.make_room.ensures.stacks;
      count = c.make_room.ensures.count;
      room = omega (arith, room);
      taken = c.reserve-2.ensures.items;
      spare = omega (arith, spare);
      latest = refl;
      pending = refl;
    })
