use Rattle.live_paths.proofs.LookupLemmas.{no_room, room_found, has_the_room}
use Rattle.live_paths.proofs.lookup.empty_slot.Goals as goal

pub returns-clause-found : goal.returns-clause-found
returns-clause-found c = λ view shown. room_found c.args.frozen.now view shown c.args.directory c.in_ok-found.found c.in_ok-found.ensures.found

pub returns-clause-room : goal.returns-clause-room
returns-clause-room c = λ view shown. has_the_room c.args.frozen.now view shown c.args.directory c.in_ok-found.found c.in_ok-found.ensures.found

pub returns-in_err-found-clause-found : goal.returns-in_err-found-clause-found
returns-in_err-found-clause-found c = λ view shown. rw c.from_residual.ensures (no_room c.args.frozen.now view shown c.args.directory c.in_err-found.ensures.none)
