use Rattle.std.proofs.Common.{◌++◌, ◌∷◌, ◌-◌, [], ap, ◌∙◌, arith, deque_len, set as slice_set}
use Rattle.std.specs.Prelude.{is_some}
use Rattle.write_behind.specs.Writes.{write_of, writes_of_rooms}
use Rattle.write_behind.proofs.WriteLemmas.{added_to_last}
use Rattle.write_behind.proofs.rooms.Rooms.take.Goals as goal

pub returns-in_ok-add-in-Some-clause-taken : goal.returns-in_ok-add-in-Some-clause-taken
returns-in_ok-add-in-Some-clause-taken c =
    let more = write_of c.args.bytes.now c.args.offset ∷ [] in
    let last = deque_len c.self.inside.waiting - 1 in
    record {
      going = ap (λ left. left.going) c.self.view_is;
      waiting = ap (λ room. writes_of_rooms (slice_set c.self.inside.waiting.items last room)) (c.in_ok-add-in-Some.ensures.added ∙ ap (λ room. room ++ more) c.in-Some.ensures.value)
          ∙ added_to_last c.self.inside.waiting.items last c.in-Some.last.now more (omega (arith, c.back_mut.ensures.variant.0 (ap is_some c.in-Some.is), c.self.inside.waiting.ok.0))
          ∙ ap (λ left. left.waiting ++ more) c.self.view_is;
      free = omega (arith, ap (λ left. left.free) c.self.view_is);
    }
