use Rattle.std.proofs.Common.{◌++◌, map, slice_index_or, sym, ap, ◌∙◌}
use Rattle.std.specs.Prelude.{is_some}
use Rattle.write_behind.specs.Writes.{span_of, writes_of_rooms}
use Rattle.write_behind.proofs.WriteLemmas.{first_taken, spans_of}
use Rattle.write_behind.proofs.rooms.Rooms.begin.Goals as goal

pub returns-clause-begun : goal.returns-clause-begun
returns-clause-begun c =
    first_taken _ _ c.pop_front.result c.self.inside.waiting.items c.pop_front.new.self.items (c.pop_front.ensures.variant.1 (c.front.ensures.variant.0 (ap is_some c.in-Some.is))) c.pop_front.ensures.items
    (λ room is. (
      sym (ap (λ left. left.waiting) c.self.view_is) ∙ ap writes_of_rooms is,
      c.in_ok-extend_from_slice.ensures.items ∙ ap (λ going. going ++ c.as_slice.result.now) (ap (λ left. left.going) c.self.view_is)
          ∙ ap (λ spans. c.args.self.now.going ++ spans) (c.as_slice.ensures.value ∙ sym (spans_of c.room.inside.spans.items c.room.inside.bytes.items c.room.invariant)
          ∙ ap (map span_of) (c.room.view_is ∙ c.in-Some.ensures.lookup ∙ ap (λ rooms. slice_index_or rooms 0 c.in-Some.room.now) is)),
    ))
