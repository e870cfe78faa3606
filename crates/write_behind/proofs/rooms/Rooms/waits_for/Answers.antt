use Rattle.std.proofs.Common.{rules, tests, ap, ◌∙◌}
use Rattle.std.proofs.lemmas.Iterator.Consumers.{YieldsList-from_deque}
use Rattle.std.proofs.lemmas.Iterator.Search.{any_from_yields_List}
use Rattle.write_behind.specs.Writes.{has_byte_of}
use Rattle.write_behind.proofs.WriteLemmas.{met_in_rooms}
use Rattle.write_behind.proofs.rooms.Rooms.waits_for.Goals as goal

pub returns : goal.returns
returns c =
    any_from_yields_List (has_byte_of c.args.span.now) _ _ _ c.any.ensures.ran (YieldsList-from_deque c.self.inside.waiting.items c.iter.ensures.rest) (λ x b q k. search (rules, tests))
    ∙ met_in_rooms c.args.span.now c.self.inside.waiting.items ∙ ap (λ left. has_byte_of c.args.span.now left.waiting) c.self.view_is
