use Rattle.std.proofs.Common.{rules, tests, ap, ◌∙◌}
use Rattle.std.proofs.lemmas.Iterator.{YieldsList-from_slice}
use Rattle.std.proofs.lemmas.Iterator.Search.{any_from_yields_List}
use Rattle.write_behind.specs.Writes.{has_byte_of, meet}
use Rattle.write_behind.proofs.WriteLemmas.{met}
use Rattle.write_behind.proofs.rooms.Room.meets.Goals as goal

pub returns : goal.returns
returns c =
    any_from_yields_List (λ own. meet own c.args.span.now) _ _ _ c.any.ensures.ran (YieldsList-from_slice c.self.inside.spans.items cc) (λ x b q k. search (rules, tests))
    ∙ met c.args.span.now c.self.inside.spans.items c.self.inside.bytes.items c.self.invariant ∙ ap (has_byte_of c.args.span.now) c.self.view_is
