use Rattle.std.proofs.Common.{sym, ap, ◌∙◌}
use Rattle.write_behind.specs.Writes.{count_of}
use Rattle.write_behind.proofs.WriteLemmas.{counted}
use Rattle.write_behind.proofs.rooms.Room.count.Goals as goal

pub returns : goal.returns
returns c =
    c.len.ensures ∙ c.self.inside.bytes.ok.0 ∙ sym c.self.invariant ∙ sym (counted c.self.inside.spans.items c.self.inside.bytes.items c.self.invariant) ∙ ap count_of c.self.view_is
