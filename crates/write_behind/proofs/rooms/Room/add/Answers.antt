use Rattle.std.proofs.Common.{◌++◌, ◌∷◌, [], length, ap, ap₂, ◌∙◌}
use Rattle.write_behind.specs.Writes.{write_of, writes_in}
use Rattle.write_behind.proofs.WriteLemmas.{added, grown}
use Rattle.write_behind.proofs.rooms.Room.add.Goals as goal

pub invariant_of-self-2 : goal.invariant_of-self-2
invariant_of-self-2 c =
    grown c.self.inside.spans.items c.self.inside.bytes.items c.args.bytes.now c.args.offset c.push_reserved.new.self.items c.extend_from_slice.new.self.items
    (c.push_reserved.ensures.items ∙ ap (λ s. s ++ record { offset = c.args.offset; count = length c.args.bytes.now } ∷ []) c.reserve.ensures.items)
    c.in_ok-extend_from_slice.ensures.items c.self.invariant

pub returns-clause-added : goal.returns-clause-added
returns-clause-added c =
    ap₂ writes_in (c.push_reserved.ensures.items ∙ ap (λ s. s ++ record { offset = c.args.offset; count = length c.args.bytes.now } ∷ []) c.reserve.ensures.items)
    c.in_ok-extend_from_slice.ensures.items
    ∙ added c.self.inside.spans.items c.self.inside.bytes.items c.args.bytes.now c.args.offset c.self.invariant
    ∙ ap (λ ws. ws ++ write_of c.args.bytes.now c.args.offset ∷ []) c.self.view_is
