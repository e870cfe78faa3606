use Rattle.std.proofs.Common.{length, sym, ◌∙◌}
use Rattle.std.proofs.lemmas.Bool.{eqb-true}
use Rattle.std.proofs.lemmas.List.{nil_from_length}
use Rattle.import_tree.proofs.PutLemmas.{fills, fills_nothing, part_alone}
use Rattle.import_tree.proofs.making.fill.Goals as goal

pub returns-then-is_empty-clause-filled : goal.returns-then-is_empty-clause-filled
returns-then-is_empty-clause-filled g c = λ honest.
    let live = c.args.volume.now in
    fills_nothing (g.D.Device.held live.device) (g.D.Device.image live.device) live c.args.path.now c.args.bytes.now
    (nil_from_length c.args.bytes.now (eqb-true (length c.args.bytes.now) 0 (sym c.is_empty.ensures ∙ c.if-is_empty.true)))

pub returns-clause-filled : goal.returns-clause-filled
returns-clause-filled g c = λ honest.
    let held = g.D.Device.held in
    let image = g.D.Device.image in
    let v₀ = c.args.volume.now in
    let v₁ = c.open.new.volume in
    let v₂ = c.write_blocks-written.new.volume in
    let v₃ = c.close.new.volume in
    let closing = c.close.ensures.honest honest in
    fills (held v₀.device) (held v₁.device) (held v₂.device) (held v₃.device) (image v₀.device) (image v₁.device) (image v₂.device) (image v₃.device) v₀ v₁ v₂ v₃ c.args.path.now c.args.bytes.now c.in_ok-handle.handle
    (c.in_ok-handle.ensures.opened (c.write_blocks-written.ensures.honest closing))
    (part_alone (held v₁.device) (held v₂.device) (image v₁.device) (image v₂.device) v₁ v₂ c.in_ok-handle.handle _ c.args.bytes.now (c.in_ok-written.ensures.written closing))
    (c.in_ok-close.ensures.closed honest)
