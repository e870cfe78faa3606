use Rattle.std.proofs.Common.{refl, sym, ap, ◌∙◌, slice_set}
use Rattle.std.proofs.lemmas.Bool.{both_ways}
use Rattle.std.proofs.lemmas.Bool.Decides.{Decides-eqb}
use Rattle.std.proofs.lemmas.Slice.Eq.{slice_eq-Decides}
use Rattle.device.proofs.MediaLemmas.{images_held-write}
use Rattle.device.specs.Media.{wrote}
use Rattle.upgrading.specs.Steps.{Leaves, Writes}
use Rattle.upgrading.proofs.clearing.clear_block.Goals as goal

pub returns-then-eq-clause-clears : goal.returns-then-eq-clause-clears
returns-then-eq-clause-clears g c =
    Leaves (sym c.without_pointers-block.ensures ∙ (slice_eq-Decides Decides-eqb _ _ _ c.eq.ensures).0 c.if-eq.true) refl refl

pub returns-clause-clears : goal.returns-clause-clears
returns-clause-clears g c =
    let image = g.D.Device.image c.args.device.now in
    let image' = g.D.Device.image c.write.new.self in
    Writes
    (λ same. both_ways c.eq.result c.if-eq.false ((slice_eq-Decides Decides-eqb _ _ _ c.eq.ensures).1 (c.without_pointers-block.ensures ∙ same)))
    (c.in_ok-write.ensures.written ∙ ap (slice_set image c.args.address) c.without_pointers-block.ensures)
    (images_held-write g.D.Device.KEEPS_ORDER (g.D.Device.held c.args.device.now) (g.D.Device.held c.write.new.self) c.args.address c.without_pointers-block.result image'
    c.in_ok-write.ensures.held (g.met.D.Device.answers c.write.new.self))
    (c.in_ok-write.ensures.held ∙ ap (wrote g.D.Device.KEEPS_ORDER (g.D.Device.held c.args.device.now) c.args.address) c.without_pointers-block.ensures)
