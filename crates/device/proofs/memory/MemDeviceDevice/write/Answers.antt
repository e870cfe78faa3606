use Rattle.std.proofs.Common.{sym, ap, subst, length, ◌<◌, ◌∙◌, true, set as slice_set}
use Rattle.model.proofs.ImageLemmas.{is_block}
use Rattle.device.specs.Cached.{held_in_memory}
use Rattle.device.specs.Media.{begun, held_after, settled_on, steps_of, wrote}
use Rattle.device.specs.MediaLaws.{image_after-push}
use Rattle.device.specs.Memory.{Memory, IsMemory}
use Rattle.device.specs.Writes.{image_after}
use Rattle.device.proofs.MediaLemmas.{held_in_order-push}
use Rattle.device.proofs.WriteLemmas.{memory-push}
use Rattle.device.proofs.memory.MemDeviceDevice.write.Goals as goal

pub invariant_of-self : goal.invariant_of-self
invariant_of-self c =
    let inside = c.self.inside in
    subst (IsMemory inside.first.items (slice_set inside.now.items c.args.address c.args.from.now)) (sym c.in-Ok.ensures.items)
    (memory-push inside.first.items inside.now.items inside.writes.items c.args.address c.args.from.now c.self.invariant
    (subst (λ (m : Memory). c.args.address < length (image_after m.first m.writes)) (sym c.self.view_is) c.requires) (is_block c.args.from.now c.told-from c.fits-from))

pub returns-in-Ok-clause-written : goal.returns-in-Ok-clause-written
returns-in-Ok-clause-written c =
    ap (image_after c.self.inside.first.items) c.in-Ok.ensures.items
    ∙ image_after-push c.self.inside.first.items c.self.inside.writes.items (c.args.address, c.args.from.now)
    ∙ ap (λ (m : Memory). slice_set (image_after m.first m.writes) c.args.address c.args.from.now) c.self.view_is

pub returns-in-Ok-clause-held : goal.returns-in-Ok-clause-held
returns-in-Ok-clause-held c =
    let inside = c.self.inside in
    ap (λ ws. held_after true (begun (settled_on inside.first.items)) (steps_of ws)) c.in-Ok.ensures.items
    ∙ held_in_order-push (begun (settled_on inside.first.items)) inside.writes.items (c.args.address, c.args.from.now)
    ∙ ap (λ (m : Memory). wrote true (held_in_memory m) c.args.address c.args.from.now) c.self.view_is
