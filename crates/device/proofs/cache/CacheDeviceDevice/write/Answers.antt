use Rattle.std.proofs.Common.{sym, ap, subst, length, ◌<◌, ◌∙◌, false, set as slice_set}
use Rattle.model.proofs.ImageLemmas.{is_block}
use Rattle.device.specs.declared.cache.Step.TheVariants.{Wrote}
use Rattle.device.specs.Cached.{Cache, held_by}
use Rattle.device.specs.Media.{begun, settled_on, writes_in, wrote}
use Rattle.device.specs.MediaLaws.{image_after-push}
use Rattle.device.specs.Memory.{IsMemory}
use Rattle.device.specs.Writes.{image_after}
use Rattle.device.proofs.MediaLemmas.{held_after-push, writes_in-wrote}
use Rattle.device.proofs.WriteLemmas.{memory-push}
use Rattle.device.proofs.cache.CacheDeviceDevice.write.Goals as goal

pub invariant_of-self : goal.invariant_of-self
invariant_of-self c =
    let inside = c.self.inside in
    subst (IsMemory inside.first.items (slice_set inside.now.items c.args.address c.args.from.now))
    (sym (ap writes_in c.in-Ok.ensures.items ∙ writes_in-wrote inside.steps.items c.args.address c.args.from.now))
    (memory-push inside.first.items inside.now.items (writes_in inside.steps.items) c.args.address c.args.from.now c.self.invariant
    (subst (λ (d : Cache). c.args.address < length (image_after d.first (writes_in d.steps))) (sym c.self.view_is) c.requires) (is_block c.args.from.now c.told-from c.fits-from))

pub returns-in-Ok-clause-written : goal.returns-in-Ok-clause-written
returns-in-Ok-clause-written c =
    let inside = c.self.inside in
    ap (image_after inside.first.items) (ap writes_in c.in-Ok.ensures.items ∙ writes_in-wrote inside.steps.items c.args.address c.args.from.now)
    ∙ image_after-push inside.first.items (writes_in inside.steps.items) (c.args.address, c.args.from.now)
    ∙ ap (λ (d : Cache). slice_set (image_after d.first (writes_in d.steps)) c.args.address c.args.from.now) c.self.view_is

pub returns-in-Ok-clause-held : goal.returns-in-Ok-clause-held
returns-in-Ok-clause-held c =
    let inside = c.self.inside in
    ap (held_by inside.first.items) c.in-Ok.ensures.items
    ∙ held_after-push false (begun (settled_on inside.first.items)) inside.steps.items (Wrote c.args.address c.args.from.now)
    ∙ ap (λ (d : Cache). wrote false (held_by d.first d.steps) c.args.address c.args.from.now) c.self.view_is
