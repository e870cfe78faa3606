use Rattle.std.proofs.Common.{sym, ap, subst, ◌∙◌, false}
use Rattle.device.specs.declared.cache.Step.TheVariants.{Synced}
use Rattle.device.specs.Cached.{Cache, held_by}
use Rattle.device.specs.Media.{begun, settled_on, synced, writes_in}
use Rattle.device.specs.Memory.{IsMemory}
use Rattle.device.specs.Writes.{image_after}
use Rattle.device.proofs.MediaLemmas.{held_after-push, writes_in-synced}
use Rattle.device.proofs.cache.CacheDeviceDevice.sync.Goals as goal

pub invariant_of-self : goal.invariant_of-self
invariant_of-self c =
    let inside = c.self.inside in
    subst (IsMemory inside.first.items inside.now.items) (sym (ap writes_in c.in-Ok.ensures.items ∙ writes_in-synced inside.steps.items)) c.self.invariant

pub returns-in-Ok-clause-same : goal.returns-in-Ok-clause-same
returns-in-Ok-clause-same c =
    let inside = c.self.inside in
    ap (image_after inside.first.items) (ap writes_in c.in-Ok.ensures.items ∙ writes_in-synced inside.steps.items)
    ∙ ap (λ (d : Cache). image_after d.first (writes_in d.steps)) c.self.view_is

pub returns-in-Ok-clause-held : goal.returns-in-Ok-clause-held
returns-in-Ok-clause-held c =
    let inside = c.self.inside in
    ap (held_by inside.first.items) c.in-Ok.ensures.items
    ∙ held_after-push false (begun (settled_on inside.first.items)) inside.steps.items Synced
    ∙ ap (λ (d : Cache). synced (held_by d.first d.steps)) c.self.view_is
