use Rattle.std.proofs.Common.{◌≡◌, arith, sym, ap, subst, ◌∙◌, length, false}
use Rattle.device.specs.Cached.{Cache, held_by}
use Rattle.device.specs.Media.{IsWhole, begun, settled_on, writes_in}
use Rattle.device.proofs.MediaLemmas.{whole_after, whole_begun}
use Rattle.device.proofs.WriteLemmas.{length-image_after}
use Rattle.device.proofs.cache.CacheDeviceDevice.blocks.Goals as goal

pub returns-clause-medium : goal.returns-clause-medium
returns-clause-medium c =
    let first = c.self.inside.first.items in
    let steps = c.self.inside.steps.items in
    let many : c.len.result ≡ length first = omega (arith, ap length c.self.invariant.kept, length-image_after first (writes_in steps)) in
    subst (λ (d : Cache). IsWhole c.len.result (held_by d.first d.steps).now) c.self.view_is
    (subst (λ n. IsWhole n (held_by first steps).now) (sym many)
    (whole_after false (length first) (begun (settled_on first)) steps (whole_begun first c.self.invariant.began) c.self.invariant.written))
