use Rattle.std.proofs.Common.{◌≡◌, arith, sym, ap, subst, ◌∙◌, length, true, All}
use Rattle.device.specs.Cached.{held_in_memory}
use Rattle.device.specs.Media.{IsWhole, begun, settled_on, steps_of}
use Rattle.device.specs.MediaLaws.{writes_in-steps_of}
use Rattle.device.specs.Memory.{Memory, IsWriteTo}
use Rattle.device.proofs.MediaLemmas.{whole_after, whole_begun}
use Rattle.device.proofs.WriteLemmas.{length-image_after}
use Rattle.device.proofs.memory.MemDeviceDevice.blocks.Goals as goal

pub returns-clause-medium : goal.returns-clause-medium
returns-clause-medium c =
    let first = c.self.inside.first.items in
    let writes = c.self.inside.writes.items in
    let many : c.len.result ≡ length first = omega (arith, ap length c.self.invariant.kept, length-image_after first writes) in
    subst (λ (m : Memory). IsWhole c.len.result (held_in_memory m).now) c.self.view_is
    (subst (λ n. IsWhole n (held_in_memory (record { first = first; writes = writes; failures = c.self.inside.failures })).now) (sym many)
    (whole_after true (length first) (begun (settled_on first)) (steps_of writes) (whole_begun first c.self.invariant.began)
    (subst (All (IsWriteTo (length first))) (sym (writes_in-steps_of writes)) c.self.invariant.written)))
