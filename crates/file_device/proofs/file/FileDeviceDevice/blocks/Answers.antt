use Rattle.std.proofs.Common.{sym, ap, ◌∙◌, ◌++◌, subst, All, length}
use Rattle.std.proofs.lemmas.List.FromFn.{length-map-range_with_len}
use Rattle.model.specs.Image.{IsBlock}
use Rattle.device.specs.Media.{IsWhole}
use Rattle.device.specs.Memory.{IsWriteTo}
use Rattle.device.proofs.WriteLemmas.{whole_after_writes}
use Rattle.file_device.specs.Calls.{Calls, all_writes, held_so_far, image_now, image_of, writes_of}
use Rattle.file_device.specs.Runs.{waiting}
use Rattle.file_device.proofs.CallLemmas.{held_whole, length_of, whole_start}
use Rattle.file_device.proofs.file.FileDeviceDevice.blocks.Goals as goal

pub returns-clause-count : goal.returns-clause-count
returns-clause-count g c = ap (λ (v : Calls). v.count) c.self.view_is ∙ sym (length_of g.S.Start.first c.args.self.now.count (all_writes c.args.self.now))

pub returns-clause-whole : goal.returns-clause-whole
returns-clause-whole g c =
    let device = c.self.inside in
    let start = image_of g.S.Start.first device.count in
    subst (λ (v : Calls). All IsBlock (image_now g.S.Start.first v)) c.self.view_is
    (whole_after_writes start (length start) (writes_of device.answered.items ++ waiting device.waits device.kept) (whole_start g.S.Start.first g.S.Start.whole device.count) c.self.invariant.keeping.whole)

pub returns-clause-medium : goal.returns-clause-medium
returns-clause-medium g c =
    let device = c.self.inside in
    let many = length-map-range_with_len g.S.Start.first 0 device.count in
    subst (λ n. IsWhole n (held_so_far g.S.Start.first g.S.Start.below c.args.self.now).now) (sym (ap (λ (v : Calls). v.count) c.self.view_is))
    (held_whole g.S.Start.first g.S.Start.below g.S.Start.whole g.S.Start.whole_below c.args.self.now
    (subst (λ (v : Calls). All (IsWriteTo v.count) (all_writes v)) c.self.view_is
    (subst (λ n. All (IsWriteTo n) (writes_of device.answered.items ++ waiting device.waits device.kept)) many c.self.invariant.keeping.whole)))
