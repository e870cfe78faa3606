use Rattle.std.proofs.Common.{◌≡◌, ◌<◌, ◌++◌, ◌%◌, subst, arith}
use Rattle.std.proofs.lemmas.Option.{IfSome_then}
use Rattle.model.specs.Image.{block_at}
use Rattle.device.specs.Writes.{image_after}
use Rattle.file_device.specs.Calls.{Calls, IsHonestFile, image_now, image_of, writes_of}
use Rattle.file_device.specs.Runs.{IsUntouched, slots_of, waiting}
use Rattle.file_device.proofs.EarlierLemmas.{slot_copy}
use Rattle.file_device.proofs.RunLemmas.{kept_copy, waiting_untouched}
use Rattle.file_device.proofs.CallLemmas.{length_of}
use Rattle.file_device.proofs.file.FileDevice.find.Goals as goal

pub returns-in-Some-clause-copy : goal.returns-in-Some-clause-copy
returns-in-Some-clause-copy g c =
    let device = c.self.inside in
    let ws = writes_of device.answered.items ++ waiting device.waits device.kept in
    subst (λ (v : Calls). IsHonestFile g.S.Start.first v → c.args.address < v.count → c.in-Some.block.now ≡ block_at (image_now g.S.Start.first v) c.args.address) c.self.view_is
    (λ h low. kept_copy (image_after (image_of g.S.Start.first device.count) ws) device.kept c.args.address c.in-Some.block.now (c.self.invariant.keeping.kept h) c.in-Some.ensures.kept (omega (arith, low, length_of g.S.Start.first device.count ws)))

pub returns-in-None-clause-copy : goal.returns-in-None-clause-copy
returns-in-None-clause-copy g c =
    let device = c.self.inside in
    let ws = writes_of device.answered.items ++ waiting device.waits device.kept in
    IfSome_then c.block-in-None.result c.block-in-None.ensures.kept
    (λ block one. subst (λ (v : Calls). IsHonestFile g.S.Start.first v → c.args.address < v.count → block.now ≡ block_at (image_now g.S.Start.first v) c.args.address) c.self.view_is
    (λ h low. slot_copy (image_after (image_of g.S.Start.first device.count) ws) (slots_of device.earlier) (c.args.address % 31) (c.args.address, block.now) (c.self.invariant.keeping.earlier h) one (omega (arith, low, length_of g.S.Start.first device.count ws))))

pub returns-in-None-clause-none : goal.returns-in-None-clause-none
returns-in-None-clause-none g c _ =
    subst (λ (v : Calls). IsUntouched v.waiting c.args.address) c.self.view_is (waiting_untouched c.self.inside.waits c.self.inside.kept c.args.address (c.block.ensures.none c.in-None.is))
