use Rattle.std.proofs.Common.{refl}
use Rattle.file_device.specs.declared.file.Call.TheVariants.{Refuse}
use Rattle.file_device.specs.Calls.{image_of, no_block}
use Rattle.file_device.specs.Runs.{waiting, writes_of_earlier, writes_of_run}
use Rattle.file_device.proofs.KeepLemmas.{keeps_noted}
use Rattle.file_device.proofs.CallLemmas.{noted, refusal_heard}
use Rattle.file_device.proofs.file.FileDevice.refuse.Goals as goal

pub invariant_of-self : goal.invariant_of-self
invariant_of-self g c =
    let device = c.self.inside in
    record {
      keeping = keeps_noted (image_of g.S.Start.first device.count) device.answered.items c.and-self-inside.result.items (waiting device.waits device.kept) (waiting device.waits device.kept) (writes_of_run device.kept) (writes_of_earlier device.earlier)
          c.self.invariant.keeping Refuse no_block refl c.and-self-inside.ensures;
      heard = refusal_heard device.answered.items c.and-self-inside.result.items no_block c.and-self-inside.ensures;
    }

pub returns : goal.returns
returns g c = noted c.args.self.now _ c.and-self-inside.result.items Refuse no_block c.self.view_is c.and-self-inside.ensures
