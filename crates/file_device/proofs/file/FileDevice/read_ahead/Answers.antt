use Rattle.std.proofs.Common.{false, refl, sym, ◌∙◌}
use Rattle.file_device.specs.Calls.{image_of}
use Rattle.file_device.specs.Runs.{waiting, writes_of_earlier, writes_of_run}
use Rattle.file_device.proofs.KeepLemmas.{keeps_read}
use Rattle.file_device.proofs.RunLemmas.{none_waits}
use Rattle.file_device.proofs.CallLemmas.{reads_run, still_heard}
use Rattle.file_device.proofs.file.FileDevice.read_ahead.Goals as goal

pub invariant_of-self : goal.invariant_of-self
invariant_of-self g c =
    let device = c.self.inside in
    record {
      keeping = keeps_read (image_of g.S.Start.first device.count) device.answered.items c.add_run.new.answered.items (waiting device.waits device.kept) (waiting device.waits c.read.new.self) (writes_of_run device.kept)
          (writes_of_earlier device.earlier) c.self.invariant.keeping (writes_of_run c.read.new.self) c.add_run.ensures (none_waits device.waits device.kept c.if-self.false) (none_waits device.waits c.read.new.self c.if-self.false);
      heard = still_heard device.broken device.answered.items c.add_run.new.answered.items false (writes_of_run c.read.new.self) c.self.invariant.heard c.add_run.ensures;
    }

pub returns-clause-read : goal.returns-clause-read
returns-clause-read g c =
    reads_run c.args.self.now _ _ (writes_of_run c.read.new.self) c.self.view_is refl c.add_run.ensures
    (none_waits c.self.inside.waits c.read.new.self c.if-self.false ∙ sym (none_waits c.self.inside.waits c.self.inside.kept c.if-self.false))
