use Rattle.std.proofs.Common.{refl, ◌∙◌, ◌++◌, [], ap, sym, true}
use Rattle.file_device.specs.Calls.{calls_of, image_of, no_block}
use Rattle.file_device.specs.Runs.{waiting, writes_of_earlier, writes_of_run}
use Rattle.file_device.proofs.CallLemmas.{refusal_ends, refuses_one, still_heard}
use Rattle.file_device.proofs.KeepLemmas.{keeps_given}
use Rattle.file_device.proofs.RunLemmas.{all_wait}
use Rattle.file_device.proofs.file.FileDevice.give_waiting.Goals as goal

pub invariant_of-self : goal.invariant_of-self
invariant_of-self g c =
    let device = c.self.inside in
    let given = c.add_run.ensures ∙ ap (λ ws. device.answered.items ++ calls_of true ws) (sym (all_wait device.waits device.kept c.if-not-self.false)) in
    record {
      keeping = keeps_given (image_of g.S.Start.first device.count) device.answered.items c.add_run.new.answered.items (waiting device.waits device.kept) [] (writes_of_run device.kept) (writes_of_earlier device.earlier)
          c.self.invariant.keeping given refl;
      heard = still_heard device.broken device.answered.items c.add_run.new.answered.items true (waiting device.waits device.kept) c.self.invariant.heard given;
    }

pub returns-in-Err-clause-refused : goal.returns-in-Err-clause-refused
returns-in-Err-clause-refused g c =
    refuses_one c.args.self.now c.refuse.new.self no_block c.refuse.ensures

pub returns-in-Err-clause-ends : goal.returns-in-Err-clause-ends
returns-in-Err-clause-ends g c = refusal_ends c.args.self.now c.refuse.new.self no_block c.refuse.ensures
