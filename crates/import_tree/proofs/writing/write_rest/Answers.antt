use Rattle.std.proofs.Common.{refl}
use Rattle.std.proofs.lemmas.Result.{on_ok_weaker}
use Rattle.machine.specs.Command.{Sync as AsksSync}
use Rattle.snapshot.specs.declared.command.Command.TheVariants.{Sync}
use Rattle.image_changes.proofs.AskingLemmas.{adds_one}
use Rattle.import_tree.proofs.writing.write_rest.Goals as goal

pub returns-clause-written : goal.returns-clause-written
returns-clause-written g c =
    let held = g.D.Device.held in
    let image = g.D.Device.image in
    let old = c.args.volume.now in
    let new = c.write_all.new.volume in
    on_ok_weaker c.write_all.result (λ written honest. let is = written honest in
    adds_one (held old.device) (held new.device) (image old.device) (image new.device) old new Sync is.answer AsksSync is.applies (λ geo. refl)) c.write_all.ensures.written
