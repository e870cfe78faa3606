use Rattle.snapshot.specs.declared.command.Command.TheVariants.{Sync}
use Rattle.script_lines.specs.Cuts.{held_in, image_in}
use Rattle.script_lines.proofs.CarriedLemmas.{always, one_on, then_on}
use Rattle.script_lines.proofs.cuts.cuts_of_script.Goals as goal

pub returns-clause-ran : goal.returns-clause-ran
returns-clause-ran g c =
    let old = c.args.volume.now in
    let mid = c.carry_out.new.volume in
    let new = c.apply.new.self in
    always _ c.told.result (then_on (held_in old.device) (held_in mid.device) (held_in new.device) (image_in old.device) (image_in mid.device) (image_in new.device) old mid new
    (c.in_ok-carry_out.ensures.ran tt) (one_on (held_in mid.device) (held_in new.device) (image_in mid.device) (image_in new.device) mid new Sync c.apply.result (c.apply.ensures.applied tt)))
