use Rattle.script_lines.proofs.CarriedLemmas.{on_ok, one_on, then_on}
use Rattle.script_lines.proofs.stops.carry_out_line.Goals as goal

pub returns-clause-ran : goal.returns-clause-ran
returns-clause-ran g c = on_ok c.carry_out_then.result (λ ran h.
    let held = g.D.Device.held in
    let image = g.D.Device.image in
    let old = c.args.volume.now in
    let mid = c.apply-reply.new.self in
    let new = c.carry_out_then.new.volume in
    then_on (held old.device) (held mid.device) (held new.device) (image old.device) (image mid.device) (image new.device) old mid new
    (one_on (held old.device) (held mid.device) (image old.device) (image mid.device) old mid c.in-Ok.command c.apply-reply.result (c.apply-reply.ensures.applied (c.carry_out_then.ensures.honest h)))
    (ran h)) c.carry_out_then.ensures.ran
