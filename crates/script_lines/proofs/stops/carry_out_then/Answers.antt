use Rattle.script_lines.proofs.CarriedLemmas.{always, none_on, one_on}
use Rattle.script_lines.proofs.stops.carry_out_then.Goals as goal

pub returns-in-Some-clause-ran : goal.returns-in-Some-clause-ran
returns-in-Some-clause-ran g c = always _ c.passed_over.result (λ h.
    let held = g.D.Device.held in
    let image = g.D.Device.image in
    let old = c.args.volume.now in
    let new = c.apply.new.self in
    one_on (held old.device) (held new.device) (image old.device) (image new.device) old new c.in-Some.next c.apply.result (c.apply.ensures.applied h))

pub returns-in-None-clause-ran : goal.returns-in-None-clause-ran
returns-in-None-clause-ran g c = always _ c.passed_over-in-None.result (λ h.
    let old = c.args.volume.now in
    none_on (g.D.Device.held old.device) (g.D.Device.image old.device) old)
