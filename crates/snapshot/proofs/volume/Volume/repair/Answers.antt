use Rattle.std.proofs.Common.{Ok, Err, OnOk, IfErr, subst}
use Rattle.machine.specs.Command.{Done, RepairAt}
use Rattle.live.specs.Alive.{Alive}
use Rattle.snapshot.specs.Goes.{Replies}
use Rattle.snapshot.proofs.CallLemmas.{if_err, kept_ok, on_ok₂, quiet_ok, same_err}
use Rattle.snapshot.proofs.volume.Volume.repair.Goals as goal

pub invariant_of-self : goal.invariant_of-self
invariant_of-self g c =
    let old = c.self.inside.live in
    let new = c.repair-outcome.new.self in
    let command = RepairAt c.args.place in
    kept_ok g.D.Device.honest g.D.Device.held g.D.Device.image old new command Done c.repair-outcome.result
    (on_ok₂ (quiet_ok g.D.Device.honest g.D.Device.held g.D.Device.image old new command Done c.repair-outcome.ensures.device c.device.ensures.stands) c.repair-outcome.result c.repair-outcome.ensures.done c.repair-outcome.ensures.sound)
    c.repair-outcome.ensures.untouched c.self.invariant (subst g.D.Device.honest c.repair-outcome.ensures.device)

pub returns-clause-repaired : goal.returns-clause-repaired
returns-clause-repaired g c =
    let old = c.self.inside.live in
    let new = c.repair-outcome.new.self in
    let command = RepairAt c.args.place in
    subst (λ (l : Alive _). OnOk c.repair-outcome.result (g.D.Device.honest new.device → Replies (g.D.Device.held l.device) (g.D.Device.image l.device) l command (Ok Done) (g.D.Device.held new.device) (g.D.Device.image new.device) new)) c.self.view_is
    (on_ok₂ (quiet_ok g.D.Device.honest g.D.Device.held g.D.Device.image old new command Done c.repair-outcome.ensures.device c.device.ensures.stands) c.repair-outcome.result c.repair-outcome.ensures.done c.repair-outcome.ensures.sound)

pub returns-clause-refused : goal.returns-clause-refused
returns-clause-refused g c =
    let old = c.self.inside.live in
    let new = c.repair-outcome.new.self in
    let command = RepairAt c.args.place in
    subst (λ (l : Alive _). IfErr c.repair-outcome.result (λ r. g.D.Device.honest new.device → Replies (g.D.Device.held l.device) (g.D.Device.image l.device) l command (Err r) (g.D.Device.held new.device) (g.D.Device.image new.device) new)) c.self.view_is
    (if_err (λ r may same h. same_err g.D.Device.honest g.D.Device.held g.D.Device.image old new command r same (λ beside is. (may (subst g.D.Device.honest c.repair-outcome.ensures.device h) beside is.belongs).0))
    c.repair-outcome.result c.repair-outcome.ensures.refused c.repair-outcome.ensures.untouched)
