use Rattle.upkeep.proofs.Asking.{inner_then}
use Rattle.upkeep.proofs.mending.mend_frozen.Goals as goal

pub returns-in_err-repaired-clause-inner : goal.returns-in_err-repaired-clause-inner
returns-in_err-repaired-clause-inner g c =
    let calls = g.A.Asked.calls in
    inner_then (calls c.args.asked.now) (calls c.install.new.asked) (calls c.repair_all.new.asked) c.in_ok-install.ensures.inner c.in_err-repaired.ensures.inner

pub returns-clause-inner : goal.returns-clause-inner
returns-clause-inner g c =
    let calls = g.A.Asked.calls in
    inner_then (calls c.args.asked.now) (calls c.install.new.asked) (calls c.repair_all.new.asked) c.in_ok-install.ensures.inner c.in_ok-repaired.ensures.inner
