use Rattle.std.proofs.Common.{◌++◌, sym, subst}
use Rattle.model.specs.Layout.{Geometry}
use Rattle.machine.specs.Balance.{Exact, OwesNothing}
use Rattle.snapshot.specs.Cycles.{HasCycle}
use Rattle.snapshot.specs.Stages.{state_at}
use Rattle.shared.specs.Traces.{asked_by, first_at, now_at}
use Rattle.shared.proofs.laws.repairs_of_a_history_end_exact.Goals as goal

pub returns : goal.returns
returns g c = λ before trace now h cycle.
    let o = h.opening in
    let p = h.past in
    let replies = p.responses ++ o.responses in
    let commands = p.commands ++ asked_by o.opening.kept.geometry trace in
    let s = state_at (now_at o) in
    let goes = c.histories_are_calls.ensures before trace now h in
    -- the geometry of the volume is one throughout
    let cycle' = subst (λ (geo : Geometry). HasCycle geo commands replies) goes.geometry (subst (λ (geo : Geometry). HasCycle now.kept.geometry (p.commands ++ asked_by geo trace) replies) o.goes.geometry cycle) in
    subst (λ (geo : Geometry). OwesNothing geo s × Exact geo s) (sym goes.geometry)
    (c.whole_cycles_end_exact.ensures.within (first_at h) (now_at o) commands replies p.stands goes cycle')
