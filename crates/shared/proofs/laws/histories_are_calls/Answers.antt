use Rattle.shared.specs.Traces.{asked_by, first_at, now_at, opening_at}
use Rattle.shared.proofs.laws.histories_are_calls.Goals as goal

pub returns : goal.returns
returns g c = λ before trace now h.
    let o = h.opening in
    let p = h.past in
    c.calls_join.ensures (first_at h) (opening_at o) (now_at o) p.commands (asked_by o.opening.kept.geometry trace) p.responses o.responses p.goes o.goes
