use Rattle.std.proofs.Common.{false}
use Rattle.shared.specs.Traces.{asked_by, now_at, opening_at}
use Rattle.shared.proofs.laws.each_stop_of_a_trace_is_safe.Goals as goal

pub returns-clause-beginning : goal.returns-clause-beginning
returns-clause-beginning g c = λ held image trace now o mount h cut safe begin.
    let s = c.each_stop_of_a_run_is_safe.ensures (opening_at o) (now_at o) (asked_by o.opening.kept.geometry trace) o.responses o.goes mount h cut safe begin in
    record { later = s.0; since = s.1; safe' = s.2; service = s.3; stops = s.4 }

pub returns-clause-stops : goal.returns-clause-stops
returns-clause-stops g c = λ held image trace now o.
    let b = c.volumes_begin.ensures (opening_at o) o.opens in
    (b.0, b.1, b.2, returns-clause-beginning g c held image trace now o b.0 b.1 b.2 (λ f. false) b.3)
