use Rattle.shared.specs.Traces.{asked_by, now_at, opening_at}
use Rattle.shared.proofs.laws.each_power_cut_of_a_trace_is_safe.Goals as goal

pub returns : goal.returns
returns g c = λ held image trace now o mount h cut safe begin sound.
    let s = c.each_power_cut_of_a_run_is_safe.ensures (opening_at o) (now_at o) (asked_by o.opening.kept.geometry trace) o.responses o.goes mount h cut safe begin sound in (s.1, s.2, s.3, s.4, s.5)
