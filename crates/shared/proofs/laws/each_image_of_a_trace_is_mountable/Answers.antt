use Rattle.shared.specs.Traces.{asked_by, now_at, opening_at}
use Rattle.shared.proofs.laws.each_image_of_a_trace_is_mountable.Goals as goal

pub returns : goal.returns
returns g c = λ held image trace now o. c.each_image_held_is_mountable.ensures (opening_at o) (now_at o) (asked_by o.opening.kept.geometry trace) o.responses o.opens o.goes
