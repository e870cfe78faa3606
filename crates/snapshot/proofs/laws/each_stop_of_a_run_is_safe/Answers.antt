use Rattle.softdep.specs.Queued.{pending_of}
use Rattle.courses.proofs.ServiceLemmas.{service_safe}
use Rattle.live.specs.Alive.{disk_of}
use Rattle.snapshot.specs.Stages.{geometry_at, state_at}
use Rattle.snapshot.proofs.laws.each_stop_of_a_run_is_safe.Goals as goal

pub returns : goal.returns
returns g c = λ s t commands replies leads mount h cut safe begin.
    let served = leads.service mount h cut safe begin in (
      leads.later,
      leads.since,
      served.0,
      served.1,
      service_safe (geometry_at s) mount h cut (disk_of s.image s.volume) (pending_of s.volume.queue) (state_at s) safe begin
          (disk_of t.image t.volume) (pending_of t.volume.queue) (state_at t) served.0 commands replies leads.later served.1,
    )
