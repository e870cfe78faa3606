use Rattle.softdep.specs.Queued.{pending_of}
use Rattle.live.specs.Alive.{disk_of}
use Rattle.snapshot.specs.Stages.{geometry_at, state_at}
use Rattle.snapshot.proofs.laws.files_show_their_own_bytes.Goals as goal

pub returns : goal.returns
returns g c = λ s t commands replies leads mount h cut safe begin.
    let stops = c.each_stop_of_a_run_is_safe.ensures s t commands replies leads mount h cut safe begin in (
      stops.0,
      stops.1,
      stops.2,
      stops.3,
      c.files_show_their_own_bytes.ensures (geometry_at s) mount h cut (disk_of s.image s.volume) (pending_of s.volume.queue) (state_at s) safe begin
          (disk_of t.image t.volume) (pending_of t.volume.queue) (state_at t) stops.2 commands replies stops.0 stops.3,
    )
