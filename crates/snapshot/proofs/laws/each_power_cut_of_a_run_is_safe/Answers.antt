use Rattle.live_states.specs.Holdings.{held_by}
use Rattle.live.proofs.Durably.{leaves_safe}
use Rattle.snapshot.specs.Stages.{geometry_at}
use Rattle.snapshot.proofs.laws.each_power_cut_of_a_run_is_safe.Goals as goal

pub returns : goal.returns
returns g c = λ s t commands replies leads mount h cut safe begin sound.
    let served = leads.service mount h cut safe begin in
    let soundly = served.2.sound sound in
    (leaves_safe s.held.now (geometry_at s) s.volume.queue (held_by s.volume.holdings) safe sound, leads.later, served.0, served.1, soundly.0, soundly.1)
