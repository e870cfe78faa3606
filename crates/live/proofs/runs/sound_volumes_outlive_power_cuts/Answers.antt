use Rattle.live_states.specs.Holdings.{held_by}
use Rattle.live.proofs.Durably.{fresh_sound, goes_then, leaves_safe, sound_anew}
use Rattle.live.proofs.runs.sound_volumes_outlive_power_cuts.Goals as goal

pub returns-clause-mounted : goal.returns-clause-mounted
returns-clause-mounted g c = λ m live fresh mounts none safe files. fresh_sound m live.kept.geometry live.queue (held_by live.holdings) safe fresh mounts none files

pub returns-clause-left : goal.returns-clause-left
returns-clause-left g c = λ m live safe sound. leaves_safe m live.kept.geometry live.queue (held_by live.holdings) safe sound

pub returns-clause-along : goal.returns-clause-along
returns-clause-along g c = goes_then

pub returns-clause-anew : goal.returns-clause-anew
returns-clause-anew g c = λ m live safe sound none more files. sound_anew m live.kept.geometry live.queue (held_by live.holdings) safe sound none more files
