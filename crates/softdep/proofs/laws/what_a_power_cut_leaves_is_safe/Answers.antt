use Rattle.std.proofs.Common.{refl}
use Rattle.model.specs.Image.{block_at}
use Rattle.softdep.proofs.Frames.{left_frames}
use Rattle.power_cut.specs.Volumes.{Moment}
use Rattle.power_cut.proofs.ImageLemmas.{safely_left}
use Rattle.softdep.proofs.laws.what_a_power_cut_leaves_is_safe.Goals as goal

pub returns-clause-image : goal.returns-clause-image
returns-clause-image c mounted queue m image on left = left_frames queue.geometry m image on.image on.frames left

pub returns-clause-safe : goal.returns-clause-safe
returns-clause-safe c mounted queue m ghost image on good left =
    let now : Moment = record { written = queue.written; cut = queue.durable; durable = block_at m.durable; loose = on.puts; ghost = ghost } in
    let safe = safely_left queue.geometry mounted m now image (record { good = good; view = on.durable; epoch = on.epoch }) (record { durable = refl; loose = on.writes; within = on.within }) left in
    record { cut = safe.cut; image = safe.image; durable = safe.durable; safe = safe.safe }
