use Rattle.std.proofs.Common.{refl}
use Rattle.power_cut.proofs.ImageLemmas.{stands_issued, stands_synced, stands_written}
use Rattle.power_cut.proofs.media_go_along.Goals as goal

pub returns-clause-begins : goal.returns-clause-begins
returns-clause-begins c image ghost = record { durable = refl; loose = refl; within = tt }

pub returns-clause-issued : goal.returns-clause-issued
returns-clause-issued c = stands_issued

pub returns-clause-written : goal.returns-clause-written
returns-clause-written c = stands_written

pub returns-clause-synced : goal.returns-clause-synced
returns-clause-synced c = stands_synced
