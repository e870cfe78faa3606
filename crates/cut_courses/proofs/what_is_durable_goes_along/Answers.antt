use Rattle.cut_courses.proofs.Along.{planned_durably, written_durably, synced_durably, released_durably, anew_durably}
use Rattle.cut_courses.proofs.what_is_durable_goes_along.Goals as goal

pub returns-clause-plans : goal.returns-clause-plans
returns-clause-plans c = planned_durably

pub returns-clause-writes : goal.returns-clause-writes
returns-clause-writes c = written_durably

pub returns-clause-syncs : goal.returns-clause-syncs
returns-clause-syncs c = synced_durably

pub returns-clause-releases : goal.returns-clause-releases
returns-clause-releases c = released_durably

pub returns-clause-anew : goal.returns-clause-anew
returns-clause-anew c = anew_durably
