use Rattle.std.proofs.Common.{arith}
use Rattle.frozen.specs.Kept.{frozen_view}
use Rattle.live_places.proofs.FreeCounts.{among_all}
use Rattle.live_places.proofs.taking.take_tables.Goals as goal

-- what was taken before was there
pub returns-then-count-eq0-clause-enough : goal.returns-then-count-eq0-clause-enough
returns-then-count-eq0-clause-enough c = omega (arith, c.if-count-eq0.true, among_all c.args.metadata.now.geometry (frozen_view c.args.metadata.now) c.args.from)
