use Rattle.std.proofs.Common.{◌+◌, refl, arith}
use Rattle.frozen.specs.Kept.{frozen_view}
use Rattle.live_places.proofs.FreeCounts.{among_all, next_counts, none_left}
use Rattle.live_places.proofs.taking.take.Goals as goal

pub returns-in-Some-clause-taken : goal.returns-in-Some-clause-taken
returns-in-Some-clause-taken c =
    let geo = c.args.metadata.now.geometry in
    let view = frozen_view c.args.metadata.now in
    record {
      next = c.in-Some.ensures;
      small = omega arith;
      more = next_counts geo view c.args.from c.in-Some.block c.in-Some.ensures;
      among = among_all geo view (c.in-Some.block + 1);
    }

pub returns-in-None-clause-none : goal.returns-in-None-clause-none
returns-in-None-clause-none c = (refl, none_left c.args.metadata.now.geometry (frozen_view c.args.metadata.now) c.args.from c.in-None.ensures)
