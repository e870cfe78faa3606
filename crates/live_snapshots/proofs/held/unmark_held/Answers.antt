-- What is held is unmarked up to the next block that is, and from there on as far as its group goes.
use Rattle.std.proofs.Common.{◌||◌}
use Rattle.live_states.specs.Holdings.{held_by}
use Rattle.live_snapshots.specs.Unmarked.{held_between}
use Rattle.live_snapshots.proofs.Unmarking.{between_all, between_joined, unmarks_joined, unmarks_same}
use Rattle.live_snapshots.proofs.held.unmark_held.Goals as goal

pub unmark_from-requires-clause-metadata : goal.unmark_from-requires-clause-metadata
unmark_from-requires-clause-metadata c = c.loop-address.invariant.0.metadata c.requires

pub loop-address-preserved : goal.loop-address-preserved
loop-address-preserved c =
    let h = c.args.holdings.now in
    let from = c.loop-address.from in
    let n = c.in-Some.address in
    let end = c.in_ok-from.from in (
      unmarks_same c.args.frozen.now c.unmark_from.new.frozen (λ a. held_between h 0 from a || held_between h n end a) (held_between h 0 end) (between_joined h from n end c.in-Some.ensures.next c.in_ok-from.ensures.0)
          (unmarks_joined c.args.frozen.now c.loop-address.frozen c.unmark_from.new.frozen (held_between h 0 from) (held_between h n end) c.loop-address.invariant.0 c.in_ok-from.ensures.2),
      c.in_ok-from.ensures.1,
    )

pub returns : goal.returns
returns c =
    let h = c.args.holdings.now in
    unmarks_same c.args.frozen.now c.loop-address.frozen (held_between h 0 c.loop-address.from) (held_by h) (between_all h c.loop-address.from c.in_default.ensures.next) c.loop-address.invariant.0
