use Rattle.left_images.proofs.ChoiceLemmas.{too_many}
use Rattle.left_images.proofs.choosing.ways.Goals as goal

pub returns-then-ways-most-clause-none : goal.returns-then-ways-most-clause-none
returns-then-ways-most-clause-none c _ = too_many c.args.loose c.args.most c.loop-at.ways c.loop-at.at c.loop-at-test.true c.loop-at.invariant.is c.if-ways-most.true
