use Rattle.left_images.proofs.ChoiceLemmas.{digits_more}
use Rattle.left_images.proofs.choosing.digits.Goals as goal

pub loop-at-preserved : goal.loop-at-preserved
loop-at-preserved c = digits_more c.loop-at.picks.items c.push.new.self.items c.args.count c.loop-at.at c.loop-at.rest c.args.number c.loop-at-test.true c.in_ok-push.ensures.items c.loop-at.invariant
