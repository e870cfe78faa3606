use Rattle.power_cut.proofs.ImageLemmas.{answered_leaves, earlier_leaves, in_order_leaves, settled_leaves}
use Rattle.power_cut.proofs.media_leave.Goals as goal

pub returns-clause-settled : goal.returns-clause-settled
returns-clause-settled c = settled_leaves

pub returns-clause-earlier : goal.returns-clause-earlier
returns-clause-earlier c = earlier_leaves

pub returns-clause-answered : goal.returns-clause-answered
returns-clause-answered c = answered_leaves

pub returns-clause-in_order : goal.returns-clause-in_order
returns-clause-in_order c = in_order_leaves
