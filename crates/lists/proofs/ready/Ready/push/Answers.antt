use Rattle.std.proofs.Common.{subst, Contains}
use Rattle.lists.specs.Stacks.{Links, stack_at}
use Rattle.lists.proofs.ready.Ready.push.Goals as goal

pub push-requires-clause-new : goal.push-requires-clause-new
push-requires-clause-new c b m = c.requires.new b (subst (λ (v : Links). Contains (stack_at v b) c.args.number) c.self.view_is m)
