use Rattle.std.proofs.Common.{sym, ap, ◌∙◌, subst, arith}
use Rattle.frozen.specs.Kept.{Kept}
use Rattle.model.specs.Shape.{most_blocks}
use Rattle.live.specs.Alive.{IsLive}
use Rattle.live.proofs.LettingGo.{live_plain, live_without}
use Rattle.live.proofs.live.Live.let_go.Goals as goal

pub let_go-requires : goal.let_go-requires
let_go-requires g c =
    live_plain (g.D.Device.honest c.self.inside.device) (g.D.Device.image c.self.inside.device) c.self.inside.queue c.self.inside.metadata c.self.inside.holdings c.self.invariant
    c.frozen-frozen.result.now c.frozen-frozen.ensures.same c.args.target.now.file c.args.target.now.index c.in-Some.block
    (sym c.claim_at.ensures ∙ c.in-Some.is) (omega (arith, c.if-target-most_blocks.false, c.most_blocks.ensures.count ∙ ap most_blocks c.geometry.ensures.geometry)) (sym c.is_directory_at.ensures ∙ c.if-is_directory_at.false)

pub invariant_of-self : goal.invariant_of-self
invariant_of-self g c =
    subst (λ (k : Kept). IsLive (g.D.Device.honest c.self.inside.device) (g.D.Device.image c.self.inside.device) c.self.inside.queue k c.self.inside.holdings) (sym c.let_go.ensures.left)
    (live_without (g.D.Device.honest c.self.inside.device) (g.D.Device.image c.self.inside.device) c.self.inside.queue c.self.inside.metadata c.self.inside.holdings c.self.invariant
    c.frozen-frozen.result.now c.frozen-frozen.ensures.same c.args.target.now.file c.args.target.now.index c.in-Some.block
    (sym c.claim_at.ensures ∙ c.in-Some.is) (omega (arith, c.if-target-most_blocks.false, c.most_blocks.ensures.count ∙ ap most_blocks c.geometry.ensures.geometry)) (sym c.is_directory_at.ensures ∙ c.if-is_directory_at.false))
