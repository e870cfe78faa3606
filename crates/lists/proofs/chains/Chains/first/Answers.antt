use Rattle.std.proofs.Common.{◌≡◌, ◌≤◌, ◌-◌, suc, ◌∷◌, length, sym, ap, ◌∙◌, subst, arith}
use Rattle.std.proofs.lemmas.List.{get_or_default}
use Rattle.lists.specs.declared.chains.Link.{Link}
use Rattle.lists.specs.Chains.{Links, numbers, walk, link_at, IsChain}
use Rattle.lists.proofs.ChainWalks.{enough}
use Rattle.lists.proofs.chains.Chains.first.Goals as goal

pub returns-clause-numbers : goal.returns-clause-numbers
returns-clause-numbers c =
    let links = c.self.inside.links.items in
    let k = c.chain.inside.first - 1 in
    let first : c.args.chain ≡ suc k = omega (arith, c.chain.view_is, c.if-chain-eq0.false) in
    let there : c.args.chain ≤ length links = subst (λ (v : Links). IsChain v c.args.chain) (sym c.self.view_is) c.requires in
    let link : link_at links k ≡ c.index.result.now = get_or_default links k (record { number = 0; rest = 0 }) c.index.result.now (omega (arith, first, there)) ∙ sym c.index.ensures in
    let ordered : c.index.result.now.rest ≤ k = subst (λ (l : Link). l.rest ≤ k) link (c.self.invariant k (omega (arith, first, there))) in
    ap (λ (v : Links). numbers v c.args.chain) (sym c.self.view_is) ∙ ap (λ n. walk links n n) first
    ∙ ap (λ l. l.number ∷ walk links k l.rest) link
    ∙ ap (λ ns. c.index.result.now.number ∷ ns) (enough links c.self.invariant k c.index.result.now.rest ordered (omega (arith, ordered, first, there)))
    ∙ ap (λ (v : Links). c.index.result.now.number ∷ numbers v c.index.result.now.rest) c.self.view_is
