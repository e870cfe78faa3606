use Rattle.std.proofs.Common.{rules, ◌≤◌, ◌∷◌, [], length, sym, ap, ap₂, ◌∙◌, subst, arith, length-append}
use Rattle.lists.specs.Chains.{Links, numbers, walk, IsChain}
use Rattle.lists.proofs.ChainWalks.{newer, newest}
use Rattle.lists.proofs.chains.Chains.put.Goals as goal

pub returns-clause-numbers : goal.returns-clause-numbers
returns-clause-numbers c =
    let links = c.self.inside.links.items in
    let there : c.args.rest ≤ length links = subst (λ (v : Links). IsChain v c.args.rest) (sym c.self.view_is) c.requires.chain in
    ap₂ (λ ls n. walk ls n n) c.push_reserved.ensures.items (c.len.ensures ∙ c.push_reserved.ensures.len ∙ (search rules))
    ∙ newest links (record { number = c.args.number; rest = c.args.rest }) c.self.invariant there
    ∙ ap (λ (v : Links). c.args.number ∷ numbers v c.args.rest) c.self.view_is

pub returns-clause-others : goal.returns-clause-others
returns-clause-others c chain is =
    let links = c.self.inside.links.items in
    let there : chain ≤ length links = subst (λ (v : Links). IsChain v chain) (sym c.self.view_is) is in (
      omega (arith, there, ap length c.push_reserved.ensures.items, length-append links (record { number = c.args.number; rest = c.args.rest } ∷ [])),
      ap (λ ls. walk ls chain chain) c.push_reserved.ensures.items ∙ newer links (record { number = c.args.number; rest = c.args.rest }) c.self.invariant chain chain there
          ∙ ap (λ (v : Links). numbers v chain) c.self.view_is,
    )
