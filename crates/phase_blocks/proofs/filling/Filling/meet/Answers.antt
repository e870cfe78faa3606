use Rattle.std.proofs.Common.{rules, [], ◌∷◌, ◌++◌, sym, subst}
use Rattle.phase_blocks.specs.Owners.{HoldsOf}
use Rattle.phase_blocks.proofs.FillLemmas.{pushed_other}
use Rattle.phase_blocks.proofs.filling.Filling.meet.Goals as goal

pub returns-in_default-clause-met : goal.returns-in_default-clause-met
returns-in_default-clause-met c = λ seen h.
    let inside = subst (HoldsOf seen) (sym c.self.view_is) h in
    let inv = c.self.invariant in
    subst (HoldsOf (seen ++ c.args.claim ∷ [])) c.self.view_is
    (pushed_other c.self.inside.geometry inv.0 c.self.inside.group inv.1 seen c.args.claim c.self.inside.owners.items c.self.inside.found.items
    (λ at. search rules) inside)

pub returns-in_default-2-clause-met : goal.returns-in_default-2-clause-met
returns-in_default-2-clause-met c = λ seen h.
    let inside = subst (HoldsOf seen) (sym c.self.view_is) h in
    let inv = c.self.invariant in
    subst (HoldsOf (seen ++ c.args.claim ∷ [])) c.self.view_is
    (pushed_other c.self.inside.geometry inv.0 c.self.inside.group inv.1 seen c.args.claim c.self.inside.owners.items c.self.inside.found.items
    (λ at. search rules) inside)
