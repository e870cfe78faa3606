use Rattle.std.proofs.Common.{◌≡◌, rules, [], ◌∷◌, ◌++◌, slice_set, sym, subst, Some, None}
use Rattle.phase_blocks.specs.Owners.{HoldsOf, owner_at}
use Rattle.phase_blocks.proofs.FillLemmas.{pushed_first, pushed_before, pushed_after, pushed_again, read_here}
use Rattle.phase_blocks.proofs.filling.Filling.put.Goals as goal

pub returns-in-None-clause-put : goal.returns-in-None-clause-put
returns-in-None-clause-put c = λ seen h.
    let inside = subst (HoldsOf seen) (sym c.self.view_is) h in
    let inv = c.self.invariant in
    let was : owner_at c.self.inside.owners.items c.args.bit ≡ None = search rules in
    pushed_first c.self.inside.geometry inv.0 c.self.inside.group inv.1 seen c.args.claim c.self.inside.owners.items c.self.inside.found.items inv.2 inside
    c.args.bit (search rules) (search rules) was

pub returns-in_ok-push-in-Some-clause-put : goal.returns-in_ok-push-in-Some-clause-put
returns-in_ok-push-in-Some-clause-put c = λ seen h.
    let inside = subst (HoldsOf seen) (sym c.self.view_is) h in
    let inv = c.self.invariant in
    let was : owner_at c.self.inside.owners.items c.args.bit ≡ Some c.in-Some.owner = read_here c.self.inside.owners.items c.args.bit c.in-Some.owner c.index.result.now (search rules) (search rules) (search rules) in
    subst (λ found. HoldsOf (seen ++ c.args.claim ∷ []) (record { geometry = c.self.inside.geometry; group = c.self.inside.group; owners = slice_set c.self.inside.owners.items c.args.bit (Some c.args.claim); found = found }))
    (search rules)
    (pushed_before c.self.inside.geometry inv.0 c.self.inside.group inv.1 seen c.args.claim c.self.inside.owners.items c.self.inside.found.items inv.2 inside
    c.args.bit (search rules) (search rules) c.in-Some.owner was (search rules))

pub returns-in_ok-push-in-Some-2-clause-put : goal.returns-in_ok-push-in-Some-2-clause-put
returns-in_ok-push-in-Some-2-clause-put c = λ seen h.
    let inside = subst (HoldsOf seen) (sym c.self.view_is) h in
    let inv = c.self.invariant in
    let was : owner_at c.self.inside.owners.items c.args.bit ≡ Some c.in-Some-2.owner = read_here c.self.inside.owners.items c.args.bit c.in-Some-2.owner c.index.result.now (search rules) (search rules) (search rules) in
    subst (λ found. HoldsOf (seen ++ c.args.claim ∷ []) (record { geometry = c.self.inside.geometry; group = c.self.inside.group; owners = c.self.inside.owners.items; found = found }))
    (search rules)
    (pushed_after c.self.inside.geometry inv.0 c.self.inside.group inv.1 seen c.args.claim c.self.inside.owners.items c.self.inside.found.items inv.2 inside
    c.args.bit (search rules) (search rules) c.in-Some-2.owner was (search rules))

pub returns-in-Some-3-clause-put : goal.returns-in-Some-3-clause-put
returns-in-Some-3-clause-put c = λ seen h.
    let inside = subst (HoldsOf seen) (sym c.self.view_is) h in
    let inv = c.self.invariant in
    let was : owner_at c.self.inside.owners.items c.args.bit ≡ Some c.in-Some-2.owner = read_here c.self.inside.owners.items c.args.bit c.in-Some-2.owner c.index.result.now (search rules) (search rules) (search rules) in
    subst (HoldsOf (seen ++ c.args.claim ∷ [])) c.self.view_is
    (pushed_again c.self.inside.geometry inv.0 c.self.inside.group inv.1 seen c.args.claim c.self.inside.owners.items c.self.inside.found.items inv.2 inside
    c.args.bit (search rules) (search rules) c.in-Some-2.owner was (search rules) (search rules))
