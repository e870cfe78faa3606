use Rattle.std.proofs.Common.{◌≡◌, ◌<◌, ◌+◌, rules, Contains, length, sym, subst, ℕ}
use Rattle.std.specs.List.{flat_map}
use Rattle.frozen.specs.Kept.{frozen_view}
use Rattle.model.specs.Layout.{Geometry, IsGeometry, header_blocks}
use Rattle.findings.specs.Findings.{is_of_blocks}
use Rattle.findings.specs.Groups.{AreFoundIn}
use Rattle.findings.proofs.JoinLemmas.{stands_at}
use Rattle.phase_blocks.specs.Owners.{Holds, HoldsOf}
use Rattle.phase_blocks.proofs.OwnerLemmas.{are_owners, are_found, all_sorted}
use Rattle.phase_blocks.proofs.owning.owners.Goals as goal

pub returns-clause-owners : goal.returns-clause-owners
returns-clause-owners c = λ each low.
    let geo = c.args.frozen.now.geometry in
    let view = frozen_view c.args.frozen.now in
    let inside = c.table.inside in
    let ok : IsGeometry geo = search rules in
    let sorted = all_sorted geo ok view c.args.parts.now each in
    let filled : HoldsOf (flat_map (λ p. p.claims) c.args.parts.now) c.in_ok-table.table = c.in_ok-table.ensures.filled sorted in
    let view_is : record { geometry = inside.geometry; group = inside.group; owners = inside.owners.items; found = inside.found.items } ≡ c.in_ok-table.table = c.table.view_is in
    let here = subst (HoldsOf (flat_map (λ p. p.claims) c.args.parts.now)) (sym view_is) filled in
    let same_geometry : inside.geometry ≡ geo = search rules in
    let same_group : inside.group ≡ c.args.unit = search rules in
    let holds : Holds geo c.args.unit (Contains (flat_map (λ p. p.claims) c.args.parts.now)) inside.owners.items inside.found.items =
    subst (λ (n : ℕ). Holds geo n (Contains (flat_map (λ p. p.claims) c.args.parts.now)) inside.owners.items inside.found.items) same_group
    (subst (λ (q : Geometry). Holds q inside.group (Contains (flat_map (λ p. p.claims) c.args.parts.now)) inside.owners.items inside.found.items) same_geometry here) in
    let places : header_blocks geo + length inside.owners.items ≡ geo.blocks =
    subst (λ (q : Geometry). header_blocks q + length inside.owners.items ≡ q.blocks) same_geometry c.table.invariant.2 in
    are_owners geo ok view c.args.parts.now each c.args.unit inside.owners.items inside.found.items holds places

pub returns-clause-found : goal.returns-clause-found
returns-clause-found c = λ each low.
    let geo = c.args.frozen.now.geometry in
    let view = frozen_view c.args.frozen.now in
    let inside = c.table.inside in
    let ok : IsGeometry geo = search rules in
    let sorted = all_sorted geo ok view c.args.parts.now each in
    let filled : HoldsOf (flat_map (λ p. p.claims) c.args.parts.now) c.in_ok-table.table = c.in_ok-table.ensures.filled sorted in
    let view_is : record { geometry = inside.geometry; group = inside.group; owners = inside.owners.items; found = inside.found.items } ≡ c.in_ok-table.table = c.table.view_is in
    let here = subst (HoldsOf (flat_map (λ p. p.claims) c.args.parts.now)) (sym view_is) filled in
    let same_geometry : inside.geometry ≡ geo = search rules in
    let same_group : inside.group ≡ c.args.unit = search rules in
    let holds : Holds geo c.args.unit (Contains (flat_map (λ p. p.claims) c.args.parts.now)) inside.owners.items inside.found.items =
    subst (λ (n : ℕ). Holds geo n (Contains (flat_map (λ p. p.claims) c.args.parts.now)) inside.owners.items inside.found.items) same_group
    (subst (λ (q : Geometry). Holds q inside.group (Contains (flat_map (λ p. p.claims) c.args.parts.now)) inside.owners.items inside.found.items) same_geometry here) in
    let own = stands_at c.args.parts.now c.args.unit (subst (λ (n : ℕ). c.args.unit < n) (sym each.count) low) in
    subst (AreFoundIn is_of_blocks geo view c.args.unit) (sym (c.in_ok-add_own.ensures own.0 own.1))
    (are_found geo ok view c.args.parts.now each c.args.unit inside.owners.items inside.found.items holds own.0 own.1)
