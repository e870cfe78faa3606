-- The name goes in, and it is told as repeated where it was there.
use Rattle.std.proofs.Common.{◌≡◌, map, refl, sym, subst, Contains}
use Rattle.std.proofs.lemmas.Result.{on_ok_weaker}
use Rattle.model.specs.Growth.{Adds}
use Rattle.phase_names.specs.Walks.{keyed}
use Rattle.phase_names.specs.contracts.slots.NameOrd.TheImpl as derived
use Rattle.phase_names.proofs.AddLemmas.{adds_unless, adds_when, on_ok}
use Rattle.phase_names.proofs.NameLemmas.{added, was_new, was_there}
use Rattle.phase_names.proofs.NameOrder.{alike, same_name, shown}
use Rattle.phase_names.proofs.slots.add_name.Goals as goal

pub returns-then-branch-clause-named : goal.returns-then-branch-clause-named
returns-then-branch-clause-named c =
    subst (λ y. Adds (λ x. y ≡ x) (map shown c.args.names.now.keys) (map shown c.insert.new.self.keys)) c.new.ensures
    (added shown derived.ghosts.cmp same_name c.args.names.now c.insert.new.self c.new.result c.in_ok-insert.ensures.keys)

pub returns-then-branch-clause-found : goal.returns-then-branch-clause-found
returns-then-branch-clause-found c =
    let names = map shown c.args.names.now.keys in
    adds_unless (Contains names (keyed c.args.name.now)) c.args.repeated c.args.findings.now.keys c.args.findings.now.keys
    (λ there. was_new shown derived.ghosts.cmp same_name alike c.args.names.now c.new.result c.in_ok-insert.field-0 c.in_ok-insert.ensures.added c.if-branch.true
    (subst (λ y. Contains names y) (sym c.new.ensures) there)) refl

pub returns-clause-named : goal.returns-clause-named
returns-clause-named c =
    on_ok c.add_finding.result
    (subst (λ y. Adds (λ x. y ≡ x) (map shown c.args.names.now.keys) (map shown c.insert.new.self.keys)) c.new.ensures
    (added shown derived.ghosts.cmp same_name c.args.names.now c.insert.new.self c.new.result c.in_ok-insert.ensures.keys))

pub returns-clause-found : goal.returns-clause-found
returns-clause-found c =
    let names = map shown c.args.names.now.keys in
    let here : Contains names (keyed c.args.name.now) =
    subst (λ y. Contains names y) c.new.ensures
    (was_there shown derived.ghosts.cmp same_name c.args.names.now c.new.result c.in_ok-insert.field-0 c.in_ok-insert.ensures.added c.if-branch.false) in
    on_ok_weaker c.add_finding.result
    (adds_when (Contains names (keyed c.args.name.now)) c.args.repeated c.args.findings.now.keys c.add_finding.new.findings.keys here) c.add_finding.ensures.found
