use Rattle.std.proofs.Common.{◌≡◌, ◌++◌, [], sym, ap, ◌∙◌, subst}
use Rattle.std.specs.List.{flat_map}
use Rattle.std.proofs.lemmas.List.{append-nil, nil_from_length}
use Rattle.findings.specs.Groups.{AreFoundOf}
use Rattle.findings.proofs.JoinLemmas.{found_of_all}
use Rattle.findings.proofs.by_group.joined.Goals as goal

pub returns-clause-found : goal.returns-clause-found
returns-clause-found g c = λ kinds geo view ok each.
    let none : c.loop-group.group-iterator.rest.items ≡ [] = nil_from_length _ (sym c.loop-group.group-iterator.rest.ok.0 ∙ c.in-None.ensures.steps.0) in
    let whole : c.loop-group.yielded ≡ c.args.groups.items =
    sym (append-nil c.loop-group.yielded) ∙ ap (λ rest. c.loop-group.yielded ++ rest) (sym none) ∙ c.loop-group.invariant.rest in
    let all : c.loop-group.all.items ≡ flat_map (λ one. one.found.items) c.args.groups.items =
    c.loop-group.invariant.all ∙ ap (λ ones. flat_map (λ one. one.found.items) ones) whole in
    subst (AreFoundOf kinds geo view) (sym all) (found_of_all (λ one. one.found.items) c.args.groups.items kinds geo view ok each)
