use Rattle.std.proofs.Common.{rules, ◌≡◌, Some, slice_get, sym, ◌∙◌}
use Rattle.std.proofs.lemmas.Option.{gets}
use Rattle.frozen.proofs.kinds.may_be_directory.Goals as goal

pub returns-in-Some : goal.returns-in-Some
returns-in-Some c = λ geo view are none.
    let kind = c.in-Some.kind.now in
    let at : slice_get c.args.kinds.now c.args.number ≡ Some kind = search (rules, gets) in
    sym (are c.args.number kind at).directory ∙ none
