-- What is known of the number is so.
use Rattle.std.proofs.Common.{rules, ◌≡◌, Some, slice_get, ap, ◌∙◌, subst, List}
use Rattle.std.proofs.lemmas.Option.{gets}
use Rattle.model.specs.Uses.{is_directory_at}
use Rattle.frozen.specs.Kept.{Kept, frozen_view}
use Rattle.frozen.specs.declared.kinds.Kind.{Kind}
use Rattle.frozen.proofs.frozen.Frozen.is_directory_at.Goals as goal

pub returns-in-Some : goal.returns-in-Some
returns-in-Some c =
    let kind = c.in-Some.kind.now in
    let at : slice_get c.deref.result.now c.args.number ≡ Some kind = search (rules, gets) in
    let known = c.self.invariant.1 c.args.number kind (subst (λ (kinds : List Kind). slice_get kinds c.args.number ≡ Some kind) c.deref.ensures.value at) in
    known.directory ∙ ap (λ (k : Kept). is_directory_at k.geometry (frozen_view k) c.args.number) c.self.view_is
