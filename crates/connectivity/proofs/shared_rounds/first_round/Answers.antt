-- The root is the first directory, or none is.
use Rattle.std.proofs.Common.{◌++◌, ◌∷◌, [], List, ℕ, Vec, Global, sym, ap, ◌∙◌}
use Rattle.std.proofs.lemmas.Result.{err_from_is_err_and}
use Rattle.frozen.specs.Kept.{frozen_view}
use Rattle.model.specs.Layout.{root}
use Rattle.connectivity.proofs.SharedLemmas.{opening_yes, opening_no}
use Rattle.connectivity.proofs.shared_rounds.first_round.Goals as goal
use Rattle.connectivity.proofs.shared_rounds.first_round.Goals.{then-is_directory_at+in_ok-push, else-is_directory_at}

pub returns-in_err-push : goal.returns-in_err-push
returns-in_err-push c =
    let p = err_from_is_err_and c.from_residual.result c.from_residual.ensures.1 in rw p.1 tt

pub returns : goal.returns
returns c =
    let geo = c.args.frozen.now.geometry in
    let view = frozen_view c.args.frozen.now in
    elim c.if-is_directory_at.branch [
      | then-is_directory_at+in_ok-push w ↦
          ap (λ (v : Vec ℕ Global). v.items) w.round-is ∙ w.in_ok-push.ensures.items ∙ ap (λ (xs : List ℕ). xs ++ root ∷ []) c.new-round.ensures.items
          ∙ sym (opening_yes geo view (sym c.is_directory_at.ensures ∙ w.if-is_directory_at.true))
      | else-is_directory_at w ↦
          ap (λ (v : Vec ℕ Global). v.items) w.round-is ∙ c.new-round.ensures.items ∙ sym (opening_no geo view (sym c.is_directory_at.ensures ∙ w.if-is_directory_at.false))
    ]
