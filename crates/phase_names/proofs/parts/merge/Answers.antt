-- What was moved into the larger part joins the two, whichever of them is the larger.
use Rattle.std.proofs.Common.{ℕ, List, subst}
use Rattle.directories.proofs.PieceTables.{both_numbers}
use Rattle.model.proofs.Tables.{Joins, joins_inserted, joins_turned}
use Rattle.phase_names.specs.Told.{IsTold, Told}
use Rattle.phase_names.proofs.parts.merge.Goals as goal
use Rattle.phase_names.proofs.parts.merge.Goals.{then-len, else-len}

pub returns-clause-merged : goal.returns-clause-merged
returns-clause-merged c = λ geo view numbers others left right.
    let e = c.in_ok-append.ensures in
    let larger = c.larger.inside.looks.entries in
    let smaller = c.smaller.inside.looks.entries in
    let whole = c.append.new.self.entries in
    let joined : Joins larger smaller whole = joins_inserted larger smaller whole e.other_was_ordered e.ordered e.inserts_all.0 in
    let seen : Joins c.if-len.larger.0 c.if-len.larger.1 whole =
    subst (λ table. Joins c.if-len.larger.0 table whole) c.smaller.view_is (subst (λ table. Joins table smaller whole) c.larger.view_is joined) in
    both_numbers geo view (IsTold geo view) numbers others c.args.left c.args.right whole
    (elim c.if-len.branch [
      | then-len w ↦ joins_turned c.args.right c.args.left whole
          (subst (λ (pair : List (ℕ × Told) × List (ℕ × Told)). Joins pair.0 pair.1 whole) w.larger-is seen)
      | else-len w ↦ subst (λ (pair : List (ℕ × Told) × List (ℕ × Told)). Joins pair.0 pair.1 whole) w.larger-is seen
    ]) left right
