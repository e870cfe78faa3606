-- What was moved into the larger table joins the two, whichever of them is the larger.
use Rattle.std.proofs.Common.{◌≡◌, ℕ, List, subst}
use Rattle.model.specs.Named.{named_from}
use Rattle.model.proofs.Tables.{Joins, joins_inserted, joins_seen, joins_turned, seen_values}
use Rattle.directories.proofs.PieceTables.{both_numbers}
use Rattle.directories.proofs.TableLemmas.{items}
use Rattle.directories.proofs.table.merge.Goals as goal
use Rattle.directories.proofs.table.merge.Goals.{then-len, else-len}

pub returns-clause-merged : goal.returns-clause-merged
returns-clause-merged c = λ geo view first numbers others left right.
    let e = c.in_ok-append.ensures in
    let larger = c.larger.inside.by_directory.entries in
    let smaller = c.smaller.inside.by_directory.entries in
    let whole = seen_values items c.append.new.self.entries in
    let joined : Joins (seen_values items larger) (seen_values items smaller) whole =
    joins_seen items larger smaller c.append.new.self.entries (joins_inserted larger smaller c.append.new.self.entries e.other_was_ordered e.ordered e.inserts_all.0) in
    let seen : Joins c.if-len.larger.0 c.if-len.larger.1 whole =
    subst (λ table. Joins c.if-len.larger.0 table whole) c.smaller.view_is (subst (λ table. Joins table (seen_values items smaller) whole) c.larger.view_is joined) in
    both_numbers geo view (λ d named. named ≡ named_from geo view first d) numbers others c.args.left c.args.right whole
    (elim c.if-len.branch [
      | then-len w ↦ joins_turned c.args.right c.args.left whole
          (subst (λ (pair : List (ℕ × List ℕ) × List (ℕ × List ℕ)). Joins pair.0 pair.1 whole) w.larger-is seen)
      | else-len w ↦ subst (λ (pair : List (ℕ × List ℕ) × List (ℕ × List ℕ)). Joins pair.0 pair.1 whole) w.larger-is seen
    ]) left right
