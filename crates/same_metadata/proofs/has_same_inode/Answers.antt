use Rattle.std.proofs.Common.{◌≡◌, rules, sym, ◌∙◌}
use Rattle.std.proofs.lemmas.Bool.{both_ways}
use Rattle.frozen.specs.Kept.{frozen_view}
use Rattle.same_metadata.proofs.WalkLemmas.{by_directory}
use Rattle.same_metadata.proofs.has_same_inode.Goals as goal
use Rattle.same_metadata.proofs.has_same_inode.Goals.{then-has_same_record, else-has_same_record, then-is_number_marked, else-is_number_marked}

pub returns-then-has_same_tables : goal.returns-then-has_same_tables
returns-then-has_same_tables c =
    elim c.if-is_number_marked.branch [
      | then-is_number_marked w ↦ elim c.if-has_same_record.branch [
        | then-has_same_record v ↦
            let told : v.is_number_marked.result ≡ v.is_number_marked-then-has_same_record.result = search rules in
            by_directory c.args.one.now.geometry (frozen_view c.args.one.now) (frozen_view c.args.other.now) c.args.number c.has_same_directory.result
            (c.has_same_record.ensures.0 v.if-has_same_record.true) (sym v.is_number_marked.ensures ∙ told ∙ v.is_number_marked-then-has_same_record.ensures)
            (w.has_same_tables.ensures.0 (sym w.value-is ∙ c.if-has_same_tables.true)) c.has_same_directory.ensures
        | else-has_same_record v ↦ absurd (both_ways c.has_same_record.result v.if-has_same_record.false (sym v.value-is ∙ w.if-is_number_marked.true))
      ]
      | else-is_number_marked w ↦ absurd (both_ways c.if-has_same_record.value w.if-is_number_marked.false (sym w.value-is ∙ c.if-has_same_tables.true))
    ]
