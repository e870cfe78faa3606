-- An entry holds its directory where it stands in the one that slot 1 of that directory names.
use Rattle.std.proofs.Common.{◌≡◌, ◌+◌, [], ap, ◌∙◌, subst, sym, arith, length}
use Rattle.std.specs.BTreeSet.{keys}
use Rattle.model.specs.Growth.{Adds}
use Rattle.phase_names.specs.Entries.{AtBelow, IsHeldAt}
use Rattle.phase_names.proofs.StepLemmas.{held_next, not_held_next}
use Rattle.phase_names.proofs.entries.held_by_parents.Goals as goal
use Rattle.phase_names.proofs.entries.held_by_parents.Goals.{then-parent_of-entry+in_ok-insert, else-parent_of-entry}

pub loop-entry-preserved : goal.loop-entry-preserved
loop-entry-preserved c =
    let k = c.loop-entry.entry-index in
    elim c.if-parent_of-entry.branch [
      | then-parent_of-entry+in_ok-insert w ↦
          subst (λ xs. Adds (AtBelow (IsHeldAt c.args.whole.now c.args.entries.now) (k + 1)) [] xs) (sym (ap keys w.held-is))
          (held_next c.args.entries.now c.args.whole.now k c.loop-entry.held w.insert.new.self c.loop-entry-test.true (sym c.parent_of.ensures ∙ w.if-parent_of-entry.true)
          w.in_ok-insert.ensures.updates c.loop-entry.invariant)
      | else-parent_of-entry w ↦
          not_held_next c.args.entries.now c.args.whole.now k c.loop-entry.held.keys c.if-parent_of-entry.held.keys c.loop-entry-test.true
          (λ e. w.if-parent_of-entry.false (c.parent_of.ensures ∙ e)) (ap keys w.held-is) c.loop-entry.invariant
    ]

pub returns-clause-held : goal.returns-clause-held
returns-clause-held c =
    let all : c.loop-entry.entry-index ≡ length c.args.entries.now = omega arith in
    subst (λ n. Adds (AtBelow (IsHeldAt c.args.whole.now c.args.entries.now) n) [] c.loop-entry.held.keys) all c.loop-entry.invariant
