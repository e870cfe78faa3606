use Rattle.std.proofs.Common.{subst}
use Rattle.sets.specs.Members.{AreMarks}
use Rattle.std.proofs.lemmas.List.{take_all}
use Rattle.sets.proofs.MarkLemmas.{next_marks}
use Rattle.sets.proofs.members.mark_all.Goals as goal

pub loop-number-init : goal.loop-number-init
loop-number-init c = λ h. h

pub loop-number-preserved : goal.loop-number-preserved
loop-number-preserved c = λ h.
    next_marks c.args.numbers.now c.loop-number.number-index c.loop-number.marks.items c.mark.new.marks.items c.loop-number-test.true
    (c.loop-number.invariant h) c.in_ok-mark.ensures

pub returns : goal.returns
returns c = record { marked = λ h. subst (λ xs. AreMarks xs c.loop-number.marks.items) (take_all c.loop-number.number-index c.args.numbers.now c.loop-number-test.false) (c.loop-number.invariant h) }
