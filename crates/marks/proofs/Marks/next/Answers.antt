use Rattle.std.proofs.Common.{subst}
use Rattle.marks.specs.Marks.{IsNextMarked, NothingMarkedFrom}
use Rattle.marks.specs.Words.{IsNextBit, NoBitFrom}
use Rattle.marks.proofs.Ladders.{next_mark, no_mark_from}
use Rattle.marks.proofs.Marks.next.Goals as goal

pub returns-in_err-number : goal.returns-in_err-number
returns-in_err-number c =
    let m = c.self.inside in
    rw c.from_residual.ensures
    (subst (λ marks. NothingMarkedFrom marks c.args.from) c.self.view_is
    (no_mark_from m.count m.numbers.items m.groups.items m.tops.items c.self.invariant c.args.from (subst (λ xs. NoBitFrom xs c.args.from) c.deref.ensures.value c.in_err-number.ensures)))

pub returns : goal.returns
returns c =
    let m = c.self.inside in
    subst (λ marks. IsNextMarked marks c.args.from c.in_ok-number.number) c.self.view_is
    (next_mark m.count m.numbers.items m.groups.items m.tops.items c.self.invariant c.args.from c.in_ok-number.number (subst (λ xs. IsNextBit xs c.args.from c.in_ok-number.number) c.deref.ensures.value c.in_ok-number.ensures))
