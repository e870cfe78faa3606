use Rattle.std.proofs.Common.{[], take}
use Rattle.sets.specs.Members.{AreMarks}
use Rattle.sets.proofs.members.mark_all.Given as goal

abbrev pub invariant-loop-number : goal.invariant-loop-number
invariant-loop-number l = AreMarks [] l.fn.marks.items → AreMarks (take l.number-index l.numbers) l.marks.items
