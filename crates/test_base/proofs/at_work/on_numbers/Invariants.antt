use Rattle.std.proofs.Common.{◌≡◌, All}
use Rattle.test_base.proofs.at_work.on_numbers.Given as goal

abbrev pub invariant-loop-worker : goal.invariant-loop-worker
invariant-loop-worker l = All (λ work. work.numbers.now ≡ l.numbers) l.works.items
