use Rattle.std.proofs.Common.{take}
use Rattle.metadata.specs.Staged.{IsStaged, changes}
use Rattle.metadata.proofs.metadata.Metadata.stage.Given as goal

abbrev pub invariant-loop-update : goal.invariant-loop-update
invariant-loop-update l = IsStaged l.fn.self (changes (take l.update-index l.fn.updates)) l.staged
