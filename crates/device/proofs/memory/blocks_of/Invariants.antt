use Rattle.device.proofs.MemoryLemmas.{IsCut}
use Rattle.device.proofs.memory.blocks_of.Given as goal

abbrev pub invariant-loop-i : goal.invariant-loop-i
invariant-loop-i l = IsCut l.bytes l.blocks.items l.i
