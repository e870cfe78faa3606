use Rattle.std.proofs.Common.{inl, inr}
use Rattle.model.specs.Layout.{inode_byte}
use Rattle.softdep.proofs.FreeBytes.{free_bytes}
use Rattle.softdep.proofs.RecordTails.{tail_freed, tail_left}
use Rattle.softdep.proofs.laws.a_flush_clears_a_freed_record.Goals as goal

pub returns-clause-freed : goal.returns-clause-freed
returns-clause-freed c = λ geo ok n q cut old new writes taken k spare. tail_freed geo ok n k spare q cut old new writes taken

pub returns-clause-left : goal.returns-clause-left
returns-clause-left c = λ geo ok n q cut old new writes none k spare. tail_left geo ok n k spare q cut old new writes none

pub returns-clause-zero : goal.returns-clause-zero
returns-clause-zero c = λ geo ok n q cut old new writes taken free k low. elim (free_bytes geo.version new (inode_byte n) free k low) [
  | inl zero ↦ zero
  | inr spare ↦ tail_freed geo ok n k spare q cut old new writes taken
]
