-- What is seen of a volume with its trace.
use Rattle.std.specs.Prelude.{ℕ, List}
use Rattle.snapshot.specs.Alive.{Alive}
use Rattle.shared.specs.declared.counts.Counts.{Counts}
use Rattle.shared.specs.declared.entry.Entry.{Entry}

-- the calls before the trace, the trace, how long it may be, and the volume
pub record Shown (D : Type 0) : Type 0 where
  pub before : Counts
  pub trace : List Entry
  pub limit : ℕ
  pub volume : Alive D
