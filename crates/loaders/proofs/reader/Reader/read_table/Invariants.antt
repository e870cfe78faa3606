use Rattle.loaders.specs.Readers.{ReadsAhead}
use Rattle.loaders.proofs.reader.Reader.read_table.Given as goal

abbrev pub invariant-loop-place : goal.invariant-loop-place
invariant-loop-place g l = record { ahead : ReadsAhead g.D.Device.honest g.D.Device.image g.D.Device.held l.fn.self l.self }
