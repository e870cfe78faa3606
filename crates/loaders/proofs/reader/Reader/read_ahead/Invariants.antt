use Rattle.loaders.specs.Readers.{ReadsAhead}
use Rattle.loaders.proofs.reader.Reader.read_ahead.Given as goal

abbrev pub invariant-loop-block : goal.invariant-loop-block
invariant-loop-block g l = record { ahead : ReadsAhead g.D.Device.honest g.D.Device.image g.D.Device.held l.fn.self l.self }
