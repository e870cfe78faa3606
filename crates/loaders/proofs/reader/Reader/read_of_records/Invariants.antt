use Rattle.loaders.specs.Readers.{ReadsAhead}
use Rattle.loaders.proofs.reader.Reader.read_of_records.Given as goal

abbrev pub invariant-loop-bytes : goal.invariant-loop-bytes
invariant-loop-bytes g l = record { ahead : ReadsAhead g.D.Device.honest g.D.Device.image g.D.Device.held l.fn.self l.self }
