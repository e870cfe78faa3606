use Rattle.loaders.specs.Readers.{ReadsAhead}
use Rattle.loaders.proofs.reader.Reader.read_directory.Given as goal

abbrev pub invariant-loop-pointer : goal.invariant-loop-pointer
invariant-loop-pointer g l = record { ahead : ReadsAhead g.D.Device.honest g.D.Device.image g.D.Device.held l.fn.self l.self }
