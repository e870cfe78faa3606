-- what was read so far stands in front
use Rattle.std.proofs.Common.{◌≡◌, ◌≤◌, length, take}
use Rattle.std.specs.Io.KnownBytes.{Consumes}
use Rattle.import_tree.proofs.copying.read_part.Given as goal

abbrev pub invariant-loop-turn : goal.invariant-loop-turn
invariant-loop-turn g l = (length l.room ≡ length l.fn.room) × (l.count ≤ length l.room) × Consumes (g.F.Read.remaining l.fn.reader) (g.F.Read.remaining l.reader) (take l.count l.room)
