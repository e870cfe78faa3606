-- One call behind another.
use Rattle.loaders.proofs.AheadLemmas.{ahead_on}
use Rattle.loaders.proofs.reader.Reader.read_table.Goals as goal

pub returns-in_err-read_data-2-clause-ahead : goal.returns-in_err-read_data-2-clause-ahead
returns-in_err-read_data-2-clause-ahead g c = ahead_on c.loop-place.invariant.ahead c.in_err-read_data-2.ensures.ahead

pub loop-place-preserved : goal.loop-place-preserved
loop-place-preserved g c = record { ahead = ahead_on c.loop-place.invariant.ahead c.in_ok-read_data-2.ensures.ahead }
