-- One call behind another.
use Rattle.loaders.proofs.AheadLemmas.{ahead_on}
use Rattle.loaders.proofs.reader.Reader.read_ahead.Goals as goal

pub loop-block-preserved-in-Continue-1 : goal.loop-block-preserved-in-Continue-1
loop-block-preserved-in-Continue-1 g c = record { ahead = ahead_on c.loop-block.invariant.ahead c.in_ok-read_of_records.ensures.ahead }

pub returns-in_err-read_of_records-clause-ahead : goal.returns-in_err-read_of_records-clause-ahead
returns-in_err-read_of_records-clause-ahead g c = ahead_on c.loop-block.invariant.ahead c.in_err-read_of_records.ensures.ahead
