-- One call behind another.
use Rattle.loaders.proofs.AheadLemmas.{ahead_on}
use Rattle.loaders.proofs.reader.Reader.read_directory.Goals as goal

pub loop-pointer-preserved : goal.loop-pointer-preserved
loop-pointer-preserved g c = record { ahead = ahead_on c.loop-pointer.invariant.ahead c.in_ok-read_data.ensures.ahead }

pub returns-in_err-read_data-clause-ahead : goal.returns-in_err-read_data-clause-ahead
returns-in_err-read_data-clause-ahead g c = ahead_on c.loop-pointer.invariant.ahead c.in_err-read_data.ensures.ahead

pub returns-in_err-read_table-clause-ahead : goal.returns-in_err-read_table-clause-ahead
returns-in_err-read_table-clause-ahead g c = ahead_on c.loop-pointer.invariant.ahead c.in_err-read_table.ensures.ahead

pub returns-in_ok-read_table-clause-ahead : goal.returns-in_ok-read_table-clause-ahead
returns-in_ok-read_table-clause-ahead g c = ahead_on c.loop-pointer.invariant.ahead c.in_ok-read_table.ensures.ahead
