use Rattle.whole_records.proofs.Whole.{seen_since}
use Rattle.whole_records.proofs.what_was_synced_is_no_older.Goals as goal

pub returns : goal.returns
returns c = λ disk added q cut n all. let was = seen_since disk added q cut n all in (was.k, was.few, was.is)
