use Rattle.whole_records.proofs.Whole.{was_seen}
use Rattle.whole_records.proofs.each_record_was_seen_whole.Goals as goal

pub returns : goal.returns
returns c = λ disk q cut n. let was = was_seen disk q cut n in (was.k, was.is)
