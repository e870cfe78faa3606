use Rattle.queue_model.proofs.TakenLemmas.{all_taken}
use Rattle.queue_model.proofs.entries.what_is_taken_one_by_one_is_what_a_flush_takes.Goals as goal

pub returns : goal.returns
returns c = λ home a queue disk q es r t none. all_taken home a queue q r disk es t none
