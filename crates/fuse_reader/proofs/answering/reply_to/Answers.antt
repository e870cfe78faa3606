use Rattle.fuse_reader.proofs.SameLemmas.{on_err_too, on_ok}
use Rattle.fuse_reader.proofs.TurnLemmas.{without_memory}
use Rattle.fuse_reader.proofs.answering.reply_to.Goals as goal

pub returns-in-Err-clause-turn : goal.returns-in-Err-clause-turn
returns-in-Err-clause-turn g c = on_ok c.refuse.result c.refuse.ensures (λ r honest is. without_memory _ _ _ _ _ _ _ _ _ (c.in-Err.ensures.known is) r)

pub returns-in-Err-clause-known : goal.returns-in-Err-clause-known
returns-in-Err-clause-known g c = on_err_too c.refuse.result c.in-Err.ensures.known
