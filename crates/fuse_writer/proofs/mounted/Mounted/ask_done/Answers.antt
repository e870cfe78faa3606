use Rattle.fuse_writer.proofs.DoneLemmas.{on_ok_as}
use Rattle.fuse_writer.proofs.mounted.Mounted.ask_done.Goals as goal

pub returns-clause-synced : goal.returns-clause-synced
returns-clause-synced g c = λ is. on_ok_as _ c.ask-reply.result c.done_in.result c.done_in.ensures.ok (c.ask-reply.ensures.synced is)

pub returns-clause-asked : goal.returns-clause-asked
returns-clause-asked g c = record { reply = c.ask-reply.result; grew = c.ask-reply.ensures.calls; is = c.done_in.ensures.done }
