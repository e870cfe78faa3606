use Rattle.std.proofs.Common.{IfOk, subst}
use Rattle.fuse_loop.proofs.TendedLemmas.{turns_tended}
use Rattle.fuse_loop.specs.Tended.{TurnsTended}
use Rattle.fuse_daemon.specs.Services.{timed}
use Rattle.fuse_daemon.proofs.WentLemmas.{part_of_turn, went_on}
use Rattle.fuse_daemon.proofs.going.Going.turn.Goals as goal

pub invariant_of-self : goal.invariant_of-self
invariant_of-self g c = went_on g.D.Device.honest g.D.Device.held g.D.Device.image g.B.Beginning.begins c.self.inside.desk c.turn.new.self
    c.self.invariant (part_of_turn c.self.inside.desk c.turn.new.self c.args.time c.args.message.now c.turn.new.reply.items c.turn.result c.turn.ensures.idle c.turn.ensures.turn) c.turn.ensures.goes

pub returns-clause-turn : goal.returns-clause-turn
returns-clause-turn g c =
    subst (λ old. IfOk c.turn.result (λ turned. TurnsTended g.D.Device.honest g.D.Device.held g.D.Device.image (timed c.args.time old) c.args.message.now turned c.turn.new.reply.items c.turn.new.self))
    c.self.view_is
    (turns_tended g.D.Device.honest g.D.Device.held g.D.Device.image (timed c.args.time c.self.inside.desk) c.turn.new.self c.args.message.now c.turn.new.reply.items c.turn.result
    record { goes = c.turn.ensures.goes; noted = c.turn.ensures.noted } c.turn.ensures.turn)
