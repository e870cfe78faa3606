use Rattle.fuse_loop.proofs.TendedLemmas.{on_err_always, tended_then, turn_then, turns_tended}
use Rattle.fuse_loop.proofs.tended.DeskAnswering.turn.Goals as goal

pub returns-clause-turn : goal.returns-clause-turn
returns-clause-turn g c =
    let old = c.args.self.now in
    let new = c.turn.new.self in
    turns_tended g.D.Device.honest g.D.Device.held g.D.Device.image old new c.args.message.now c.turn.new.reply.items c.turn.result
    (tended_then old new c.time-time.result c.time-time.ensures g.D.Device.honest g.D.Device.held g.D.Device.image c.turn.ensures.goes c.turn.ensures.noted)
    (turn_then old new c.time-time.result c.time-time.ensures c.args.message.now c.turn.new.reply.items c.turn.result c.turn.ensures.turn)

pub returns-clause-failed : goal.returns-clause-failed
returns-clause-failed g c = on_err_always c.turn.result
    (tended_then c.args.self.now c.turn.new.self c.time-time.result c.time-time.ensures g.D.Device.honest g.D.Device.held g.D.Device.image c.turn.ensures.goes c.turn.ensures.noted)
