use Rattle.fuse_daemon.proofs.WentLemmas.{at_some_time}
use Rattle.fuse_daemon.proofs.behind.BehindAnswering.turn.Goals as goal

pub returns-then-not-is_last-clause-turn : goal.returns-then-not-is_last-clause-turn
returns-then-not-is_last-clause-turn g c = at_some_time g.D.Device.honest g.D.Device.held g.D.Device.image g.B.Beginning.begins c.time_of-time.result c.args.message.now
    c.turn.new.reply.items c.turn.result c.turn.ensures.some

pub returns-clause-turn : goal.returns-clause-turn
returns-clause-turn g c = at_some_time g.D.Device.honest g.D.Device.held g.D.Device.image g.B.Beginning.begins c.time_of-time.result c.args.message.now
    c.last_turn-turned.new.reply.items c.last_turn-turned.result c.last_turn-turned.ensures.some
