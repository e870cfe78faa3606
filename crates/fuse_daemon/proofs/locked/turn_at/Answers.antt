use Rattle.std.proofs.Common.{IfOk, subst}
use Rattle.fuse_loop.specs.Tended.{TurnsTended}
use Rattle.fuse_daemon.specs.Services.{timed}
use Rattle.fuse_daemon.proofs.WentLemmas.{time_told, turns_at}
use Rattle.fuse_daemon.proofs.locked.turn_at.Goals as goal

pub returns-clause-some : goal.returns-clause-some
returns-clause-some g c =
    let going = c.args.going.now in
    turns_at g.D.Device.honest g.D.Device.held g.D.Device.image g.B.Beginning.begins c.args.time going c.turn.new.self c.args.message.now c.turn.new.reply.items c.turn.result
    c.turn.ensures.known
    (subst (λ t. IfOk c.turn.result (λ turned. TurnsTended g.D.Device.honest g.D.Device.held g.D.Device.image (timed t going) c.args.message.now turned c.turn.new.reply.items c.turn.new.self))
    (time_told c.args.time c.unwrap_or-at.result c.time.result going _ c.unwrap_or-at.ensures c.time.ensures c.desk.ensures) c.turn.ensures.turn)
