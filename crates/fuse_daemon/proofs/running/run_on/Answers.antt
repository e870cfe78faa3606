use Rattle.std.proofs.Common.{IfErr, OnOk, subst, sym}
use Rattle.fuse_daemon.proofs.WentLemmas.{went_on}
use Rattle.fuse_loop.specs.Sessions.{EndsWell}
use Rattle.fuse_daemon.specs.Services.{LeavesSome, ServesSome}
use Rattle.fuse_daemon.proofs.running.run_on.Goals as goal

pub returns-clause-went : goal.returns-clause-went
returns-clause-went g c = went_on g.D.Device.honest g.D.Device.held g.D.Device.image g.B.Beginning.begins c.into_desk.result c.close-ended.result.desk
    c.into_desk.ensures c.close-ended.ensures.part c.close-ended.ensures.goes

pub returns-clause-served : goal.returns-clause-served
returns-clause-served g c =
    subst (λ served. OnOk served (ServesSome g.D.Device.honest g.D.Device.held g.D.Device.image g.B.Beginning.begins (g.C.Channel.taken c.args.channel.now)
    (g.C.Channel.given c.args.channel.now) (g.C.Channel.taken c.serve_beside-served.new.channel) (g.C.Channel.given c.serve_beside-served.new.channel)))
    (sym c.close-ended.ensures.served) c.serve_beside-served.ensures.served

pub returns-clause-left : goal.returns-clause-left
returns-clause-left g c =
    subst (λ served. IfErr served (LeavesSome g.D.Device.honest g.D.Device.held g.D.Device.image g.B.Beginning.begins (g.C.Channel.taken c.args.channel.now)
    (g.C.Channel.given c.args.channel.now) (g.C.Channel.taken c.serve_beside-served.new.channel) (g.C.Channel.given c.serve_beside-served.new.channel)))
    (sym c.close-ended.ensures.served) c.serve_beside-served.ensures.left

pub returns-clause-ended : goal.returns-clause-ended
returns-clause-ended g c =
    subst (λ served. OnOk served (EndsWell (g.C.Channel.ended c.serve_beside-served.new.channel) (g.C.Channel.taken c.serve_beside-served.new.channel)))
    (sym c.close-ended.ensures.served) c.serve_beside-served.ensures.ended
