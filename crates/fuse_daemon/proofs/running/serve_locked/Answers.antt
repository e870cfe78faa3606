use Rattle.std.proofs.lemmas.Result.{IfErr-weaker, on_ok_weaker}
use Rattle.fuse_daemon.proofs.ServedLemmas.{leaves_anyhow, serves_anyhow}
use Rattle.fuse_daemon.specs.Services.{TurnsSome}
use Rattle.fuse_daemon.proofs.running.serve_locked.Goals as goal

pub returns-clause-served : goal.returns-clause-served
returns-clause-served g c = on_ok_weaker c.serve-served.result
    (serves_anyhow (TurnsSome g.D.Device.honest g.D.Device.held g.D.Device.image g.B.Beginning.begins) _ _ _ _ _ _ _) c.serve-served.ensures.served

pub returns-clause-left : goal.returns-clause-left
returns-clause-left g c = IfErr-weaker c.serve-served.result _ _
    (leaves_anyhow (TurnsSome g.D.Device.honest g.D.Device.held g.D.Device.image g.B.Beginning.begins) _ _ _ _ _ _) c.serve-served.ensures.left
