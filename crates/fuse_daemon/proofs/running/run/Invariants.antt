use Rattle.std.proofs.Common.{◌≡◌}
use Rattle.shared.specs.Opened.{opened_of}
use Rattle.fuse_daemon.proofs.running.run.Given as goal

abbrev pub ghosts-run_on : goal.ghosts-run_on
ghosts-run_on g a = record { begins = λ opened. opened ≡ opened_of g.D.Device.held g.D.Device.image a.desk.volume }
