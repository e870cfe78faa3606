use Rattle.std.proofs.Common.{◌≡◌}
use Rattle.shared.specs.Opened.{opened_of}
use Rattle.users.proofs.running.run.Given as goal

abbrev pub ghosts-run_on-L-Ledger : goal.ghosts-run_on-L-Ledger
ghosts-run_on-L-Ledger g a = record { name = a.repairs.name; parts = a.repairs.parts }

abbrev pub ghosts-run_on-M-Ledger : goal.ghosts-run_on-M-Ledger
ghosts-run_on-M-Ledger g a = record { name = a.others.name; parts = a.others.parts }

abbrev pub ghosts-run_on-L-Sharing : goal.ghosts-run_on-L-Sharing
ghosts-run_on-L-Sharing g a = record { limit = 100000; opens = λ opened. opened ≡ opened_of g.D.Device.held g.D.Device.image a.volume }
