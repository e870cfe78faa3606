use Rattle.test_shared.proofs.threads.meeting.check_beside_a_user.Given as goal

abbrev pub ghosts-check_beside_on-L-Ledger : goal.ghosts-check_beside_on-L-Ledger
ghosts-check_beside_on-L-Ledger g a = record { name = a.repairs.name; parts = a.repairs.parts }

abbrev pub ghosts-check_beside_on-M-Ledger : goal.ghosts-check_beside_on-M-Ledger
ghosts-check_beside_on-M-Ledger g a = record { name = a.others.name; parts = a.others.parts }

abbrev pub ghosts-check_beside_on-L-Sharing : goal.ghosts-check_beside_on-L-Sharing
ghosts-check_beside_on-L-Sharing g a = record { limit = 100; opens = λ opened. Unit {0} }
