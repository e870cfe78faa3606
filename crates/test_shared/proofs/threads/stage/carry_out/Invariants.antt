use Rattle.test_shared.proofs.threads.stage.carry_out.Given as goal

abbrev pub ghosts-carry_out_on-L-Ledger : goal.ghosts-carry_out_on-L-Ledger
ghosts-carry_out_on-L-Ledger g a = record { name = a.repairs.name; parts = a.repairs.parts }

abbrev pub ghosts-carry_out_on-M-Ledger : goal.ghosts-carry_out_on-M-Ledger
ghosts-carry_out_on-M-Ledger g a = record { name = a.others.name; parts = a.others.parts }

abbrev pub ghosts-carry_out_on-L-Sharing : goal.ghosts-carry_out_on-L-Sharing
ghosts-carry_out_on-L-Sharing g a = record { limit = a.limit; opens = λ opened. Unit {0} }
