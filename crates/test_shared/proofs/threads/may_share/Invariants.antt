use Rattle.test_shared.proofs.threads.may_share.Given as goal

abbrev pub ghosts-may_share_on-L-Ledger : goal.ghosts-may_share_on-L-Ledger
ghosts-may_share_on-L-Ledger a = record { name = a.repairs.name; parts = a.repairs.parts }

abbrev pub ghosts-may_share_on-M-Ledger : goal.ghosts-may_share_on-M-Ledger
ghosts-may_share_on-M-Ledger a = record { name = a.others.name; parts = a.others.parts }

abbrev pub ghosts-may_share_on-L-Sharing : goal.ghosts-may_share_on-L-Sharing
ghosts-may_share_on-L-Sharing a = record { limit = a.limit; opens = λ opened. Unit {0} }
