use Rattle.promises.proofs.laws.repairs_end_exact.Goals as goal

pub returns-clause-alone : goal.returns-clause-alone
returns-clause-alone g c = c.whole_cycles_end_exact.ensures.within

pub returns-clause-shared : goal.returns-clause-shared
returns-clause-shared g c = c.repairs_of_a_history_end_exact.ensures
