use Rattle.upkeep.proofs.mending.install.Goals as goal

pub returns-in-Ok-clause-installed : goal.returns-in-Ok-clause-installed
returns-in-Ok-clause-installed g c = λ _. record {
  copy = c.in_ok-try_clone.field-0;
  same = c.in_ok-try_clone.ensures;
  answer = c.in-Ok.field-0;
  calls = c.in-Ok.ensures.asked;
}
