use Rattle.fuse_writer.proofs.desk.Desk.end.Goals as goal

pub returns-clause-does : goal.returns-clause-does
returns-clause-does g c =
    let does = rw c.begin.ensures at c.end-outcome.ensures.does in
    rw (← c.self.view_is) (record { calls = does.calls; grew = does.grew; came = does.came })
