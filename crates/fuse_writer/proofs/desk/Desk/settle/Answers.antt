use Rattle.fuse_writer.specs.Doings.{refuses, says_done}
use Rattle.fuse_writer.proofs.EndLemmas.{settled_some}
use Rattle.fuse_writer.proofs.desk.Desk.settle.Goals as goal

pub returns-clause-does : goal.returns-clause-does
returns-clause-does g c =
    let on = rw c.begin.ensures at (c.settle_all-outcome.ensures.does (λ t. says_done) (λ t. refuses)) in
    let does = settled_some _ _ _ _ _ c.settle_all-outcome.result on in
    rw (← c.self.view_is) (record { calls = does.calls; grew = does.grew; came = does.came })
