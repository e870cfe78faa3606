use Rattle.fuse_writer.proofs.TurnLemmas.{turn_ended}
use Rattle.fuse_writer.proofs.desk.Desk.turn.Goals as goal

pub returns-clause-turn : goal.returns-clause-turn
returns-clause-turn g c = λ head asked is.
    let turn = rw c.begin.ensures at (c.take_turn-turned.ensures.turn head asked is) in
    rw (← c.self.view_is) (turn_ended _ _ _ _ _ _ _ _ _ turn)
