use Rattle.std.proofs.Common.{[], refl}
use Rattle.fuse_writer.proofs.LawLemmas.{does_noted}
use Rattle.fuse_writer.proofs.desk.take_turn.Goals as goal

pub returns-in_default-clause-noted : goal.returns-in_default-clause-noted
returns-in_default-clause-noted g c = record { events = []; changes = []; session = refl }

pub returns-in_err-answer-clause-noted : goal.returns-in_err-answer-clause-noted
returns-in_err-answer-clause-noted g c = does_noted _ _ _ _ _ _ c.answer.ensures.turn.comes

pub returns-clause-noted : goal.returns-clause-noted
returns-clause-noted g c = does_noted _ _ _ _ _ _ c.answer.ensures.turn.comes
