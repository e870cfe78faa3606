use Rattle.std.proofs.Common.{sym, ◌∙◌}
use Rattle.live_paths.proofs.PartLemmas.{last_is_part}
use Rattle.live_paths.proofs.path.Path.name.Goals as goal

pub returns-clause-part : goal.returns-clause-part
returns-clause-part c = λ some. last_is_part c.self.inside.tail.now c.last_piece.result.now c.self.invariant (λ e. some (sym c.self.view_is ∙ e)) c.last_piece.ensures
