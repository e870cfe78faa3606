use Rattle.std.proofs.Common.{◌+◌}
use Rattle.std.proofs.lemmas.List.{take_rest}
use Rattle.tool_answers.proofs.WordLemmas.{all_of, part_is}
use Rattle.tool_answers.proofs.words.last_part.Goals as goal

pub returns-in-Some : goal.returns-in-Some
returns-in-Some c = part_is c.args.path.now _ c.in-Some.place c.in-Some.ensures (take_rest c.args.path.now (c.in-Some.place + 1))

pub returns-in-None : goal.returns-in-None
returns-in-None c = all_of c.args.path.now c.in-None.ensures
