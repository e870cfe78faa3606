use Rattle.std.proofs.Common.{◌≡◌, map, take}
use Rattle.model.specs.Layout.{Geometry}
use Rattle.snapshot.specs.Asked.{asked}
use Rattle.tool_answers.specs.Words.{request_of}
use Rattle.tool_answers.proofs.words.deeds.Given as goal

abbrev pub invariant-loop-path : goal.invariant-loop-path
invariant-loop-path l = (geo : Geometry) → map (asked geo) l.commands.items ≡ map (λ path. request_of l.fn.deed path.items) (take l.path-index l.paths)
