use Rattle.std.proofs.Common.{◌≡◌, map, take}
use Rattle.model.specs.Layout.{Geometry}
use Rattle.snapshot.specs.Asked.{asked}
use Rattle.tool_answers.specs.Words.{naming_of, new_name}
use Rattle.tool_answers.proofs.words.namings.Given as goal

abbrev pub invariant-loop-path : goal.invariant-loop-path
invariant-loop-path l = (geo : Geometry) → map (asked geo) l.commands.items
    ≡ map (λ path. naming_of l.fn.naming path.items (new_name l.fn.aim l.fn.target path.items)) (take l.path-index l.paths)
