use Rattle.std.proofs.Common.{◌≡◌, ◌++◌, map, take}
use Rattle.live_paths.specs.Listed.{name_of}
use Rattle.tool_answers.specs.Told.{name_lines}
use Rattle.tool_answers.proofs.texts.write_names.Given as goal

abbrev pub invariant-loop-named : goal.invariant-loop-named
invariant-loop-named l = l.text.items ≡ l.fn.text.items ++ name_lines (map name_of (take l.named-index l.names))
