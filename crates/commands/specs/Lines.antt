-- The lines of the program.
use Rattle.std.specs.Prelude.{◌≡◌}
use Rattle.commands.specs.declared.line.Line.{Line}
use Rattle.commands.specs.declared.line.Line.TheVariants as lines
use Rattle.serve_lines.specs.declared.serve.ServeLine.{ServeLine}

-- the line serves an image
abbrev pub IsServe : Line → Type 0
IsServe line = (served : ServeLine) × (line ≡ lines.Serve served)
