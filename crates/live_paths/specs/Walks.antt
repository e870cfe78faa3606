-- One step of a walk.
use Rattle.std.specs.Prelude.{ℕ, List, Some, None, Result, Ok, Err, if◌then◌else◌}
use Rattle.model.specs.Layout.{Geometry}
use Rattle.model.specs.View.{View}
use Rattle.model.specs.Uses.{is_directory_at}
use Rattle.layout.specs.declared.refusal.Refusal.{Refusal}
use Rattle.layout.specs.declared.refusal.Refusal.TheVariants.{NotFound, NotDirectory}
use Rattle.machine.specs.Paths.{lookup}

-- what a name stands for in d
abbrev pub named_of : Geometry → View → ℕ → List ℕ → Result ℕ Refusal
named_of geo view d name = elim (lookup geo view d name) [ None ↦ Err NotFound | Some i ↦ Ok i ]

-- and where d has to be a directory
abbrev pub next_of : Geometry → View → ℕ → List ℕ → Result ℕ Refusal
next_of geo view d name = if is_directory_at geo view d then named_of geo view d name else Err NotDirectory

-- what is reached before the last part has to be a directory
abbrev pub last_of : Geometry → View → ℕ → Result ℕ Refusal
last_of geo view d = if is_directory_at geo view d then Ok d else Err NotDirectory
