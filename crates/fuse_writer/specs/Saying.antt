-- What is said of outcomes.
use Rattle.std.specs.Prelude.{ℕ, List, Option, Some, None, Ok, Err, Result}
use Rattle.fuse_wire.specs.declared.bodies.Body.{Body}
use Rattle.fuse_wire.specs.declared.bodies.Body.TheVariants as bodies
use Rattle.fuse_wire.specs.declared.bodies.Entry.{Entry}
use Rattle.fuse_wire.specs.declared.bodies.Opened.{Opened}
use Rattle.fuse_wire.specs.declared.errors.Errno.{Errno}
use Rattle.fuse_reader.specs.Said as said
use Rattle.fuse_reader.specs.Said.{Said, Refused}
use Rattle.fuse_writer.specs.Doings.{said_by}
use Rattle.fuse_writer.specs.Requests.{hour}

-- of a call of which there is nothing to tell
abbrev pub said_done : {T : Type 0} → Result T Errno → Said
said_done outcome = said_by (λ _. bodies.Empty) outcome

-- of what a name leads to, if it is there
abbrev pub found_body : Option Entry → Body
found_body None = bodies.Absent hour
found_body (Some entry) = bodies.Entry entry

abbrev pub said_found : Result (Option Entry) Errno → Said
said_found outcome = said_by found_body outcome

-- of a new file, which is open
abbrev pub said_created : Result (Entry × Opened) Errno → Said
said_created outcome = said_by (λ made. bodies.Created made.0 made.1) outcome

-- of bytes
abbrev pub said_bytes : {V : Type 0} → (V → List ℕ) → Result V Errno → Said
said_bytes items (Ok bytes) = said.Told (items bytes)
said_bytes items (Err error) = Refused error
