-- The nodes that one request forgets.
use Rattle.std.specs.Prelude.{ℕ, ◌+◌, ◌*◌, ◌/◌, List, length, map}
use Rattle.std.specs.List.{range_with_len}
use Rattle.fuse_wire.specs.declared.numbers.NodeId.{NodeId}
use Rattle.fuse_wire.specs.declared.requests.Forget.{Forget}
use Rattle.fuse_wire.specs.declared.requests.Forgets.{Forgets}
use Rattle.fuse_wire.specs.Fields.{long_at}

-- the number of a node, and how many lookups, 8 bytes each
abbrev pub forget_at : List ℕ → ℕ → Forget
forget_at bytes place = record { node = record { 0 = long_at (16 * place) bytes }; lookups = long_at (16 * place + 8) bytes }

-- those in these bytes
abbrev pub forgets_in : List ℕ → List Forget
forgets_in bytes = map (forget_at bytes) (range_with_len 0 (length bytes / 16))

abbrev pub forgets_of : Forgets → List Forget
forgets_of forgets = forgets_in forgets.bytes.now
