-- Blocks that are shared, as the bytes that they hold.
use Rattle.std.specs.Prelude.{List, ℕ, Option, map}
use Rattle.std.specs.Option.{option_map}
use Rattle.std.specs.Arc.{arc_value}
use Rattle.std.specs.declared.sync.Arc.{Arc}
use Rattle.std.specs.declared.alloc.Global.{Global}

abbrev pub shared_blocks : List (Option (Arc (List ℕ) Global)) → List (Option (List ℕ))
shared_blocks blocks = map (option_map arc_value) blocks
