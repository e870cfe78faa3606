use Rattle.std.proofs.Common.{◌≡◌, map, take}
use Rattle.live_paths.specs.Listed.{name_of}
use Rattle.shared.proofs.entry.copied.Given as goal

abbrev pub invariant-loop-named : goal.invariant-loop-named
invariant-loop-named l = map name_of l.copies.items ≡ map name_of (take l.named-index l.names)
