-- Replies whose bytes or names have to be copied to be kept.
use Rattle.std.specs.Prelude.{Ok}
use Rattle.machine.specs.Command.{Bytes, Listed, Reply}

-- a reply of bytes, or of names
abbrev pub IsCopied : Reply → Type 0
IsCopied (Ok (Bytes bytes)) = Unit {0}
IsCopied (Ok (Listed names)) = Unit {0}
IsCopied _ = ⊥
