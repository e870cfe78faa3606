-- A device that counts.
use Rattle.std.specs.Prelude.{ℕ}

-- the device below, how many calls of it were made, and how many of them failed
pub record Watch (D : Type 0) : Type 0 where
  pub device : D
  pub calls : ℕ
  pub faults : ℕ
