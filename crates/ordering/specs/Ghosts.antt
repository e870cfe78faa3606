-- What the present command has begun and not yet ended.
use Rattle.std.specs.Prelude.{ℕ, Bool, false}

-- a place of a number that no longer stands, and the block whose update took it away
pub record Gone : Type 0 where
  pub number : ℕ
  pub directory : ℕ
  pub slot : ℕ
  pub block : ℕ
  pub witness : ℕ

pub record Ghost : Type 0 where
  -- the blocks that a snapshot holds
  pub held : ℕ → Bool
  -- the places that no longer stand and whose links have not been taken off
  pub gone : Gone → Bool
  -- whether this block was given up by this inode at this position, and is marked yet
  pub given_up : ℕ → ℕ → ℕ → Bool
  -- the numbers whose record was freed and that are marked yet
  pub zeroed : ℕ → Bool
  -- the directories that have no entry yet
  pub entering : ℕ → Bool
  -- files that no stop loses
  pub safe : ℕ → Bool

-- between commands
abbrev pub at_rest : (ℕ → Bool) → (ℕ → Bool) → Ghost
at_rest held safe = record { held = held; gone = λ g. false; given_up = λ b n k. false; zeroed = λ n. false; entering = λ n. false; safe = safe }
