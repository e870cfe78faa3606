-- Which block is flushed next.
use Rattle.std.specs.Prelude.{◌≡◌, ◌⊎◌, ℕ}
use Rattle.softdep.specs.Queued.{IsLeastNext, NothingNext, Queued}

-- the least one of which a flush writes something, or block 0 where there is none
abbrev pub IsNext : Queued → ℕ → Type 0
IsNext queue a = IsLeastNext queue a ⊎ (NothingNext queue × (a ≡ 0))
