-- How long a trace may be, and how many may have a seat.
use Rattle.std.specs.Prelude.{ℕ, ◌≤◌}

abbrev pub Within : ℕ → ℕ → Type 0
Within limit seats = (1 ≤ limit) × (limit ≤ 1000000) × (1 ≤ seats) × (seats ≤ 64)
