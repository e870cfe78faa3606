-- When texts are written.
use Rattle.std.specs.Prelude.{ℕ, ◌+◌, ◌≤◌, List, All, AllPairs}
use Rattle.std.specs.Time.{FitsClock, instant_nanos}
use Rattle.std.specs.declared.time.Instant.{Instant}
use Rattle.progress.specs.declared.step.Step.{Step}

-- a tenth of a second, in nanoseconds
abbrev pub pause : ℕ
pause = 100_000_000

-- of any two texts the later one was written a tenth of a second or more behind the earlier one
abbrev pub AreApart : List (Instant × Step) → Type 0
AreApart history = AllPairs (λ earlier later. instant_nanos earlier.0 + pause ≤ instant_nanos later.0) history

-- and so is one that is written at this time or later
abbrev pub AllowMore : List (Instant × Step) → ℕ → Type 0
AllowMore history time = All (λ told. instant_nanos told.0 + pause ≤ time) history

-- a text may be written now, where the next one may be from that time on; the clock has room for the time of one more
abbrev pub IsDue : Instant → Instant → Type 0
IsDue next now = (instant_nanos next ≤ instant_nanos now) × FitsClock (instant_nanos now + pause)
