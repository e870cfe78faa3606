-- Which file a command writes, and runs that write none of it.
use Rattle.std.specs.Prelude.{◌≡◌, ℕ, List, [], ◌∷◌, Ok, Err, IsTrue, IsFalse}
use Rattle.model.specs.Layout.{Geometry}
use Rattle.model.specs.View.{View}
use Rattle.model.specs.Uses.{is_sound_at, is_directory_at}
use Rattle.machine.specs.State.{State}
use Rattle.machine.specs.Command.{Command, Close, Write, Truncate, Reply}
use Rattle.machine.specs.Causes.{file_of}
use Rattle.machine.specs.Step.{Step}
use Rattle.machine.specs.Balance.{IsLive}

-- i is the number of a file
abbrev pub IsFile : Geometry → View → ℕ → Type 0
IsFile geo view i = IsTrue (is_sound_at geo view i) × IsFalse (is_directory_at geo view i)

-- a write or a truncation by a handle of inode i
abbrev pub IsWriteTo : State → ℕ → Command → Type 0
IsWriteTo old i (Write h k piece) = file_of old h ≡ i
IsWriteTo old i (Truncate h n) = file_of old h ≡ i
IsWriteTo old i _ = ⊥

-- which was carried out
abbrev pub IsWritten : State → ℕ → Command → Reply → Type 0
IsWritten old i command (Ok answer) = IsWriteTo old i command
IsWritten old i command (Err r) = ⊥

-- handle h is closed
abbrev pub IsClosing : ℕ → Command → Reply → Type 0
IsClosing h command (Ok answer) = command ≡ Close h
IsClosing h command (Err r) = ⊥

-- These replies to these commands, one step after another, of which each passes.
abbrev pub RunWhere : (State → Command → Reply → State → Type 0) → Geometry → State → List Command → List Reply → State → Type 0
RunWhere passes geo old [] [] new = new ≡ old
RunWhere passes geo old (command ∷ commands) (reply ∷ replies) new =
    (mid : State) × Step geo old command reply mid × passes old command reply mid × RunWhere passes geo mid commands replies new
RunWhere passes geo old [] (reply ∷ replies) new = ⊥
RunWhere passes geo old (command ∷ commands) [] new = ⊥

-- no step writes inode i, and it is live after each
abbrev pub RunBeside : Geometry → ℕ → State → List Command → List Reply → State → Type 0
RunBeside geo i old commands replies new = RunWhere (λ s command reply t. (IsWritten s i command reply → ⊥) × IsLive geo t i) geo old commands replies new

-- no step writes inode i, and none closes handle h
abbrev pub RunUnder : Geometry → ℕ → ℕ → State → List Command → List Reply → State → Type 0
RunUnder geo i h old commands replies new = RunWhere (λ s command reply t. (IsWritten s i command reply → ⊥) × (IsClosing h command reply → ⊥)) geo old commands replies new
