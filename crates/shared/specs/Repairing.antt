-- Which calls are repairs.
use Rattle.std.specs.Prelude.{◌≡◌, ◌⊎◌, ◌+◌, ◌≤◌, Bool, true, false, ℕ, List, nat_lt, if◌then◌else◌, Ok, Err, Result}
use Rattle.std.specs.List.{count_by}
use Rattle.layout.specs.declared.refusal.Refusal.{Refusal}
use Rattle.layout.specs.declared.refusal.Refusal.TheVariants.{AlreadyDone, BadIndex, NoPlan, TraceFull}
use Rattle.machine.specs.Command.{Command as Request, RepairAt}
use Rattle.snapshot.specs.declared.command.Command.{Command}
use Rattle.snapshot.specs.declared.command.Command.TheVariants.{Repair}
use Rattle.snapshot.specs.declared.answer.Answer.{Answer}
use Rattle.shared.specs.declared.entry.Entry.{Entry}

abbrev pub is_repair : Command → Bool
is_repair (Repair place) = true
is_repair _ = false

-- and what they ask of the machine
abbrev pub asks_repair : Request → Bool
asks_repair (RepairAt place) = true
asks_repair _ = false

abbrev pub is_repair_entry : Entry → Bool
is_repair_entry entry = is_repair entry.command

-- how many calls of a trace are
abbrev pub repairs_in : List Entry → ℕ
repairs_in trace = count_by is_repair_entry trace

-- how much a call adds to the repairs, and to the others
abbrev pub of_repairs : Command → ℕ
of_repairs command = if is_repair command then 1 else 0

abbrev pub of_others : Command → ℕ
of_others command = if is_repair command then 0 else 1

-- Calls of repairs, each of which this was known of with its place and its reply, led from a place and a count to another place and another count: each was of the next place, and counts if it was carried out, but not if it was found to be done.
pub data Repairs (called : ℕ → Result Answer Refusal → Type 0) (next done : ℕ) : ℕ → ℕ → Type 0 where
  Stays : Repairs called next done next done
  CarriedOut : {place count : ℕ} (answer : Answer) → Repairs called next done place count → called place (Ok answer) → Repairs called next done (place + 1) (count + 1)
  PassedOver : {place count : ℕ} → Repairs called next done place count → called place (Err AlreadyDone) → Repairs called next done (place + 1) count

-- there is no repair at a place, or no check
abbrev pub IsEnd : Refusal → Type 0
IsEnd r = (r ≡ BadIndex) ⊎ (r ≡ NoPlan)

-- at this place: there is none further, or this was known of a call of it
abbrev pub EndsAt : (ℕ → Result Answer Refusal → Type 0) → ℕ → Type 0
EndsAt called next = (4294967295 ≤ next) ⊎ ((r : Refusal) × IsEnd r × called next (Err r))

-- How many calls of repairs came with the place at which it ended: none where the trace was full, or where there is no further place.
abbrev pub ended : Result (Unit {0}) Refusal → ℕ → ℕ
ended (Err TraceFull) next = 0
ended (Err r) next = 1
ended (Ok u) next = if nat_lt next 4294967295 then 1 else 0
