-- What is sought in the slots of a directory, and the first slot that is.
use Rattle.std.specs.Prelude.{◌≡◌, ℕ, ◌<◌, ◌≤◌, Bool, not, ◌&&◌, ◌==◌, nat_le, IsTrue, IsFalse}
use Rattle.model.specs.Slots as model
use Rattle.frozen.specs.Kept.{Kept, frozen_view}
use Rattle.machine.specs.Paths.{has_name}
use Rattle.machine.specs.Room.{is_empty}
use Rattle.live_paths.specs.declared.scan.Entry.{Entry}
use Rattle.live_paths.specs.declared.scan.Sought.{Sought}
use Rattle.live_paths.specs.declared.scan.Sought.TheVariants.{Name, Room, AnyName}

-- whether slot s of a directory, which says this, is sought
abbrev pub is_sought : Sought → ℕ → model.Slot → Bool
is_sought (Name name) s slot = has_name slot name.now
is_sought Room s slot = is_empty slot
is_sought AnyName s slot = nat_le 2 s && not (model.number_in slot == 0)

-- slot s of directory d, in the view that is kept
abbrev pub kept_slot : Kept → ℕ → ℕ → model.Slot
kept_slot kept d s = model.slot kept.geometry (frozen_view kept) d s

-- no slot of directory d from one on, and below an end, is sought
abbrev pub NoneIsSought : Kept → ℕ → Sought → ℕ → ℕ → Type 0
NoneIsSought kept d sought from end = (s : ℕ) → from ≤ s → s < end → IsFalse (is_sought sought s (kept_slot kept d s))

-- The entry's slot is the first of these that is sought, and its number is the one that stands there.
pub record IsFirst (kept : Kept) (d : ℕ) (sought : Sought) (from end : ℕ) (entry : Entry) : Type 0 where
  pub behind : from ≤ entry.slot
  pub below : entry.slot < end
  pub met : IsTrue (is_sought sought entry.slot (kept_slot kept d entry.slot))
  pub number : model.number_in (kept_slot kept d entry.slot) ≡ entry.number
  pub before : NoneIsSought kept d sought from entry.slot
