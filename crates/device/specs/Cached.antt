-- What a device in memory with a write cache keeps, and what devices in memory held.
use Rattle.std.specs.Prelude.{◌≡◌, ℕ, Bool, true, false, List, drop, take}
use Rattle.std.proofs.Common.{◌∙◌, ap, sym}
use Rattle.device.specs.declared.cache.Step.{Step}
use Rattle.device.specs.Media.{Held, IsInOrder, Medium, begun, chosen, held_after, image_of, settled_on, steps_of, writes_in}
use Rattle.device.specs.Memory.{Memory}
use Rattle.device.specs.Writes.{image_after}
use Rattle.device.specs.MediaLaws.{image_of-held_after, in_order_after, in_order_begun, writes_in-steps_of}

-- the blocks that it began with, the steps since, and the count of failures
pub record Cache : Type 0 where
  pub first : List (List ℕ)
  pub steps : List Step
  pub failures : ℕ

-- what it held after these steps
abbrev pub held_by : List (List ℕ) → List Step → Held
held_by first steps = held_after false (begun (settled_on first)) steps

-- after the steps before this one (at) those before that one (n) are on the medium for good, and the others are loose
abbrev pub IsSince : List Step → ℕ → ℕ → Type 0
IsSince ss n at = (image : List (List ℕ)) → (held_by image (take at ss)).now ≡ record { durable = image_after image (writes_in (take n ss)); loose = writes_in (drop n (take at ss)) }

-- each of these steps is a write
abbrev pub AreWrites : List Step → Type 0
AreWrites ss = steps_of (writes_in ss) ≡ ss

-- what a power cut leaves of the writes that were loose after so many of its steps, if these are picked
abbrev pub left_of : Cache → ℕ → List Bool → List (List ℕ)
left_of c steps picks = image_after (held_by c.first (take steps c.steps)).now.durable (chosen (held_by c.first (take steps c.steps)).now.loose picks)

pub cache_answers : (c : Cache) → image_after c.first (writes_in c.steps) ≡ image_of (held_by c.first c.steps).now
cache_answers c = sym (image_of-held_after false (begun (settled_on c.first)) c.steps)

-- a device in memory without a cache keeps order
abbrev pub held_in_memory : Memory → Held
held_in_memory m = held_after true (begun (settled_on m.first)) (steps_of m.writes)

pub memory_answers : (m : Memory) → image_after m.first m.writes ≡ image_of (held_in_memory m).now
memory_answers m = ap (image_after m.first) (sym (writes_in-steps_of m.writes)) ∙ sym (image_of-held_after true (begun (settled_on m.first)) (steps_of m.writes))

pub memory_in_order : (m : Memory) → IsInOrder (held_in_memory m)
memory_in_order m = in_order_after (begun (settled_on m.first)) (steps_of m.writes) (in_order_begun m.first)
