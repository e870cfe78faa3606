-- A fuse over a device.
use Rattle.std.specs.Prelude.{◌≡◌, ℕ, zero, suc, ◌+◌, ◌-◌, ◌^◌, min, Bool, true, false, if◌then◌else◌, Option, Some, None, Result, OnOk}

-- the device below, how many calls it lets through before one fails (none: no call fails any more), whether one call alone fails, and how many it made fail
pub record Fused (D : Type 0) : Type 0 where
  pub device : D
  pub left : Option ℕ
  pub once : Bool
  pub failures : ℕ

-- whether the next call fails
abbrev pub blows : Option ℕ → Bool
blows None = false
blows (Some zero) = true
blows (Some (suc left)) = false

-- how many calls it lets through after that one
abbrev pub left_after : Bool → Option ℕ → Option ℕ
left_after once None = None
left_after once (Some zero) = if once then None else Some zero
left_after once (Some (suc left)) = Some left

-- how many calls failed, of those that the device below answered (by its own count) and of those that the fuse made fail
abbrev pub faults_of : {D : Type 0} → (D → ℕ) → Fused D → ℕ
faults_of below fuse = min (below fuse.device + fuse.failures) (2 ^ 64 - 1)

-- Each call counts. One that the fuse makes fail does not reach the device below.
pub record GoesThrough {D T E : Type 0} (old : Fused D) (answer : Result T E) (new : Fused D) : Type 0 where
  pub left : new.left ≡ left_after old.once old.left
  pub once : new.once ≡ old.once
  pub failures : new.failures ≡ (if blows old.left then min (old.failures + 1) (2 ^ 64 - 1) else old.failures)
  pub blown : blows old.left ≡ true → OnOk answer ⊥ × (new.device ≡ old.device)
