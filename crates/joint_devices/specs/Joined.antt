-- A device whose image others have read too.
use Rattle.std.specs.Prelude.{List, All}

-- the device, and the others, each as it was let go
pub record Joined (D : Type 0) : Type 0 where
  pub device : D
  pub readers : List D

-- each of them was honest
abbrev pub AllHonest : {D : Type 0} → (D → Type 0) → Joined D → Type 0
AllHonest honest_of joint = honest_of joint.device × All honest_of joint.readers

-- what is said of the device
abbrev pub of_device : {D A : Type 0} → (D → A) → Joined D → A
of_device said joint = said joint.device
