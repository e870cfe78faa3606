-- What stands behind a test need be alike only where the test has that outcome.
use Rattle.std.proofs.Common.{◌≡◌, ℕ, Bool, true, false, cond, ◌&&◌, refl, ap, Option, Some, None}
use Rattle.std.specs.Bool.{then_some}
use Rattle.std.specs.Option.{option_map_or}

pub same_and : (a b c : Bool) → (a ≡ true → b ≡ c) → (a && b) ≡ (a && c)
same_and true b c h = h refl
same_and false b c h = refl

pub same_then : (b : Bool) (x y : ℕ) → (b ≡ true → x ≡ y) → then_some b x ≡ then_some b y
same_then true x y h = ap Some (h refl)
same_then false x y h = refl

pub same_cond : {A : Type 0} (b : Bool) (x y z : A) → (b ≡ true → x ≡ y) → cond b x z ≡ cond b y z
same_cond true x y z h = h refl
same_cond false x y z h = refl

pub same_else : {A : Type 0} (b : Bool) (x y z : A) → (b ≡ false → x ≡ y) → cond b z x ≡ cond b z y
same_else true x y z h = refl
same_else false x y z h = h refl

pub same_map_or : {A : Type 0} (f g : ℕ → A) (d : A) (o : Option ℕ) → ((a : ℕ) → o ≡ Some a → f a ≡ g a) → option_map_or f o d ≡ option_map_or g o d
same_map_or f g d None h = refl
same_map_or f g d (Some a) h = h a refl
