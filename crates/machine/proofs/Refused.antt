-- A command has at most one refusal, and one or none.
use Rattle.std.proofs.Common.{◌≡◌, ◌⊎◌, inl, inr, refl, sym, ◌∙◌, Option, Some, None}
use Rattle.model.specs.Layout.{Geometry}
use Rattle.layout.specs.declared.refusal.Refusal.{Refusal}
use Rattle.layout.specs.declared.refusal.Refusal.TheVariants.{ForeignPlan}
use Rattle.machine.specs.State.{State}
use Rattle.machine.specs.Command.{Command}
use Rattle.machine.specs.Causes.{FirstRefusal, Accepts, Belongs, refusal_of}

same_some : {X : Type 0} (o : Option X) (x y : X) → o ≡ Some x → o ≡ Some y → x ≡ y
same_some o x y p q = let e : Some x ≡ Some y = sym p ∙ q in cc

not_both : {X : Type 0} {P : Type 0} (o : Option X) (x : X) → o ≡ Some x → o ≡ None → P
not_both {X} {P} o x p q = let e : Some x ≡ None = sym p ∙ q in absurd cc

pub refusal_unique : (geo : Geometry) (old : State) (command : Command) (r q : Refusal) → FirstRefusal geo old command r → FirstRefusal geo old command q → r ≡ q
refusal_unique geo old command r q (inl a) (inl b) = same_some (refusal_of geo old command) r q a b
refusal_unique geo old command r q (inl a) (inr b) = not_both (refusal_of geo old command) r a b.0
refusal_unique geo old command r q (inr a) (inl b) = not_both (refusal_of geo old command) q b a.0
refusal_unique geo old command r q (inr a) (inr b) = a.2 ∙ sym b.2

pub refused_not_accepted : (geo : Geometry) (old : State) (command : Command) (r : Refusal) → FirstRefusal geo old command r → Accepts geo old command → ⊥
refused_not_accepted geo old command r (inl a) b = not_both (refusal_of geo old command) r a b.0
refused_not_accepted geo old command r (inr a) b = a.1 b.1

either : {X : Type 0} (o : Option X) → ((x : X) × (o ≡ Some x)) ⊎ (o ≡ None)
either None = inr refl
either (Some x) = inl (x, refl)

decided_by : (geo : Geometry) (old : State) (command : Command) → refusal_of geo old command ≡ None → Belongs geo old command ⊎ (Belongs geo old command → ⊥)
    → ((r : Refusal) × FirstRefusal geo old command r) ⊎ Accepts geo old command
decided_by geo old command none (inl own) = inr (none, own)
decided_by geo old command none (inr foreign) = inl (ForeignPlan, inr (none, foreign, refl))

pub refused_or_accepted : (geo : Geometry) (old : State) (command : Command) → Belongs geo old command ⊎ (Belongs geo old command → ⊥)
    → ((r : Refusal) × FirstRefusal geo old command r) ⊎ Accepts geo old command
refused_or_accepted geo old command belongs =
    elim (either (refusal_of geo old command)) [
      | inl h ↦ inl (h.0, inl h.1)
      | inr none ↦ decided_by geo old command none belongs
    ]
