-- Which answers have bytes or names.
use Rattle.std.proofs.Common.{◌≡◌, Ok, Err, Result, MatchResult, subst}
use Rattle.layout.specs.declared.refusal.Refusal.{Refusal}
use Rattle.snapshot.specs.declared.answer.Answer.{Answer}
use Rattle.snapshot.specs.Asked.{HasBytesOrNames}

-- ---- what is answered without bytes and names

pub neither : {T : Type 0} (given : T → Answer) → ((t : T) → HasBytesOrNames (Ok (given t)) → ⊥) → (P : Type 0) (outcome : Result T Refusal) (reply : Result Answer Refusal)
    → MatchResult outcome (λ t. reply ≡ Ok (given t)) (λ r. reply ≡ Err r) → HasBytesOrNames reply → P
neither given none P (Ok t) reply told has = absurd (none t (subst HasBytesOrNames told has))
neither given none P (Err r) reply told has = absurd (subst HasBytesOrNames told has)
