-- Where commands stop that are carried out one after another.
use Rattle.std.specs.Prelude.{◌≡◌, ℕ, zero, suc, List, [], ◌∷◌, ◌++◌, Ok, Err, Result, Option, Some, None, length}
use Rattle.layout.specs.declared.refusal.Refusal.{Refusal}
use Rattle.snapshot.specs.declared.answer.Answer.{Answer}

-- Of n commands each was carried out, or each up to one that was refused, which is the last.
abbrev pub StopsAtRefusal : ℕ → List (Result Answer Refusal) → Type 0
StopsAtRefusal zero [] = Unit {0}
StopsAtRefusal zero (reply ∷ replies) = ⊥
StopsAtRefusal (suc n) [] = ⊥
StopsAtRefusal (suc n) (Ok answer ∷ replies) = StopsAtRefusal n replies
StopsAtRefusal (suc n) (Err r ∷ []) = Unit {0}
StopsAtRefusal (suc n) (Err r ∷ reply ∷ replies) = ⊥

-- The last of these replies is this refusal, and so many came before it; or it is no refusal, and they are so many.
abbrev pub IsOutcome : List (Result Answer Refusal) → ℕ → Option Refusal → Type 0
IsOutcome replies done None = (length replies ≡ done) × ((earlier : List (Result Answer Refusal)) (r : Refusal) → replies ≡ earlier ++ Err r ∷ [] → ⊥)
IsOutcome replies done (Some r) = (earlier : List (Result Answer Refusal)) × (replies ≡ earlier ++ Err r ∷ []) × (length earlier ≡ done)
