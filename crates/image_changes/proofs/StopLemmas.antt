-- Replies of which each answers, where they stop, and what stops them.
use Rattle.std.proofs.Common.{◌≡◌, ◌<◌, ◌+◌, ℕ, zero, suc, List, [], ◌∷◌, ◌++◌, length, Ok, Err, Result, None, Some, sym, ap, ◌∙◌, subst, arith}
use Rattle.std.proofs.lemmas.List.{length-append, length_push, same_from_push}
use Rattle.layout.specs.declared.refusal.Refusal.{Refusal}
use Rattle.snapshot.specs.declared.answer.Answer.{Answer}
use Rattle.image_changes.specs.Asking.{AllAnswer}
use Rattle.image_changes.specs.Stops.{IsOutcome, StopsAtRefusal}
use Rattle.image_changes.proofs.AskingLemmas.{answered_more}

pub one_more : (replies more : List (Result Answer Refusal)) (reply : Result Answer Refusal) (answer : Answer) → reply ≡ Ok answer → more ≡ replies ++ reply ∷ [] → AllAnswer replies → AllAnswer more
one_more replies more reply answer is same all = subst AllAnswer (sym (same ∙ ap (λ r. replies ++ r ∷ []) is)) (answered_more replies answer all)

pub longer : (replies more : List (Result Answer Refusal)) (reply : Result Answer Refusal) → more ≡ replies ++ reply ∷ [] → (i : ℕ) → length replies ≡ i → length more ≡ i + 1
longer replies more reply same i is = ap length same ∙ length-append replies (reply ∷ []) ∙ ap (λ n. n + 1) is

all_done : (replies : List (Result Answer Refusal)) → AllAnswer replies → StopsAtRefusal (length replies) replies
all_done [] a = tt
all_done (Ok x ∷ rs) a = all_done rs a
all_done (Err r ∷ rs) a = absurd a

-- so many were carried out
pub each_done : (n : ℕ) (replies : List (Result Answer Refusal)) → AllAnswer replies → length replies ≡ n → StopsAtRefusal n replies
each_done n replies all count = subst (λ m. StopsAtRefusal m replies) count (all_done replies all)

stops : (n : ℕ) (replies : List (Result Answer Refusal)) (r : Refusal) → AllAnswer replies → length replies < n → StopsAtRefusal n (replies ++ Err r ∷ [])
stops zero replies r a low = absurd (omega (arith, low))
stops (suc n) [] r a low = tt
stops (suc n) (Ok x ∷ rs) r a low = stops n rs r a (omega (arith, low))
stops (suc n) (Err q ∷ rs) r a low = absurd a

-- the next one was refused
pub last_refused : (n : ℕ) (replies more : List (Result Answer Refusal)) (reply : Result Answer Refusal) (r : Refusal) → reply ≡ Err r → more ≡ replies ++ reply ∷ [] → AllAnswer replies → length replies < n → StopsAtRefusal n more
last_refused n replies more reply r is same all low = subst (StopsAtRefusal n) (sym (same ∙ ap (λ x. replies ++ x ∷ []) is)) (stops n replies r all low)

-- ---- what comes last

pub ended_by : (replies before : List (Result Answer Refusal)) (last : Result Answer Refusal) (r : Refusal) → replies ≡ before ++ last ∷ [] → last ≡ Err r → (n : ℕ) → length before ≡ n → IsOutcome replies n (Some r)
ended_by replies before last r is refused n count = (before, is ∙ ap (λ x. before ++ x ∷ []) refused, count)

pub ended_well : (replies before : List (Result Answer Refusal)) (last : Result Answer Refusal) (answer : Answer) → replies ≡ before ++ last ∷ [] → last ≡ Ok answer → (n : ℕ) → length replies ≡ n → IsOutcome replies n None
ended_well replies before last answer is answered n count = (
  count,
  λ earlier r same.
      let two = same_from_push before earlier last (Err r) (sym is ∙ same) in
      let bad : Ok answer ≡ Err r = sym answered ∙ two.1 in cc,
)

pub none_ended : (replies : List (Result Answer Refusal)) → length replies ≡ 0 → IsOutcome replies 0 None
none_ended replies none = (none, λ earlier r same. let long = length_push earlier (Err r) in let here = ap length same in absurd (omega (arith, none, long, here)))
