-- A history with one text more.
use Rattle.std.proofs.Common.{◌≡◌, ℕ, ◌+◌, ◌≤◌, List, [], ◌∷◌, ◌++◌, arith}
use Rattle.std.proofs.lemmas.List.Elements.{All-push}
use Rattle.std.proofs.lemmas.List.Quantifiers.{all_pairs_push}
use Rattle.std.specs.Time.{instant_nanos}
use Rattle.std.specs.declared.time.Instant.{Instant}
use Rattle.progress.specs.declared.step.Step.{Step}
use Rattle.progress.specs.Times.{AllowMore, AreApart, pause}

module _ (history : List (Instant × Step)) (now : Instant) (step : Step) (next : ℕ) (allowed : AllowMore history next) (due : next ≤ instant_nanos now) where
  pub apart_more : AreApart history → AreApart (history ++ (now, step) ∷ [])
  apart_more apart =
      all_pairs_push (λ (a b : Instant × Step). instant_nanos a.0 + pause ≤ instant_nanos b.0) history (now, step) apart
      (λ k d below. let before = allowed k d below in omega arith)

  pub allow_more : (later : ℕ) → later ≡ instant_nanos now + pause → AllowMore (history ++ (now, step) ∷ []) later
  allow_more later is =
      All-push (λ (told : Instant × Step). instant_nanos told.0 + pause ≤ later) history (now, step)
      (λ k d below. let before = allowed k d below in omega arith) (omega arith)
