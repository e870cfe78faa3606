-- What a list of writes makes of an image, and how calls are counted.
use Rattle.std.specs.Prelude.{◌≡◌, ℕ, ◌+◌, ◌-◌, ◌<◌, ◌^◌, min, List, [], ◌∷◌, ◌⊎◌, slice_set, MatchResult}
use Rattle.std.specs.declared.result.Result.{Result}

-- a write: an address, and the block that is written there
abbrev pub Write : Type 0
Write = ℕ × List ℕ

-- the image after these writes, the first of them first
abbrev pub image_after : List (List ℕ) → List Write → List (List ℕ)
image_after image [] = image
image_after image (w ∷ ws) = image_after (slice_set image w.0 w.1) ws

-- a fault adds one to the count of failures, which stands at 2^64 - 1, and nothing else changes it
abbrev pub CountsFaults : {T E : Type 0} → Result T E → ℕ → ℕ → Type 0
CountsFaults result old new = MatchResult result (λ _. new ≡ old) (λ _. new ≡ min (old + 1) (2 ^ 64 - 1))

-- the device has failed since: the count has risen, or stands at its end
abbrev pub HasFailed : ℕ → ℕ → Type 0
HasFailed old new = (old < new) ⊎ (new ≡ 2 ^ 64 - 1)
