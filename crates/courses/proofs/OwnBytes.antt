-- The bytes of a block over which a piece is put.
use Rattle.std.proofs.Common.{◌≡◌, ℕ, zero, suc, ◌<◌, List, [], ◌∷◌, ◌++◌, ◌⊎◌, inl, inr, length, drop, replicate, refl, sym, ap, ◌∙◌, arith, slice_index}

drop_none : (n : ℕ) → drop {A = ℕ} n [] ≡ []
drop_none zero = refl
drop_none (suc n) = refl

-- a byte is the piece's, or stands behind it
pub over_byte : (piece under : List ℕ) (j : ℕ) → ((j < length piece) × (slice_index piece j ≡ slice_index (piece ++ drop (length piece) under) j)) ⊎ (slice_index (piece ++ drop (length piece) under) j ≡ slice_index under j)
over_byte [] under j = inr refl
over_byte (p ∷ piece) under zero = inl (omega (arith), refl)
over_byte (p ∷ piece) (x ∷ under) (suc j) = elim (over_byte piece under j) [ inl here ↦ inl (let low = here.0 in omega (arith, low), here.1) | inr behind ↦ inr behind ]
over_byte (p ∷ piece) [] (suc j) = elim (over_byte piece [] j) [
  | inl here ↦ inl (let low = here.0 in omega (arith, low), here.1 ∙ ap (λ (l : List ℕ). slice_index (piece ++ l) j) (drop_none (length piece)))
  | inr behind ↦ inr (sym (ap (λ (l : List ℕ). slice_index (piece ++ l) j) (drop_none (length piece))) ∙ behind)
]

pub zero_byte : (n j : ℕ) → slice_index (replicate n 0) j ≡ 0
zero_byte zero j = refl
zero_byte (suc n) zero = refl
zero_byte (suc n) (suc j) = zero_byte n j
