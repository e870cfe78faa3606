-- What a block holds after a piece.
use Rattle.std.proofs.Common.{◌≡◌, ◌≤◌, ◌+◌, ◌-◌, ℕ, zero, suc, List, [], ◌∷◌, ◌++◌, length, take, drop, inl, inr, refl, sym, ap, ◌∙◌, subst, arith, length-take}
use Rattle.std.proofs.lemmas.Bool.{cases_lt}
use Rattle.std.proofs.lemmas.List.{drop-take, length-replicate}
use Rattle.model.specs.Image.{IsBlock}
use Rattle.machine.specs.Effects.{IsOverwritten}
use Rattle.live_writes.specs.Written.{bytes_after, bytes_under}
use Rattle.live_writes.specs.declared.aiming.Place.{Place}
use Rattle.live_writes.specs.declared.aiming.Place.TheVariants.{InPlace, Behind, Elsewhere}

-- the first of some numbers begin them
takes : (n : ℕ) (xs : List ℕ) → take (length (take n xs)) xs ≡ take n xs
takes zero xs = refl
takes (suc n) [] = refl
takes (suc n) (x ∷ xs) = ap (λ (l : List ℕ). x ∷ l) (takes n xs)

behind_all : (piece xs ys : List ℕ) → take (length xs) ys ≡ xs → take (length (piece ++ xs)) (piece ++ ys) ≡ piece ++ xs
behind_all [] xs ys e = e
behind_all (p ∷ piece) xs ys e = ap (λ (l : List ℕ). p ∷ l) (behind_all piece xs ys e)

-- nothing is left behind all
drops_all : (n : ℕ) (xs : List ℕ) → length xs ≤ n → drop n xs ≡ []
drops_all zero [] short = refl
drops_all zero (x ∷ xs) short = absurd (omega (arith, short))
drops_all (suc n) [] short = refl
drops_all (suc n) (x ∷ xs) short = drops_all n xs (omega (arith, short))

-- the first of what is behind a piece is what is behind it of the first
drops_taken : (n m : ℕ) (xs : List ℕ) → drop n (take m xs) ≡ take (m - n) (drop n xs)
drops_taken n m xs = elim (cases_lt m n) [
  | inl less ↦
      let none : m - n ≡ 0 = omega (arith, less) in
      drops_all n (take m xs) (omega (arith, less, length-take m xs)) ∙ sym (ap (λ k. take k (drop n xs)) none)
  | inr more ↦
      let whole : m ≡ n + (m - n) = omega (arith, more) in
      ap (λ k. drop n (take k xs)) whole ∙ drop-take n (m - n) xs
]

append_none : (xs : List ℕ) → xs ++ [] ≡ xs
append_none [] = refl
append_none (x ∷ xs) = ap (λ (l : List ℕ). x ∷ l) (append_none xs)

-- a piece over the first bytes of a block begins the piece over the whole block
pub over_first : (piece block : List ℕ) (m : ℕ) → IsBlock (piece ++ drop (length piece) block) → IsOverwritten piece (take m block) (piece ++ drop (length piece) block)
over_first piece block m whole = record {
  whole = whole;
  begins = behind_all piece (drop (length piece) (take m block)) (drop (length piece) block)
      (ap (λ (l : List ℕ). take (length l) (drop (length piece) block)) (drops_taken (length piece) m block) ∙ takes (m - length piece) (drop (length piece) block) ∙ sym (drops_taken (length piece) m block));
}

-- and over none
pub over_none : (piece block before : List ℕ) → before ≡ [] → IsBlock (piece ++ drop (length piece) block) → IsOverwritten piece before (piece ++ drop (length piece) block)
over_none piece block before e whole =
    subst (λ (l : List ℕ). IsOverwritten piece l (piece ++ drop (length piece) block)) (sym e) (over_first piece block 0 whole)

-- the first bytes of a block are a piece of their own, where nothing is seen behind them
pub over_short : (n : ℕ) (bytes before : List ℕ) → IsBlock bytes → length before ≤ length (take n bytes) → IsOverwritten (take n bytes) before bytes
over_short n bytes before whole short =
    let same : take n bytes ++ drop (length (take n bytes)) before ≡ take n bytes =
    ap (λ (l : List ℕ). take n bytes ++ l) (drops_all (length (take n bytes)) before short) ∙ append_none (take n bytes) in
    record { whole = whole; begins = ap (λ (l : List ℕ). take (length l) bytes) same ∙ takes n bytes ∙ sym same }

-- a piece as long as a block leaves nothing of what was there
under_short : (place : Place) (before : List ℕ) → length before ≤ 1024 → length (bytes_under place before) ≤ 1024
under_short (InPlace a) before short = short
under_short (Behind b tables) before short = omega (arith, length-replicate {A = ℕ} 1024 0)
under_short (Elsewhere a b) before short = short

pub over_all : (place : Place) (before piece : List ℕ) → length before ≤ 1024 → length piece ≡ 1024 → piece ≡ bytes_after place before piece
over_all place before piece short long =
    sym (ap (λ (l : List ℕ). piece ++ l) (drops_all (length piece) (bytes_under place before) (omega (arith, under_short place before short, long))) ∙ append_none piece)
