-- Blocks that come off the front of bytes.
use Rattle.std.proofs.Common.{◌≡◌, ◌<◌, ◌≤◌, ◌+◌, ◌*◌, ◌/◌, ℕ, min, List, [], ◌∷◌, ◌++◌, length, take, drop, Option, Some, None, Bor, sym, ap, ◌∙◌, subst, arith}
use Rattle.std.specs.Fork.{slice_chunk}
use Rattle.std.specs.Slice.Iter.{chunks_rest, chunks_size, chunks_steps}
use Rattle.std.specs.declared.slice.Chunks.{Chunks}
use Rattle.std.proofs.lemmas.List.{append-nil, drop-append-le, drop-drop, drop_all, length-append, length-drop, take-append-le, take_all, take_at}
use Rattle.std.proofs.Math.Seq.{drop-append-add, drop-append_seam}

-- what comes off, and what is left
cut_front : (n : ℕ) (xs x r : List ℕ) → xs ≡ x ++ r → length x ≡ min n (length xs) → (x ≡ take n xs) × (r ≡ drop n xs)
cut_front n xs x r both long = subst (λ (ys : List ℕ). length x ≡ min n (length ys) → (x ≡ take n ys) × (r ≡ drop n ys)) (sym both) (by n r) long
  where
    by : (n : ℕ) (r : List ℕ) → length x ≡ min n (length (x ++ r)) → (x ≡ take n (x ++ r)) × (r ≡ drop n (x ++ r))
    by n [] is =
        let whole : length (x ++ []) ≤ n = rw (append-nil x) (omega (arith, is, ap length (append-nil x))) in
        (sym (take_all n (x ++ []) whole ∙ append-nil x), sym (drop_all n (x ++ []) whole))
    by n (y ∷ r) is =
        let more = length-append x (y ∷ r) in
        let at : length x ≡ n = omega (arith, is, more) in
        (sym (take_at x (y ∷ r) n at), sym (subst (λ m. drop m (x ++ (y ∷ r)) ≡ y ∷ r) at (drop-append_seam x (y ∷ r))))

-- A block comes off bytes of which n blocks are off already.
pub record Cut (bytes : List ℕ) (n next : ℕ) (s t : Chunks ℕ) (piece : List ℕ) : Type 0 where
  pub size : chunks_size t ≡ 1024
  pub rest : chunks_rest t ≡ drop (next * 1024) bytes
  pub within : next * 1024 < length bytes + 1024
  pub piece_is : piece ≡ slice_chunk bytes 1024 n

pub cut_step : (bytes : List ℕ) (n next : ℕ) (s t : Chunks ℕ) (given : Option (Bor (List ℕ))) (piece : Bor (List ℕ)) → given ≡ Some piece → chunks_steps s given t
    → chunks_size s ≡ 1024 → chunks_rest s ≡ drop (n * 1024) bytes → next ≡ n + 1 → Cut bytes n next s t piece.now
cut_step bytes n next s t given piece is steps size rest more =
    let gave : chunks_steps s (Some piece) t = subst (λ o. chunks_steps s o t) is steps in
    let cut = cut_front 1024 (chunks_rest s) piece.now (chunks_rest t) gave.1.0 (gave.1.1 ∙ ap (λ m. min m (length (chunks_rest s))) size) in
    let on : n * 1024 + 1024 ≡ next * 1024 = omega (arith, more) in
    record {
      size = gave.0 ∙ size;
      rest = cut.1 ∙ ap (drop 1024) rest ∙ drop-drop 1024 (n * 1024) bytes ∙ ap (λ k. drop k bytes) on;
      within = omega (arith, gave.1.2, ap length rest, length-drop (n * 1024) bytes, more);
      piece_is = cut.0 ∙ ap (take 1024) rest;
    }

-- Where none comes off, so many did.
pub cut_end : (bytes : List ℕ) (n : ℕ) (s t : Chunks ℕ) (given : Option (Bor (List ℕ))) → given ≡ None → chunks_steps s given t
    → chunks_rest s ≡ drop (n * 1024) bytes → n * 1024 < length bytes + 1024 → n ≡ (length bytes + 1023) / 1024
cut_end bytes n s t given is steps rest within =
    let none : chunks_steps s None t = subst (λ o. chunks_steps s o t) is steps in
    omega (arith, none.1.0, ap length rest, length-drop (n * 1024) bytes, within)

-- ---- blocks of bytes that are longer than those before
pub chunk_before : (before part : List ℕ) (n : ℕ) → n * 1024 + 1024 ≤ length before → slice_chunk before 1024 n ≡ slice_chunk (before ++ part) 1024 n
chunk_before before part n within =
    sym (ap (take 1024) (drop-append-le (n * 1024) before part (omega (arith, within)))
    ∙ take-append-le 1024 (drop (n * 1024) before) part (omega (arith, within, length-drop (n * 1024) before)))

pub chunk_behind : (before part : List ℕ) (first n : ℕ) → length before ≡ first * 1024 → slice_chunk (before ++ part) 1024 (first + n) ≡ slice_chunk part 1024 n
chunk_behind before part first n whole =
    let at : (first + n) * 1024 ≡ length before + n * 1024 = omega (arith, whole) in
    ap (take 1024) (ap (λ k. drop k (before ++ part)) at ∙ drop-append-add before part (n * 1024))
