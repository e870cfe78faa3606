-- What a write of one word does to its bits, and the least bit of a word, or of what is left of it from a number on.
use Rattle.std.proofs.Common.{◌≡◌, ◌<◌, ◌≤◌, ◌+◌, ◌-◌, ◌*◌, ◌/◌, ◌%◌, ◌^◌, ℕ, Bool, true, false, eqb, List, length, get_or, set, inl, inr, refl, sym, ap, ap₂, ◌∙◌, arith, get_or-set_same, get_or-set_other, length-set, w64}
use Rattle.std.specs.Int.{bit_at, trailing_zeros}
use Rattle.std.proofs.lemmas.Bool.{cases_eq, cases_lt, cond-true, cond-false, eq-eqb, ne_eqb, false≢true}
use Rattle.std.proofs.lemmas.Nat.{shr-shr, shr_le}
use Rattle.std.proofs.lemmas.Nat.Bits.{bit_at-zero, bit_at-trailing_zeros, bit_at_above}
use Rattle.marks.specs.Words.{bit, ChangesBit, IsLeastOfWord, NoneInWord, IsNextInWord}

-- bit n, whichever word and place it has
pub bit_is : (words : List ℕ) (n w i : ℕ) → n / 64 ≡ w → n % 64 ≡ i → bit words n ≡ eqb (bit_at (get_or words w 0) i) 1
unfolding bit
bit_is words n w i p q = ap₂ (λ v j. eqb (bit_at (get_or words v 0) j) 1) p q

-- a word that is 0 has no bit
pub bit_of_no_word : (words : List ℕ) (n : ℕ) → get_or words (n / 64) 0 ≡ 0 → bit words n ≡ false
bit_of_no_word words n e =
    bit_is words n (n / 64) (n % 64) refl refl ∙ ap (λ x. eqb (bit_at x (n % 64)) 1) e ∙ ap (λ x. eqb x 1) (bit_at-zero (n % 64))

-- a word with a bit is not 0
pub word_of_bit : (words : List ℕ) (n : ℕ) → bit words n ≡ true → 0 < get_or words (n / 64) 0
word_of_bit words n t = elim (cases_lt 0 (get_or words (n / 64) 0)) [
  | inl some ↦ some
  | inr none ↦ absurd (false≢true (sym (bit_of_no_word words n (omega arith)) ∙ t))
]

module _ (words : List ℕ) (number word : ℕ) (value : Bool) (low : number / 64 < length words)
    (here : eqb (bit_at word (number % 64)) 1 ≡ value)
    (others : (i : ℕ) → i < 64 → (i ≡ number % 64 → ⊥) → bit_at word i ≡ bit_at (get_or words (number / 64) 0) i) where
  abbrev after : List ℕ
  after = set words (number / 64) word

  bit_here : bit after number ≡ value
  bit_here =
      bit_is after number (number / 64) (number % 64) refl refl
      ∙ ap (λ x. eqb (bit_at x (number % 64)) 1) (get_or-set_same words (number / 64) word 0 low) ∙ here

  bit_beside : (n : ℕ) → n / 64 ≡ number / 64 → (n ≡ number → ⊥) → bit after n ≡ bit words n
  bit_beside n same differs =
      let place : n % 64 < 64 = omega arith in
      let apart : n % 64 ≡ number % 64 → ⊥ = λ e. differs (omega arith) in
      bit_is after n (number / 64) (n % 64) same refl
      ∙ ap (λ x. eqb (bit_at x (n % 64)) 1) (get_or-set_same words (number / 64) word 0 low)
      ∙ ap (λ x. eqb x 1) (others (n % 64) place apart)
      ∙ sym (bit_is words n (number / 64) (n % 64) same refl)

  bit_there : (n : ℕ) → (n / 64 ≡ number / 64 → ⊥) → bit after n ≡ bit words n
  bit_there n other =
      bit_is after n (n / 64) (n % 64) refl refl
      ∙ ap (λ x. eqb (bit_at x (n % 64)) 1) (get_or-set_other words (number / 64) (n / 64) word 0 other)
      ∙ sym (bit_is words n (n / 64) (n % 64) refl refl)

  bit_of_other : (n : ℕ) → (n ≡ number → ⊥) → bit after n ≡ bit words n
  bit_of_other n differs = elim (cases_eq (n / 64) (number / 64)) [ inl same ↦ bit_beside n same differs | inr other ↦ bit_there n other ]

  -- a write of one word changes one bit
  pub write_changes_bit : ChangesBit words after number value
  write_changes_bit = record {
    changed = λ n. elim (cases_eq n number) [
      | inl e ↦ ap (bit after) e ∙ bit_here ∙ sym (cond-true (eqb n number) value (bit words n) (eq-eqb n number e))
      | inr differs ↦ bit_of_other n differs ∙ sym (cond-false (eqb n number) value (bit words n) (ne_eqb n number differs))
    ];
    other_words = λ w other. get_or-set_other words (number / 64) w word 0 other;
    same_length = length-set words (number / 64) word;
  }

-- the trailing zeroes of a word lead to its least bit
pub least_of_word : (words : List ℕ) (word : ℕ) → 0 < get_or words word 0 → get_or words word 0 < 2 ^ 64
    → IsLeastOfWord words word (64 * word + trailing_zeros w64 (get_or words word 0))
least_of_word words word some fits =
    let place = trailing_zeros w64 (get_or words word 0) in
    let found = bit_at-trailing_zeros w64 (get_or words word 0) some fits in
    let low : place < 64 = found.0 in
    record {
      in_word = omega arith;
      is_set = bit_is words (64 * word + place) word place (omega arith) (omega arith) ∙ ap (λ x. eqb x 1) found.1;
      least = λ n same below. bit_is words n word (n % 64) same refl ∙ ap (λ x. eqb x 1) (found.2 (n % 64) (omega arith));
    }

-- what is left of a word, from the place of a number on
module _ (words : List ℕ) (from : ℕ) where
  abbrev word : ℕ
  word = get_or words (from / 64) 0

  abbrev left : ℕ
  left = word / 2 ^ (from % 64)

  -- it has the bits of the word, moved down
  moved_down : (i : ℕ) → bit_at left i ≡ bit_at word (from % 64 + i)
  moved_down i = ap (λ x. x % 2) (shr-shr word (from % 64) i)

  bit_of_left : (n : ℕ) → from ≤ n → n / 64 ≡ from / 64 → bit words n ≡ eqb (bit_at left (n - from)) 1
  bit_of_left n high same =
      bit_is words n (from / 64) (from % 64 + (n - from)) same (omega arith) ∙ ap (λ x. eqb x 1) (sym (moved_down (n - from)))

  -- where it is 0, the word has no bit from there on
  pub none_in_word : left ≡ 0 → NoneInWord words from
  none_in_word none n high same = bit_of_left n high same ∙ ap (λ x. eqb (bit_at x (n - from)) 1) none ∙ ap (λ x. eqb x 1) (bit_at-zero (n - from))

  -- its trailing zeroes lead to the next bit
  pub next_of_word : 0 < left → word < 2 ^ 64 → IsNextInWord words from (from + trailing_zeros w64 left)
  next_of_word some fits =
      let zeroes = trailing_zeros w64 left in
      let found = bit_at-trailing_zeros w64 left some (omega (arith, shr_le word (from % 64))) in
      let within : from % 64 + zeroes < 64 = elim (cases_lt (from % 64 + zeroes) 64) [
        | inl low ↦ low
        | inr past ↦ omega (arith, found.1, moved_down zeroes, bit_at_above word 64 (from % 64 + zeroes) fits past)
      ] in
      record {
        above = omega arith;
        in_word = omega arith;
        is_set = bit_is words (from + zeroes) (from / 64) (from % 64 + zeroes) (omega arith) (omega arith)
            ∙ ap (λ x. eqb x 1) (sym (moved_down zeroes) ∙ found.1);
        least = λ n high low. bit_of_left n high (omega arith) ∙ ap (λ x. eqb x 1) (found.2 (n - from) (omega arith));
      }
