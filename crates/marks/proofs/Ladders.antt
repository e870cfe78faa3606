-- What a mark and its removal do to the levels of marks, and how the levels lead to the least mark.
use Rattle.std.proofs.Common.{◌≡◌, ◌<◌, ◌≤◌, ◌+◌, ◌/◌, ◌^◌, ℕ, Bool, true, false, eqb, ltb, List, length, get_or, set, replicate, inl, inr, refl, sym, ap, ◌∙◌, subst, arith, Vec, Global, get_or-set_same, get_or-set_other, length-set}
use Rattle.std.proofs.lemmas.Bool.{cases_eq, cases_lt, cond-true, cond-false, eq-eqb, ne_eqb, eqb-true, eqb-false, lt-ltb, le-ltb, ltb-true, ltb-false, false≢true}
use Rattle.std.specs.Vec.{vec_len, with_items}
use Rattle.std.proofs.lemmas.List.{with_items_is, ext_get_or, get_or_past, get_or-replicate, length-replicate}
use Rattle.std.proofs.lemmas.List.FromFn.{length-map-range_with_len, get_or-map-range_with_len}
use Rattle.marks.specs.Marks.{IsLeastMarked, IsNextMarked, NothingMarked, NothingMarkedFrom}
use Rattle.marks.specs.Words.{bit, bits, Tells, ChangesBit, ClearsBit, IsLeastOfWord, IsFirstWord, NoWord, IsLadder, NoneInWord, IsNextBit, NoBitFrom}
use Rattle.marks.proofs.Bits.{bit_of_no_word, word_of_bit}

-- ---- the list of marks
pub length_of_bits : (words : List ℕ) (count : ℕ) → length (bits words count) ≡ count
length_of_bits words count = length-map-range_with_len (bit words) 0 count

pub mark_is_bit : (words : List ℕ) (count n : ℕ) → n < count → get_or (bits words count) n false ≡ bit words n
mark_is_bit words count n low = get_or-map-range_with_len (bit words) 0 count n n false low (omega arith)

pub no_mark_past : (words : List ℕ) (count n : ℕ) → count ≤ n → get_or (bits words count) n false ≡ false
no_mark_past words count n past = get_or_past (bits words count) n false (omega (arith, length_of_bits words count))

pub number_within : (words : List ℕ) (marks : List Bool) (count number : ℕ) → bits words count ≡ marks → number < length marks → number < count
number_within words marks count number e low = omega (arith, ap length e, length_of_bits words count, low)

-- ---- one bit changed
module _ (old new : List ℕ) (number : ℕ) (value : Bool) (change : ChangesBit old new number value) where
  pub bit_set : bit new number ≡ value
  bit_set = change.changed number ∙ cond-true (eqb number number) value (bit old number) (eq-eqb number number refl)

  pub bit_kept : (n : ℕ) → (n ≡ number → ⊥) → bit new n ≡ bit old n
  bit_kept n differs = change.changed n ∙ cond-false (eqb n number) value (bit old n) (ne_eqb n number differs)

  -- the list of marks has one value changed
  pub marks_changed : (count : ℕ) → number < count → bits new count ≡ set (bits old count) number value
  marks_changed count low =
      let before : length (bits old count) ≡ count = length_of_bits old count in
      let after : length (bits new count) ≡ count = length_of_bits new count in
      ext_get_or false (bits new count) (set (bits old count) number value) (after ∙ sym before ∙ sym (length-set (bits old count) number value))
      (λ n within.
      let inside : n < count = omega (arith, within, after) in
      mark_is_bit new count n inside ∙ elim (cases_eq n number) as (λ _. bit new n ≡ get_or (set (bits old count) number value) n false) [
        | inl e ↦ ap (bit new) e ∙ bit_set ∙ sym (get_or-set_same (bits old count) number value false (omega (arith, before, low)))
            ∙ ap (λ m. get_or (set (bits old count) number value) m false) (sym e)
        | inr differs ↦ bit_kept n differs ∙ sym (mark_is_bit old count n inside) ∙ sym (get_or-set_other (bits old count) number n value false differs)
      ])

  pub still_none_past : (count : ℕ) → number < count → ((n : ℕ) → count ≤ n → bit old n ≡ false) → (n : ℕ) → count ≤ n → bit new n ≡ false
  still_none_past count low none n past = bit_kept n (λ e. omega (arith, e, low, past)) ∙ none n past

-- ---- one bit cleared
module _ (old new : List ℕ) (number : ℕ) (emptied : Bool) (clears : ClearsBit old new number emptied) where
  is_zero : emptied ≡ true → get_or new (number / 64) 0 ≡ 0
  is_zero t = eqb-true (get_or new (number / 64) 0) 0 (sym clears.empty ∙ t)

  is_some : emptied ≡ false → get_or new (number / 64) 0 ≡ 0 → ⊥
  is_some t = eqb-false (get_or new (number / 64) 0) 0 (sym clears.empty ∙ t)

-- ---- the level above, where one bit below has changed
module _ (above above' below below' : List ℕ) (number : ℕ) (tells : Tells above below) where
  tells_beside : (value : Bool) → ChangesBit below below' number value → (w : ℕ) → (w ≡ number / 64 → ⊥) → bit above w ≡ ltb 0 (get_or below' w 0)
  tells_beside value change w other = tells w ∙ ap (ltb 0) (sym (change.other_words w other))

  tells_changed : (value : Bool) → ChangesBit below below' number value → ChangesBit above above' (number / 64) value
      → value ≡ ltb 0 (get_or below' (number / 64) 0) → Tells above' below'
  tells_changed value change change' here w = elim (cases_eq w (number / 64)) [
    | inl e ↦ ap (bit above') e ∙ bit_set above above' (number / 64) value change' ∙ here ∙ ap (λ v. ltb 0 (get_or below' v 0)) (sym e)
    | inr other ↦ bit_kept above above' (number / 64) value change' w other ∙ tells_beside value change w other
  ]

  pub tells_marked : ChangesBit below below' number true → ChangesBit above above' (number / 64) true → Tells above' below'
  tells_marked change change' =
      tells_changed true change change'
      (sym (lt-ltb 0 (get_or below' (number / 64) 0) (word_of_bit below' number (bit_set below below' number true change))))

  pub tells_emptied : ChangesBit below below' number false → ChangesBit above above' (number / 64) false → get_or below' (number / 64) 0 ≡ 0 → Tells above' below'
  tells_emptied change change' empty = tells_changed false change change' (sym (le-ltb 0 (get_or below' (number / 64) 0) (omega arith)))

  pub tells_left : ChangesBit below below' number false → (get_or below' (number / 64) 0 ≡ 0 → ⊥) → get_or below' (number / 64) 0 ≤ get_or below (number / 64) 0 → Tells above below'
  tells_left change left fewer w = elim (cases_eq w (number / 64)) [
    | inl e ↦
        let some' : 0 < get_or below' (number / 64) 0 = omega arith in
        let some : 0 < get_or below (number / 64) 0 = omega arith in
        ap (bit above) e ∙ tells (number / 64) ∙ lt-ltb 0 (get_or below (number / 64) 0) some
        ∙ sym (lt-ltb 0 (get_or below' (number / 64) 0) some') ∙ ap (λ v. ltb 0 (get_or below' v 0)) (sym e)
    | inr other ↦ tells_beside false change w other
  ]

-- ---- the words of a level, where they stand in a `Vec`
pub level : (Changes : List ℕ → List ℕ → Type 0) (words : Vec ℕ Global) (old new : List ℕ) → old ≡ words.items → length old ≡ vec_len words → length new ≡ length old
    → Changes old new → Changes words.items (with_items words new).items
level Changes words old new is count same changes =
    subst (λ xs. Changes words.items xs) (sym (with_items_is words new (same ∙ count))) (subst (λ xs. Changes xs new) is changes)

-- ---- places on the levels
module _ (count : ℕ) (numbers groups tops : List ℕ) (number : ℕ) (low : number < count) (ladder : IsLadder count numbers groups tops) where
  pub number_place : number / 64 < length numbers
  number_place = omega (arith, ladder.number_words)

  pub group_place : number / 64 / 64 < length groups
  group_place = omega (arith, ladder.group_words, number_place)

  pub top_place : number / 64 / 64 / 64 < length tops
  top_place = omega (arith, ladder.top_words, group_place)

-- ---- nothing marked
pub no_bits : (n k : ℕ) → bit (replicate k 0) n ≡ false
no_bits n k = bit_of_no_word (replicate k 0) n (elim (cases_lt (n / 64) k) [
  | inl low ↦ get_or-replicate k (n / 64) 0 0 low
  | inr past ↦ get_or_past (replicate k 0) (n / 64) 0 (omega (arith, length-replicate {A = ℕ} k 0, past))
])

no_word_of : (k w : ℕ) → let none : ℕ = 0 in get_or (replicate k none) w 0 ≡ none
no_word_of k w = elim (cases_lt w k) [
  | inl low ↦ get_or-replicate k w 0 0 low
  | inr past ↦ get_or_past (replicate k 0) w 0 (omega (arith, length-replicate {A = ℕ} k 0, past))
]

pub no_marks : (count k : ℕ) → bits (replicate k 0) count ≡ replicate count false
no_marks count k =
    ext_get_or false (bits (replicate k 0) count) (replicate count false) (length_of_bits (replicate k 0) count ∙ sym (length-replicate count false))
    (λ n within.
    let inside : n < count = omega (arith, within, length_of_bits (replicate k 0) count) in
    mark_is_bit (replicate k 0) count n inside ∙ no_bits n k ∙ sym (get_or-replicate count n false false inside))

pub fresh_ladder : (count i j k : ℕ) → count < 2 ^ 32 → i ≡ (count + 63) / 64 → j ≡ (i + 63) / 64 → k ≡ (j + 63) / 64
    → IsLadder count (replicate i 0) (replicate j 0) (replicate k 0)
fresh_ladder count i j k few p q r = record {
  few = few;
  number_words = length-replicate i 0 ∙ p;
  group_words = length-replicate j 0 ∙ q ∙ ap (λ n. (n + 63) / 64) (sym (length-replicate i 0));
  top_words = length-replicate k 0 ∙ r ∙ ap (λ n. (n + 63) / 64) (sym (length-replicate j 0));
  none_past = λ n _. no_bits n i;
  groups_tell = λ w. no_bits w j ∙ sym (ap (ltb 0) (no_word_of i w));
  tops_tell = λ w. no_bits w k ∙ sym (ap (ltb 0) (no_word_of j w));
}

pub same_ladder : (count : ℕ) (numbers groups tops numbers' groups' tops' : List ℕ) → numbers' ≡ numbers → groups' ≡ groups → tops' ≡ tops
    → IsLadder count numbers groups tops → IsLadder count numbers' groups' tops'
same_ladder count numbers groups tops numbers' groups' tops' p q r ladder =
    subst (λ xs. IsLadder count xs groups' tops') (sym p)
    (subst (λ ys. IsLadder count numbers ys tops') (sym q) (subst (λ zs. IsLadder count numbers groups zs) (sym r) ladder))

-- ---- the levels, where a number is marked, or its mark taken away
module _ (count : ℕ) (numbers groups tops : List ℕ) (number : ℕ) (low : number < count) (ladder : IsLadder count numbers groups tops) (numbers' : List ℕ) where
  rebuilt : (value : Bool) → ChangesBit numbers numbers' number value → (groups' tops' : List ℕ) → length groups' ≡ length groups → length tops' ≡ length tops
      → Tells groups' numbers' → Tells tops' groups' → IsLadder count numbers' groups' tops'
  rebuilt value change groups' tops' p q tells tells' = record {
    few = ladder.few;
    number_words = change.same_length ∙ ladder.number_words;
    group_words = p ∙ ladder.group_words ∙ ap (λ n. (n + 63) / 64) (sym change.same_length);
    top_words = q ∙ ladder.top_words ∙ ap (λ n. (n + 63) / 64) (sym p);
    none_past = still_none_past numbers numbers' number value change count low ladder.none_past;
    groups_tell = tells;
    tops_tell = tells';
  }

  pub ladder_marked : (groups' tops' : List ℕ) → ChangesBit numbers numbers' number true → ChangesBit groups groups' (number / 64) true
      → ChangesBit tops tops' (number / 64 / 64) true → IsLadder count numbers' groups' tops'
  ladder_marked groups' tops' change change' change'' =
      rebuilt true change groups' tops' change'.same_length change''.same_length
      (tells_marked groups groups' numbers numbers' number ladder.groups_tell change change')
      (tells_marked tops tops' groups groups' (number / 64) ladder.tops_tell change' change'')

  module _ (emptied : Bool) (clears : ClearsBit numbers numbers' number emptied) where
    -- the word still has marks
    pub ladder_left : emptied ≡ false → IsLadder count numbers' groups tops
    ladder_left left =
        rebuilt false clears.changes groups tops refl refl
        (tells_left groups groups numbers numbers' number ladder.groups_tell clears.changes (is_some numbers numbers' number emptied clears left) clears.fewer) ladder.tops_tell

    module _ (groups' : List ℕ) (emptied' : Bool) (clears' : ClearsBit groups groups' (number / 64) emptied') (empty : emptied ≡ true) where
      tells_numbers : Tells groups' numbers'
      tells_numbers = tells_emptied groups groups' numbers numbers' number ladder.groups_tell clears.changes clears'.changes (is_zero numbers numbers' number emptied clears empty)

      -- the word has no mark any more, and the word above still has some
      pub ladder_group_left : emptied' ≡ false → IsLadder count numbers' groups' tops
      ladder_group_left left =
          rebuilt false clears.changes groups' tops clears'.changes.same_length refl tells_numbers
          (tells_left tops tops groups groups' (number / 64) ladder.tops_tell clears'.changes (is_some groups groups' (number / 64) emptied' clears' left) clears'.fewer)

      -- nor has the word above
      pub ladder_emptied : (tops' : List ℕ) → emptied' ≡ true → ChangesBit tops tops' (number / 64 / 64) false → IsLadder count numbers' groups' tops'
      ladder_emptied tops' empty' change'' =
          rebuilt false clears.changes groups' tops' clears'.changes.same_length change''.same_length tells_numbers
          (tells_emptied tops tops' groups groups' (number / 64) ladder.tops_tell clears'.changes change'' (is_zero groups groups' (number / 64) emptied' clears' empty'))

-- ---- the least mark
pub record IsLeastBit (words : List ℕ) (n : ℕ) : Type 0 where
  pub is_set : bit words n ≡ true
  pub least : (m : ℕ) → m < n → bit words m ≡ false

-- a bit above leads to a word below that is not 0, and the words before it are 0
pub first_below : (above below : List ℕ) (w : ℕ) → Tells above below → IsLeastBit above w → IsFirstWord below w
first_below above below w tells least = record {
  some = ltb-true 0 (get_or below w 0) (sym (tells w) ∙ least.is_set);
  first = λ v before.
      let none : get_or below v 0 ≤ 0 = ltb-false 0 (get_or below v 0) (sym (tells v) ∙ least.least v before) in
      omega arith;
}

-- the least bit of the first word that is not 0
pub least_in_first : (words : List ℕ) (w n : ℕ) → IsFirstWord words w → IsLeastOfWord words w n → IsLeastBit words n
least_in_first words w n first least = record {
  is_set = least.is_set;
  least = λ m below. elim (cases_eq (m / 64) w) [
    | inl same ↦ least.least m same below
    | inr other ↦ bit_of_no_word words m (first.first (m / 64) (let here : n / 64 ≡ w = least.in_word in omega arith))
  ];
}

-- where no bit above is set, no bit below is
pub none_below : (above below : List ℕ) → Tells above below → ((w : ℕ) → bit above w ≡ false) → (n : ℕ) → bit below n ≡ false
none_below above below tells none n =
    let empty : get_or below (n / 64) 0 ≤ 0 = ltb-false 0 (get_or below (n / 64) 0) (sym (tells (n / 64)) ∙ none (n / 64)) in
    bit_of_no_word below n (omega arith)

module _ (count : ℕ) (numbers groups tops : List ℕ) (ladder : IsLadder count numbers groups tops) where
  pub nothing_marked : NoWord tops → NothingMarked (bits numbers count)
  nothing_marked none n = elim (cases_lt n count) [
    | inl low ↦ mark_is_bit numbers count n low
        ∙ none_below groups numbers ladder.groups_tell (none_below tops groups ladder.tops_tell (λ w. bit_of_no_word tops w (none (w / 64)))) n
    | inr past ↦ no_mark_past numbers count n past
  ]

  -- a number whose bit is set is one of the count
  pub within : (n : ℕ) → bit numbers n ≡ true → n < count
  within n is_set = elim (cases_lt n count) [ inl low ↦ low | inr past ↦ absurd (false≢true (sym (ladder.none_past n past) ∙ is_set)) ]

  -- a word that is not 0 is one of the words
  pub word_within : (words : List ℕ) (w : ℕ) → 0 < get_or words w 0 → w < length words
  word_within words w some = elim (cases_lt w (length words)) [
    | inl low ↦ low
    | inr past ↦ absurd (omega (arith, some, get_or_past words w 0 past))
  ]

  pub least_mark : (n : ℕ) → IsLeastBit numbers n → IsLeastMarked (bits numbers count) n
  least_mark n least =
      let low : n < count = within n least.is_set in
      record {
        within = omega (arith, length_of_bits numbers count, low);
        marked = mark_is_bit numbers count n low ∙ least.is_set;
        least = λ m below. let inside : m < count = omega arith in mark_is_bit numbers count m inside ∙ least.least m below;
      }

  -- and the least set bit from one on is its next mark
  pub next_mark : (from n : ℕ) → IsNextBit numbers from n → IsNextMarked (bits numbers count) from n
  next_mark from n next =
      let low : n < count = within n next.is_set in
      record {
        above = next.above;
        within = omega (arith, length_of_bits numbers count, low);
        marked = mark_is_bit numbers count n low ∙ next.is_set;
        least = λ m high below. mark_is_bit numbers count m (omega (arith, below, low)) ∙ next.least m high below;
      }

  pub no_mark_from : (from : ℕ) → NoBitFrom numbers from → NothingMarkedFrom (bits numbers count) from
  no_mark_from from none n high = elim (cases_lt n count) [
    | inl low ↦ mark_is_bit numbers count n low ∙ none n high
    | inr past ↦ no_mark_past numbers count n past
  ]

-- ---- the next bit from one on

-- past the word of a bit the next bit is the least one of the next word that is not 0
pub next_past : (words : List ℕ) (from word number : ℕ) → NoneInWord words from → from / 64 < word → ((w : ℕ) → from / 64 < w → w < word → get_or words w 0 ≡ 0) → IsLeastOfWord words word number → IsNextBit words from number
next_past words from word number none past empty least = record {
  above = omega (arith, past, least.in_word);
  is_set = least.is_set;
  least = λ n high low. elim (cases_eq (n / 64) (from / 64)) [
    | inl same ↦ none n high same
    | inr other ↦ elim (cases_eq (n / 64) word) [
      | inl here ↦ least.least n here low
      | inr before ↦ bit_of_no_word words n (empty (n / 64) (omega (arith, high, other)) (omega (arith, low, before, least.in_word)))
    ]
  ];
}

pub none_past_word : (words : List ℕ) (from : ℕ) → NoneInWord words from → ((w : ℕ) → from / 64 < w → get_or words w 0 ≡ 0) → NoBitFrom words from
none_past_word words from none empty n high = elim (cases_eq (n / 64) (from / 64)) [
  | inl same ↦ none n high same
  | inr other ↦ bit_of_no_word words n (empty (n / 64) (omega (arith, high, other)))
]

module _ (above below : List ℕ) (tells : Tells above below) where
  -- a word is 0 if the bit above it is not set, and is not if it is
  pub no_word : (w : ℕ) → bit above w ≡ false → get_or below w 0 ≡ 0
  no_word w e = let low : get_or below w 0 ≤ 0 = ltb-false 0 (get_or below w 0) (sym (tells w) ∙ e) in omega (arith, low)

  pub some_word : (w : ℕ) → bit above w ≡ true → 0 < get_or below w 0
  some_word w e = ltb-true 0 (get_or below w 0) (sym (tells w) ∙ e)

  pub next_told : (from word number : ℕ) → NoneInWord below from → IsNextBit above (from / 64 + 1) word → IsLeastOfWord below word number → IsNextBit below from number
  next_told from word number none next least =
      next_past below from word number none (omega (arith, next.above)) (λ w high low. no_word w (next.least w (omega (arith, high)) low)) least

  pub none_told : (from : ℕ) → NoneInWord below from → NoBitFrom above (from / 64 + 1) → NoBitFrom below from
  none_told from none empty = none_past_word below from none (λ w high. no_word w (empty w (omega (arith, high))))
