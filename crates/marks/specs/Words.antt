-- Bits of words of 64, the least bit of each word first, and words that tell which others are not 0.
use Rattle.std.specs.Prelude.{◌≡◌, ◌<◌, ◌≤◌, ℕ, ◌+◌, ◌/◌, ◌%◌, ◌^◌, ◌==◌, Bool, true, false, List, length, map, nat_lt, slice_index, if◌then◌else◌}
use Rattle.std.specs.Int.{bit_at}
use Rattle.std.specs.List.{range_with_len}

-- whether bit n is set
unfoldable pub bit : List ℕ → ℕ → Bool
bit words n = bit_at (slice_index words (n / 64)) (n % 64) == 1

-- the first bits
abbrev pub bits : List ℕ → ℕ → List Bool
bits words count = map (bit words) (range_with_len 0 count)

-- the words above have a bit for each word below, which is set where that word is not 0
abbrev pub Tells : List ℕ → List ℕ → Type 0
Tells above below = (w : ℕ) → bit above w ≡ nat_lt 0 (slice_index below w)

-- the levels of marks of so many numbers
pub record IsLadder (count : ℕ) (numbers groups tops : List ℕ) : Type 0 where
  pub few : count < 2 ^ 32
  pub number_words : length numbers ≡ (count + 63) / 64
  pub group_words : length groups ≡ (length numbers + 63) / 64
  pub top_words : length tops ≡ (length groups + 63) / 64
  pub none_past : (n : ℕ) → count ≤ n → bit numbers n ≡ false
  pub groups_tell : Tells groups numbers
  pub tops_tell : Tells tops groups

-- new is old with this value at one bit, and only the word of that bit may differ
pub record ChangesBit (old new : List ℕ) (number : ℕ) (value : Bool) : Type 0 where
  pub changed : (n : ℕ) → bit new n ≡ (if n == number then value else bit old n)
  pub other_words : (w : ℕ) → (w ≡ number / 64 → ⊥) → slice_index new w ≡ slice_index old w
  pub same_length : length new ≡ length old

-- one bit is cleared, and this says whether its word is 0 then
pub record ClearsBit (old new : List ℕ) (number : ℕ) (emptied : Bool) : Type 0 where
  pub changes : ChangesBit old new number false
  pub fewer : slice_index new (number / 64) ≤ slice_index old (number / 64)
  pub empty : emptied ≡ (slice_index new (number / 64) == 0)

-- the number is the least one whose bit is set in this word
pub record IsLeastOfWord (words : List ℕ) (word number : ℕ) : Type 0 where
  pub in_word : number / 64 ≡ word
  pub is_set : bit words number ≡ true
  pub least : (n : ℕ) → n / 64 ≡ word → n < number → bit words n ≡ false

-- the word is not 0, and each one before it is
pub record IsFirstWord (words : List ℕ) (word : ℕ) : Type 0 where
  pub some : 0 < slice_index words word
  pub first : (w : ℕ) → w < word → slice_index words w ≡ 0

-- each word is 0
abbrev pub NoWord : List ℕ → Type 0
NoWord words = (w : ℕ) → slice_index words w ≡ 0

-- the number is the least one from this one on whose bit is set in the same word, or there is none
pub record IsNextInWord (words : List ℕ) (from number : ℕ) : Type 0 where
  pub above : from ≤ number
  pub in_word : number / 64 ≡ from / 64
  pub is_set : bit words number ≡ true
  pub least : (n : ℕ) → from ≤ n → n < number → bit words n ≡ false

abbrev pub NoneInWord : List ℕ → ℕ → Type 0
NoneInWord words from = (n : ℕ) → from ≤ n → n / 64 ≡ from / 64 → bit words n ≡ false

-- the word is the first one from this one on that is not 0, or there is none
pub record IsNextWord (words : List ℕ) (from word : ℕ) : Type 0 where
  pub above : from ≤ word
  pub some : 0 < slice_index words word
  pub first : (w : ℕ) → from ≤ w → w < word → slice_index words w ≡ 0

abbrev pub NoWordFrom : List ℕ → ℕ → Type 0
NoWordFrom words from = (w : ℕ) → from ≤ w → slice_index words w ≡ 0

-- the number is the least one from this one on whose bit is set, or there is none
pub record IsNextBit (words : List ℕ) (from number : ℕ) : Type 0 where
  pub above : from ≤ number
  pub is_set : bit words number ≡ true
  pub least : (n : ℕ) → from ≤ n → n < number → bit words n ≡ false

abbrev pub NoBitFrom : List ℕ → ℕ → Type 0
NoBitFrom words from = (n : ℕ) → from ≤ n → bit words n ≡ false
