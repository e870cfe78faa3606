-- What is read where bytes were written.
use Rattle.std.proofs.Common.{◌≡◌, ◌<◌, ◌≤◌, ◌+◌, ◌-◌, ◌*◌, ◌^◌, ℕ, zero, suc, eqb, List, ◌∷◌, ◌++◌, length, take, drop, replicate, slice_index, slice_set, ◌⊎◌, inl, inr, refl, sym, ap, ap₂, ◌∙◌, arith}
use Rattle.std.proofs.lemmas.List.{length-take-le, length-append, length-drop, append_assoc, get_or-take, get_or-drop, get_or_append_left, get_or-append_right, get_or-replicate, get_or_past, length-replicate, drop_at, length-set, get_or-set_same, get_or-set_other, set_past}
use Rattle.std.proofs.lemmas.List.Elements.{All-from_get_or}
use Rattle.std.proofs.lemmas.Bool.{cases_lt, cases_eq, cond_both}
use Rattle.byteorder.specs.Endian.{little_from, little_number, little_bytes}
use Rattle.byteorder.specs.Numbers.{little_number-reads_back}
use Rattle.model.specs.View.{Inode, inode_at, free_inode, u32_at, u32s_at}
use Rattle.model.specs.Image.{IsBlock}
use Rattle.layout.specs.Fresh.{put, put_u32, put_u16}

-- ---- a byte where bytes were put

module _ (byte : ℕ) (bytes block : List ℕ) (fits : byte + length bytes ≤ length block) where
  front : length (take byte block) ≡ byte
  front = length-take-le byte block (omega arith)

  front_and_bytes : length (take byte block ++ bytes) ≡ byte + length bytes
  front_and_bytes = length-append (take byte block) bytes ∙ ap (λ n. n + length bytes) front

  pub length-put : length (put byte bytes block) ≡ length block
  length-put =
      length-append (take byte block ++ bytes) (drop (byte + length bytes) block)
      ∙ ap₂ (λ a b. a + b) front_and_bytes (length-drop (byte + length bytes) block)
      ∙ omega arith

  pub put_before : (k : ℕ) → k < byte → slice_index (put byte bytes block) k ≡ slice_index block k
  put_before k low =
      get_or_append_left (take byte block ++ bytes) (drop (byte + length bytes) block) 0 k (omega (arith, front_and_bytes))
      ∙ get_or_append_left (take byte block) bytes 0 k (omega (arith, front))
      ∙ get_or-take byte block k 0 low

  pub put_inside : (k : ℕ) → byte ≤ k → k < byte + length bytes → slice_index (put byte bytes block) k ≡ slice_index bytes (k - byte)
  put_inside k low high =
      get_or_append_left (take byte block ++ bytes) (drop (byte + length bytes) block) 0 k (omega (arith, front_and_bytes))
      ∙ get_or-append_right (take byte block) bytes byte k 0 front low

  pub put_after : (k : ℕ) → byte + length bytes ≤ k → slice_index (put byte bytes block) k ≡ slice_index block k
  put_after k high =
      get_or-append_right (take byte block ++ bytes) (drop (byte + length bytes) block) (byte + length bytes) k 0 front_and_bytes high
      ∙ get_or-drop (byte + length bytes) block (k - (byte + length bytes)) 0
      ∙ ap (slice_index block) (omega arith)

  pub put_apart : (k : ℕ) → (k < byte) ⊎ (byte + length bytes ≤ k) → slice_index (put byte bytes block) k ≡ slice_index block k
  put_apart k (inl low) = put_before k low
  put_apart k (inr high) = put_after k high

-- ---- a number where bytes were put

-- two lists with the same bytes there hold the same number
little_from-same : (i n : ℕ) (xs ys : List ℕ) → ((k : ℕ) → i ≤ k → k < i + n → slice_index xs k ≡ slice_index ys k) → little_from i n xs ≡ little_from i n ys
little_from-same i zero xs ys h = refl
little_from-same i (suc n) xs ys h =
    ap₂ (λ a b. a + 256 * b) (h i (omega arith) (omega arith)) (little_from-same (suc i) n xs ys (λ k low high. h k (omega arith) (omega arith)))

little_from-zero : (i n : ℕ) (xs : List ℕ) → ((k : ℕ) → i ≤ k → k < i + n → slice_index xs k ≡ 0) → little_from i n xs ≡ 0
little_from-zero i zero xs h = refl
little_from-zero i (suc n) xs h =
    ap₂ (λ a b. a + 256 * b) (h i (omega arith) (omega arith)) (little_from-zero (suc i) n xs (λ k low high. h k (omega arith) (omega arith)))

-- the block's bytes from low up to high are 0
pub record IsZero (block : List ℕ) (low high : ℕ) : Type 0 where
  pub at : (k : ℕ) → low ≤ k → k < high → slice_index block k ≡ 0

pub zero_number : (n at : ℕ) (block : List ℕ) → IsZero block at (at + n) → little_number n (drop at block) ≡ 0
zero_number n at block z =
    little_from-zero 0 n (drop at block) (λ k low high. get_or-drop at block k 0 ∙ z.at (at + k) (omega arith) (omega arith))

pub same_number : (n at : ℕ) (xs ys : List ℕ) → ((k : ℕ) → at ≤ k → k < at + n → slice_index xs k ≡ slice_index ys k) → little_number n (drop at xs) ≡ little_number n (drop at ys)
same_number n at xs ys h =
    little_from-same 0 n (drop at xs) (drop at ys) (λ k low high. get_or-drop at xs k 0 ∙ h (at + k) (omega arith) (omega arith) ∙ sym (get_or-drop at ys k 0))

pub number_apart : (n at byte : ℕ) (bytes block : List ℕ) → byte + length bytes ≤ length block → (at + n ≤ byte) ⊎ (byte + length bytes ≤ at)
    → little_number n (drop at (put byte bytes block)) ≡ little_number n (drop at block)
number_apart n at byte bytes block fits apart =
    same_number n at (put byte bytes block) block (λ k low high. put_apart byte bytes block fits k (side k low high apart))
  where
    side : (k : ℕ) → at ≤ k → k < at + n → (at + n ≤ byte) ⊎ (byte + length bytes ≤ at) → (k < byte) ⊎ (byte + length bytes ≤ k)
    side k low high (inl h) = inl (omega arith)
    side k low high (inr h) = inr (omega arith)

pub number_here : (n x byte : ℕ) (block : List ℕ) → byte + n ≤ length block → x < 256 ^ n
    → little_number n (drop byte (put byte (little_bytes n x) block)) ≡ x
number_here n x byte block fits small =
    ap (λ xs. little_number n (drop byte xs)) (append_assoc (take byte block) (little_bytes n x) (drop (byte + length (little_bytes n x)) block))
    ∙ ap (little_number n) (drop_at (take byte block) (little_bytes n x ++ drop (byte + length (little_bytes n x)) block) byte (length-take-le byte block (omega arith)))
    ∙ little_number-reads_back n x (drop (byte + length (little_bytes n x)) block) small

-- ---- zeroes

pub zeroes : (n k : ℕ) → slice_index (replicate n 0) k ≡ 0
zeroes n k = elim (cases_lt k n) [
  | inl b ↦ get_or-replicate n k 0 0 b
  | inr b ↦ get_or_past (replicate n 0) k 0 (omega (arith, length-replicate {A = ℕ} n 0))
]

pub zeroes_zero : (n low high : ℕ) → IsZero (replicate n 0) low high
zeroes_zero n low high = record { at = λ k a b. zeroes n k }

pub zero_apart : (byte : ℕ) (bytes block : List ℕ) (low high : ℕ) → byte + length bytes ≤ length block → (high ≤ byte) ⊎ (byte + length bytes ≤ low)
    → IsZero block low high → IsZero (put byte bytes block) low high
zero_apart byte bytes block low high fits apart z = record { at = λ k a b. put_apart byte bytes block fits k (side k a b apart) ∙ z.at k a b }
  where
    side : (k : ℕ) → low ≤ k → k < high → (high ≤ byte) ⊎ (byte + length bytes ≤ low) → (k < byte) ⊎ (byte + length bytes ≤ k)
    side k a b (inl h) = inl (omega arith)
    side k a b (inr h) = inr (omega arith)

pub zero_within : (block : List ℕ) (low high from until : ℕ) → low ≤ from → until ≤ high → IsZero block low high → IsZero block from until
zero_within block low high from until a b z = record { at = λ k c d. z.at k (omega arith) (omega arith) }

-- ---- records of zeroes

pub same_inode : {v w : Inode} → v.mode ≡ w.mode → v.links ≡ w.links → v.size ≡ w.size → v.direct ≡ w.direct → v.indirect ≡ w.indirect → v.double ≡ w.double → v.attributes ≡ w.attributes → v ≡ w
same_inode p q r s t u w = λ i. record { mode = p i; links = q i; size = r i; direct = s i; indirect = t i; double = u i; attributes = w i }

pub zero_numbers : (n byte : ℕ) (block : List ℕ) → IsZero block byte (byte + 4 * n) → u32s_at block byte n ≡ replicate n 0
zero_numbers zero byte block z = refl
zero_numbers (suc n) byte block z =
    ap₂ (λ a b. a ∷ b) (zero_number 4 byte block (zero_within block byte (byte + 4 * suc n) byte (byte + 4) (omega arith) (omega arith) z))
    (zero_numbers n (byte + 4) block (zero_within block byte (byte + 4 * suc n) (byte + 4) (byte + 4 + 4 * n) (omega arith) (omega arith) z))

pub zero_inode : (version byte : ℕ) (block : List ℕ) → IsZero block byte (byte + 128) → inode_at version block byte ≡ free_inode
zero_inode version byte block z =
    same_inode
    (zero_number 2 byte block (zero_within block byte (byte + 128) byte (byte + 2) (omega arith) (omega arith) z))
    (zero_number 2 (byte + 2) block (zero_within block byte (byte + 128) (byte + 2) (byte + 2 + 2) (omega arith) (omega arith) z))
    (zero_number 4 (byte + 4) block (zero_within block byte (byte + 128) (byte + 4) (byte + 4 + 4) (omega arith) (omega arith) z))
    (zero_numbers 12 (byte + 8) block (zero_within block byte (byte + 128) (byte + 8) (byte + 8 + 4 * 12) (omega arith) (omega arith) z))
    (zero_number 4 (byte + 56) block (zero_within block byte (byte + 128) (byte + 56) (byte + 56 + 4) (omega arith) (omega arith) z))
    (cond_both (eqb version 2) (u32_at block (byte + 60)) 0 (λ n. n ≡ 0)
    (λ two. zero_number 4 (byte + 60) block (zero_within block byte (byte + 128) (byte + 60) (byte + 60 + 4) (omega arith) (omega arith) z)) (λ one. refl))
    (zero_numbers 16 (byte + 64) block (zero_within block byte (byte + 128) (byte + 64) (byte + 64 + 4 * 16) (omega arith) (omega arith) z))

-- ---- blocks

-- 1,024 numbers, all below 256
pub record IsWhole (block : List ℕ) : Type 0 where
  pub size : length block ≡ 1024
  pub small : (k : ℕ) → slice_index block k < 256

pub block_of : (block : List ℕ) → IsWhole block → IsBlock block
block_of block w = record { length = w.size; bytes = All-from_get_or (λ b. b < 256) block 0 (λ k h. w.small k) }

pub whole_put : (byte : ℕ) (bytes block : List ℕ) → byte + length bytes ≤ 1024 → ((k : ℕ) → slice_index bytes k < 256) → IsWhole block → IsWhole (put byte bytes block)
whole_put byte bytes block fits small w = record { size = length-put byte bytes block inside ∙ w.size; small = each }
  where
    inside : byte + length bytes ≤ length block
    inside = omega (arith, w.size)

    each : (k : ℕ) → slice_index (put byte bytes block) k < 256
    each k = elim (cases_lt k byte) [
      | inl low ↦ omega (arith, put_before byte bytes block inside k low, w.small k)
      | inr low ↦ elim (cases_lt k (byte + length bytes)) [
        | inl high ↦ omega (arith, put_inside byte bytes block inside k low high, small (k - byte))
        | inr high ↦ omega (arith, put_after byte bytes block inside k high, w.small k)
      ]
    ]

pub whole_set : (block : List ℕ) (at byte : ℕ) → byte < 256 → IsWhole block → IsWhole (slice_set block at byte)
whole_set block at byte small w = record { size = length-set block at byte ∙ w.size; small = each }
  where
    each : (k : ℕ) → slice_index (slice_set block at byte) k < 256
    each k = elim (cases_eq k at) [
      | inl e ↦ elim (cases_lt at (length block)) [
        | inl b ↦ let here : slice_index (slice_set block at byte) k ≡ byte = ap (slice_index (slice_set block at byte)) e ∙ get_or-set_same block at byte 0 b in omega arith
        | inr b ↦ omega (arith, ap (λ xs. slice_index xs k) (set_past block at byte b), w.small k)
      ]
      | inr d ↦ omega (arith, get_or-set_other block at k byte 0 d, w.small k)
    ]

small_four : (x k : ℕ) → slice_index (little_bytes 4 x) k < 256
small_four x zero = omega arith
small_four x (suc zero) = omega arith
small_four x (suc (suc zero)) = omega arith
small_four x (suc (suc (suc zero))) = omega arith
small_four x (suc (suc (suc (suc k)))) = omega arith

small_two : (x k : ℕ) → slice_index (little_bytes 2 x) k < 256
small_two x zero = omega arith
small_two x (suc zero) = omega arith
small_two x (suc (suc k)) = omega arith

pub whole_u32 : (byte x : ℕ) (block : List ℕ) → byte + 4 ≤ 1024 → IsWhole block → IsWhole (put_u32 byte x block)
whole_u32 byte x block fits = whole_put byte (little_bytes 4 x) block fits (small_four x)

pub whole_u16 : (byte x : ℕ) (block : List ℕ) → byte + 2 ≤ 1024 → IsWhole block → IsWhole (put_u16 byte x block)
whole_u16 byte x block fits = whole_put byte (little_bytes 2 x) block fits (small_two x)
