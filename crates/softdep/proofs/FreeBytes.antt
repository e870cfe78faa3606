-- A record that reads as a free one has zeroes in all bytes that stand for something.
use Rattle.std.proofs.Common.{◌≡◌, ℕ, zero, suc, ◌<◌, ◌≤◌, ◌+◌, ◌-◌, ◌*◌, ◌⊎◌, eqb, inl, inr, List, replicate, drop, slice_index, sym, ap, ◌∙◌, arith}
use Rattle.std.proofs.lemmas.Bool.{cases_Bool, cases_eq, cases_lt, cond-true}
use Rattle.std.proofs.lemmas.List.{get_or-drop}
use Rattle.byteorder.specs.Endian.{little_from, little_number}
use Rattle.model.specs.View.{Inode, IsSpare, inode_at, free_inode, u32_at, u32s_at}

from_zero : (n i : ℕ) (xs : List ℕ) → little_from i n xs ≡ 0 → (k : ℕ) → i ≤ k → k < i + n → slice_index xs k ≡ 0
from_zero zero i xs e k a b = absurd (omega (arith, a, b))
from_zero (suc n) i xs e k a b = elim (cases_eq k i) [
  | inl same ↦ ap (slice_index xs) same ∙ first (slice_index xs i) (little_from (suc i) n xs) e
  | inr other ↦ from_zero n (suc i) xs (later (slice_index xs i) (little_from (suc i) n xs) e) k (omega (arith, a, other)) (omega (arith, b))
]
  where
    first : (x y : ℕ) → x + 256 * y ≡ 0 → x ≡ 0
    first x y e = omega (arith, e)

    later : (x y : ℕ) → x + 256 * y ≡ 0 → y ≡ 0
    later x y e = omega (arith, e)

number_zero : (n at : ℕ) (block : List ℕ) → little_number n (drop at block) ≡ 0 → (k : ℕ) → at ≤ k → k < at + n → slice_index block k ≡ 0
number_zero n at block e k a b =
    let place : k ≡ at + (k - at) = omega (arith, a) in
    ap (slice_index block) place ∙ sym (get_or-drop at block (k - at) 0) ∙ from_zero n 0 (drop at block) e (k - at) (omega arith) (omega (arith, a, b))

numbers_zero : (n at : ℕ) (block : List ℕ) → u32s_at block at n ≡ replicate n 0 → (k : ℕ) → at ≤ k → k < at + 4 * n → slice_index block k ≡ 0
numbers_zero zero at block e k a b = absurd (omega (arith, a, b))
numbers_zero (suc n) at block e k a b = elim (cases_lt k (at + 4)) [
  | inl here ↦ (let number : u32_at block at ≡ 0 = cc in number_zero 4 at block number k a here)
  | inr there ↦ (let numbers : u32s_at block (at + 4) n ≡ replicate n 0 = cc in numbers_zero n (at + 4) block numbers k there (omega (arith, b)))
]

-- a byte of a record stands for something, or for nothing
pub free_bytes : (version : ℕ) (block : List ℕ) (byte : ℕ) → inode_at version block byte ≡ free_inode → (k : ℕ) → k < 128 → (slice_index block (byte + k) ≡ 0) ⊎ IsSpare version k
free_bytes version block byte e k low = elim (cases_lt k 2) [
  | inl mode ↦ inl (number_zero 2 byte block (ap (λ (r : Inode). r.mode) e) (byte + k) (omega arith) (omega (arith, mode)))
  | inr a ↦ elim (cases_lt k 4) [
    | inl links ↦ inl (number_zero 2 (byte + 2) block (ap (λ (r : Inode). r.links) e) (byte + k) (omega (arith, a)) (omega (arith, links)))
    | inr b ↦ elim (cases_lt k 8) [
      | inl size ↦ inl (number_zero 4 (byte + 4) block (ap (λ (r : Inode). r.size) e) (byte + k) (omega (arith, b)) (omega (arith, size)))
      | inr c ↦ elim (cases_lt k 56) [
        | inl direct ↦ inl (numbers_zero 12 (byte + 8) block (ap (λ (r : Inode). r.direct) e) (byte + k) (omega (arith, c)) (omega (arith, direct)))
        | inr d ↦ elim (cases_lt k 60) [
          | inl indirect ↦ inl (number_zero 4 (byte + 56) block (ap (λ (r : Inode). r.indirect) e) (byte + k) (omega (arith, d)) (omega (arith, indirect)))
          | inr f ↦ elim (cases_lt k 64) [
            | inl double ↦ elim (cases_Bool (eqb version 2)) [
              | inl two ↦ inl (number_zero 4 (byte + 60) block (sym (cond-true (eqb version 2) (u32_at block (byte + 60)) 0 two) ∙ ap (λ (r : Inode). r.double) e) (byte + k) (omega (arith, f)) (omega (arith, double)))
              | inr one ↦ inr (record { single = one; from = f; below = double })
            ]
            | inr g ↦ inl (numbers_zero 16 (byte + 64) block (ap (λ (r : Inode). r.attributes) e) (byte + k) (omega (arith, g)) (omega (arith, low)))
          ]
        ]
      ]
    ]
  ]
]
