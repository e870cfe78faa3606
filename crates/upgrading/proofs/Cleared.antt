-- What stands in a block of records whose double indirect pointers are cleared, and in a superblock of version 2.
use Rattle.std.proofs.Common.{◌≡◌, ◌<◌, ◌≤◌, ◌+◌, ◌-◌, ◌*◌, ◌%◌, ℕ, zero, suc, eqb, List, ◌∷◌, length, slice_index, inl, inr, ◌⊎◌, refl, sym, ap, ap₂, ◌∙◌, arith}
use Rattle.std.proofs.lemmas.Bool.{cases_lt, cond_both}
use Rattle.std.proofs.lemmas.List.{get_or_past}
use Rattle.std.proofs.lemmas.List.Elements.{All-get_or}
use Rattle.byteorder.specs.Endian.{little_bytes}
use Rattle.model.specs.Image.{IsBlock, IsSuper}
use Rattle.model.specs.Layout.{Geometry}
use Rattle.model.specs.View.{inode_at, u32_at, u32s_at}
use Rattle.layout.specs.Fresh.{put_u32}
use Rattle.layout.proofs.PutLemmas.{IsWhole, block_of, length-put, number_apart, number_here, put_apart, put_before, put_inside, same_inode, same_number, whole_u32, zero_number}
use Rattle.versions.specs.Shown.{of_version}
use Rattle.upgrading.specs.Steps.{cleared, cleared_below, doubled}

zero_four : (k : ℕ) → slice_index (little_bytes 4 0) k ≡ 0
zero_four zero = refl
zero_four (suc zero) = refl
zero_four (suc (suc zero)) = refl
zero_four (suc (suc (suc zero))) = refl
zero_four (suc (suc (suc (suc k)))) = refl

-- one more record
pub cleared_next : (k : ℕ) (block : List ℕ) → put_u32 (128 * k + 60) 0 (cleared_below k block) ≡ cleared_below (k + 1) block
unfolding cleared_below
cleared_next k block = let e : k + 1 ≡ suc k = omega arith in sym (ap (λ n. cleared_below n block) e)

-- ---- byte by byte
module _ (block : List ℕ) (long : length block ≡ 1024) where
  still_long : (k : ℕ) → k ≤ 8 → length (cleared_below k block) ≡ 1024
  unfolding cleared_below
  still_long zero few = long
  still_long (suc k) few =
      let before = still_long k (omega arith) in length-put (128 * k + 60) (little_bytes 4 0) (cleared_below k block) (omega arith) ∙ before

  zero_below : (k j : ℕ) → k ≤ 8 → j < 128 * k → 60 ≤ j % 128 → j % 128 < 64 → slice_index (cleared_below k block) j ≡ 0
  unfolding cleared_below
  zero_below zero j few low from until = absurd (omega arith)
  zero_below (suc k) j few low from until =
      let before = still_long k (omega arith) in
      elim (cases_lt j (128 * k + 60)) [
        | inl early ↦ put_before (128 * k + 60) (little_bytes 4 0) (cleared_below k block) (omega arith) j early ∙ zero_below k j (omega arith) (omega arith) from until
        | inr here ↦ put_inside (128 * k + 60) (little_bytes 4 0) (cleared_below k block) (omega arith) j here (omega arith) ∙ zero_four (j - (128 * k + 60))
      ]

  others_below : (k j : ℕ) → k ≤ 8 → (j % 128 < 60) ⊎ (64 ≤ j % 128) → slice_index (cleared_below k block) j ≡ slice_index block j
  unfolding cleared_below
  others_below zero j few other = refl
  others_below (suc k) j few other =
      let before = still_long k (omega arith) in
      put_apart (128 * k + 60) (little_bytes 4 0) (cleared_below k block) (omega arith) j (side other) ∙ others_below k j (omega arith) other
    where
      side : (j % 128 < 60) ⊎ (64 ≤ j % 128) → (j < 128 * k + 60) ⊎ (128 * k + 60 + 4 ≤ j)
      side (inl less) = elim (cases_lt j (128 * k + 60)) [ inl low ↦ inl low | inr high ↦ inr (omega arith) ]
      side (inr more) = elim (cases_lt j (128 * k + 60)) [ inl low ↦ inl low | inr high ↦ inr (omega arith) ]

  pub cleared_zero : (j : ℕ) → j < 1024 → 60 ≤ j % 128 → j % 128 < 64 → slice_index (cleared block) j ≡ 0
  cleared_zero j low from until = zero_below 8 j (omega arith) (omega arith) from until

  pub cleared_other : (j : ℕ) → (j % 128 < 60) ⊎ (64 ≤ j % 128) → slice_index (cleared block) j ≡ slice_index block j
  cleared_other j other = others_below 8 j (omega arith) other

  -- ---- records
  same_numbers : (n i : ℕ) (xs ys : List ℕ) → ((k : ℕ) → i ≤ k → k < i + 4 * n → slice_index xs k ≡ slice_index ys k) → u32s_at xs i n ≡ u32s_at ys i n
  same_numbers zero i xs ys same = refl
  same_numbers (suc n) i xs ys same =
      ap₂ (λ a b. a ∷ b) (same_number 4 i xs ys (λ k low high. same k low (omega arith)))
      (same_numbers n (i + 4) xs ys (λ k low high. same k (omega arith) (omega arith)))

  -- A record says in either version what it said in version 1.
  module _ (j : ℕ) (low : j < 8) where
    front : (k : ℕ) → 128 * j ≤ k → k < 128 * j + 60 → slice_index (cleared block) k ≡ slice_index block k
    front k from until = cleared_other k (inl (omega arith))

    pub cleared_record : (version : ℕ) → inode_at version (cleared block) (128 * j) ≡ inode_at 1 block (128 * j)
    cleared_record version =
        same_inode
        (same_number 2 (128 * j) (cleared block) block (λ k from until. front k (omega arith) (omega arith)))
        (same_number 2 (128 * j + 2) (cleared block) block (λ k from until. front k (omega arith) (omega arith)))
        (same_number 4 (128 * j + 4) (cleared block) block (λ k from until. front k (omega arith) (omega arith)))
        (same_numbers 12 (128 * j + 8) (cleared block) block (λ k from until. front k (omega arith) (omega arith)))
        (same_number 4 (128 * j + 56) (cleared block) block (λ k from until. front k (omega arith) (omega arith)))
        (cond_both (eqb version 2) (u32_at (cleared block) (128 * j + 60)) 0 (λ n. n ≡ 0)
        (λ two. zero_number 4 (128 * j + 60) (cleared block) (record { at = λ k from until. cleared_zero k (omega arith) (omega arith) (omega arith) }))
        (λ one. refl))
        (same_numbers 16 (128 * j + 64) (cleared block) block (λ k from until. cleared_other k (inr (omega arith))))

-- ---- blocks
whole_of : (block : List ℕ) → IsBlock block → IsWhole block
whole_of block is = record {
  size = is.length;
  small = λ k. elim (cases_lt k (length block)) [
    | inl low ↦ All-get_or (λ b. b < 256) block k 0 low is.bytes
    | inr past ↦ let none = get_or_past block k 0 past in omega (arith, none)
  ];
}

still_whole : (k : ℕ) (block : List ℕ) → k ≤ 8 → IsWhole block → IsWhole (cleared_below k block)
unfolding cleared_below
still_whole zero block few w = w
still_whole (suc k) block few w = whole_u32 (128 * k + 60) 0 (cleared_below k block) (omega arith) (still_whole k block (omega arith) w)

pub cleared_block : (block : List ℕ) → IsBlock block → IsBlock (cleared block)
cleared_block block is = block_of (cleared block) (still_whole 8 block (omega arith) (whole_of block is))

pub doubled_block : (block : List ℕ) → IsBlock block → IsBlock (doubled block)
doubled_block block is = block_of (doubled block) (whole_u32 4 2 block (omega arith) (whole_of block is))

-- ---- the superblock
module _ (geo : Geometry) (block : List ℕ) (whole : IsBlock block) (is : IsSuper geo block) where
  long : length block ≡ 1024
  long = whole.length

  number_stays : (at : ℕ) → (at + 4 ≤ 4) ⊎ (8 ≤ at) → u32_at (doubled block) at ≡ u32_at block at
  number_stays at apart = number_apart 4 at 4 (little_bytes 4 2) block (omega (arith, long)) apart

  pub doubled_version : u32_at (doubled block) 4 ≡ 2
  doubled_version = number_here 4 2 4 block (omega (arith, long)) (omega arith)

  pub doubled_super : IsSuper (of_version 2 geo) (doubled block)
  doubled_super = record {
    magic = number_stays 0 (inl (omega arith)) ∙ is.magic;
    version = doubled_version;
    groups = number_stays 8 (inr (omega arith)) ∙ is.groups;
    blocks = number_stays 12 (inr (omega arith)) ∙ is.blocks;
    inodes = number_stays 16 (inr (omega arith)) ∙ is.inodes;
  }

  pub doubled_other : (b : ℕ) → (b < 4) ⊎ (8 ≤ b) → slice_index (doubled block) b ≡ slice_index block b
  doubled_other b apart = put_apart 4 (little_bytes 4 2) block (omega (arith, long)) b apart

  pub doubled_differs : geo.version ≡ 1 → doubled block ≡ block → ⊥
  doubled_differs single same = let tells : 2 ≡ geo.version = sym doubled_version ∙ ap (λ b. u32_at b 4) same ∙ is.version in omega arith
