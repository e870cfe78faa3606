-- What stands on the superblock and on the blocks of maps of the fresh image.
use Rattle.std.proofs.Common.{◌≡◌, ◌<◌, ◌≤◌, ◌+◌, ◌/◌, ◌%◌, ◌^◌, ℕ, List, false, slice_index, slice_set, eqb, ◌⊎◌, inl, inr, refl, sym, ap, ap₂, ◌∙◌, arith, ne_eqb}
use Rattle.std.proofs.lemmas.List.{length-replicate, get_or-set_same, get_or-set_other}
use Rattle.std.proofs.lemmas.Bool.{cases_lt, agree_below_at}
use Rattle.std.proofs.lemmas.Nat.Bits.{bit_at-zero}
use Rattle.std.specs.Int.{bit_at}
use Rattle.byteorder.specs.Endian.{little_bytes}
use Rattle.model.specs.Layout.{Geometry, IsGeometry}
use Rattle.model.specs.View.{u32_at, map_bit}
use Rattle.model.specs.Image.{IsSuper, IsGroupBlock}
use Rattle.layout.specs.Fresh.{put_u32, zero_block, super_bytes, group_bytes, first_group_bytes}
use Rattle.layout.proofs.PutLemmas.{IsZero, IsWhole, number_here, number_apart, same_number, whole_u32, whole_set, zeroes, zeroes_zero, zero_apart, zero_within}

-- ---- numbers on a block

u32_here : (byte x : ℕ) (block : List ℕ) → IsWhole block → byte + 4 ≤ 1024 → x < 2 ^ 32 → u32_at (put_u32 byte x block) byte ≡ x
u32_here byte x block w fits small = number_here 4 x byte block (omega (arith, w.size)) small

u32_apart : (at byte x : ℕ) (block : List ℕ) → IsWhole block → byte + 4 ≤ 1024 → (at + 4 ≤ byte) ⊎ (byte + 4 ≤ at) → u32_at (put_u32 byte x block) at ≡ u32_at block at
u32_apart at byte x block w fits apart = number_apart 4 at byte (little_bytes 4 x) block (omega (arith, w.size)) apart

-- ---- the superblock

module _ (geo : Geometry) (ok : IsGeometry geo) (block : List ℕ) (whole : IsWhole block) where
  with_magic : List ℕ
  with_magic = put_u32 0 0x53555631 block

  with_version : List ℕ
  with_version = put_u32 4 geo.version with_magic

  with_groups : List ℕ
  with_groups = put_u32 8 geo.groups with_version

  with_blocks : List ℕ
  with_blocks = put_u32 12 geo.blocks with_groups

  with_inodes : List ℕ
  with_inodes = put_u32 16 geo.inodes with_blocks

  magic_whole : IsWhole with_magic
  unfolding with_magic
  magic_whole = whole_u32 0 0x53555631 block (omega arith) whole

  version_whole : IsWhole with_version
  unfolding with_version
  version_whole = whole_u32 4 geo.version with_magic (omega arith) magic_whole

  groups_whole : IsWhole with_groups
  unfolding with_groups
  groups_whole = whole_u32 8 geo.groups with_version (omega arith) version_whole

  blocks_whole : IsWhole with_blocks
  unfolding with_blocks
  blocks_whole = whole_u32 12 geo.blocks with_groups (omega arith) groups_whole

  inodes_whole : IsWhole with_inodes
  unfolding with_inodes
  inodes_whole = whole_u32 16 geo.inodes with_blocks (omega arith) blocks_whole

  before_inodes : (at : ℕ) → at + 4 ≤ 16 → u32_at with_inodes at ≡ u32_at with_blocks at
  unfolding with_inodes
  before_inodes at b = u32_apart at 16 geo.inodes with_blocks blocks_whole (omega arith) (inl b)

  before_blocks : (at : ℕ) → at + 4 ≤ 12 → u32_at with_inodes at ≡ u32_at with_groups at
  unfolding with_blocks
  before_blocks at b = before_inodes at (omega arith) ∙ u32_apart at 12 geo.blocks with_groups groups_whole (omega arith) (inl b)

  before_groups : (at : ℕ) → at + 4 ≤ 8 → u32_at with_inodes at ≡ u32_at with_version at
  unfolding with_groups
  before_groups at b = before_blocks at (omega arith) ∙ u32_apart at 8 geo.groups with_version version_whole (omega arith) (inl b)

  before_version : (at : ℕ) → at + 4 ≤ 4 → u32_at with_inodes at ≡ u32_at with_magic at
  unfolding with_version
  before_version at b = before_groups at (omega arith) ∙ u32_apart at 4 geo.version with_magic magic_whole (omega arith) (inl b)

  small_version : geo.version < 2 ^ 32
  small_version = elim ok.known_version [ inl one ↦ omega (arith, one) | inr two ↦ omega (arith, two) ]

  super_over : IsSuper geo with_inodes
  unfolding with_inodes with_blocks with_groups with_version with_magic
  super_over = record {
    magic = before_version 0 (omega arith) ∙ u32_here 0 0x53555631 block whole (omega arith) (omega arith);
    version = before_groups 4 (omega arith) ∙ u32_here 4 geo.version with_magic magic_whole (omega arith) small_version;
    groups = before_blocks 8 (omega arith) ∙ u32_here 8 geo.groups with_version version_whole (omega arith) (omega (arith, ok.few_groups));
    blocks = before_inodes 12 (omega arith) ∙ u32_here 12 geo.blocks with_groups groups_whole (omega arith) (omega (arith, ok.few_blocks));
    inodes = u32_here 16 geo.inodes with_blocks blocks_whole (omega arith) (omega (arith, ok.few_inodes));
  }

pub zero_whole : IsWhole zero_block
zero_whole = record { size = length-replicate {A = ℕ} 1024 0; small = λ k. omega (arith, zeroes 1024 k) }

pub super_whole : (geo : Geometry) → IsGeometry geo → IsWhole (super_bytes geo)
unfolding super_bytes with_inodes with_blocks with_groups with_version with_magic
super_whole geo ok = inodes_whole geo ok zero_block zero_whole

pub super_is : (geo : Geometry) → IsGeometry geo → IsSuper geo (super_bytes geo)
unfolding super_bytes with_inodes with_blocks with_groups with_version with_magic
super_is geo ok = super_over geo ok zero_block zero_whole

-- ---- a group's block of maps

module _ (g : ℕ) (few : g < 64) (block : List ℕ) (whole : IsWhole block) (z : IsZero block 0 1024) where
  with_group_magic : List ℕ
  with_group_magic = put_u32 0 0x53554347 block

  with_number : List ℕ
  with_number = put_u32 4 g with_group_magic

  group_magic_whole : IsWhole with_group_magic
  unfolding with_group_magic
  group_magic_whole = whole_u32 0 0x53554347 block (omega arith) whole

  number_whole : IsWhole with_number
  unfolding with_number
  number_whole = whole_u32 4 g with_group_magic (omega arith) group_magic_whole

  group_over : IsGroupBlock g with_number
  unfolding with_group_magic with_number
  group_over = record {
    magic = u32_apart 0 4 g with_group_magic group_magic_whole (omega arith) (inl (omega arith)) ∙ u32_here 0 0x53554347 block whole (omega arith) (omega arith);
    number = u32_here 4 g with_group_magic group_magic_whole (omega arith) (omega arith);
  }

  no_bits : IsZero with_number 8 1024
  unfolding with_group_magic with_number
  no_bits =
      zero_apart 4 (little_bytes 4 g) with_group_magic 8 1024 (omega (arith, group_magic_whole.size)) (inr (omega arith))
      (zero_apart 0 (little_bytes 4 0x53554347) block 8 1024 (omega (arith, whole.size)) (inr (omega arith)) (zero_within block 0 1024 8 1024 (omega arith) (omega arith) z))

pub group_whole : (g : ℕ) → g < 64 → IsWhole (group_bytes g)
unfolding group_bytes with_group_magic with_number
group_whole g few = number_whole g few zero_block zero_whole (zeroes_zero 1024 0 1024)

pub group_is : (g : ℕ) → g < 64 → IsGroupBlock g (group_bytes g)
unfolding group_bytes with_group_magic with_number
group_is g few = group_over g few zero_block zero_whole (zeroes_zero 1024 0 1024)

group_zero : (g : ℕ) → g < 64 → IsZero (group_bytes g) 8 1024
unfolding group_bytes with_group_magic with_number
group_zero g few = no_bits g few zero_block zero_whole (zeroes_zero 1024 0 1024)

-- no bit is set where the byte is 0
no_bit : (block : List ℕ) (byte k : ℕ) → slice_index block (byte + k / 8) ≡ 0 → map_bit block byte k ≡ false
no_bit block byte k e = ap (λ b. eqb (bit_at b (k % 8)) 1) e ∙ ap (λ b. eqb b 1) (bit_at-zero (k % 8))

pub group_unmarked : (g byte k : ℕ) → g < 64 → 8 ≤ byte → byte + k / 8 < 1024 → map_bit (group_bytes g) byte k ≡ false
group_unmarked g byte k few low high = no_bit (group_bytes g) byte k ((group_zero g few).at (byte + k / 8) (omega arith) high)

-- ---- the first group's

module _ (block : List ℕ) (whole : IsWhole block) (z : IsZero block 8 1024) where
  with_root : List ℕ
  with_root = slice_set block 32 4

  with_block : List ℕ
  with_block = slice_set with_root 160 1

  root_whole : IsWhole with_root
  unfolding with_root
  root_whole = whole_set block 32 4 (omega arith) whole

  block_whole : IsWhole with_block
  unfolding with_block
  block_whole = whole_set with_root 160 1 (omega arith) root_whole

  first_elsewhere : (k : ℕ) → (k ≡ 32 → ⊥) → (k ≡ 160 → ⊥) → slice_index with_block k ≡ slice_index block k
  unfolding with_root with_block
  first_elsewhere k a b = get_or-set_other with_root 160 k 1 0 b ∙ get_or-set_other block 32 k 4 0 a

  first_number : (at : ℕ) → at + 4 ≤ 32 → u32_at with_block at ≡ u32_at block at
  first_number at b = same_number 4 at with_block block (λ k low high. first_elsewhere k (λ e. omega arith) (λ e. omega arith))

  first_over : IsGroupBlock 0 block → IsGroupBlock 0 with_block
  first_over is = record { magic = first_number 0 (omega arith) ∙ is.magic; number = first_number 4 (omega arith) ∙ is.number }

  root_byte : slice_index with_block 32 ≡ 4
  unfolding with_root with_block
  root_byte = get_or-set_other with_root 160 32 1 0 (λ e. omega (arith, e)) ∙ get_or-set_same block 32 4 0 (omega (arith, whole.size))

  block_byte : slice_index with_block 160 ≡ 1
  unfolding with_block
  block_byte = get_or-set_same with_root 160 1 0 (omega (arith, root_whole.size))

  first_zero : (k : ℕ) → 8 ≤ k → k < 1024 → (k ≡ 32 → ⊥) → (k ≡ 160 → ⊥) → slice_index with_block k ≡ 0
  first_zero k low high a b = first_elsewhere k a b ∙ z.at k low high

  -- the root's bit is the only one of the numbers
  root_bit : (k : ℕ) → k < 1024 → map_bit with_block 32 k ≡ eqb k 2
  root_bit k b = elim (cases_lt k 8) [
    | inl low ↦ ap₂ (λ (byte place : ℕ). eqb (bit_at byte place) 1) (ap (slice_index with_block) (omega arith) ∙ root_byte) (omega arith)
        ∙ agree_below_at (λ n. eqb (bit_at 4 n) 1) (λ n. eqb n 2) 8 k refl low
    | inr high ↦ no_bit with_block 32 k (first_zero (32 + k / 8) (omega arith) (omega arith) (λ e. omega arith) (λ e. omega arith)) ∙ sym (ne_eqb k 2 (λ e. omega arith))
  ]

  -- the first data block's bit is the only one of the blocks
  block_bit : (k : ℕ) → k < 4096 → map_bit with_block 160 k ≡ eqb k 0
  block_bit k b = elim (cases_lt k 8) [
    | inl low ↦ ap₂ (λ (byte place : ℕ). eqb (bit_at byte place) 1) (ap (slice_index with_block) (omega arith) ∙ block_byte) (omega arith)
        ∙ agree_below_at (λ n. eqb (bit_at 1 n) 1) (λ n. eqb n 0) 8 k refl low
    | inr high ↦ no_bit with_block 160 k (first_zero (160 + k / 8) (omega arith) (omega arith) (λ e. omega arith) (λ e. omega arith)) ∙ sym (ne_eqb k 0 (λ e. omega arith))
  ]

pub first_whole : IsWhole first_group_bytes
unfolding first_group_bytes with_root with_block
first_whole = block_whole (group_bytes 0) (group_whole 0 (omega arith)) (group_zero 0 (omega arith))

pub first_is_group : IsGroupBlock 0 first_group_bytes
unfolding first_group_bytes with_root with_block
first_is_group = first_over (group_bytes 0) (group_whole 0 (omega arith)) (group_zero 0 (omega arith)) (group_is 0 (omega arith))

pub first_number_bit : (k : ℕ) → k < 1024 → map_bit first_group_bytes 32 k ≡ eqb k 2
unfolding first_group_bytes with_root with_block
first_number_bit k b = root_bit (group_bytes 0) (group_whole 0 (omega arith)) (group_zero 0 (omega arith)) k b

pub first_block_bit : (k : ℕ) → k < 4096 → map_bit first_group_bytes 160 k ≡ eqb k 0
unfolding first_group_bytes with_root with_block
first_block_bit k b = block_bit (group_bytes 0) (group_whole 0 (omega arith)) (group_zero 0 (omega arith)) k b
