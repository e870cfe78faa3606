-- What stands on the block of the root's record and on the root's block of the fresh image.
use Rattle.std.proofs.Common.{◌≡◌, ◌<◌, ◌≤◌, ◌+◌, ◌-◌, ◌*◌, ◌^◌, ℕ, List, ◌∷◌, ◌++◌, true, length, drop, replicate, slice_index, eqb, ltb, inl, inr, refl, ap₂, ◌∙◌, arith}
use Rattle.std.proofs.lemmas.List.{get_or_past, get_or_append_left, get_or-append_right}
use Rattle.std.proofs.lemmas.Bool.{cases_lt, agree_below, agree_below_at, ltb-true, cond_both}
use Rattle.byteorder.specs.Endian.{little_bytes, little_number}
use Rattle.model.specs.Layout.{Geometry, IsGeometry}
use Rattle.model.specs.View.{inode_at, u16_at, u32_at}
use Rattle.model.specs.Fresh.{root_inode, root_bytes, first_data}
use Rattle.layout.specs.Fresh.{put_u32, put_u16, zero_block, root_record_bytes}
use Rattle.layout.proofs.PutLemmas.{IsZero, IsWhole, number_here, number_apart, whole_u32, whole_u16, zeroes, zeroes_zero, zero_apart, zero_within, zero_numbers, zero_number, same_inode}
use Rattle.layout.proofs.FreshBlocks.{zero_whole}

-- ---- the root's record

module _ (a : ℕ) (small : a < 2 ^ 32) (block : List ℕ) (whole : IsWhole block) (z : IsZero block 0 1024) where
  with_mode : List ℕ
  with_mode = put_u16 256 2 block

  with_links : List ℕ
  with_links = put_u16 258 2 with_mode

  with_size : List ℕ
  with_size = put_u32 260 1024 with_links

  with_first : List ℕ
  with_first = put_u32 264 a with_size

  mode_whole : IsWhole with_mode
  unfolding with_mode
  mode_whole = whole_u16 256 2 block (omega arith) whole

  links_whole : IsWhole with_links
  unfolding with_links
  links_whole = whole_u16 258 2 with_mode (omega arith) mode_whole

  size_whole : IsWhole with_size
  unfolding with_size
  size_whole = whole_u32 260 1024 with_links (omega arith) links_whole

  record_whole : IsWhole with_first
  unfolding with_first
  record_whole = whole_u32 264 a with_size (omega arith) size_whole

  record_rest : IsZero with_first 268 1024
  unfolding with_mode with_links with_size with_first
  record_rest =
      zero_apart 264 (little_bytes 4 a) with_size 268 1024 (omega (arith, size_whole.size)) (inr (omega arith))
      (zero_apart 260 (little_bytes 4 1024) with_links 268 1024 (omega (arith, links_whole.size)) (inr (omega arith))
      (zero_apart 258 (little_bytes 2 2) with_mode 268 1024 (omega (arith, mode_whole.size)) (inr (omega arith))
      (zero_apart 256 (little_bytes 2 2) block 268 1024 (omega (arith, whole.size)) (inr (omega arith))
      (zero_within block 0 1024 268 1024 (omega arith) (omega arith) z))))

  before_first : (n at : ℕ) → at + n ≤ 264 → little_number n (drop at with_first) ≡ little_number n (drop at with_size)
  unfolding with_first
  before_first n at b = number_apart n at 264 (little_bytes 4 a) with_size (omega (arith, size_whole.size)) (inl b)

  before_size : (n at : ℕ) → at + n ≤ 260 → little_number n (drop at with_first) ≡ little_number n (drop at with_links)
  unfolding with_size
  before_size n at b = before_first n at (omega arith) ∙ number_apart n at 260 (little_bytes 4 1024) with_links (omega (arith, links_whole.size)) (inl b)

  before_links : (n at : ℕ) → at + n ≤ 258 → little_number n (drop at with_first) ≡ little_number n (drop at with_mode)
  unfolding with_links
  before_links n at b = before_size n at (omega arith) ∙ number_apart n at 258 (little_bytes 2 2) with_mode (omega (arith, mode_whole.size)) (inl b)

  mode_is : u16_at with_first 256 ≡ 2
  unfolding with_mode
  mode_is = before_links 2 256 (omega arith) ∙ number_here 2 2 256 block (omega (arith, whole.size)) (omega arith)

  links_is : u16_at with_first 258 ≡ 2
  unfolding with_links
  links_is = before_size 2 258 (omega arith) ∙ number_here 2 2 258 with_mode (omega (arith, mode_whole.size)) (omega arith)

  size_is : u32_at with_first 260 ≡ 1024
  unfolding with_size
  size_is = before_first 4 260 (omega arith) ∙ number_here 4 1024 260 with_links (omega (arith, links_whole.size)) (omega arith)

  first_is : u32_at with_first 264 ≡ a
  unfolding with_first
  first_is = number_here 4 a 264 with_size (omega (arith, size_whole.size)) small

  record_over : (version : ℕ) → inode_at version with_first 256 ≡ record { mode = 2; links = 2; size = 1024; direct = a ∷ replicate 11 0; indirect = 0; double = 0; attributes = replicate 16 0 }
  record_over version =
      same_inode mode_is links_is size_is
      (ap₂ (λ x xs. x ∷ xs) first_is (zero_numbers 11 268 with_first (zero_within with_first 268 1024 268 (268 + 4 * 11) (omega arith) (omega arith) record_rest)))
      (zero_number 4 312 with_first (zero_within with_first 268 1024 312 (312 + 4) (omega arith) (omega arith) record_rest))
      (cond_both (eqb version 2) (u32_at with_first 316) 0 (λ n. n ≡ 0)
      (λ two. zero_number 4 316 with_first (zero_within with_first 268 1024 316 (316 + 4) (omega arith) (omega arith) record_rest)) (λ one. refl))
      (zero_numbers 16 320 with_first (zero_within with_first 268 1024 320 (320 + 4 * 16) (omega arith) (omega arith) record_rest))

first_small : (geo : Geometry) → IsGeometry geo → first_data geo < 2 ^ 32
first_small geo ok = omega (arith, ok.few_inodes)

pub root_record_whole : (geo : Geometry) → IsGeometry geo → IsWhole (root_record_bytes geo)
unfolding root_record_bytes with_mode with_links with_size with_first
root_record_whole geo ok = record_whole (first_data geo) (first_small geo ok) zero_block zero_whole (zeroes_zero 1024 0 1024)

pub root_record_is : (geo : Geometry) → IsGeometry geo → inode_at geo.version (root_record_bytes geo) 256 ≡ root_inode geo
unfolding root_record_bytes with_mode with_links with_size with_first
root_record_is geo ok = record_over (first_data geo) (first_small geo ok) zero_block zero_whole (zeroes_zero 1024 0 1024) geo.version

pub root_record_rest : (geo : Geometry) → IsGeometry geo → IsZero (root_record_bytes geo) 268 1024
unfolding root_record_bytes with_mode with_links with_size with_first
root_record_rest geo ok = record_rest (first_data geo) (first_small geo ok) zero_block zero_whole (zeroes_zero 1024 0 1024)

-- ---- the root's block

-- a list is small if it is seen to be, byte for byte
small_list : (xs : List ℕ) (n : ℕ) → length xs ≡ n → agree_below (λ k. ltb (slice_index xs k) 256) (λ k. true) n ≡ true → (k : ℕ) → slice_index xs k < 256
small_list xs n size seen k = elim (cases_lt k n) [
  | inl b ↦ ltb-true (slice_index xs k) 256 (agree_below_at (λ i. ltb (slice_index xs i) 256) (λ i. true) n k seen b)
  | inr b ↦ omega (arith, get_or_past xs k 0 (omega arith))
]

small_append : (xs ys : List ℕ) → ((k : ℕ) → slice_index xs k < 256) → ((k : ℕ) → slice_index ys k < 256) → (k : ℕ) → slice_index (xs ++ ys) k < 256
small_append xs ys p q k = elim (cases_lt k (length xs)) [
  | inl b ↦ omega (arith, get_or_append_left xs ys 0 k b, p k)
  | inr b ↦ omega (arith, get_or-append_right xs ys (length xs) k 0 refl b, q (k - length xs))
]

pub root_bytes_whole : IsWhole root_bytes
root_bytes_whole = record {
  size = refl;
  small = small_append
      ((2 ∷ 0 ∷ 0 ∷ 0 ∷ 1 ∷ 0 ∷ 0 ∷ 0 ∷ 46 ∷ replicate 55 0) ++ (2 ∷ 0 ∷ 0 ∷ 0 ∷ 2 ∷ 0 ∷ 0 ∷ 0 ∷ 46 ∷ 46 ∷ replicate 54 0)) (replicate 896 0)
      (small_list ((2 ∷ 0 ∷ 0 ∷ 0 ∷ 1 ∷ 0 ∷ 0 ∷ 0 ∷ 46 ∷ replicate 55 0) ++ (2 ∷ 0 ∷ 0 ∷ 0 ∷ 2 ∷ 0 ∷ 0 ∷ 0 ∷ 46 ∷ 46 ∷ replicate 54 0)) 128 refl refl)
      (λ k. omega (arith, zeroes 896 k));
}
