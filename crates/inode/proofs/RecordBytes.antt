-- What the bytes of a record say at another place, and what stands where numbers were written over them.
use Rattle.std.proofs.Common.{◌≡◌, ◌<◌, ◌≤◌, ◌+◌, ◌-◌, ◌*◌, ◌^◌, ℕ, zero, suc, cond, eqb, List, [], ◌∷◌, ◌++◌, length, take, drop, slice_index, get_or, ◌⊎◌, inl, inr, refl, sym, ap, ap₂, ◌∙◌, arith}
use Rattle.std.proofs.lemmas.List.{append-nil, append_assoc, drop-drop, drop_all, drop_at, ext_get_or, get_or-drop, get_or-take, length-append, length-drop, length-take, length-take-le}
use Rattle.std.proofs.lemmas.Bool.{cases_lt}
use Rattle.std.specs.List.{flat_map}
use Rattle.std.specs.Simd.{first_chunks}
use Rattle.byteorder.specs.Endian.{little_number, little_bytes}
use Rattle.byteorder.specs.Numbers.{little_number-reads_back}
use Rattle.model.specs.View.{Inode, inode_at, u32_at, u32s_at}
use Rattle.layout.specs.Fresh.{put, put_u16, put_u32}
use Rattle.layout.proofs.PutLemmas.{length-put, put_inside, put_apart, number_here, number_apart, same_number, same_inode}
use borrow.Rule.Slice.PartMut.{put_mid, mid_of}

-- ---- the same bytes at another place

-- the n bytes of xs from byte i on are those of ys from byte j on
pub record IsMoved (n i j : ℕ) (xs ys : List ℕ) : Type 0 where
  pub at : (k : ℕ) → k < n → slice_index xs (i + k) ≡ slice_index ys (j + k)

front_moved : (m n i j : ℕ) (xs ys : List ℕ) → m ≤ n → IsMoved n i j xs ys → IsMoved m i j xs ys
front_moved m n i j xs ys fits h = record { at = λ k b. h.at k (omega arith) }

part_moved : (at m n i j : ℕ) (xs ys : List ℕ) → at + m ≤ n → IsMoved n i j xs ys → IsMoved m (i + at) (j + at) xs ys
part_moved at m n i j xs ys fits h = record {
  at = λ k b. ap (slice_index xs) (omega arith) ∙ h.at (at + k) (omega arith) ∙ ap (slice_index ys) (omega arith);
}

number_moved : (n i j : ℕ) (xs ys : List ℕ) → IsMoved n i j xs ys → little_number n (drop i xs) ≡ little_number n (drop j ys)
number_moved n i j xs ys h =
    same_number n 0 (drop i xs) (drop j ys) (λ k low high. get_or-drop i xs k 0 ∙ h.at k (omega arith) ∙ sym (get_or-drop j ys k 0))

numbers_moved : (n i j : ℕ) (xs ys : List ℕ) → IsMoved (4 * n) i j xs ys → u32s_at xs i n ≡ u32s_at ys j n
numbers_moved zero i j xs ys h = refl
numbers_moved (suc n) i j xs ys h =
    ap₂ (λ a b. a ∷ b) (number_moved 4 i j xs ys (front_moved 4 (4 * suc n) i j xs ys (omega arith) h))
    (numbers_moved n (i + 4) (j + 4) xs ys (part_moved 4 (4 * n) (4 * suc n) i j xs ys (omega arith) h))

pub inode_moved : (version i j : ℕ) (xs ys : List ℕ) → IsMoved 128 i j xs ys → inode_at version xs i ≡ inode_at version ys j
inode_moved version i j xs ys h =
    same_inode
    (number_moved 2 i j xs ys (front_moved 2 128 i j xs ys (omega arith) h))
    (number_moved 2 (i + 2) (j + 2) xs ys (part_moved 2 2 128 i j xs ys (omega arith) h))
    (number_moved 4 (i + 4) (j + 4) xs ys (part_moved 4 4 128 i j xs ys (omega arith) h))
    (numbers_moved 12 (i + 8) (j + 8) xs ys (part_moved 8 48 128 i j xs ys (omega arith) h))
    (number_moved 4 (i + 56) (j + 56) xs ys (part_moved 56 4 128 i j xs ys (omega arith) h))
    (ap (λ n. cond (eqb version 2) n 0) (number_moved 4 (i + 60) (j + 60) xs ys (part_moved 60 4 128 i j xs ys (omega arith) h)))
    (numbers_moved 16 (i + 64) (j + 64) xs ys (part_moved 64 64 128 i j xs ys (omega arith) h))

-- ---- a record's bytes in their block

cut_moved : (n at byte : ℕ) (length : ℕ) (block : List ℕ) → at + n ≤ length → IsMoved n at (byte + at) (take length (drop byte block)) block
cut_moved n at byte length block fits = record {
  at = λ k b. get_or-take length (drop byte block) (at + k) 0 (omega arith) ∙ get_or-drop byte block (at + k) 0 ∙ ap (slice_index block) (omega arith);
}

pub record_alone : (version : ℕ) (block : List ℕ) (byte : ℕ) → inode_at version (take 128 (drop byte block)) 0 ≡ inode_at version block byte
record_alone version block byte = inode_moved version 0 byte (take 128 (drop byte block)) block (record {
  at = λ k b. get_or-take 128 (drop byte block) (0 + k) 0 (omega arith) ∙ get_or-drop byte block (0 + k) 0 ∙ ap (slice_index block) (omega arith);
})

chunk_at : (count j : ℕ) (block d : List ℕ) → j < count → get_or (first_chunks 128 count block) j d ≡ take 128 (drop (128 * j) block)
chunk_at zero j block d b = elim b [ ]
chunk_at (suc count) zero block d b = refl
chunk_at (suc count) (suc j) block d b =
    chunk_at count j (drop 128 block) d (omega arith) ∙ ap (take 128) (drop-drop (128 * j) 128 block ∙ ap (λ n. drop n block) (omega arith))

pub record_chunk : (version : ℕ) (block : List ℕ) (count j : ℕ) (d : List ℕ) → j < count → inode_at version (get_or (first_chunks 128 count block) j d) 0 ≡ inode_at version block (128 * j)
record_chunk version block count j d b = ap (λ bytes. inode_at version bytes 0) (chunk_at count j block d b) ∙ record_alone version block (128 * j)

module _ (block bytes : List ℕ) (byte : ℕ) (long : length bytes ≡ 128) (fits : byte + 128 ≤ length block) where
  whole : byte + length bytes ≤ length block
  whole = omega (arith, long, fits)

  pub record_here : (version : ℕ) → inode_at version (put byte bytes block) byte ≡ inode_at version bytes 0
  record_here version = inode_moved version byte 0 (put byte bytes block) bytes (record {
    at = λ k b. put_inside byte bytes block whole (byte + k) (omega arith) (omega (arith, long)) ∙ ap (slice_index bytes) (omega arith);
  })

  pub rest_stays : (from : ℕ) → drop from bytes ≡ drop from (take 128 (drop byte block)) → (k : ℕ) → (k < byte) ⊎ (byte + from ≤ k) → slice_index (put byte bytes block) k ≡ slice_index block k
  rest_stays from e k (inl low) = put_apart byte bytes block whole k (inl low)
  rest_stays from e k (inr high) = elim (cases_lt k (byte + 128)) [
    | inl inside ↦
        put_inside byte bytes block whole k (omega arith) (omega (arith, long))
        ∙ ap (slice_index bytes) (omega arith)
        ∙ sym (get_or-drop from bytes (k - byte - from) 0)
        ∙ ap (λ xs. slice_index xs (k - byte - from)) e
        ∙ get_or-drop from (take 128 (drop byte block)) (k - byte - from) 0
        ∙ get_or-take 128 (drop byte block) (from + (k - byte - from)) 0 (omega arith)
        ∙ get_or-drop byte block (from + (k - byte - from)) 0
        ∙ ap (slice_index block) (omega arith)
    | inr past ↦ put_apart byte bytes block whole k (inr (omega (arith, long)))
  ]

pub record_there : (version : ℕ) (block bytes : List ℕ) (j k : ℕ) → length bytes ≡ 128 → 128 * j + 128 ≤ length block → (j ≡ k → ⊥)
    → inode_at version (put (128 * j) bytes block) (128 * k) ≡ inode_at version block (128 * k)
record_there version block bytes j k long fits differ = inode_moved version (128 * k) (128 * k) (put (128 * j) bytes block) block (record {
  at = λ m b. put_apart (128 * j) bytes block (omega (arith, long)) (128 * k + m) (side m b);
})
  where
    side : (m : ℕ) → m < 128 → (128 * k + m < 128 * j) ⊎ (128 * j + length bytes ≤ 128 * k + m)
    side m b = elim (cases_lt k j) [
      | inl low ↦ inl (omega arith)
      | inr high ↦ inr (omega (arith, long, differ))
    ]

-- ---- what is read

-- a list of the numbers that stand there
pub numbers_read : (n i : ℕ) (xs block : List ℕ) → length xs ≡ n → ((k : ℕ) → k < n → slice_index xs k ≡ u32_at block (i + 4 * k)) → xs ≡ u32s_at block i n
numbers_read zero i [] block e h = refl
numbers_read zero i (x ∷ xs) block e h = absurd (omega (arith, e))
numbers_read (suc n) i [] block e h = absurd (omega (arith, e))
numbers_read (suc n) i (x ∷ xs) block e h =
    ap₂ (λ a b. a ∷ b) (h 0 (omega arith) ∙ ap (u32_at block) (omega arith))
    (numbers_read n (i + 4) xs block (omega (arith, e)) (λ k b. h (suc k) (omega arith) ∙ ap (u32_at block) (omega arith)))

-- the numbers of a part are those of the whole
pub number_in_part : (byte size at : ℕ) (block : List ℕ) → at + 4 ≤ size → little_number 4 (drop at (mid_of byte size block)) ≡ u32_at block (byte + at)
number_in_part byte size at block fits = number_moved 4 at (byte + at) (mid_of byte size block) block (cut_moved 4 at byte size block fits)

-- ---- what is written

pub part_put : (a k : ℕ) (xs ys : List ℕ) → length ys ≡ k → put_mid a k xs ys ≡ put a ys xs
part_put a k xs ys e =
    ap (λ rest. take a xs ++ (ys ++ rest)) (drop-drop k a xs ∙ ap (λ n. drop (a + n) xs) (sym e))
    ∙ sym (append_assoc (take a xs) ys (drop (a + length ys) xs))

-- after a write of all bytes of the part
pub part_written : (a k : ℕ) (bytes xs ys : List ℕ) → length bytes ≡ k → ys ≡ bytes ++ drop k (mid_of a k xs) → put_mid a k xs ys ≡ put a bytes xs
part_written a k bytes xs ys size e =
    ap (put_mid a k xs) (e ∙ ap (λ rest. bytes ++ rest) (drop_all k (mid_of a k xs) (omega (arith, length-take k (drop a xs)))) ∙ append-nil bytes)
    ∙ part_put a k xs bytes size

pub pointers_here : (pointers front rest : List ℕ) (at : ℕ) → length front ≡ at → ((k : ℕ) → slice_index pointers k < 2 ^ 32)
    → u32s_at (front ++ (flat_map (little_bytes 4) pointers ++ rest)) at (length pointers) ≡ pointers
pointers_here [] front rest at e small = refl
pointers_here (p ∷ ps) front rest at e small =
    ap₂ (λ a b. a ∷ b)
    (ap (little_number 4) (drop_at front ((little_bytes 4 p ++ flat_map (little_bytes 4) ps) ++ rest) at e)
    ∙ ap (little_number 4) (append_assoc (little_bytes 4 p) (flat_map (little_bytes 4) ps) rest)
    ∙ little_number-reads_back 4 p (flat_map (little_bytes 4) ps ++ rest) (small 0))
    (ap (λ bytes. u32s_at bytes (at + 4) (length ps))
    (ap (λ q. front ++ q) (append_assoc (little_bytes 4 p) (flat_map (little_bytes 4) ps) rest) ∙ sym (append_assoc front (little_bytes 4 p) (flat_map (little_bytes 4) ps ++ rest)))
    ∙ pointers_here ps (front ++ little_bytes 4 p) rest (at + 4) (length-append front (little_bytes 4 p) ∙ ap (λ n. n + 4) e) (λ k. small (suc k)))

-- after a write of twelve pointers
pub pointers_put : (pointers bytes part : List ℕ) → length bytes ≡ 128 → length pointers ≡ 12 → ((k : ℕ) → slice_index pointers k < 2 ^ 32)
    → part ≡ flat_map (little_bytes 4) pointers → u32s_at (put_mid 8 48 bytes part) 8 12 ≡ pointers
pointers_put pointers bytes part long twelve small e =
    ap (λ ys. u32s_at (put_mid 8 48 bytes ys) 8 12) e
    ∙ ap (u32s_at (put_mid 8 48 bytes (flat_map (little_bytes 4) pointers)) 8) (sym twelve)
    ∙ pointers_here pointers (take 8 bytes) (drop 48 (drop 8 bytes)) 8 (length-take-le 8 bytes (omega (arith, long))) small

-- after a write of sixteen words
pub words_put : (words bytes part : List ℕ) → length bytes ≡ 128 → length words ≡ 16 → ((k : ℕ) → slice_index words k < 2 ^ 32)
    → part ≡ flat_map (little_bytes 4) words → u32s_at (put_mid 64 64 bytes part) 64 16 ≡ words
words_put words bytes part long sixteen small e =
    ap (λ ys. u32s_at (put_mid 64 64 bytes ys) 64 16) e
    ∙ ap (λ n. u32s_at (put_mid 64 64 bytes (flat_map (little_bytes 4) words)) 64 n) (sym sixteen)
    ∙ pointers_here words (take 64 bytes) (drop 64 (drop 64 bytes)) 64 (length-take-le 64 bytes (omega (arith, long))) small

-- other attributes behind the rest of a record
pub attributes_put : (version : ℕ) (r : Inode) (words bytes new : List ℕ) → ((k : ℕ) → k < 64 → slice_index new k ≡ slice_index bytes k) → u32s_at new 64 16 ≡ words
    → inode_at version bytes 0 ≡ r → inode_at version new 0 ≡ record r { attributes = words }
attributes_put version r words bytes new front are e =
    same_inode
    (same_number 2 0 new bytes (λ k low high. front k (omega arith)) ∙ ap (λ (x : Inode). x.mode) e)
    (same_number 2 2 new bytes (λ k low high. front k (omega arith)) ∙ ap (λ (x : Inode). x.links) e)
    (same_number 4 4 new bytes (λ k low high. front k (omega arith)) ∙ ap (λ (x : Inode). x.size) e)
    (numbers_moved 12 8 8 new bytes (record { at = λ k b. front (8 + k) (omega arith) }) ∙ ap (λ (x : Inode). x.direct) e)
    (same_number 4 56 new bytes (λ k low high. front k (omega arith)) ∙ ap (λ (x : Inode). x.indirect) e)
    (ap (λ n. cond (eqb version 2) n 0) (same_number 4 60 new bytes (λ k low high. front k (omega arith))) ∙ ap (λ (x : Inode). x.double) e)
    are

-- a byte behind the place from which lists are the same
pub byte_behind : (n k : ℕ) (xs ys : List ℕ) → n ≤ k → drop n xs ≡ drop n ys → slice_index xs k ≡ slice_index ys k
byte_behind n k xs ys far e =
    let place : k ≡ n + (k - n) = omega (arith, far) in
    ap (slice_index xs) place ∙ sym (get_or-drop n xs (k - n) 0) ∙ ap (λ zs. slice_index zs (k - n)) e ∙ get_or-drop n ys (k - n) 0 ∙ ap (slice_index ys) (sym place)

same_rest : (n : ℕ) (xs ys : List ℕ) → length xs ≡ length ys → ((k : ℕ) → n ≤ k → slice_index xs k ≡ slice_index ys k) → drop n xs ≡ drop n ys
same_rest n xs ys e h =
    ext_get_or 0 (drop n xs) (drop n ys) (length-drop n xs ∙ ap (λ m. m - n) e ∙ sym (length-drop n ys))
    (λ k b. get_or-drop n xs k 0 ∙ h (n + k) (omega arith) ∙ sym (get_or-drop n ys k 0))

-- the numbers before the direct pointers
module _ (mode links size : ℕ) (bytes : List ℕ) (long : length bytes ≡ 128) where
  with_mode : List ℕ
  with_mode = put_u16 0 mode bytes

  with_links : List ℕ
  with_links = put_u16 2 links with_mode

  pub with_size : List ℕ
  with_size = put_u32 4 size with_links

  mode_long : length with_mode ≡ 128
  unfolding with_mode
  mode_long = length-put 0 (little_bytes 2 mode) bytes (omega (arith, long)) ∙ long

  links_long : length with_links ≡ 128
  unfolding with_links
  links_long = length-put 2 (little_bytes 2 links) with_mode (omega (arith, mode_long)) ∙ mode_long

  size_long : length with_size ≡ 128
  unfolding with_size
  size_long = length-put 4 (little_bytes 4 size) with_links (omega (arith, links_long)) ∙ links_long

  before_size : (n at : ℕ) → at + n ≤ 4 → little_number n (drop at with_size) ≡ little_number n (drop at with_links)
  unfolding with_size
  before_size n at b = number_apart n at 4 (little_bytes 4 size) with_links (omega (arith, links_long)) (inl b)

  mode_is : mode < 2 ^ 16 → little_number 2 (drop 0 with_size) ≡ mode
  unfolding with_links with_mode
  mode_is small =
      before_size 2 0 (omega arith)
      ∙ number_apart 2 0 2 (little_bytes 2 links) with_mode (omega (arith, mode_long)) (inl (omega arith))
      ∙ number_here 2 mode 0 bytes (omega (arith, long)) small

  links_is : links < 2 ^ 16 → little_number 2 (drop 2 with_size) ≡ links
  unfolding with_links
  links_is small = before_size 2 2 (omega arith) ∙ number_here 2 links 2 with_mode (omega (arith, mode_long)) small

  size_is : size < 2 ^ 32 → u32_at with_size 4 ≡ size
  unfolding with_size
  size_is small = number_here 4 size 4 with_links (omega (arith, links_long)) small

  rest_before : (k : ℕ) → 60 ≤ k → slice_index with_size k ≡ slice_index bytes k
  unfolding with_size with_links with_mode
  rest_before k high =
      put_apart 4 (little_bytes 4 size) with_links (omega (arith, links_long)) k (inr (omega arith))
      ∙ put_apart 2 (little_bytes 2 links) with_mode (omega (arith, mode_long)) k (inr (omega arith))
      ∙ put_apart 0 (little_bytes 2 mode) bytes (omega (arith, long)) k (inr (omega arith))

  -- the parts that the calls of `write` leave are these numbers, one after the other
  pub numbers_put : (first second third : List ℕ)
      → first ≡ little_bytes 2 mode ++ drop 2 (mid_of 0 2 bytes)
      → second ≡ little_bytes 2 links ++ drop 2 (mid_of 2 2 (put_mid 0 2 bytes first))
      → third ≡ little_bytes 4 size ++ drop 4 (mid_of 4 4 (put_mid 2 2 (put_mid 0 2 bytes first) second))
      → put_mid 4 4 (put_mid 2 2 (put_mid 0 2 bytes first) second) third ≡ with_size
  unfolding with_size with_links with_mode
  numbers_put first second third e f g =
      part_written 4 4 (little_bytes 4 size) (put_mid 2 2 (put_mid 0 2 bytes first) second) third refl g
      ∙ ap (put_u32 4 size) (part_written 2 2 (little_bytes 2 links) (put_mid 0 2 bytes first) second refl f
      ∙ ap (put_u16 2 links) (part_written 0 2 (little_bytes 2 mode) bytes first refl e))

  -- the direct pointers and the indirect one
  module _ (direct with_direct : List ℕ) (direct_long : length with_direct ≡ 128) (pointers : u32s_at with_direct 8 12 ≡ direct)
      (apart : (k : ℕ) → (k < 8) ⊎ (56 ≤ k) → slice_index with_direct k ≡ slice_index with_size k) (indirect : ℕ) where
    written_front : (n at : ℕ) → at + n ≤ 8 → little_number n (drop at (put_u32 56 indirect with_direct)) ≡ little_number n (drop at with_size)
    written_front n at b =
        number_apart n at 56 (little_bytes 4 indirect) with_direct (omega (arith, direct_long)) (inl (omega arith))
        ∙ same_number n at with_direct with_size (λ k low high. apart k (inl (omega arith)))

    written_direct : u32s_at (put_u32 56 indirect with_direct) 8 12 ≡ direct
    written_direct = numbers_moved 12 8 8 (put_u32 56 indirect with_direct) with_direct (record {
      at = λ k b. put_apart 56 (little_bytes 4 indirect) with_direct (omega (arith, direct_long)) (8 + k) (inl (omega arith));
    }) ∙ pointers

    pub written_record : (words : List ℕ) → u32s_at bytes 64 16 ≡ words → mode < 2 ^ 16 → links < 2 ^ 16 → size < 2 ^ 32 → indirect < 2 ^ 32
        → inode_at 1 (put_u32 56 indirect with_direct) 0 ≡ record { mode = mode; links = links; size = size; direct = direct; indirect = indirect; double = 0; attributes = words }
    written_record words same m l s i =
        same_inode
        (written_front 2 0 (omega arith) ∙ mode_is m)
        (written_front 2 2 (omega arith) ∙ links_is l)
        (written_front 4 4 (omega arith) ∙ size_is s)
        written_direct
        (number_here 4 indirect 56 with_direct (omega (arith, direct_long)) i)
        refl
        (numbers_moved 16 64 64 (put_u32 56 indirect with_direct) bytes (record {
          at = λ k b.
              put_apart 56 (little_bytes 4 indirect) with_direct (omega (arith, direct_long)) (64 + k) (inr (omega arith))
              ∙ apart (64 + k) (inr (omega arith)) ∙ rest_before (64 + k) (omega arith);
        }) ∙ same)

    pub written_rest : drop 60 (put_u32 56 indirect with_direct) ≡ drop 60 bytes
    written_rest =
        same_rest 60 (put_u32 56 indirect with_direct) bytes
        (length-put 56 (little_bytes 4 indirect) with_direct (omega (arith, direct_long)) ∙ direct_long ∙ sym long)
        (λ k high.
        put_apart 56 (little_bytes 4 indirect) with_direct (omega (arith, direct_long)) k (inr (omega arith))
        ∙ apart k (inr (omega arith)) ∙ rest_before k high)

-- ---- the double indirect pointer, written behind a record of version 1
module _ (bytes : List ℕ) (long : length bytes ≡ 128) where
  before_double : (double n at : ℕ) → at + n ≤ 60 → little_number n (drop at (put_u32 60 double bytes)) ≡ little_number n (drop at bytes)
  before_double double n at b = number_apart n at 60 (little_bytes 4 double) bytes (omega (arith, long)) (inl b)

  pub with_double : (r : Inode) (double : ℕ) → double < 2 ^ 32 → inode_at 1 bytes 0 ≡ record r { double = 0 } → inode_at 2 (put_u32 60 double bytes) 0 ≡ record r { double = double }
  with_double r double small e =
      same_inode
      (before_double double 2 0 (omega arith) ∙ ap (λ (x : Inode). x.mode) e)
      (before_double double 2 2 (omega arith) ∙ ap (λ (x : Inode). x.links) e)
      (before_double double 4 4 (omega arith) ∙ ap (λ (x : Inode). x.size) e)
      (numbers_moved 12 8 8 (put_u32 60 double bytes) bytes (record { at = λ k b. put_apart 60 (little_bytes 4 double) bytes (omega (arith, long)) (8 + k) (inl (omega arith)) }) ∙ ap (λ (x : Inode). x.direct) e)
      (before_double double 4 56 (omega arith) ∙ ap (λ (x : Inode). x.indirect) e)
      (number_here 4 double 60 bytes (omega (arith, long)) small)
      (numbers_moved 16 64 64 (put_u32 60 double bytes) bytes (record { at = λ k b. put_apart 60 (little_bytes 4 double) bytes (omega (arith, long)) (64 + k) (inr (omega arith)) }) ∙ ap (λ (x : Inode). x.attributes) e)
