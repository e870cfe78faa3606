-- What the bytes of a slot say, and what stands where a slot's bytes were put over others.
use Rattle.std.proofs.Common.{◌≡◌, ◌<◌, ◌≤◌, ◌+◌, ◌-◌, ◌*◌, ◌%◌, ◌^◌, ℕ, zero, suc, Bool, true, false, cond, ◌&&◌, eqb, ltb, leb, List, [], ◌∷◌, ◌++◌, length, take, drop, replicate, slice_index, slice_set, ◌⊎◌, inl, inr, refl, sym, ap, ap₂, ◌∙◌, arith, IsTrue}
use Rattle.std.proofs.lemmas.List.{append_assoc, drop-drop, drop-take, drop_at, drop-replicate, ext_get_or, get_or-drop, get_or-take, get_or_append_left, get_or-append_right, length-append, length-drop, length-replicate, length-take-le}
use Rattle.std.proofs.Math.Seq.{take-append_seam}
use Rattle.std.proofs.lemmas.Bool.{cases_lt, le-leb, lt-ltb}
use Rattle.std.proofs.lemmas.Bool.Decides.{nat_tests}
use Rattle.byteorder.specs.Endian.{little_bytes}
use Rattle.byteorder.specs.Numbers.{little_from-take, little_number-reads_back}
use Rattle.model.specs.View.{u32_at}
use Rattle.model.specs.Slots.{Slot, Empty, Good, Bad, slot_among, slot_of, is_name, fits_slot}
use Rattle.dirent.specs.DirectoryBlock.{block_from, slot_bytes, entry_bytes, with_slot, ChangesSlot}
use borrow.Rule.Slice.PartMut.{put_mid}

-- ---- a slot is told by its 64 bytes

false_within : (a b c d : Bool) → b ≡ false → (a && b && c && d) ≡ false
false_within true b c d e = ap (λ x. x && c && d) e
false_within false b c d e = refl

-- the bytes after a short name are not looked at, and no byte is where the length is too great
name_told : (inodes s number len : ℕ) (xs ys : List ℕ) → (len ≤ 56 → take len xs ≡ take len ys) → slot_among inodes s number len xs ≡ slot_among inodes s number len ys
name_told inodes s number len xs ys h = elim (cases_lt 56 len) [
  | inr low ↦ ap (λ name. cond (eqb number 0) Empty (cond ((leb 2 number && ltb number inodes) && leb len 56 && is_name name && fits_slot s name) (Good number name) Bad)) (h low)
  | inl high ↦
      let long : leb len 56 ≡ false = grind (arith, nat_tests) in
      ap (λ b. cond (eqb number 0) Empty (cond b (Good number (take len xs)) Bad)) (false_within (leb 2 number && ltb number inodes) (leb len 56) (is_name (take len xs)) (fits_slot s (take len xs)) long)
      ∙ sym (ap (λ b. cond (eqb number 0) Empty (cond b (Good number (take len ys)) Bad)) (false_within (leb 2 number && ltb number inodes) (leb len 56) (is_name (take len ys)) (fits_slot s (take len ys)) long))
]

-- what 64 bytes say as slot s of a directory
abbrev told : ℕ → ℕ → List ℕ → Slot
told inodes s bytes = slot_among inodes s (u32_at bytes 0) (slice_index bytes 4) (drop 8 bytes)

take_less : (n m : ℕ) (xs : List ℕ) → n ≤ m → take n (take m xs) ≡ take n xs
take_less zero m xs h = refl
take_less (suc n) zero xs h = absurd (omega arith)
take_less (suc n) (suc m) [] h = refl
take_less (suc n) (suc m) (x ∷ xs) h = ap (λ ys. x ∷ ys) (take_less n m xs (omega arith))

name_alone : (i : ℕ) (xs : List ℕ) (len : ℕ) → len ≤ 56 → take len (drop (i + 8) xs) ≡ take len (drop 8 (take 64 (drop i xs)))
name_alone i xs len h =
    ap (take len) (sym (drop-drop 8 i xs))
    ∙ sym (take_less len 56 (drop 8 (drop i xs)) h)
    ∙ ap (take len) (sym (drop-take 8 56 (drop i xs)))

slot_alone : (inodes s i : ℕ) (xs : List ℕ) → slot_among inodes s (u32_at xs i) (slice_index xs (i + 4)) (drop (i + 8) xs) ≡ told inodes s (take 64 (drop i xs))
slot_alone inodes s i xs =
    ap₂ (λ number len. slot_among inodes s number len (drop (i + 8) xs))
    (sym (little_from-take 0 4 64 (drop i xs) (omega arith)))
    (sym (get_or-take 64 (drop i xs) 4 0 (omega arith) ∙ get_or-drop i xs 4 0))
    ∙ name_told inodes s (u32_at (take 64 (drop i xs)) 0) (slice_index (take 64 (drop i xs)) 4) (drop (i + 8) xs) (drop 8 (take 64 (drop i xs)))
    (λ h. name_alone i xs (slice_index (take 64 (drop i xs)) 4) h)

-- slot j of the block at a position says what its bytes say
pub slot_told : (inodes position j : ℕ) (xs : List ℕ) → j < 16 → slot_of inodes xs (16 * position + j) ≡ told inodes (16 * position + j) (slot_bytes xs j)
slot_told inodes position j xs h =
    let place : (16 * position + j) % 16 ≡ j = omega arith in
    slot_alone inodes (16 * position + j) (64 * ((16 * position + j) % 16)) xs
    ∙ ap (λ k. told inodes (16 * position + j) (slot_bytes xs k)) place

-- ---- what an entry's bytes say

all_true : (a b c d e : Bool) → a ≡ true → b ≡ true → c ≡ true → d ≡ true → e ≡ true → ((a && b) && c && d && e) ≡ true
all_true a b c d e p q r s t = rw (p, q, r, s, t) refl

pub length-entry_bytes : (number : ℕ) (name : List ℕ) → length name ≤ 56 → length (entry_bytes number name) ≡ 64
length-entry_bytes number name short = omega (arith, length-append name (replicate (56 - length name) 0), length-replicate {A = ℕ} (56 - length name) 0)

pub entry_told : (inodes s number : ℕ) (name : List ℕ) → number < 2 ^ 32 → 2 ≤ number → number < inodes → length name ≤ 56 → IsTrue (is_name name) → IsTrue (fits_slot s name)
    → told inodes s (entry_bytes number name) ≡ Good number name
entry_told inodes s number name small given_out on_volume short good fits =
    ap₂ (λ n taken. cond (eqb n 0) Empty (cond ((leb 2 n && ltb n inodes) && leb (length name) 56 && is_name taken && fits_slot s taken) (Good n taken) Bad))
    (little_number-reads_back 4 number ((length name ∷ 0 ∷ 0 ∷ 0 ∷ name) ++ replicate (56 - length name) 0) small)
    (take-append_seam name (replicate (56 - length name) 0))
    ∙ checked
  where
    some : eqb number 0 ≡ false
    some = grind (arith, nat_tests)

    checked : cond (eqb number 0) Empty (cond ((leb 2 number && ltb number inodes) && leb (length name) 56 && is_name name && fits_slot s name) (Good number name) Bad) ≡ Good number name
    checked =
        ap (λ b. cond b Empty (cond ((leb 2 number && ltb number inodes) && leb (length name) 56 && is_name name && fits_slot s name) (Good number name) Bad)) some
        ∙ ap (λ b. cond b (Good number name) Bad) (all_true (leb 2 number) (ltb number inodes) (leb (length name) 56) (is_name name) (fits_slot s name)
        (le-leb 2 number given_out) (lt-ltb number inodes on_volume) (le-leb (length name) 56 short) good fits)

pub zeroes_told : (inodes s : ℕ) → told inodes s (replicate 64 0) ≡ Empty
zeroes_told inodes s = refl

-- the bytes that the writes of an entry leave
pub entry_written : (number : ℕ) (name copied buffer : List ℕ) → buffer ≡ little_bytes 4 number → copied ≡ name → length name ≤ 56
    → put_mid 8 (8 + length name - 8) (slice_set (buffer ++ replicate 60 0) 4 (length name)) copied ≡ entry_bytes number name
entry_written number name copied buffer e f short =
    let size : 8 + length name - 8 ≡ length name = omega arith in
    rw (e, f, size) (ap (λ rest. little_bytes 4 number ++ (length name ∷ 0 ∷ 0 ∷ 0 ∷ (name ++ rest))) (drop-replicate (length name) 56 0))

-- ---- a slot's bytes over others

module _ (bytes slot : List ℕ) (j : ℕ) (long : length bytes ≡ 1024) (whole : length slot ≡ 64) (in_block : j < 16) where
  front : length (take (64 * j) bytes) ≡ 64 * j
  front = length-take-le (64 * j) bytes (omega arith)

  front_and_slot : length (take (64 * j) bytes ++ slot) ≡ 64 * j + 64
  front_and_slot = length-append (take (64 * j) bytes) slot ∙ ap₂ (λ a b. a + b) front whole

  pub length-with_slot : length (with_slot bytes j slot) ≡ 1024
  length-with_slot =
      length-append (take (64 * j) bytes ++ slot) (drop (64 * j + 64) bytes)
      ∙ ap₂ (λ a b. a + b) front_and_slot (length-drop (64 * j + 64) bytes)
      ∙ omega arith

  pub byte_apart : (k : ℕ) → (k < 64 * j) ⊎ (64 * j + 64 ≤ k) → slice_index (with_slot bytes j slot) k ≡ slice_index bytes k
  byte_apart k (inl low) =
      get_or_append_left (take (64 * j) bytes ++ slot) (drop (64 * j + 64) bytes) 0 k (omega (arith, front_and_slot))
      ∙ get_or_append_left (take (64 * j) bytes) slot 0 k (omega (arith, front))
      ∙ get_or-take (64 * j) bytes k 0 low
  byte_apart k (inr high) =
      get_or-append_right (take (64 * j) bytes ++ slot) (drop (64 * j + 64) bytes) (64 * j + 64) k 0 front_and_slot high
      ∙ get_or-drop (64 * j + 64) bytes (k - (64 * j + 64)) 0
      ∙ ap (slice_index bytes) (omega arith)

  pub slot_here : slot_bytes (with_slot bytes j slot) j ≡ slot
  slot_here =
      ap (λ xs. take 64 (drop (64 * j) xs)) (append_assoc (take (64 * j) bytes) slot (drop (64 * j + 64) bytes))
      ∙ ap (take 64) (drop_at (take (64 * j) bytes) (slot ++ drop (64 * j + 64) bytes) (64 * j) front)
      ∙ ap (λ n. take n (slot ++ drop (64 * j + 64) bytes)) (sym whole)
      ∙ take-append_seam slot (drop (64 * j + 64) bytes)

  side : (k m : ℕ) → (k < j) ⊎ (j < k) → m < 64 → (64 * k + m < 64 * j) ⊎ (64 * j + 64 ≤ 64 * k + m)
  side k m (inl low) h = inl (omega arith)
  side k m (inr high) h = inr (omega arith)

  cut : (k : ℕ) (xs : List ℕ) → length xs ≡ 1024 → k < 16 → length (slot_bytes xs k) ≡ 64
  cut k xs e h = length-take-le 64 (drop (64 * k) xs) (omega (arith, length-drop (64 * k) xs))

  byte_of : (k m : ℕ) (xs : List ℕ) → m < 64 → slice_index (slot_bytes xs k) m ≡ slice_index xs (64 * k + m)
  byte_of k m xs h = get_or-take 64 (drop (64 * k) xs) m 0 h ∙ get_or-drop (64 * k) xs m 0

  pub slot_there : (k : ℕ) → k < 16 → (k ≡ j → ⊥) → slot_bytes (with_slot bytes j slot) k ≡ slot_bytes bytes k
  slot_there k h differs =
      ext_get_or 0 (slot_bytes (with_slot bytes j slot) k) (slot_bytes bytes k) (cut k (with_slot bytes j slot) length-with_slot h ∙ sym (cut k bytes long h))
      (λ m b.
      let within : m < 64 = omega (arith, cut k (with_slot bytes j slot) length-with_slot h) in
      let order : (k < j) ⊎ (j < k) = grind arith in
      byte_of k m (with_slot bytes j slot) within
      ∙ byte_apart (64 * k + m) (side k m order within)
      ∙ sym (byte_of k m bytes within))

  -- a block with another slot has that slot and no other change
  pub slot_changed : (position inodes : ℕ) (result : Slot) → told inodes (16 * position + j) slot ≡ result
      → ChangesSlot (block_from bytes position inodes) (block_from (with_slot bytes j slot) position inodes) j result
  slot_changed position inodes result e = record {
    changed = slot_told inodes position j (with_slot bytes j slot) in_block ∙ ap (told inodes (16 * position + j)) slot_here ∙ e;
    other_slots = λ k h differs. slot_told inodes position k (with_slot bytes j slot) h ∙ ap (told inodes (16 * position + k)) (slot_there k h differs) ∙ sym (slot_told inodes position k bytes h);
    other_bytes = byte_apart;
    length = length-with_slot ∙ sym long;
    position = refl;
    inodes = refl;
  }
