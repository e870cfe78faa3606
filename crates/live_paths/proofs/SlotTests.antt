-- What the bytes of a slot tell of its name.
use Rattle.std.proofs.Common.{◌≡◌, ◌<◌, ◌≤◌, ◌+◌, ◌-◌, ◌*◌, ◌%◌, ℕ, Bool, true, false, ◌&&◌, eqb, ltb, leb, cond, List, length, take, drop, slice_index, refl, sym, ap, ◌∙◌, arith}
use Rattle.std.specs.List.{list_all}
use Rattle.std.proofs.lemmas.Bool.{and_parts, both_ways}
use Rattle.std.proofs.lemmas.Bool.Decides.{Decides-ltb, nat_tests}
use Rattle.std.proofs.lemmas.List.{get_or-drop, get_or-take, length-drop, length-take-le}
use Rattle.std.proofs.lemmas.Slice.Eq.{bytes_eq-Decides}
use Rattle.model.specs.View.{u32_at}
use Rattle.model.specs.Slots.{Slot, Empty, Good, Bad, slot_of, is_name, fits_slot, is_name_byte}
use Rattle.machine.specs.Paths.{has_name}

-- what a slot says: nothing, or an entry where its number, its name and its place are good
abbrev says : Bool → Bool → ℕ → List ℕ → Slot
says none good number name = cond none Empty (cond good (Good number name) Bad)

at_most : (n m : ℕ) → leb n m ≡ true → n ≤ m
at_most n m e = grind (arith, nat_tests)

named_of : (none good : Bool) (number : ℕ) (own name : List ℕ) → has_name (says none good number own) name ≡ true → (good ≡ true) × (own ≡ name)
named_of true good number own name e = absurd (both_ways false refl e)
named_of false true number own name e = (refl, (bytes_eq-Decides own name).0 e)
named_of false false number own name e = absurd (both_ways false refl e)

module _ (inodes s : ℕ) (block : List ℕ) where
  abbrev start : ℕ
  start = 64 * (s % 16)

  abbrev own : List ℕ
  own = take (slice_index block (start + 4)) (drop (start + 8) block)

  abbrev none : Bool
  none = eqb (u32_at block start) 0

  abbrev good : Bool
  good = (leb 2 (u32_at block start) && ltb (u32_at block start) inodes) && leb (slice_index block (start + 4)) 56 && is_name own && fits_slot s own

  -- an entry of a name has its bytes
  name_stands : (name : List ℕ) → has_name (slot_of inodes block s) name ≡ true → (good ≡ true) × (own ≡ name)
  name_stands name = named_of none good (u32_at block start) own name

  -- the length of the name, and its bytes
  pub name_told : (name : List ℕ) → length block ≡ 1024 → has_name (slot_of inodes block s) name ≡ true
      → (slice_index block (start + 4) ≡ length name) × (0 < length name) × (length name ≤ 56) × (own ≡ name)
  name_told name whole e =
      let stands = name_stands name e in
      let among = leb 2 (u32_at block start) && ltb (u32_at block start) inodes in
      let fits = and_parts (among && leb (slice_index block (start + 4)) 56 && is_name own) (fits_slot s own) stands.0 in
      let good_name = and_parts (among && leb (slice_index block (start + 4)) 56) (is_name own) fits.0 in
      let short = and_parts among (leb (slice_index block (start + 4)) 56) good_name.0 in
      let bytes = and_parts (ltb 0 (length own) && leb (length own) 56) (list_all is_name_byte own) good_name.1 in
      let some = and_parts (ltb 0 (length own)) (leb (length own) 56) bytes.0 in
      let few : slice_index block (start + 4) ≤ 56 = at_most (slice_index block (start + 4)) 56 short.1 in
      let room : length (drop (start + 8) block) ≡ length block - (start + 8) = length-drop (start + 8) block in
      let size : length own ≡ slice_index block (start + 4) = length-take-le (slice_index block (start + 4)) (drop (start + 8) block) (omega (arith, whole, few, room)) in
      let same : length own ≡ length name = ap length stands.1 in
      let more : 0 < length own = (Decides-ltb 0 (length own)).0 some.0 in
      (sym size ∙ same, omega (arith, same, more), omega (arith, same, size, few), stands.1)

  -- so its last byte
  pub last_stands : (name : List ℕ) → length block ≡ 1024 → has_name (slot_of inodes block s) name ≡ true
      → slice_index block (start + 7 + slice_index block (start + 4)) ≡ slice_index name (slice_index block (start + 4) - 1)
  last_stands name whole e =
      let told = name_told name whole e in
      let len = slice_index block (start + 4) in
      let more : 0 < len = omega (arith, told.0, told.1) in
      let at : start + 8 + (len - 1) ≡ start + 7 + len = omega (arith, more) in
      ap (slice_index block) (sym at)
      ∙ sym (get_or-drop (start + 8) block (len - 1) 0)
      ∙ sym (get_or-take len (drop (start + 8) block) (len - 1) 0 (omega (arith, more)))
      ∙ ap (λ xs. slice_index xs (len - 1)) told.3

-- what would be absurd is not so
pub refuted : (b : Bool) → (b ≡ true → ⊥) → b ≡ false
refuted true h = absurd (h refl)
refuted false h = refl
