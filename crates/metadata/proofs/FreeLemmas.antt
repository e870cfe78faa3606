-- Marks of what may be given out: how many there are, and what a loop over all of them leaves.
use Rattle.std.specs.Option.{MatchOption}
use Rattle.std.proofs.Common.{Option, Some, None, ◌≡◌, ◌<◌, ◌≤◌, ◌+◌, ◌-◌, ◌*◌, ◌%◌, ◌^◌, ℕ, Bool, not, ◌&&◌, ltb, leb, true, false, cond, List, length, get_or, set, replicate, IsTrue, IsFalse, inl, inr, refl, sym, ap, ap₂, ◌∙◌, subst, arith, mul-le-mul_right, get_or-set_same, get_or-set_other, length-set}
use Rattle.std.proofs.lemmas.Bool.{cases_eq, cases_lt, and_parts, and_from, lt-ltb, le-ltb, le-leb, lt-leb, not-true, not_from_false, false≢true}
use Rattle.std.proofs.lemmas.List.{get_or_past, get_or-replicate, length-replicate}
use Rattle.std.proofs.Math.Arith.{digits_mod, digits_div}
use Rattle.model.proofs.Addresses.{data_range, address_place, address_group, address_is_data}
use Rattle.model.proofs.Places.{place_of_data}
use Rattle.model.specs.Layout.{Geometry, IsGeometry, is_number, inode_count, is_data_address, block_count, group_block, header_blocks, place_in_group, data_address, data_bit, root}
use Rattle.model.specs.View.{View, map_bit}
use Rattle.model.specs.Reach.{sum_below}
use Rattle.model.proofs.GroupNumbers.{before_same, before_all}
use Rattle.model.proofs.Sums.{sum-small, sum-none, sum-changed}
use Rattle.model.proofs.SlotLemmas.{number_below}
use Rattle.machine.specs.Room.{IsFreeNumber, has_number}
use Rattle.machine.proofs.Decisions.{any_none, any_here}
use Rattle.marks.specs.Marks.{IsLeastMarked, NothingMarked}
use Rattle.frozen.specs.Kept.{Kept, frozen_view, kept_bytes}
use Rattle.metadata.specs.Free.{AreFreeNumbers, AreFreeBlocks, AreMarkedBelow, AreFreeBlocksBelow, IsLeastNumber, IsCounted, marked_in}

-- other words for both cases of an answer
pub match_with : {X P P' : Type 0} {Q Q' : X → Type 0} (r : Option X) → MatchOption r P Q → (P → P') → ((x : X) → Q x → Q' x) → MatchOption r P' Q'
match_with None h f g = f h
match_with (Some x) h f g = g x h

-- ---- how many are marked
module _ (marks : List Bool) (a : ℕ) (low : a < length marks) where
  abbrev one : List Bool → ℕ → ℕ
  one ms k = cond (get_or ms k false) 1 0

  others : (b : Bool) (k : ℕ) → (k ≡ a → ⊥) → one marks k ≡ one (set marks a b) k
  others b k differs = ap (λ x. cond x 1 0) (sym (get_or-set_other marks a k b false differs))

  changed : (b : Bool) → marked_in marks + cond b 1 0 ≡ marked_in (set marks a b) + one marks a
  changed b =
      let same : length (set marks a b) ≡ length marks = length-set marks a b in
      let here : one (set marks a b) a ≡ cond b 1 0 = ap (λ x. cond x 1 0) (get_or-set_same marks a b false low) in
      let e : sum_below (length marks) (one marks) + one (set marks a b) a ≡ sum_below (length marks) (one (set marks a b)) + one marks a =
      sum-changed (length marks) (one marks) (one (set marks a b)) a low (λ k below differs. others b k differs) in
      let f : marked_in (set marks a b) ≡ sum_below (length marks) (one (set marks a b)) = ap (λ n. sum_below n (one (set marks a b))) same in
      omega (arith, here, e, f)

  -- one less, one more, or as many
  pub less : get_or marks a false ≡ true → marked_in marks ≡ marked_in (set marks a false) + 1
  less is = let e : one marks a ≡ 1 = ap (λ x. cond x 1 0) is in omega (arith, e, changed false)

  pub more : get_or marks a false ≡ false → marked_in (set marks a true) ≡ marked_in marks + 1
  more is = let e : one marks a ≡ 0 = ap (λ x. cond x 1 0) is in omega (arith, e, changed true)

  pub as_many : (b : Bool) → get_or marks a false ≡ b → marked_in (set marks a b) ≡ marked_in marks
  as_many b is = let e : one marks a ≡ cond b 1 0 = ap (λ x. cond x 1 0) is in omega (arith, e, changed b)

pub few_marked : (marks : List Bool) → marked_in marks ≤ length marks
few_marked marks = sum-small (length marks) (λ k. cond (get_or marks k false) 1 0) (λ k. at_most (get_or marks k false))
  where
    at_most : (b : Bool) → cond b 1 0 ≤ 1
    at_most true = omega arith
    at_most false = omega arith

-- ---- a loop that marks each number that passes
module _ (p : ℕ → Bool) (marks : List Bool) (n : ℕ) (each : (a : ℕ) → get_or marks a false ≡ (p a && ltb a n)) where
  pub passes : p n ≡ true → n < length marks → (a : ℕ) → get_or (set marks n true) a false ≡ (p a && ltb a (n + 1))
  passes is low a = elim (cases_eq a n) [
    | inl e ↦ ap (λ k. get_or (set marks n true) k false) e ∙ get_or-set_same marks n true false low
        ∙ sym (and_from (p a) (ltb a (n + 1)) (ap p e ∙ is) (lt-ltb a (n + 1) (omega (arith, e))))
    | inr differs ↦ get_or-set_other marks n a true false differs ∙ each a ∙ before_same (p a) a n (λ e. absurd (differs e))
  ]

  pub passes_not : p n ≡ false → (a : ℕ) → get_or marks a false ≡ (p a && ltb a (n + 1))
  passes_not is a = each a ∙ before_same (p a) a n (λ e. ap p e ∙ is)

  pub all_done : ((a : ℕ) → p a ≡ true → a < n) → (a : ℕ) → get_or marks a false ≡ p a
  all_done below a = each a ∙ before_all (p a) a n (below a)

pub none_yet : (p : ℕ → Bool) (count : ℕ) (marks : List Bool) → ((a : ℕ) → get_or marks a false ≡ false) → (a : ℕ) → get_or marks a false ≡ (p a && ltb a 0)
none_yet p count marks none a = none a ∙ by (p a)
  where
    by : (b : Bool) → false ≡ (b && ltb a 0)
    by true = sym (le-ltb a 0 (omega arith))
    by false = refl

-- ---- the least number that may be given out
module _ (geo : Geometry) (view : View) (marks : List Bool) (are : AreFreeNumbers geo view marks) where
  abbrev may_be : ℕ → Bool
  may_be i = is_number geo i && not (view.number_marked i)

  pub none_free : NothingMarked marks → IsFalse (has_number geo view)
  none_free none = any_none (inode_count geo) may_be (λ i low. sym (are.each i) ∙ none i)

  pub free_is_marked : (i : ℕ) → IsFreeNumber geo view i → get_or marks i false ≡ true
  free_is_marked i free = are.each i ∙ and_from (is_number geo i) (not (view.number_marked i)) free.number (not_from_false (view.number_marked i) free.unmarked)

  pub least_free : (i : ℕ) → IsLeastMarked marks i → IsTrue (has_number geo view) × IsLeastNumber geo view i
  least_free i least =
      let is : may_be i ≡ true = sym (are.each i) ∙ least.marked in
      let parts = and_parts (is_number geo i) (not (view.number_marked i)) is in (
        any_here (inode_count geo) may_be i (number_below geo i parts.0) is,
        record {
          free = record { number = parts.0; unmarked = not-true (view.number_marked i) parts.1 };
          least = λ j free. elim (cases_lt j i) [
            | inl below ↦ absurd (false≢true (sym (least.least j below) ∙ free_is_marked j free))
            | inr above ↦ above
          ];
        },
      )

-- numbers and addresses are below their counts
pub number_within : (geo : Geometry) (i : ℕ) (b : Bool) → (is_number geo i && b) ≡ true → i < inode_count geo
number_within geo i b is = number_below geo i (and_parts (is_number geo i) b is).0

pub address_within : (geo : Geometry) → IsGeometry geo → (a : ℕ) (b : Bool) → (is_data_address geo a && b) ≡ true → a < block_count geo
address_within geo ok a b is = (data_range geo ok a (and_parts (is_data_address geo a) b is).0).1

-- ---- the count after a change of one mark
module _ (count : ℕ) (marks : List Bool) (a : ℕ) (counted : IsCounted count marks) (low : a < length marks) where
  pub counted_less : get_or marks a false ≡ true → IsCounted (count - 1) (set marks a false)
  counted_less is = record {
    marked = omega (arith, counted.marked, less marks a low is);
    few = omega (arith, counted.few, length-set marks a false);
  }

  pub counted_more : get_or marks a false ≡ false → IsCounted (count + 1) (set marks a true)
  counted_more is = record {
    marked = omega (arith, counted.marked, more marks a low is);
    few = omega (arith, counted.few, length-set marks a true);
  }

  -- there is one at least, or one may be added
  pub some_counted : get_or marks a false ≡ true → 1 ≤ count
  some_counted is = omega (arith, counted.marked, less marks a low is)

  pub more_counted : get_or marks a false ≡ false → count + 1 < 2 ^ 32
  more_counted is = omega (arith, counted.marked, counted.few, more marks a low is, few_marked (set marks a true), length-set marks a true)

-- ---- the bits of a group's maps, and what may be given out
pub may_be_given : (t m : Bool) → t ≡ true → m ≡ false → (t && not (t && m)) ≡ true
may_be_given true false e f = refl
may_be_given true true e f = absurd (false≢true (sym f))
may_be_given false m e f = absurd (false≢true e)

pub marked_is_not : (t m : Bool) → m ≡ true → (t && not (t && m)) ≡ false
marked_is_not true true e = refl
marked_is_not true false e = absurd (false≢true e)
marked_is_not false m e = refl

pub other_is_not : (t m : Bool) → t ≡ false → (t && not (t && m)) ≡ false
other_is_not false m e = refl
other_is_not true m e = absurd (false≢true (sym e))

abbrev pub number_may_be : Kept → ℕ → Bool
number_may_be kept i = is_number kept.geometry i && not ((frozen_view kept).number_marked i)

abbrev pub block_may_be : Kept → ℕ → Bool
block_may_be kept a = is_data_address kept.geometry a && not ((frozen_view kept).block_marked a)

module _ (kept : Kept) (ok : IsGeometry kept.geometry) (group bit : ℕ) where
  abbrev number : ℕ
  number = group * kept.geometry.inodes + bit

  abbrev number_bit : Bool
  number_bit = map_bit (kept_bytes kept.blocks (group_block kept.geometry group)) 32 bit

  number_reads : bit < kept.geometry.inodes → number_may_be kept number ≡ (is_number kept.geometry number && not (is_number kept.geometry number && number_bit))
  number_reads low =
      ap₂ (λ g k. is_number kept.geometry number && not (is_number kept.geometry number && map_bit (kept_bytes kept.blocks (group_block kept.geometry g)) 32 k)) (digits_div group low) (digits_mod group low)

  pub number_in_count : bit < kept.geometry.inodes → group < kept.geometry.groups → number < inode_count kept.geometry
  number_in_count low in_volume =
      let h : (group + 1) * kept.geometry.inodes ≤ kept.geometry.groups * kept.geometry.inodes = mul-le-mul_right kept.geometry.inodes (omega arith) in omega (arith, h, low)

  pub number_passes : bit < kept.geometry.inodes → group < kept.geometry.groups → root ≤ number → number_bit ≡ false → number_may_be kept number ≡ true
  number_passes low in_volume from is =
      number_reads low ∙ may_be_given (is_number kept.geometry number) number_bit
      (and_from (leb root number) (ltb number (inode_count kept.geometry)) (le-leb root number from) (lt-ltb number (inode_count kept.geometry) (number_in_count low in_volume))) is

  pub number_marked_not : bit < kept.geometry.inodes → number_bit ≡ true → number_may_be kept number ≡ false
  number_marked_not low is = number_reads low ∙ marked_is_not (is_number kept.geometry number) number_bit is

  pub number_early_not : bit < kept.geometry.inodes → number < root → number_may_be kept number ≡ false
  number_early_not low early =
      number_reads low ∙ other_is_not (is_number kept.geometry number) number_bit (ap (λ b. b && ltb number (inode_count kept.geometry)) (lt-leb root number early))

  abbrev address : ℕ
  address = data_address kept.geometry group bit

  abbrev block_bit : Bool
  block_bit = map_bit (kept_bytes kept.blocks (group_block kept.geometry group)) 160 bit

  block_reads : header_blocks kept.geometry + bit < kept.geometry.blocks → block_may_be kept address ≡ (is_data_address kept.geometry address && not (is_data_address kept.geometry address && block_bit))
  block_reads low =
      let e : data_bit kept.geometry address ≡ bit = omega (arith, address_place kept.geometry ok group bit low) in
      ap₂ (λ g k. is_data_address kept.geometry address && not (is_data_address kept.geometry address && map_bit (kept_bytes kept.blocks (group_block kept.geometry g)) 160 k)) (address_group kept.geometry ok group bit low) e

  pub block_passes : header_blocks kept.geometry + bit < kept.geometry.blocks → group < kept.geometry.groups → block_bit ≡ false → block_may_be kept address ≡ true
  block_passes low in_volume is =
      block_reads low ∙ may_be_given (is_data_address kept.geometry address) block_bit (address_is_data kept.geometry ok group bit low in_volume) is

  pub block_marked_not : header_blocks kept.geometry + bit < kept.geometry.blocks → block_bit ≡ true → block_may_be kept address ≡ false
  block_marked_not low is = block_reads low ∙ marked_is_not (is_data_address kept.geometry address) block_bit is

  pub address_in_count : header_blocks kept.geometry + bit < kept.geometry.blocks → group < kept.geometry.groups → address < block_count kept.geometry
  address_in_count low in_volume = (data_range kept.geometry ok address (address_is_data kept.geometry ok group bit low in_volume)).1

-- ---- bounds between which nothing may be given out
pub same_below : (p : Bool) (a n m : ℕ) → n ≤ m → (p ≡ true → a < m → a < n) → (p && ltb a n) ≡ (p && ltb a m)
same_below false a n m more h = refl
same_below true a n m more h = elim (cases_lt a n) [
  | inl low ↦ lt-ltb a n low ∙ sym (lt-ltb a m (omega (arith, low, more)))
  | inr above ↦ elim (cases_lt a m) [
    | inl low ↦ absurd (omega (arith, h refl low, above))
    | inr past ↦ le-ltb a n above ∙ sym (le-ltb a m past)
  ]
]

-- a number that is not below the bound is not marked yet
pub not_yet : (p : Bool) (n : ℕ) → (p && ltb n n) ≡ false
not_yet true n = le-ltb n n (omega arith)
not_yet false n = refl

-- a loop over numbers that come to a bound, and over the next one
module _ (all : ℕ) (p : ℕ → Bool) (marks : List Bool) (n m : ℕ) (are : AreMarkedBelow all p n marks) where
  pub same_bound : n ≡ m → AreMarkedBelow all p m marks
  same_bound e = subst (λ k. AreMarkedBelow all p k marks) e are

  pub one_passes : (new : List Bool) → m ≡ n + 1 → n < all → p n ≡ true → new ≡ set marks n true → AreMarkedBelow all p m new
  one_passes new e low is now = record {
    count = ap length now ∙ length-set marks n true ∙ are.count;
    each = λ a. ap (λ ms. get_or ms a false) now ∙ passes p marks n are.each is (omega (arith, low, are.count)) a ∙ ap (λ k. p a && ltb a k) (sym e);
  }

  pub one_passes_not : (new : List Bool) → m ≡ n + 1 → p n ≡ false → new ≡ marks → AreMarkedBelow all p m new
  one_passes_not new e is now = record {
    count = ap length now ∙ are.count;
    each = λ a. ap (λ ms. get_or ms a false) now ∙ passes_not p marks n are.each is a ∙ ap (λ k. p a && ltb a k) (sym e);
  }

  -- the number at the bound is not marked, so there is one more where it is marked now
  pub one_counted : n < all → marked_in (set marks n true) ≡ marked_in marks + 1
  one_counted low = more marks n (omega (arith, low, are.count)) (are.each n ∙ not_yet (p n) n)

module _ (geo : Geometry) (view : View) (marks : List Bool) where
  -- between a group's block of maps and its first data block is none
  pub past_header : IsGeometry geo → (group : ℕ) → AreFreeBlocksBelow geo view (group_block geo group) marks → AreFreeBlocksBelow geo view (data_address geo group 0) marks
  past_header ok group are = record {
    count = are.count;
    each = λ a. are.each a ∙ same_below (is_data_address geo a && not (view.block_marked a)) a (group_block geo group) (data_address geo group 0) (omega arith)
        (λ is low. none a (place_of_data geo ok a (and_parts (is_data_address geo a) (not (view.block_marked a)) is).0) low);
  }
    where
      none : (a : ℕ) → header_blocks geo ≤ place_in_group geo a → a < data_address geo group 0 → a < group_block geo group
      none a from low = elim (cases_lt a (group_block geo group)) [
        | inl before ↦ before
        | inr above ↦
            let e : a - 1 ≡ group * geo.blocks + (a - group_block geo group) = omega (arith, above) in
            let place : place_in_group geo a ≡ a - group_block geo group =
            ap (λ n. n % geo.blocks) e ∙ digits_mod group (omega (arith, low, above, ok.room_for_data)) in
            absurd (omega (arith, place, from, low, above))
      ]

no_mark : (n k : ℕ) → get_or (replicate n false) k false ≡ false
no_mark n k = elim (cases_lt k n) [
  | inl low ↦ get_or-replicate n k false false low
  | inr past ↦ get_or_past (replicate n false) k false (omega (arith, length-replicate {A = Bool} n false, past))
]

-- ---- before the first group, and after the last one
module _ (kept : Kept) (ok : IsGeometry kept.geometry) (marks : List Bool) where
  pub before_groups : marks ≡ replicate (block_count kept.geometry) false → AreMarkedBelow (block_count kept.geometry) (block_may_be kept) (group_block kept.geometry 0) marks
  before_groups e = record {
    count = ap length e ∙ length-replicate {A = Bool} (block_count kept.geometry) false;
    each = λ a. none_yet (block_may_be kept) (block_count kept.geometry) marks (λ b. ap (λ ms. get_or ms b false) e ∙ no_mark (block_count kept.geometry) b) a
        ∙ same_below (block_may_be kept a) a 0 (group_block kept.geometry 0) (omega arith)
        (λ is low. let some = data_range kept.geometry ok a (and_parts (is_data_address kept.geometry a) (not ((frozen_view kept).block_marked a)) is).0 in omega (arith, some.0, low));
  }

  pub none_counted : marks ≡ replicate (block_count kept.geometry) false → block_count kept.geometry < 2 ^ 32 → IsCounted 0 marks
  none_counted e few = record {
    marked = sym (sum-none (length marks) (λ k. cond (get_or marks k false) 1 0) (λ k low. ap (λ b. cond b 1 0) (ap (λ ms. get_or ms k false) e ∙ no_mark (block_count kept.geometry) k)));
    few = omega (arith, ap length e, length-replicate {A = Bool} (block_count kept.geometry) false, few);
  }

  pub all_numbers : (group : ℕ) → group ≡ kept.geometry.groups → AreMarkedBelow (inode_count kept.geometry) (number_may_be kept) (group * kept.geometry.inodes) marks → AreFreeNumbers kept.geometry (frozen_view kept) marks
  all_numbers group last are =
      let end : group * kept.geometry.inodes ≡ inode_count kept.geometry = ap (λ g. g * kept.geometry.inodes) last in record {
        count = are.count;
        each = all_done (number_may_be kept) marks (group * kept.geometry.inodes) are.each
            (λ i is. let low = number_within kept.geometry i (not ((frozen_view kept).number_marked i)) is in omega (arith, low, end));
      }

  pub all_blocks : (group : ℕ) → group ≡ kept.geometry.groups → AreMarkedBelow (block_count kept.geometry) (block_may_be kept) (group_block kept.geometry group) marks → AreFreeBlocks kept.geometry (frozen_view kept) marks
  all_blocks group last are =
      let end : group_block kept.geometry group ≡ block_count kept.geometry = ap (group_block kept.geometry) last in record {
        count = are.count;
        each = all_done (block_may_be kept) marks (group_block kept.geometry group) are.each
            (λ a is. let low = address_within kept.geometry ok a (not ((frozen_view kept).block_marked a)) is in omega (arith, low, end));
      }
