-- How often a number stands in the list of those that a directory's slots name.
use Rattle.std.proofs.Common.{◌≡◌, ◌<◌, ◌≤◌, ◌+◌, ◌*◌, ℕ, zero, suc, Bool, true, false, cond, eqb, List, [], ◌∷◌, ◌++◌, refl, sym, ap, ap₂, ◌∙◌, arith, inl, inr, zero-add}
use Rattle.std.proofs.lemmas.Bool.{cases_Bool, eqb-true, le-leb}
use Rattle.std.proofs.lemmas.Nat.{mul-le}
use Rattle.model.specs.Layout.{Geometry, IsGeometry, inode_count}
use Rattle.model.specs.View.{View}
use Rattle.model.specs.Slots.{Slot, Absent, Empty, Good, Bad, slot, number_in}
use Rattle.model.specs.Reach.{sum_below, slot_count, names_once, entries_in, entries_of}
use Rattle.model.specs.Named.{number_of, named_below, named_from, times}
use Rattle.model.proofs.Sums.{sum-small}
use Rattle.model.proofs.Shape.{numbers}

pub times-append : (i : ℕ) (xs ys : List ℕ) → times i (xs ++ ys) ≡ times i xs + times i ys
unfolding times
times-append i [] ys = sym (zero-add (times i ys))
times-append i (x ∷ xs) ys = omega (arith, times-append i xs ys)

-- 1 for a yes
abbrev once : Bool → ℕ
once b = cond b 1 0

not_zero : (i : ℕ) → 1 ≤ i → once (eqb 0 i) ≡ 0
not_zero i some = elim (cases_Bool (eqb 0 i)) [
  | inl t ↦ (let e = eqb-true 0 i t in absurd (omega (arith, e, some)))
  | inr f ↦ ap once f
]

times_of_slot : (i : ℕ) → 1 ≤ i → (x : Slot) → times i (number_of x) ≡ once (eqb (number_in x) i)
unfolding times
times_of_slot i some Absent = sym (not_zero i some)
times_of_slot i some Empty = sym (not_zero i some)
times_of_slot i some (Good number name) = omega arith
times_of_slot i some Bad = sym (not_zero i some)

pub times_below : (geo : Geometry) (view : View) (i d n : ℕ) → 1 ≤ i → times i (named_below geo view 0 d n) ≡ sum_below n (names_once geo view i d)
unfolding named_below sum_below times
times_below geo view i d zero some = refl
times_below geo view i d (suc s) some =
    ap (λ b. times i (named_below geo view 0 d s ++ cond b (number_of (slot geo view d s)) [])) (le-leb 0 s (omega arith))
    ∙ times-append i (named_below geo view 0 d s) (number_of (slot geo view d s))
    ∙ ap₂ (λ m n. m + n) (times_below geo view i d s some) (times_of_slot i some (slot geo view d s))

-- a number stands as often in the list of all slots as entries of the directory name it
pub times_are_entries : (geo : Geometry) (view : View) (i d : ℕ) → 1 ≤ i → times i (named_from geo view 0 d) ≡ entries_in geo view i d
times_are_entries geo view i d some = times_below geo view i d (slot_count geo) some

-- ---- how many entries there can be

one_or_none : (b : Bool) → cond b 1 0 ≤ 1
one_or_none true = omega arith
one_or_none false = omega arith

pub entries_in_few : (geo : Geometry) (view : View) (i d : ℕ) → entries_in geo view i d ≤ slot_count geo
entries_in_few geo view i d = sum-small (slot_count geo) (names_once geo view i d) (λ s. one_or_none (eqb (number_in (slot geo view d s)) i))

sum_few : (n m : ℕ) (f : ℕ → ℕ) → ((k : ℕ) → f k ≤ m) → sum_below n f ≤ n * m
unfolding sum_below
sum_few zero m f h = omega arith
sum_few (suc n) m f h = omega (arith, sum_few n m f h, h n)

chosen_few : (b : Bool) (n m : ℕ) → n ≤ m → cond b n 0 ≤ m
chosen_few true n m h = h
chosen_few false n m h = omega arith

-- 65,536 directories of at most 1,052,864 slots each: more than 32 bits can count
pub entries_few : (geo : Geometry) → IsGeometry geo → (view : View) (set : ℕ → Bool) (i : ℕ) → entries_of geo view set i < 18446744073709551615
entries_few geo ok view set i =
    let many : entries_of geo view set i ≤ inode_count geo * slot_count geo =
    sum_few (inode_count geo) (slot_count geo) (λ d. cond (set d) (entries_in geo view i d) 0) (λ d. chosen_few (set d) (entries_in geo view i d) (slot_count geo) (entries_in_few geo view i d)) in
    let inodes : geo.groups * geo.inodes ≤ 64 * 1024 = mul-le geo.groups geo.inodes 64 1024 ok.few_groups ok.few_inodes in
    let num = (numbers geo).1 in
    let slots : slot_count geo ≤ 1052864 = omega (arith, num.most, num.few) in
    omega (arith, many, mul-le (inode_count geo) (slot_count geo) 65536 1052864 (omega (arith, inodes)) slots)
