-- How counts grow, and that in the end they are the entries.
use Rattle.std.proofs.Common.{◌≡◌, ◌<◌, ◌≤◌, ◌+◌, ◌/◌, ◌%◌, ℕ, suc, min, Bool, true, false, ◌&&◌, eqb, List, [], ◌∷◌, ◌++◌, length, take, get_or, inl, inr, Contains, IsTrue, refl, sym, ap, ◌∙◌, subst, arith, zero-add}
use Rattle.std.specs.List.{flat_map}
use Rattle.std.proofs.lemmas.Bool.{and_from, and_parts, cases_Bool}
use Rattle.std.proofs.lemmas.Cmp.{nat_cmp_total}
use Rattle.std.proofs.lemmas.Map.Lookups.{exact_unsigned}
use Rattle.std.proofs.lemmas.Map.Views.{btree_set_contains_iff}
use Rattle.std.proofs.lemmas.Grind.{flat_map-append}
use Rattle.std.proofs.lemmas.List.{append-nil, take_all}
use Rattle.std.proofs.Math.Seq.{take-suc}
use Rattle.model.specs.Layout.{Geometry, IsGeometry, inode_count, is_number}
use Rattle.model.specs.Named.{times}
use Rattle.model.specs.Reach.{IsReachableSet, entries_of}
use Rattle.model.specs.Reached.{AreReached}
use Rattle.model.specs.Uses.{is_directory_at}
use Rattle.model.specs.View.{View}
use Rattle.model.proofs.Counting.{entries_few, times-append}
use Rattle.model.proofs.ReachLemmas.{directory_reached}
use Rattle.model.proofs.SlotLemmas.{directory_number, reachable_directory}
use Rattle.directories.specs.Pieces.{AreOfPieces, between}
use Rattle.directories.proofs.PieceLemmas.{every_number}
use Rattle.sets.specs.Members.{is_among}
use Rattle.refcounts.specs.Counts.{most, count_at, AreCounts, AreEntries, Counted, CountsOne}
use Rattle.refcounts.specs.Parts.{IsPart, is_read, numbers_at}
use Rattle.refcounts.proofs.PartLemmas.{once, times_next}
use Rattle.refcounts.proofs.SetLemmas.{all_named, read_between, same_sets}

capped : (o t x m n : ℕ) → m ≡ min (o + t) most → n ≡ min (m + x) most → n ≡ min (o + (t + x)) most
capped o t x m n e f = grind arith

-- nothing counted yet
pub counted_none : (geo : Geometry) (g : ℕ) (old : List ℕ) → Counted geo g [] old old
unfolding times
counted_none geo g old fits i here = let h = fits (i % geo.inodes) in omega (arith, h)

pub counted_next : (geo : Geometry) (g : ℕ) (numbers old mid new : List ℕ) (k : ℕ) → k < length numbers → Counted geo g (take k numbers) old mid
    → CountsOne geo g (get_or numbers k 0) mid new → Counted geo g (take (k + 1) numbers) old new
counted_next geo g numbers old mid new k low before grown fits i here =
    capped (count_at old (i % geo.inodes)) (times i (take k numbers)) (once (eqb (get_or numbers k 0) i)) (count_at mid (i % geo.inodes)) (count_at new (i % geo.inodes))
    (before fits i here) (grown i here)
    ∙ ap (λ t. min (count_at old (i % geo.inodes) + t) most) (sym (times_next i k numbers low))

-- ---- the lists of one part after another
module _ (geo : Geometry) (g : ℕ) where
  -- Each inode of the group has as many as it stands in the lists of these parts.
  abbrev pub AreOf : List (List (List ℕ)) → List ℕ → Type 0
  AreOf parts counts = (i : ℕ) → i / geo.inodes ≡ g → count_at counts (i % geo.inodes) ≡ min (times i (flat_map (λ p. numbers_at p g) parts)) most

  pub of_none : (counts : List ℕ) → ((k : ℕ) → count_at counts k ≡ 0) → AreOf [] counts
  unfolding times
  of_none counts none i here = none (i % geo.inodes)

  pub of_more : (parts more : List (List (List ℕ))) (old new numbers : List ℕ) → AreCounts old → Counted geo g numbers old new
      → ((i : ℕ) → times i (flat_map (λ p. numbers_at p g) more) ≡ times i (flat_map (λ p. numbers_at p g) parts) + times i numbers) → AreOf parts old → AreOf more new
  of_more parts more old new numbers fits counted grown before i here =
      capped 0 (times i (flat_map (λ p. numbers_at p g) parts)) (times i numbers) (count_at old (i % geo.inodes)) (count_at new (i % geo.inodes))
      (before i here ∙ ap (λ t. min t most) (sym (zero-add (times i (flat_map (λ p. numbers_at p g) parts))))) (counted fits i here)
      ∙ ap (λ t. min t most) (zero-add (times i (flat_map (λ p. numbers_at p g) parts) + times i numbers) ∙ sym (grown i))

-- the list of one part more
pub next_list : (f : List (List ℕ) → List ℕ) (parts : List (List (List ℕ))) (k : ℕ) (part : List (List ℕ)) → k < length parts → part ≡ get_or parts k part → (i : ℕ)
    → times i (flat_map f (take (k + 1) parts)) ≡ times i (flat_map f (take k parts)) + times i (f part)
next_list f parts k part low at i =
    ap (λ n. times i (flat_map f (take n parts))) next ∙ ap (λ xs. times i (flat_map f xs)) (take-suc parts k part low)
    ∙ ap (times i) (flat_map-append f (take k parts) (get_or parts k part ∷ [])) ∙ times-append i (flat_map f (take k parts)) (f (get_or parts k part) ++ [])
    ∙ ap (λ xs. times i (flat_map f (take k parts)) + times i xs) (append-nil (f (get_or parts k part)) ∙ ap f (sym at))
  where
    next : k + 1 ≡ suc k
    next = omega arith

pub all_lists : (geo : Geometry) (g k : ℕ) (parts : List (List (List ℕ))) (counts : List ℕ) → length parts ≤ k → AreOf geo g (take k parts) counts → AreOf geo g parts counts
all_lists geo g k parts counts past of = subst (λ ps. AreOf geo g ps counts) (take_all k parts past) of

module _ (numbers : List ℕ) where
  pub among : (i : ℕ) → Contains numbers i → is_among numbers i ≡ true
  among i c = (btree_set_contains_iff nat_cmp_total exact_unsigned (record { keys = numbers }) i).1 c

  pub there : (i : ℕ) → is_among numbers i ≡ true → Contains numbers i
  there i t = (btree_set_contains_iff nat_cmp_total exact_unsigned (record { keys = numbers }) i).0 t

-- ---- the parts of all groups
module _ (geo : Geometry) (ok : IsGeometry geo) (view : View) (reached : List ℕ) (are : AreReached geo view reached) where
  reachable_set : IsReachableSet geo view (is_read geo view reached)
  reachable_set d = (
    (λ t. let parts = and_parts (is_among reached d) (is_directory_at geo view d) t in directory_reached geo view d ((are.exactly d).0 (there reached d parts.0)) parts.1),
    (λ r. and_from (is_among reached d) (is_directory_at geo view d) (among reached d ((are.exactly d).1 (inl r))) (reachable_directory geo view d r)),
  )

  -- every directory that is read has a number of the volume
  in_volume : (d : ℕ) → read_between geo view reached 0 (inode_count geo) d ≡ is_read geo view reached d
  in_volume d = elim (cases_Bool (is_read geo view reached d)) [
    | inl t ↦ ap (λ b. b && is_read geo view reached d) (every_number geo (inode_count geo) refl d (directory_number geo view d (and_parts (is_among reached d) (is_directory_at geo view d) t).1))
    | inr f ↦ last_no (between 0 (inode_count geo) d) (is_read geo view reached d) f
  ]
    where
      last_no : (p r : Bool) → r ≡ false → (p && r) ≡ r
      last_no true r f = refl
      last_no false r f = sym f

  pub are_entries : (parts : List (List (List ℕ))) (g : ℕ) (counts : List ℕ) → AreOfPieces (IsPart geo view reached) (inode_count geo) parts → length counts ≡ geo.inodes → AreOf geo g parts counts
      → AreEntries geo view g counts
  are_entries parts g counts each places of = record {
    places = places;
    counted = λ i number here. (
      is_read geo view reached,
      reachable_set,
      room (times i (flat_map (λ p. numbers_at p g) parts)) (entries_of geo view (is_read geo view reached) i) (count_at counts (i % geo.inodes))
          (subst (λ n. times i (flat_map (λ p. numbers_at p n) parts) ≡ entries_of geo view (is_read geo view reached) i) here (all i number))
          (entries_few geo ok view (is_read geo view reached) i) (of i here),
    );
  }
    where
      all : (i : ℕ) → IsTrue (is_number geo i) → times i (flat_map (λ p. numbers_at p (i / geo.inodes)) parts) ≡ entries_of geo view (is_read geo view reached) i
      all i number =
          all_named geo view reached i number each.pieces parts 0 (inode_count geo) each.cut each.count each.each
          ∙ same_sets geo view i (read_between geo view reached 0 (inode_count geo)) (is_read geo view reached) (λ d low. in_volume d)

      room : (s t c : ℕ) → s ≡ t → t < 18446744073709551615 → c ≡ min s most → c ≡ t
      room s t c e low f = grind arith
