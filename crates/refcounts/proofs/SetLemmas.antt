-- Entries in sets of directories: none, one directory more, and the directories of one piece after another.
use Rattle.std.proofs.Common.{◌≡◌, ◌<◌, ◌≤◌, ◌+◌, ◌/◌, ℕ, zero, suc, Bool, false, cond, ◌&&◌, List, [], ◌∷◌, length, Some, slice_get, refl, sym, ap, ap₂, ◌∙◌, arith, IsTrue}
use Rattle.std.specs.List.{flat_map}
use Rattle.std.proofs.lemmas.Bool.Decides.{nat_tests}
use Rattle.model.specs.Layout.{Geometry, inode_count, is_number}
use Rattle.model.specs.Named.{times}
use Rattle.model.specs.Reach.{entries_in, entries_of, sum_below}
use Rattle.model.specs.View.{View}
use Rattle.model.proofs.Counting.{times-append}
use Rattle.model.proofs.Sums.{sum-changed, sum-none, sum-same}
use Rattle.directories.specs.declared.cutting.Piece.{Piece}
use Rattle.directories.specs.Pieces.{AreCut, between, in_piece}
use Rattle.directories.proofs.PieceLemmas.{cut_low}
use Rattle.refcounts.specs.Parts.{IsPart, is_read, numbers_at}

sum-both : (n : ℕ) (f g : ℕ → ℕ) → sum_below n (λ k. f k + g k) ≡ sum_below n f + sum_below n g
unfolding sum_below
sum-both zero f g = refl
sum-both (suc n) f g = let e = sum-both n f g in omega (arith, e)

module _ (geo : Geometry) (view : View) (i : ℕ) where
  abbrev Term : (ℕ → Bool) → ℕ → ℕ
  Term set d = cond (set d) (entries_in geo view i d) 0

  pub same_sets : (s t : ℕ → Bool) → ((d : ℕ) → d < inode_count geo → s d ≡ t d) → entries_of geo view s i ≡ entries_of geo view t i
  same_sets s t same = sum-same (inode_count geo) (Term s) (Term t) (λ d low. ap (λ b. cond b (entries_in geo view i d) 0) (same d low))

  pub no_set : (s : ℕ → Bool) → ((d : ℕ) → d < inode_count geo → s d ≡ false) → entries_of geo view s i ≡ 0
  no_set s none = sum-none (inode_count geo) (Term s) (λ d low. ap (λ b. cond b (entries_in geo view i d) 0) (none d low))

  -- one directory more
  pub one_more : (s t : ℕ → Bool) (d : ℕ) → d < inode_count geo → s d ≡ false → ((e : ℕ) → (e ≡ d → ⊥) → s e ≡ t e)
      → entries_of geo view t i ≡ entries_of geo view s i + cond (t d) (entries_in geo view i d) 0
  one_more s t d low none same =
      let changed = sum-changed (inode_count geo) (Term s) (Term t) d low (λ e _ differs. ap (λ b. cond b (entries_in geo view i e) 0) (same e differs)) in
      let zero_at : Term s d ≡ 0 = ap (λ b. cond b (entries_in geo view i d) 0) none in
      omega (arith, changed, zero_at)

  -- a set that two make up
  two_sets : (s t u : ℕ → Bool) → ((d : ℕ) → d < inode_count geo → Term u d ≡ Term s d + Term t d) → entries_of geo view u i ≡ entries_of geo view s i + entries_of geo view t i
  two_sets s t u parts = sum-same (inode_count geo) (Term u) (λ d. Term s d + Term t d) parts ∙ sum-both (inode_count geo) (Term s) (Term t)

split_at : (from first mid past x e : ℕ) (r : Bool) → first ≡ from → from ≤ mid → mid ≤ past
    → cond (between from past x && r) e 0 ≡ cond (between first mid x && r) e 0 + cond (between mid past x && r) e 0
split_at from first mid past x e r same low high = grind (arith, nat_tests)

-- the directories from this number on and below another that are read
abbrev pub read_between : Geometry → View → List ℕ → ℕ → ℕ → ℕ → Bool
read_between geo view reached from past d = between from past d && is_read geo view reached d

module _ (geo : Geometry) (view : View) (reached : List ℕ) (i : ℕ) (number : IsTrue (is_number geo i)) where
  abbrev From : ℕ → ℕ → ℕ → Bool
  From = read_between geo view reached

  pub all_named : (pieces : List Piece) (parts : List (List (List ℕ))) (from past : ℕ) → AreCut from pieces past → length parts ≡ length pieces
      → ((k : ℕ) (piece : Piece) (part : List (List ℕ)) → slice_get pieces k ≡ Some piece → slice_get parts k ≡ Some part → IsPart geo view reached (in_piece piece) part)
      → times i (flat_map (λ p. numbers_at p (i / geo.inodes)) parts) ≡ entries_of geo view (From from past) i
  unfolding times
  all_named [] [] from past cut count each = sym (no_set geo view i (From from past) (λ d low. none from past d (is_read geo view reached d) cut))
    where
      none : (from past x : ℕ) (r : Bool) → from ≡ past → (between from past x && r) ≡ false
      none from past x r same = grind (arith, nat_tests)
  all_named [] (p ∷ ps) from past cut count each = absurd (omega (arith, count))
  all_named (q ∷ qs) [] from past cut count each = absurd (omega (arith, count))
  all_named (q ∷ qs) (p ∷ ps) from past cut count each =
      times-append i (numbers_at p (i / geo.inodes)) (flat_map (λ r. numbers_at r (i / geo.inodes)) ps)
      ∙ ap₂ (λ a b. a + b) (each 0 q p refl refl i number) (all_named qs ps q.past past cut.2 (omega (arith, count)) (λ k piece part a b. each (suc k) piece part a b))
      ∙ sym (two_sets geo view i (λ d. in_piece q d && is_read geo view reached d) (From q.past past) (From from past)
      (λ d low. split_at from q.first q.past past d (entries_in geo view i d) (is_read geo view reached d) cut.0 cut.1 (cut_low q.past qs past cut.2)))
