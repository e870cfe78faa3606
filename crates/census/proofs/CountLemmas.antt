-- Counts of what passes a test, and that views with the same metadata have the same.
use Rattle.std.proofs.Common.{◌≡◌, ◌+◌, ℕ, suc, Bool, true, false, not, ◌&&◌, cond, refl, sym, ap, ap₂, ◌∙◌, arith}
use Rattle.model.specs.Layout.{Geometry, is_data_address, is_number}
use Rattle.model.specs.Metadata.{SameMetadata}
use Rattle.model.specs.Reach.{sum_below}
use Rattle.model.specs.View.{View}
use Rattle.model.proofs.Alike.{same_and}
use Rattle.model.proofs.Same.{SameFacts, same_facts}
use Rattle.model.proofs.Sums.{sum-same}
use Rattle.machine.specs.Room.{IsFreeBlock}
use Rattle.census.specs.Census.{IsCensus, bound_of, count_of, counts}
use Rattle.census.specs.Runs.{IsLongestRun}
use Rattle.census.specs.declared.counting.Counted.{Counted}
use Rattle.census.specs.declared.counting.Counted.TheVariants.{UsedNumbers, FreeNumbers, UsedBlocks, FreeBlocks, Files, Directories}
use Rattle.census.specs.declared.Census.{Census}

pub sum_next : (n : ℕ) (f : ℕ → ℕ) → sum_below (n + 1) f ≡ sum_below n f + f n
unfolding sum_below
sum_next n f = let e : n + 1 ≡ suc n = omega arith in ap (λ m. sum_below m f) e

pub sum_zero : (f : ℕ → ℕ) → sum_below 0 f ≡ 0
unfolding sum_below
sum_zero f = refl

abbrev pub once : (ℕ → Bool) → ℕ → ℕ
once p k = cond (p k) 1 0

pub counted_next : (p : ℕ → Bool) (n m : ℕ) → p n ≡ true → m ≡ sum_below n (once p) → m + 1 ≡ sum_below (n + 1) (once p)
counted_next p n m is before = let here : once p n ≡ 1 = ap (λ b. cond b 1 0) is in omega (arith, before, here, sum_next n (once p))

pub counted_same : (p : ℕ → Bool) (n m : ℕ) → p n ≡ false → m ≡ sum_below n (once p) → m ≡ sum_below (n + 1) (once p)
counted_same p n m is before = let here : once p n ≡ 0 = ap (λ b. cond b 1 0) is in omega (arith, before, here, sum_next n (once p))

-- ---- the same metadata
module _ (geo : Geometry) (v w : View) (same : SameMetadata geo v w) where
  facts : SameFacts geo v w
  facts = same_facts geo v w same

  same_counts : (what : Counted) (i : ℕ) → counts geo v what i ≡ counts geo w what i
  same_counts UsedNumbers i = same_and (is_number geo i) (v.number_marked i) (w.number_marked i) (same.number_marked i)
  same_counts FreeNumbers i = same_and (is_number geo i) (not (v.number_marked i)) (not (w.number_marked i)) (λ n. ap not (same.number_marked i n))
  same_counts UsedBlocks i = same_and (is_data_address geo i) (v.block_marked i) (w.block_marked i) (same.block_marked i)
  same_counts FreeBlocks i = same_and (is_data_address geo i) (not (v.block_marked i)) (not (w.block_marked i)) (λ n. ap not (same.block_marked i n))
  same_counts Files i = ap₂ (λ a b. a && not b) (facts.sound_at i) (facts.directory_at i)
  same_counts Directories i = facts.directory_at i

  pub same_count : (what : Counted) → count_of geo v what ≡ count_of geo w what
  same_count what = sum-same (bound_of geo what) (once (counts geo v what)) (once (counts geo w what)) (λ k low. ap (λ b. cond b 1 0) (same_counts what k))

  there : (a : ℕ) → IsFreeBlock geo v a → IsFreeBlock geo w a
  there a free = record { address = free.address; unmarked = sym (same.block_marked a free.address) ∙ free.unmarked }

  here : (a : ℕ) → IsFreeBlock geo w a → IsFreeBlock geo v a
  here a free = record { address = free.address; unmarked = same.block_marked a free.address ∙ free.unmarked }

  same_run : (n : ℕ) → IsLongestRun geo v n → IsLongestRun geo w n
  same_run n is = record {
    first = is.first;
    free = λ k low. there (is.first + k) (is.free k low);
    most = λ a m run. is.most a m (λ k low. here (a + k) (run k low));
  }

  pub same_census : (census : Census) → IsCensus geo v census → IsCensus geo w census
  same_census census is = record {
    geometry = is.geometry;
    numbers_used = is.numbers_used ∙ same_count UsedNumbers;
    numbers_free = is.numbers_free ∙ same_count FreeNumbers;
    blocks_used = is.blocks_used ∙ same_count UsedBlocks;
    blocks_free = is.blocks_free ∙ same_count FreeBlocks;
    files = is.files ∙ same_count Files;
    directories = is.directories ∙ same_count Directories;
    longest_free_run = same_run census.longest_free_run is.longest_free_run;
  }
