-- The numbers of an image.
use Rattle.std.specs.Prelude.{◌≡◌, ℕ, Bool, not, ◌&&◌, if◌then◌else◌}
use Rattle.model.specs.Layout.{Geometry, block_count, inode_count, is_data_address, is_number}
use Rattle.model.specs.Reach.{sum_below}
use Rattle.model.specs.Uses.{is_directory_at, is_sound_at}
use Rattle.model.specs.View.{View}
use Rattle.census.specs.declared.counting.Counted.{Counted}
use Rattle.census.specs.declared.counting.Counted.TheVariants.{UsedNumbers, FreeNumbers, UsedBlocks, FreeBlocks, Files, Directories}
use Rattle.census.specs.declared.Census.{Census}
use Rattle.census.specs.Runs.{IsLongestRun}

-- whether inode i, or the block of address i, is counted
abbrev pub counts : Geometry → View → Counted → ℕ → Bool
counts geo view UsedNumbers i = is_number geo i && view.number_marked i
counts geo view FreeNumbers i = is_number geo i && not (view.number_marked i)
counts geo view UsedBlocks i = is_data_address geo i && view.block_marked i
counts geo view FreeBlocks i = is_data_address geo i && not (view.block_marked i)
counts geo view Files i = is_sound_at geo view i && not (is_directory_at geo view i)
counts geo view Directories i = is_directory_at geo view i

-- what is counted stands below this
abbrev pub bound_of : Geometry → Counted → ℕ
bound_of geo UsedNumbers = inode_count geo
bound_of geo FreeNumbers = inode_count geo
bound_of geo UsedBlocks = block_count geo
bound_of geo FreeBlocks = block_count geo
bound_of geo Files = inode_count geo
bound_of geo Directories = inode_count geo

-- how many there are
abbrev pub count_of : Geometry → View → Counted → ℕ
count_of geo view what = sum_below (bound_of geo what) (λ i. if counts geo view what i then 1 else 0)

pub record IsCensus (geo : Geometry) (view : View) (census : Census) : Type 0 where
  pub geometry : census.geometry ≡ geo
  pub numbers_used : census.numbers_used ≡ count_of geo view UsedNumbers
  pub numbers_free : census.numbers_free ≡ count_of geo view FreeNumbers
  pub blocks_used : census.blocks_used ≡ count_of geo view UsedBlocks
  pub blocks_free : census.blocks_free ≡ count_of geo view FreeBlocks
  pub files : census.files ≡ count_of geo view Files
  pub directories : census.directories ≡ count_of geo view Directories
  pub longest_free_run : IsLongestRun geo view census.longest_free_run
