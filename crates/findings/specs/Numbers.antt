-- The findings that compare the numbers' bits with their records, in order.
use Rattle.std.specs.Prelude.{ℕ, zero, suc, Bool, not, ◌&&◌, ◌==◌, List, [], ◌∷◌, ◌++◌, if◌then◌else◌}
use Rattle.findings.specs.declared.finding.Finding.{Finding}
use Rattle.findings.specs.declared.finding.Finding.TheVariants.{LostNumber, UnmarkedInode}
use Rattle.model.specs.Layout.{Geometry, is_number}
use Rattle.model.specs.View.{View}
unfoldable pub use Rattle.model.specs.Below.{found_below}

-- looked at, marked and free
abbrev pub is_lost_number : Geometry → View → ℕ → Bool
is_lost_number geo view i = is_number geo i && view.number_marked i && (view.inode i).mode == 0

-- looked at, unmarked and not free
abbrev pub is_unmarked_number : Geometry → View → ℕ → Bool
is_unmarked_number geo view i = is_number geo i && not (view.number_marked i) && not ((view.inode i).mode == 0)

abbrev pub lost_below : Geometry → View → ℕ → List Finding
lost_below geo view n = found_below (is_lost_number geo view) LostNumber n

abbrev pub unmarked_below : Geometry → View → ℕ → List Finding
unmarked_below geo view n = found_below (is_unmarked_number geo view) UnmarkedInode n
