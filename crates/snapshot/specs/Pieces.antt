-- Where the bytes of a file of a snapshot stand.
use Rattle.std.specs.Prelude.{◌≡◌, ℕ, ◌-◌, ◌*◌, Option, Some, None, min, not}
use Rattle.std.specs.Option.{option_or}
use Rattle.layout.specs.declared.refusal.Refusal.{Refusal}
use Rattle.layout.specs.declared.refusal.Refusal.TheVariants.{NotFound}
use Rattle.model.specs.Layout.{Geometry}
use Rattle.model.specs.Uses.{claim_at}
use Rattle.model.specs.View.{View}
use Rattle.machine.specs.Below.{when}
use Rattle.machine.specs.Causes.{is_used_number, not_file, past}
use Rattle.machine.specs.Standing.{image_at}
use Rattle.frozen.specs.Kept.{Kept, KeepsMetadata, frozen_view}
use Rattle.live_states.specs.Holdings.{Holdings}
use Rattle.snapshot.specs.declared.pieces.Piece.{Piece}

-- why block k of inode i is not there: the number is in no use, or a directory's, or the file ends before
abbrev pub why_no_piece : Geometry → View → ℕ → ℕ → Option Refusal
why_no_piece geo view i k = option_or (when (not (is_used_number geo view i)) NotFound) (option_or (not_file geo view i) (past geo view i k))

-- block k of file i stands here in the image that is kept, and so many of its bytes are the file's
pub record IsPieceOf (kept : Kept) (i k : ℕ) (piece : Piece) : Type 0 where
  pub there : why_no_piece kept.geometry (frozen_view kept) i k ≡ None
  pub claimed : claim_at kept.geometry (frozen_view kept) i k ≡ Some piece.block
  pub length : piece.length ≡ min (((frozen_view kept).inode i).size - 1024 * k) 1024

-- And so where snapshot s of a volume of this geometry stands, which is all metadata of its image.
pub record IsPieceOfSnapshot (geo : Geometry) (holdings : Holdings) (s i k : ℕ) (piece : Piece) : Type 0 where
  pub snapshot : Kept
  pub stands : image_at holdings.snapshots.standing s ≡ Some snapshot
  pub geometry : snapshot.geometry ≡ geo
  pub metadata : KeepsMetadata snapshot
  pub found : IsPieceOf snapshot i k piece

-- No cause is there, and yet the image has no such block: it breaks the rules.
pub record LacksPiece (kept : Kept) (i k : ℕ) : Type 0 where
  pub no_cause : why_no_piece kept.geometry (frozen_view kept) i k ≡ None
  pub unclaimed : claim_at kept.geometry (frozen_view kept) i k ≡ None
