-- Where a piece goes that is to be written.
use Rattle.std.specs.Prelude.{◌≡◌, ℕ, ◌+◌, ◌<◌, ◌≤◌, ◌/◌, nat_lt, List, [], ◌∷◌, length, Option, Some, None, if◌then◌else◌, IsTrue, IsFalse}
use Rattle.model.specs.Layout.{Geometry}
use Rattle.model.specs.Shape.{most_blocks, new_tables}
use Rattle.model.specs.Uses.{blocks_of, claim_at, is_sound_at}
use Rattle.machine.specs.Cells.{block_of}
use Rattle.machine.specs.Room.{IsFreeBlock, unmarked_blocks}
use Rattle.plans_data.specs.Plans.{IsChoice}
use Rattle.frozen.specs.Kept.{Kept, frozen_view}
use Rattle.live_states.specs.Holdings.{Holdings, is_kept_by}
use Rattle.live_states.specs.Planned.{Seen}
use Rattle.live_holdings.specs.Handles.{handle_at}
use Rattle.live_writes.specs.declared.aiming.Place.{Place}
use Rattle.live_writes.specs.declared.aiming.Place.TheVariants.{InPlace, Behind, Elsewhere}
use Rattle.live_writes.specs.declared.aiming.Target.{Target}

-- how many blocks file i has
abbrev pub block_count_of : Kept → ℕ → ℕ
block_count_of kept i = blocks_of ((frozen_view kept).inode i).size

-- Block k of file i goes there.
abbrev pub IsPlaced : Kept → Holdings → ℕ → ℕ → Place → Type 0
IsPlaced kept holdings i k (InPlace a) =
    (k < block_count_of kept i) × (claim_at kept.geometry (frozen_view kept) i k ≡ Some a) × IsFalse (is_kept_by holdings a)
IsPlaced kept holdings i k (Behind b tables) = (k ≡ block_count_of kept i) × IsChoice kept.geometry (frozen_view kept) k b tables
IsPlaced kept holdings i k (Elsewhere a b) =
    (k < block_count_of kept i) × (claim_at kept.geometry (frozen_view kept) i k ≡ Some a) × IsTrue (is_kept_by holdings a) × IsFreeBlock kept.geometry (frozen_view kept) b

-- how many blocks a new one at position k takes, and how many a write at position k of file i
abbrev pub blocks_behind : Geometry → ℕ → ℕ
blocks_behind geo k = 1 + length (new_tables geo k)

abbrev pub blocks_needed : Kept → Holdings → ℕ → ℕ → ℕ
blocks_needed kept holdings i k =
    if nat_lt k (block_count_of kept i)
    then (if is_kept_by holdings (block_of kept.geometry (frozen_view kept) i k) then 1 else 0)
    else blocks_behind kept.geometry (block_count_of kept i)

-- The block goes there, at a position that a file can have.
pub record Fits (kept : Kept) (holdings : Holdings) (target : Target) : Type 0 where
  pub sound : IsTrue (is_sound_at kept.geometry (frozen_view kept) target.file)
  pub room : target.index < most_blocks kept.geometry
  pub placed : IsPlaced kept holdings target.file target.index target.place

-- A piece that is written at the start of block k of the file that handle h is open on goes there, and no cause refuses it.
pub record IsAimed (kept : Kept) (holdings : Holdings) (h k : ℕ) (piece : List ℕ) (target : Target) : Type 0 where
  pub opened : handle_at holdings h ≡ Some target.file
  pub index : target.index ≡ k
  pub some : 1 ≤ length piece
  pub few : length piece ≤ 1024
  pub near : k ≤ ((frozen_view kept).inode target.file).size / 1024
  pub fits : Fits kept holdings target
  pub enough : blocks_needed kept holdings target.file target.index ≤ unmarked_blocks kept.geometry (frozen_view kept)

-- the block whose bytes the piece is put over
abbrev pub seen_at : Place → Option ℕ
seen_at (InPlace a) = Some a
seen_at (Behind b tables) = None
seen_at (Elsewhere a b) = Some a

-- and that it has these
abbrev pub seen_so : Option ℕ → List ℕ → List Seen
seen_so None before = []
seen_so (Some a) before = record { address = a; bytes = before } ∷ []

abbrev pub seen_before : Target → List ℕ → List Seen
seen_before target before = seen_so (seen_at target.place) before
