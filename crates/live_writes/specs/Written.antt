-- The updates by which a piece is written.
use Rattle.std.specs.Prelude.{ℕ, ◌+◌, ◌*◌, max, List, [], ◌∷◌, ◌++◌, length, drop, replicate}
use Rattle.model.specs.Layout.{Geometry}
use Rattle.model.specs.View.{Inode}
use Rattle.model.specs.Cells.{SetInode}
use Rattle.ordering.specs.Cuts.{Pending}
use Rattle.plans_data.specs.Append.{Holder, KeptInRecord, KeptInTable, KeptInNew, known, linked, pointed, sized}
use Rattle.plans_data.specs.Plans.{holder_of}
use Rattle.plans_data.specs.Write.{enlarged, relocated, written}
use Rattle.frozen.specs.Kept.{Kept, frozen_view}
use Rattle.live_writes.specs.declared.aiming.Place.{Place}
use Rattle.live_writes.specs.declared.aiming.Place.TheVariants.{InPlace, Behind, Elsewhere}
use Rattle.live_writes.specs.declared.aiming.Target.{Target}

-- the new bytes of a block: the piece, and behind it what was there, or zeroes in a block behind the last one
abbrev pub bytes_under : Place → List ℕ → List ℕ
bytes_under (InPlace a) before = before
bytes_under (Behind b tables) before = replicate 1024 0
bytes_under (Elsewhere a b) before = before

abbrev pub bytes_after : Place → List ℕ → List ℕ → List ℕ
bytes_after place before piece = piece ++ drop (length piece) (bytes_under place before)

-- the size that file i has then
abbrev pub grown_size : Kept → ℕ → ℕ → List ℕ → ℕ
grown_size kept i k piece = max ((frozen_view kept).inode i).size (1024 * k + length piece)

-- the blocks that are held for snapshots then
abbrev pub held_for : Place → List ℕ
held_for (InPlace a) = []
held_for (Behind b tables) = []
held_for (Elsewhere a b) = a ∷ []

-- where the pointer to a new block b at position k of file i is kept, with these new tables, the nearest first
abbrev pub holder_at : Kept → ℕ → ℕ → ℕ → List ℕ → Holder
holder_at kept i k b tables = holder_of kept.geometry (frozen_view kept) i k b tables

-- position k of inode n, with this record, gets a pointer to block b, which is filled, and the inode this size; the record is written only where it changes
abbrev pub repointed : Geometry → ℕ → Inode → ℕ → ℕ → ℕ → Holder → List Pending → List Pending
repointed geo n inode k b size (KeptInTable m x table over) q = enlarged n inode size (known b (KeptInTable m x table over)) (linked geo n k b (KeptInTable m x table over) q)
repointed geo n inode k b size KeptInRecord q = record { change = SetInode n (sized (pointed geo inode k b KeptInRecord) size); after = known b KeptInRecord } ∷ q
repointed geo n inode k b size (KeptInNew m x table up) q =
    record { change = SetInode n (sized (pointed geo inode k b (KeptInNew m x table up)) size); after = known b (KeptInNew m x table up) } ∷ linked geo n k b (KeptInNew m x table up) q

-- block k of file i gets these bytes there, and the file this size
abbrev pub updates_by : Kept → ℕ → ℕ → List ℕ → ℕ → Place → List Pending → List Pending
updates_by kept i k bytes size (InPlace a) q = written i ((frozen_view kept).inode i) a bytes size q
updates_by kept i k bytes size (Behind b tables) q = relocated kept.geometry i ((frozen_view kept).inode i) k b bytes size (holder_at kept i k b tables) q
updates_by kept i k bytes size (Elsewhere a b) q = relocated kept.geometry i ((frozen_view kept).inode i) k b bytes size (holder_at kept i k b []) q

abbrev pub updates_at : Kept → Target → List ℕ → ℕ → List Pending → List Pending
updates_at kept target bytes size q = updates_by kept target.file target.index bytes size target.place q
