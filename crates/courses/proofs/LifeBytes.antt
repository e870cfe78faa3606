-- Which pieces the plans of a life write, and what they leave behind them.
use Rattle.std.proofs.Common.{◌≡◌, ℕ, Bool, List, ◌++◌, ◌⊎◌, length, drop, replicate}
use Rattle.model.specs.Layout.{Geometry}
use Rattle.model.specs.View.{View}
use Rattle.ordering.specs.Cuts.{Pending, users_view}
use Rattle.machine.specs.State.{State}
use Rattle.machine.specs.Cells.{block_of}
use Rattle.queue_model.specs.Files.{Written, generation}
use Rattle.courses.specs.Plans.{IsPlan, WritesInPlace, WritesAppended, WritesMoved}
use Rattle.courses.specs.Life.{Life, Begins, Carries, Puts, Releases, Wrote}

-- The plan writes this piece at position k of file n.
abbrev pub IsWriteOf : {geo : Geometry} {disk : View} {q : List Pending} {old : State} {safe : ℕ → Bool} {file : ℕ} {p : List Pending} {held' safe' : ℕ → Bool} → ℕ → ℕ → List ℕ → IsPlan geo disk q old safe file p held' safe' → Type 0
IsWriteOf n k piece (WritesInPlace m j written bytes may) = (m ≡ n) × (j ≡ k) × (written ≡ piece)
IsWriteOf n k piece (WritesAppended m j b written bytes holder may) = (m ≡ n) × (j ≡ k) × (written ≡ piece)
IsWriteOf n k piece (WritesMoved m j b written bytes holder may) = (m ≡ n) × (j ≡ k) × (written ≡ piece)
IsWriteOf n k piece _ = ⊥

-- If it writes one, it leaves what stands behind it in the file's block, or zeroes in a new one.
abbrev pub LeavesBehind : {geo : Geometry} {disk : View} {q : List Pending} {old : State} {safe : ℕ → Bool} {file : ℕ} {p : List Pending} {held' safe' : ℕ → Bool} → IsPlan geo disk q old safe file p held' safe' → Type 0
LeavesBehind {geo = geo} {disk = disk} {q = q} (WritesInPlace n k piece bytes may) = bytes ≡ piece ++ drop (length piece) ((users_view disk q).bytes (block_of geo (users_view disk q) n k))
LeavesBehind (WritesAppended n k b piece bytes holder may) = bytes ≡ piece ++ drop (length piece) (replicate 1024 0)
LeavesBehind {geo = geo} {disk = disk} {q = q} (WritesMoved n k b piece bytes holder may) = bytes ≡ piece ++ drop (length piece) ((users_view disk q).bytes (block_of geo (users_view disk q) n k))
LeavesBehind _ = Unit {0}

-- So does each plan on the way.
abbrev pub AllLeave : {geo : Geometry} {disk0 : View} {q0 : List Pending} {held0 safe0 : ℕ → Bool} {disk : View} {q : List Pending} {held safe : ℕ → Bool} {images : List View} → Life geo disk0 q0 held0 safe0 disk q held safe images → Type 0
AllLeave Begins = Unit {0}
AllLeave (Carries old file p held' safe' life e plan) = AllLeave life × LeavesBehind plan
AllLeave (Puts cut life closed) = AllLeave life
AllLeave (Releases old held' blocks life e may) = AllLeave life

-- A plan on the way wrote this piece at position k of file n, of this generation.
abbrev pub WasPut : {geo : Geometry} {disk0 : View} {q0 : List Pending} {held0 safe0 : ℕ → Bool} {disk : View} {q : List Pending} {held safe : ℕ → Bool} {images : List View}
    → (mounted : View) (h h' : List Written) (n g k : ℕ) (piece : List ℕ) (life : Life geo disk0 q0 held0 safe0 disk q held safe images) → Wrote mounted h h' life → Type 0
WasPut mounted h h' n g k piece Begins wrote = ⊥
WasPut mounted h h' n g k piece (Carries old file p held' safe' life e plan) wrote =
    WasPut mounted h wrote.0 n g k piece life wrote.1 ⊎ (IsWriteOf n k piece plan × (generation mounted wrote.0 n ≡ g))
WasPut mounted h h' n g k piece (Puts cut life closed) wrote = WasPut mounted h h' n g k piece life wrote
WasPut mounted h h' n g k piece (Releases old held' blocks life e may) wrote = WasPut mounted h wrote.0 n g k piece life wrote.1
