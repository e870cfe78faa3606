-- What a loss of power shows of what users saw at a sync.
use Rattle.std.specs.Prelude.{◌≡◌, ℕ, List, [], ◌⊎◌, map}
use Rattle.model.specs.Layout.{Geometry}
use Rattle.model.specs.Image.{image_view}
use Rattle.model.specs.View.{View}
use Rattle.model.specs.Cells.{SetBytes, SetInode}
use Rattle.device.specs.Media.{MayBeLeft, Medium}
use Rattle.ordering.specs.ClosedSets.{pending_at}
use Rattle.machine.specs.Looks.{looks}
use Rattle.queue_model.specs.Files.{Written, IsFileBlock, file_at, updates}
use Rattle.snapshot.specs.Durable.{LooksAsIn, LeavesOwn, Piece, Put, PutAlong}

-- Each record, with its size, is as it was in a view, or as one of these updates made it.
abbrev pub RecordsAreKnown : View → List Written → View → Type 0
RecordsAreKnown view written image = (n : ℕ) → (image.inode n ≡ view.inode n) ⊎ ((i : ℕ) × ((pending_at (updates written) i).change ≡ SetInode n (image.inode n)))

-- Each block of a file has the bytes that this file had there in a view, or those that one of these updates gave it in the name of this file.
abbrev pub BlocksAreOwn : Geometry → View → List Written → View → Type 0
BlocksAreOwn geo view written image = (n k b : ℕ) → IsFileBlock geo image n k b
    → ((image.bytes b ≡ view.bytes b) × IsFileBlock geo view n k b) ⊎ ((i : ℕ) × ((pending_at (updates written) i).change ≡ SetBytes b (image.bytes b)) × (file_at written i ≡ n))

-- So it is in whatever a loss of power leaves of a medium.
abbrev pub LeavesKnown : Geometry → View → List Written → Medium → Type 0
LeavesKnown geo view written m = (image : List (List ℕ)) → MayBeLeft m image → RecordsAreKnown view written (image_view geo image) × BlocksAreOwn geo view written (image_view geo image)

-- Each number has the mode, the size and the attributes that it had in a view, or those which users saw of it in one of these.
abbrev pub LooksAreKnown : View → List View → View → Type 0
LooksAreKnown view views image = (n : ℕ) → (looks (image.inode n) ≡ looks (view.inode n)) ⊎ LooksAsIn views n (looks (image.inode n))

-- So it is in an image.
abbrev pub ShowsLooks : Geometry → View → List View → List (List ℕ) → Type 0
ShowsLooks geo view views image = LooksAreKnown view views (image_view geo image)

-- So it is in whatever a loss of power leaves of a medium.
abbrev pub LeavesLooks : Geometry → View → List View → Medium → Type 0
LeavesLooks geo view views m = (image : List (List ℕ)) → MayBeLeft m image → ShowsLooks geo view views image

-- Whatever a loss of power leaves of a medium has in each block of a file the file's own bytes: zeroes, those that it had there in a view, or those of one of these pieces, which was written there into this very file, as this number was then.
pub record LeavesOwnBytes (geo : Geometry) (view : View) (written : List Written) (asked : List Piece) (m : Medium) : Type 0 where
  pub puts : List Put
  pub pieces : map (λ (put : Put). put.piece) puts ≡ asked
  pub along : PutAlong view [] written puts
  pub leaves : LeavesOwn geo view written puts m
