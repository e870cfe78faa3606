-- What a sync does to a queue and a device, whether it comes to its end or not.
use Rattle.std.specs.Prelude.{◌≡◌, ℕ, Bool, List, [], ◌∷◌, ◌++◌, map, reverse}
use Rattle.std.specs.List.{All}
use Rattle.model.specs.Layout.{Geometry}
use Rattle.model.specs.Image.{IsImage, image_view}
use Rattle.model.specs.View.{View}
use Rattle.ordering.specs.Cuts.{Cell, Pending, IsClosed, seen, rest, joined}
use Rattle.queue_model.specs.Files.{updates}
use Rattle.queue_model.specs.History.{History}
use Rattle.queue_model.specs.Blocks.{home_of}
use Rattle.queue_model.specs.Flush.{ready}
use Rattle.queue_model.specs.Sync.{Flushes, Writes}
use Rattle.device.specs.Media.{Medium, Held, images_held}
use Rattle.softdep.specs.Queued.{Queued, unsynced_of, cut_of, pending_of}
use Rattle.softdep.specs.OnMedium.{IsOnMedium}

-- nothing is issued, a closed cut of what was pending is written too, and a closed cut of what was not durable is durable too
pub record HasPut (old new : Queued) : Type 0 where
  pub geometry : new.geometry ≡ old.geometry
  pub written : new.written ≡ old.written
  pub put : List Bool
  pub closed : IsClosed (pending_of old) put
  pub cut : cut_of new ≡ joined (updates old.written) (cut_of old) put
  pub synced : List Bool
  pub synced_closed : IsClosed (unsynced_of old) synced
  pub durable : new.durable ≡ joined (updates old.written) old.durable synced

-- The images that a device held since, the oldest first, are a history of what was pending: each is that of a closed cut, the cuts grow, and the device holds the last one's.
pub record IsHistory (geo : Geometry) (image : List (List ℕ)) (held : Held) (q : List Pending) (image' : List (List ℕ)) (held' : Held) (q' : List Pending) : Type 0 where
  pub cut : List Bool
  pub more : List (List (List ℕ))
  pub history : History (image_view geo image) q [] cut (reverse (map (image_view geo) more))
  pub held_now : images_held held' ≡ images_held held ++ more
  pub device : image_view geo image' ≡ seen (image_view geo image) q cut
  pub pending : q' ≡ rest q cut

-- The device was written block after block, each time with a closed cut of what was pending of the block, and held no other images. Where it held an image of the volume before, it held such images since.
pub record AreWrites (geo : Geometry) (image : List (List ℕ)) (held : Held) (q : List Pending) (image' : List (List ℕ)) (held' : Held) (q' : List Pending) : Type 0 where
  pub blocks : List ℕ
  pub more : List (List (List ℕ))
  pub writes : Writes (home_of geo) (image_view geo image) q blocks (map (image_view geo) more) (image_view geo image') q'
  pub held_now : images_held held' ≡ images_held held ++ more
  pub framed : IsImage geo image → IsImage geo image' × All (IsImage geo) more

-- what a device holds after the flush of each of these blocks, the first first
abbrev pub images_of : (Cell → ℕ) → View → List Pending → List ℕ → List View
images_of home disk q [] = []
images_of home disk q (a ∷ blocks) = seen disk q (ready home a q) ∷ images_of home (seen disk q (ready home a q)) (rest q (ready home a q)) blocks

-- The device was flushed block after block, each the least then that had a ready update, and held no other images. Where it held an image of the volume before, it held such images since.
pub record AreFlushes (geo : Geometry) (image : List (List ℕ)) (held : Held) (q : List Pending) (image' : List (List ℕ)) (held' : Held) (q' : List Pending) : Type 0 where
  pub blocks : List ℕ
  pub flushes : Flushes (home_of geo) (image_view geo image) q blocks (image_view geo image') q'
  pub more : List (List (List ℕ))
  pub held_now : images_held held' ≡ images_held held ++ more
  pub images : map (image_view geo) more ≡ images_of (home_of geo) (image_view geo image) q blocks
  pub framed : IsImage geo image → IsImage geo image' × All (IsImage geo) more

-- a medium of a queue that was issued nothing since, and of whose updates closed cuts were written and are durable too
pub record IsMediumOf (mounted : View) (old : Queued) (m : Medium) : Type 0 where
  pub queue : Queued
  pub put : HasPut old queue
  pub on : IsOnMedium mounted queue m

-- the media that a device had since, one after each write, are such
pub record HasHeld (mounted : View) (old : Queued) (held held' : Held) : Type 0 where
  pub more : List Medium
  pub media : held'.media ≡ held.media ++ more
  pub each : All (IsMediumOf mounted old) more
