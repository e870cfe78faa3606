-- The value of a desk, and what a turn is.
use Rattle.std.specs.Prelude.{◌≡◌, ℕ, ◌⊎◌, List}
use Rattle.frozen.specs.Kept.{Kept}
use Rattle.fuse_wire.specs.declared.errors.Errno.TheVariants as errors
use Rattle.fuse_wire.specs.declared.numbers.NodeId.{NodeId}
use Rattle.fuse_wire.specs.declared.requests.Head.{Head}
use Rattle.fuse_wire.specs.Requests as asked
use Rattle.fuse_wire.specs.Requests.{Asked}
use Rattle.model.specs.Image.{image_view}
use Rattle.fuse_nodes.specs.Table.{Table}
use Rattle.fuse_reader.specs.declared.owner.Owner.{Owner}
use Rattle.fuse_reader.specs.declared.desk.Turned.{Turned}
use Rattle.fuse_reader.specs.declared.desk.Turned.TheVariants.{Ended, Replied, Silent}
use Rattle.fuse_reader.specs.Said.{Said, Refused, spelled}
use Rattle.fuse_reader.specs.Turns.{answer, known_after}

-- the device, what is kept of its image, whose that is, and what the kernel was told
pub record AtDesk (D : Type 0) : Type 0 where
  pub device : D
  pub kept : Kept
  pub owner : Owner
  pub nodes : Table

-- What is said to a request is what the image shows; or there is no memory, or the device failed in this turn.
pub data IsSaid (kept : Kept) (image : List (List ℕ)) (owner : Owner) (t : Table) (head : Head) (asked : Asked) (failed : Type 0) (said : Said) : Type 0 where
  IsShown : said ≡ answer kept.geometry (image_view kept.geometry image) owner t head.node asked → IsSaid kept image owner t head asked failed said
  NoMemory : said ≡ Refused errors.NoMemory → IsSaid kept image owner t head asked failed said
  Failed : failed → said ≡ Refused errors.Device → IsSaid kept image owner t head asked failed said

-- A turn: the reply is that to this request, and the kernel knows what it was told and did not forget. Where there is no memory for what it is to
-- know, it knows what it did.
pub record IsTurn (kept : Kept) (image : List (List ℕ)) (owner : Owner) (t : Table) (head : Head) (asked : Asked) (failed : Type 0) (reply : List ℕ) (new : Table) : Type 0 where
  pub said : Said
  pub says : IsSaid kept image owner t head asked failed said
  pub spells : reply ≡ spelled head.unique said
  pub nodes : (new ≡ known_after kept.geometry (image_view kept.geometry image) head.node asked t) ⊎ ((said ≡ Refused errors.NoMemory) × (new ≡ t))

-- The table after a request to which no reply could be written: as after a turn, or as before.
abbrev pub KnowsAfter : Kept → List (List ℕ) → Table → NodeId → Asked → Table → Type 0
KnowsAfter kept image t node asked new = (new ≡ known_after kept.geometry (image_view kept.geometry image) node asked t) ⊎ (new ≡ t)

-- one table becomes the other by turns, whatever was asked for
pub data ByTurns (kept : Kept) (image : List (List ℕ)) (t : Table) : Table → Type 0 where
  Same : ByTurns kept image t t
  Turn : (u v : Table) (node : NodeId) (asked : Asked) → ByTurns kept image t u → KnowsAfter kept image u node asked v → ByTurns kept image t v

-- whether a reply goes, and whether it is the last
abbrev pub turned_of : Asked → Turned
turned_of (asked.Forgotten lookups) = Silent
turned_of (asked.BatchForget forgets) = Silent
turned_of (asked.Interrupt unique) = Silent
turned_of asked.Destroy = Ended
turned_of _ = Replied
