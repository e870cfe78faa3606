-- What a turn of a desk is that is read alone.
use Rattle.std.specs.Prelude.{◌≡◌, ℕ, ◌⊎◌, List, [], ◌∷◌, ◌++◌, Some}
use Rattle.device.specs.Media.{Held}
use Rattle.device.specs.Reading.{ReadsOnly}
use Rattle.device.specs.Writes.{HasFailed}
use Rattle.frozen.specs.Kept.{IsKeptOf, Kept}
use Rattle.fuse_wire.specs.declared.requests.Head.{Head}
use Rattle.fuse_wire.specs.Requests.{Asked, decode}
use Rattle.fuse_nodes.specs.Table.{Table}
use Rattle.fuse_loop.specs.Sessions.{given_by}
use Rattle.fuse_reader.specs.declared.desk.Turned.{Turned}
use Rattle.fuse_reader.specs.declared.owner.Owner.{Owner}
use Rattle.fuse_reader.specs.Desks.{AtDesk, IsTurn, KnowsAfter, turned_of}

-- whatever became of a message: nothing is changed, and the device failed or did not
pub record Views {D : Type 0} (honest : D → Type 0) (image_of : D → List (List ℕ)) (held_of : D → Held) (failures : D → ℕ) (old new : AtDesk D) : Type 0 where
  pub kept : new.kept ≡ old.kept
  pub owner : new.owner ≡ old.owner
  pub failed : (failures new.device ≡ failures old.device) ⊎ HasFailed (failures old.device) (failures new.device)
  pub reads : ReadsOnly honest image_of held_of old.device new.device

pub record TurnsViewed {D : Type 0} (honest : D → Type 0) (image_of : D → List (List ℕ)) (held_of : D → Held) (failures : D → ℕ)
    (old : AtDesk D) (message : List ℕ) (turned : Turned) (reply : List ℕ) (new : AtDesk D) : Type 0 where
  pub turn : (head : Head) (asked : Asked) → decode message ≡ Some (head, asked) → honest new.device → IsKeptOf old.kept (image_of old.device)
      → IsTurn old.kept (image_of old.device) old.owner old.nodes head asked (HasFailed (failures old.device) (failures new.device)) reply new.nodes
  pub views : Views honest image_of held_of failures old new

-- there was no memory for a reply
pub record FailsViewed {D : Type 0} (honest : D → Type 0) (image_of : D → List (List ℕ)) (held_of : D → Held) (failures : D → ℕ) (old : AtDesk D) (message : List ℕ) (new : AtDesk D) : Type 0 where
  pub known : (head : Head) (asked : Asked) → decode message ≡ Some (head, asked) → IsKeptOf old.kept (image_of old.device)
      → KnowsAfter old.kept (image_of old.device) old.nodes head.node asked new.nodes
  pub views : Views honest image_of held_of failures old new

-- ---- a session

-- nothing of the image is changed, nor whose it is
pub record StaysViewed {D : Type 0} (honest : D → Type 0) (image_of : D → List (List ℕ)) (held_of : D → Held) (old new : AtDesk D) : Type 0 where
  pub kept : new.kept ≡ old.kept
  pub owner : new.owner ≡ old.owner
  pub reads : ReadsOnly honest image_of held_of old.device new.device

-- The message is a request, which is answered by one turn from this image, and the reply is given, unless the request asks for none. The count of
-- the device's failures goes from one number to the other.
pub record IsViewed (kept : Kept) (image : List (List ℕ)) (owner : Owner) (t : Table) (n : ℕ) (message : List ℕ) (given : List (List ℕ)) (u : Table) (m : ℕ) : Type 0 where
  pub head : Head
  pub asked : Asked
  pub reply : List ℕ
  pub read : decode message ≡ Some (head, asked)
  pub turn : IsTurn kept image owner t head asked (HasFailed n m) reply u
  pub failures : (m ≡ n) ⊎ HasFailed n m
  pub gives : given ≡ given_by (turned_of asked) reply

-- The messages were answered so one after another, the first first, which leads from one table of what the kernel was told to the other.
pub data AllViewed (kept : Kept) (image : List (List ℕ)) (owner : Owner) (t : Table) (n : ℕ) : List (List ℕ) → List (List ℕ) → Table → ℕ → Type 0 where
  NoneViewed : AllViewed kept image owner t n [] [] t n
  NextViewed : (messages replies : List (List ℕ)) (u v : Table) (m k : ℕ) (message : List ℕ) (given : List (List ℕ)) → AllViewed kept image owner t n messages replies u m
      → IsViewed kept image owner u m message given v k → AllViewed kept image owner t n (messages ++ message ∷ []) (replies ++ given) v k
