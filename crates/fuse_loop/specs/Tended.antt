-- What a turn of a desk is with writes.
use Rattle.std.specs.Prelude.{◌≡◌, ℕ, List, Ok, Some}
use Rattle.device.specs.Media.{Held}
use Rattle.fuse_wire.specs.declared.requests.Head.{Head}
use Rattle.fuse_wire.specs.Requests.{Asked, decode}
use Rattle.fuse_writer.specs.Answers.{IsNoted, IsTurn}
use Rattle.fuse_writer.specs.Desks.{AtDesk, begun, ended}
use Rattle.fuse_writer.specs.Turns.{GoesBy}
use Rattle.fuse_reader.specs.declared.desk.Turned.{Turned}

-- Whatever became of a message: the calls that are told led from one volume to the other, and nothing else was done to it.
pub record Tends {D : Type 0} (honest : D → Type 0) (held_of : D → Held) (image_of : D → List (List ℕ)) (old new : AtDesk D) : Type 0 where
  pub goes : GoesBy honest held_of image_of old.volume new.calls new.volume
  pub noted : IsNoted old.session new.session

pub record TurnsTended {D : Type 0} (honest : D → Type 0) (held_of : D → Held) (image_of : D → List (List ℕ))
    (old : AtDesk D) (message : List ℕ) (turned : Turned) (reply : List ℕ) (new : AtDesk D) : Type 0 where
  pub tends : Tends honest held_of image_of old new
  pub turn : (head : Head) (asked : Asked) → decode message ≡ Some (head, asked)
      → IsTurn {T = Turned} {E = Unit {0}} head asked (begun old) old.session (Ok turned) reply (ended new) new.session

-- The same where there was no memory for a reply.
abbrev pub FailsTended : {D : Type 0} → (D → Type 0) → (D → Held) → (D → List (List ℕ)) → AtDesk D → List ℕ → AtDesk D → Type 0
FailsTended honest held_of image_of old message new = Tends honest held_of image_of old new
