-- Turns of a desk with writes.
use Rattle.std.proofs.Common.{◌≡◌, ℕ, List, Some, Result, Ok, Err, IfOk, OnErr, subst}
use Rattle.attributes.specs.declared.Time.{Time}
use Rattle.device.specs.Media.{Held}
use Rattle.fuse_wire.specs.declared.requests.Head.{Head}
use Rattle.fuse_wire.specs.Requests.{Asked, decode}
use Rattle.fuse_loop.specs.Tended.{Tends, TurnsTended}
use Rattle.fuse_writer.specs.Answers.{IsNoted, IsTurn}
use Rattle.fuse_writer.specs.Desks.{AtDesk, at_time, begun, ended}
use Rattle.fuse_writer.specs.Turns.{GoesBy}
use Rattle.fuse_reader.specs.declared.desk.Turned.{Turned}

-- what a turn's clauses tell where it was taken
pub turns_tended : {D E : Type 0} (honest : D → Type 0) (held_of : D → Held) (image_of : D → List (List ℕ)) (old new : AtDesk D) (message reply : List ℕ) (outcome : Result Turned E)
    → Tends honest held_of image_of old new
    → ((head : Head) (asked : Asked) → decode message ≡ Some (head, asked) → IsTurn head asked (begun old) old.session outcome reply (ended new) new.session)
    → IfOk outcome (λ turned. TurnsTended honest held_of image_of old message turned reply new)
turns_tended honest held_of image_of old new message reply (Ok turned) tends turn = record {
  tends = tends;
  turn = λ head asked e. record { said = (turn head asked e).said; comes = (turn head asked e).comes; spells = (turn head asked e).spells; synced = (turn head asked e).synced };
}
turns_tended honest held_of image_of old new message reply (Err e) tends turn = tt

-- at the time that a desk was told last it is as it was
module _ {D : Type 0} (old new : AtDesk D) (time : Time) (e : time ≡ old.session.time) where
  pub tended_then : (honest : D → Type 0) (held_of : D → Held) (image_of : D → List (List ℕ)) → GoesBy honest held_of image_of old.volume new.calls new.volume
      → IsNoted (at_time time old.session) new.session → Tends honest held_of image_of old new
  tended_then honest held_of image_of goes noted = record { goes = goes; noted = subst (λ t. IsNoted (at_time t old.session) new.session) e noted }

  pub turn_then : {T E : Type 0} (message reply : List ℕ) (outcome : Result T E)
      → ((head : Head) (asked : Asked) → decode message ≡ Some (head, asked) → IsTurn head asked (begun old) (at_time time old.session) outcome reply (ended new) new.session)
      → (head : Head) (asked : Asked) → decode message ≡ Some (head, asked) → IsTurn head asked (begun old) old.session outcome reply (ended new) new.session
  turn_then message reply outcome turn head asked d = subst (λ t. IsTurn head asked (begun old) (at_time t old.session) outcome reply (ended new) new.session) e (turn head asked d)

-- what holds in any case holds after an error
pub on_err_always : {T E P : Type 0} (outcome : Result T E) → P → OnErr outcome P
on_err_always (Ok x) p = tt
on_err_always (Err e) p = p
