-- A turn, by what its request leads to.
use Rattle.std.proofs.Common.{◌≡◌, ℕ, List, Result, Ok, Err, [], false, sym, ap, subst, ◌∙◌}
use Rattle.std.specs.Prelude.{OnOk}
use Rattle.snapshot.specs.Alive.{Alive}
use Rattle.fuse_wire.specs.declared.bodies.Body.TheVariants as bodies
use Rattle.fuse_wire.specs.declared.errors.Errno.{Errno}
use Rattle.fuse_wire.specs.declared.requests.Head.{Head}
use Rattle.fuse_wire.specs.Requests.{Asked}
use Rattle.softdep.specs.Queued.{unsynced_of}
use Rattle.fuse_reader.specs.Said.{Said, spelled, told}
use Rattle.fuse_writer.specs.declared.session.Session.{Session}
use Rattle.fuse_writer.specs.Answers.{IsTurn, doing_of, is_sync}
use Rattle.fuse_writer.specs.Doings.{Does, Doing}
use Rattle.fuse_writer.specs.Saying.{said_done}
use Rattle.fuse_writer.specs.Turns.{Turn}

module _ {D T E : Type 0} (head : Head) (asked : Asked) (old : Turn D) (s : Session) (outcome : Result T E) (reply : List ℕ) (new : Turn D) (s' : Session) where
  pub turn_does : (a : Asked) (doing : Doing) → asked ≡ a → doing_of old.volume.kept s head a ≡ doing → is_sync a ≡ false → (said : Said) → Does doing old s said new s'
      → OnOk outcome (reply ≡ spelled head.unique said) → IsTurn head asked old s outcome reply new s'
  turn_does a doing e is none said does spells = record {
    synced = λ sync _. let other : is_sync asked ≡ false = ap is_sync e ∙ none in absurd cc;
    said = said;
    comes = subst (λ (d : Doing). Does d old s said new s') (sym (ap (doing_of old.volume.kept s head) e ∙ is)) does;
    spells = spells;
  }

  -- of a sync
  module _ {R : Type 0} (r : Result R Errno) (durable : OnOk r (unsynced_of new.volume.queue ≡ [])) where
    by_done : (r : Result R Errno) → OnOk r (unsynced_of new.volume.queue ≡ []) → said_done r ≡ told bodies.Empty → unsynced_of new.volume.queue ≡ []
    by_done (Ok x) all is = all
    by_done (Err e) all is = absurd cc

    pub turn_syncs : (doing : Doing) → doing_of old.volume.kept s head asked ≡ doing → Does doing old s (said_done r) new s'
        → OnOk outcome (reply ≡ spelled head.unique (said_done r)) → IsTurn head asked old s outcome reply new s'
    turn_syncs doing is comes spells = record {
      said = said_done r;
      comes = subst (λ (d : Doing). Does d old s (said_done r) new s') (sym is) comes;
      spells = spells;
      synced = λ sync done. by_done r durable done;
    }

-- how the volume was when the turn began is not part of how it ends
pub turn_ended : {D T E : Type 0} (head : Head) (asked : Asked) (old : Turn D) (s : Session) (outcome : Result T E) (reply : List ℕ) (new : Turn D) (s' : Session) (start : List (Alive D))
    → IsTurn head asked old s outcome reply new s' → IsTurn head asked old s outcome reply (record { start = start; calls = new.calls; volume = new.volume }) s'
turn_ended head asked old s outcome reply new s' start turn =
    let does = turn.comes in
    record { said = turn.said; comes = record { calls = does.calls; grew = does.grew; came = does.came }; spells = turn.spells; synced = turn.synced }
