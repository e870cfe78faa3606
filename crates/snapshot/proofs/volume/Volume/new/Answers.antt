use Rattle.frozen_files.proofs.Laws.{none_kept}
use Rattle.live.specs.Alive.{state_of}
use Rattle.std.proofs.Common.{◌≡◌, [], List, refl, subst, ◌∷◌}
use Rattle.model.specs.View.{View}
use Rattle.machine.specs.Standing.{Standing}
use Rattle.live_states.specs.Holdings.{AreImages}
use Rattle.snapshot.proofs.volume.Volume.new.Goals as goal

-- no image belongs to no snapshot
no_images : (xs : List (Standing View)) → AreImages [] xs → xs ≡ []
no_images [] are = refl
no_images (x ∷ xs) are = absurd are

pub invariant_of-result : goal.invariant_of-result
invariant_of-result g c = λ h.
    let live = c.args.live in
    let so = c.device.ensures.stands h in
    record {
      beside = so.beside;
      is = record {
        belongs = so.belongs;
        stands = so.stands;
        files = none_kept live.kept.geometry (state_of (g.D.Device.image live.device) live so.beside) (no_images so.beside.snapshots.standing (subst (λ ks. AreImages ks so.beside.snapshots.standing) c.requires.none so.belongs.1));
        framed = so.framed;
        begun = so.begun;
      };
    }
