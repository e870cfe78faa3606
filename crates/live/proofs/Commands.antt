-- A command that its planning refuses is refused.
use Rattle.std.proofs.Common.{ℕ, List, inl, inr, refl}
use Rattle.layout.specs.declared.refusal.Refusal.{Refusal}
use Rattle.model.specs.Image.{image_view}
use Rattle.machine.specs.Command.{Command}
use Rattle.frozen.specs.Kept.{Kept}
use Rattle.softdep.specs.Queued.{Queued, pending_of}
use Rattle.live_states.specs.Holdings.{Holdings}
use Rattle.live_states.specs.Planned.{IsRefused, IsRefusedWith}
use Rattle.live_states.specs.Volume.{state_over}
use Rattle.live_states.proofs.Standing.{has}
use Rattle.live.specs.Alive.{IsLive, MayRefuse}

pub refused : {D : Type 0} (device : D) (honest : Type 0) (image : List (List ℕ)) (queue : Queued) (kept : Kept) (holdings : Holdings) → IsLive honest image queue kept holdings → honest
    → (command : Command) (r : Refusal) → IsRefused kept command r → MayRefuse image (record { device = device; queue = queue; kept = kept; holdings = holdings }) command r
refused device honest image queue kept holdings live h command r (inl none) beside belongs = (inl none, refl)
refused device honest image queue kept holdings live h command r (inr first) beside belongs =
    (inr (inr (first (state_over (image_view kept.geometry image) (pending_of queue) holdings beside) (live.alive.true h).shows)), refl)

-- and so one that is refused by what is open and held too
pub refused_with : {D : Type 0} (device : D) (honest : Type 0) (image : List (List ℕ)) (queue : Queued) (kept : Kept) (holdings : Holdings) → IsLive honest image queue kept holdings → honest
    → (command : Command) (r : Refusal) → IsRefusedWith kept holdings command r → MayRefuse image (record { device = device; queue = queue; kept = kept; holdings = holdings }) command r
refused_with device honest image queue kept holdings live h command r (inl none) beside belongs = (inl none, refl)
refused_with device honest image queue kept holdings live h command r (inr first) beside belongs =
    let disk = image_view kept.geometry image in
    (inr (inr (first (state_over disk (pending_of queue) holdings beside) (live.alive.true h).shows (has disk (pending_of queue) holdings beside belongs))), refl)
