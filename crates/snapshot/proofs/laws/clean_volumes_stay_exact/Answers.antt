use Rattle.std.proofs.Common.{◌≡◌, sym, ap, ◌∙◌, subst}
use Rattle.machine.specs.State.{State, mounted}
use Rattle.machine.specs.Step.{Run}
use Rattle.live_states.specs.Volume.{state_over}
use Rattle.live_states.specs.Holdings.{nothing_beside}
use Rattle.live_states.proofs.Standing.{idle_mounted}
use Rattle.live.specs.Alive.{disk_of, state_of}
use Rattle.snapshot.specs.Stages.{geometry_at, state_at}
use Rattle.snapshot.proofs.laws.clean_volumes_stay_exact.Goals as goal

pub returns : goal.returns
returns g c = λ s t commands replies mountable none idle bare found leads.
    let disk = disk_of s.image s.volume in
    let alone : state_at s ≡ state_of s.image s.volume nothing_beside = ap (λ b. state_of s.image s.volume b) bare in
    let begins : state_at s ≡ mounted disk = alone ∙ ap (λ q. state_over disk q s.volume.holdings nothing_beside) none ∙ sym (idle_mounted disk s.volume.holdings idle) in
    c.clean_volumes_stay_exact.ensures (geometry_at s) s.image (state_at t) commands replies mountable.is_image found (subst (λ (x : State). Run (geometry_at s) x commands replies (state_at t)) begins leads.run)
