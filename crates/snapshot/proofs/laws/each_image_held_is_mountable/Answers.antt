use Rattle.std.proofs.Common.{ℕ, Bool, false, sym, subst}
use Rattle.model.specs.Rules.{ObeysRules}
use Rattle.courses.proofs.ServiceLemmas.{service_safe}
use Rattle.softdep.specs.Queued.{pending_of}
use Rattle.live.specs.Alive.{disk_of}
use Rattle.snapshot.specs.Stages.{BeginsAt, geometry_at, state_at}
use Rattle.snapshot.proofs.HeldImages.{are_mountable}
use Rattle.snapshot.proofs.laws.each_image_held_is_mountable.Goals as goal

pub returns : goal.returns
returns g c = λ s t commands replies is leads.
    let geo = geometry_at s in
    let mount = is.begun.mount in
    let h = is.begun.history in
    let cut = is.begun.cut in
    let safe : ℕ → Bool = λ f. false in
    let begin : BeginsAt s mount h cut safe = record { stands = is.stands; moment = is.begun.moment } in
    let served = leads.service mount h cut safe begin in
    let lived = service_safe geo mount h cut (disk_of s.image s.volume) (pending_of s.volume.queue) (state_at s) safe begin
    (disk_of t.image t.volume) (pending_of t.volume.queue) (state_at t) served.0 commands replies leads.later served.1 in (
      leads.since.more,
      leads.since.held_now,
      are_mountable geo leads.since.more leads.later leads.since.framed leads.since.views
          (λ view there. let stop = lived.stops view there in subst (ObeysRules geo) (sym stop.1) stop.2.rules),
    )
