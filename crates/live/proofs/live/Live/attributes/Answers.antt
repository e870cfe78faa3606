use Rattle.std.proofs.Common.{◌≡◌, [], Ok, false, true, inl, inr, refl, sym, ap, ◌∙◌, subst}
use Rattle.layout.specs.declared.refusal.Refusal.TheVariants.{NotFound}
use Rattle.model.specs.Image.{image_view}
use Rattle.model.specs.View.{Inode}
use Rattle.ordering.specs.Cuts.{users_view}
use Rattle.machine.specs.Command.{Attributes, ReadAttributes}
use Rattle.machine.specs.Step.{Step}
use Rattle.frozen.specs.Kept.{Kept, frozen_view}
use Rattle.softdep.specs.Queued.{pending_of}
use Rattle.live_states.specs.Volume.{state_over}
use Rattle.live_attributes.proofs.Attributing.{reading_accepted, reading_refused, sound_shown}
use Rattle.live.specs.Alive.{Alive, IsFirstCause, MayRefuse, state_of}
use Rattle.live.proofs.Commands.{refused}
use Rattle.live.proofs.live.Live.attributes.Goals as goal

pub returns-then-not-is_sound_at-clause-refused : goal.returns-then-not-is_sound_at-clause-refused
returns-then-not-is_sound_at-clause-refused g c =
    let device = c.self.inside.device in
    let kept = c.self.inside.metadata in
    let n = c.args.number in
    λ h. subst (λ (l : Alive _). MayRefuse (g.D.Device.image l.device) l (ReadAttributes n) NotFound) c.self.view_is
    (refused device (g.D.Device.honest device) (g.D.Device.image device) c.self.inside.queue kept c.self.inside.holdings c.self.invariant (subst (λ (l : Alive _). g.D.Device.honest l.device) (sym c.self.view_is) h)
    (ReadAttributes n) NotFound (inr (λ old shows. inl (reading_refused kept.geometry old n []
    (sound_shown kept c.frozen-frozen.result.now c.frozen-frozen.ensures.same n old.view shows c.is_sound_at.result false c.is_sound_at.ensures c.if-not-is_sound_at.true)))))

pub returns-then-not-is_sound_at-clause-cause : goal.returns-then-not-is_sound_at-clause-cause
returns-then-not-is_sound_at-clause-cause g c =
    let kept = c.self.inside.metadata in
    let n = c.args.number in
    subst (λ (l : Alive _). IsFirstCause l.kept (ReadAttributes n) NotFound) c.self.view_is
    (λ old shows. inl (reading_refused kept.geometry old n []
    (sound_shown kept c.frozen-frozen.result.now c.frozen-frozen.ensures.same n old.view shows c.is_sound_at.result false c.is_sound_at.ensures c.if-not-is_sound_at.true)))

pub returns-clause-attributes : goal.returns-clause-attributes
returns-clause-attributes g c = λ h beside.
    let kept = c.self.inside.metadata in
    let n = c.args.number in
    let same = c.frozen-frozen.ensures.same in
    let disk = image_view kept.geometry (g.D.Device.image c.self.inside.device) in
    let q = pending_of c.self.inside.queue in
    let volume = c.self.invariant.alive.true (subst (λ (l : Alive _). g.D.Device.honest l.device) (sym c.self.view_is) h) in
    let inode : c.record-record.result ≡ (users_view disk q).inode n =
    c.record-record.ensures ∙ ap (λ (k : Kept). (frozen_view k).inode n) same ∙ volume.shows.inode n in
    let sound = sound_shown kept c.frozen-frozen.result.now same n (users_view disk q) volume.shows c.is_sound_at.result true c.is_sound_at.ensures c.if-not-is_sound_at.false in
    subst (λ (l : Alive _). Step l.kept.geometry (state_of (g.D.Device.image l.device) l beside) (ReadAttributes n) (Ok (Attributes c.record.inside.attributes)) (state_of (g.D.Device.image l.device) l beside)) c.self.view_is (
      reading_accepted kept.geometry (state_over disk q c.self.inside.holdings beside) n [] sound,
      (ap (λ (r : Inode). Attributes r.attributes) (c.record.view_is ∙ inode), refl),
    )
