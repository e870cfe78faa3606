use Rattle.std.proofs.Common.{◌≡◌, Ok, inr, refl, sym, ap, ap₂, ◌∙◌, subst, IsTrue}
use Rattle.std.proofs.lemmas.Result.{err_from_is_err_and}
use Rattle.layout.specs.declared.refusal.Refusal.TheVariants.{BadName}
use Rattle.model.specs.Image.{image_view}
use Rattle.model.specs.Layout.{is_number}
use Rattle.model.specs.View.{Inode}
use Rattle.ordering.specs.Cuts.{users_view}
use Rattle.machine.specs.Command.{Stat, Status}
use Rattle.machine.specs.Step.{Step}
use Rattle.frozen.specs.Kept.{Kept, frozen_view}
use Rattle.softdep.specs.Queued.{pending_of}
use Rattle.live_states.specs.Volume.{state_over}
use Rattle.live.specs.Alive.{Alive, IsFirstCause, MayRefuse, state_of}
use Rattle.live.proofs.Commands.{refused}
use Rattle.live.specs.Kinds.{kind_of, mode_of}
use Rattle.live.proofs.Looks.{led, mode_of_sound, number_of, number_there, shown, sound_there, stat_accepts, stat_badly, stat_to_nowhere}
use Rattle.live.proofs.live.Live.stat.Goals as goal

pub returns-in_err-path-clause-refused : goal.returns-in_err-path-clause-refused
returns-in_err-path-clause-refused g c =
    let p = err_from_is_err_and c.from_residual.result c.from_residual.ensures.1 in
    let device = c.self.inside.device in
    rw (p.1, p.2, c.in_err-path.ensures.1)
    (λ h. subst (λ (l : Alive _). MayRefuse (g.D.Device.image l.device) l (Stat c.args.path.now) BadName) c.self.view_is
    (refused device (g.D.Device.honest device) (g.D.Device.image device) c.self.inside.queue c.self.inside.metadata c.self.inside.holdings c.self.invariant (subst (λ (l : Alive _). g.D.Device.honest l.device) (sym c.self.view_is) h)
    (Stat c.args.path.now) BadName (inr (stat_badly c.self.inside.metadata c.args.path.now c.in_err-path.ensures.0))))

pub returns-in_err-path-clause-cause : goal.returns-in_err-path-clause-cause
returns-in_err-path-clause-cause g c =
    let p = err_from_is_err_and c.from_residual.result c.from_residual.ensures.1 in
    rw (p.1, p.2, c.in_err-path.ensures.1)
    (subst (λ (l : Alive _). IsFirstCause l.kept (Stat c.args.path.now) BadName) c.self.view_is (stat_badly c.self.inside.metadata c.args.path.now c.in_err-path.ensures.0))

pub returns-in_err-number-clause-refused : goal.returns-in_err-number-clause-refused
returns-in_err-number-clause-refused g c =
    let p = err_from_is_err_and c.from_residual-in_err-number.result c.from_residual-in_err-number.ensures.1 in
    let device = c.self.inside.device in
    rw (p.1, p.2)
    (λ h. subst (λ (l : Alive _). MayRefuse (g.D.Device.image l.device) l (Stat c.args.path.now) c.in_err-number.field-0.0) c.self.view_is
    (refused device (g.D.Device.honest device) (g.D.Device.image device) c.self.inside.queue c.self.inside.metadata c.self.inside.holdings c.self.invariant (subst (λ (l : Alive _). g.D.Device.honest l.device) (sym c.self.view_is) h)
    (Stat c.args.path.now) c.in_err-number.field-0.0 (inr (stat_to_nowhere c.frozen-frozen.result.now c.self.inside.metadata c.frozen-frozen.ensures.same c.frozen-frozen.ensures.metadata c.args.path.now c.in_ok-path.path c.in_ok-path.ensures
    c.target.result c.target.ensures c.in_err-number.field-0.0 c.in_err-number.was))))

pub returns-in_err-number-clause-cause : goal.returns-in_err-number-clause-cause
returns-in_err-number-clause-cause g c =
    let p = err_from_is_err_and c.from_residual-in_err-number.result c.from_residual-in_err-number.ensures.1 in
    rw (p.1, p.2)
    (subst (λ (l : Alive _). IsFirstCause l.kept (Stat c.args.path.now) c.in_err-number.field-0.0) c.self.view_is (stat_to_nowhere c.frozen-frozen.result.now c.self.inside.metadata c.frozen-frozen.ensures.same c.frozen-frozen.ensures.metadata c.args.path.now c.in_ok-path.path c.in_ok-path.ensures
    c.target.result c.target.ensures c.in_err-number.field-0.0 c.in_err-number.was))

pub record-record-requires : goal.record-record-requires
record-record-requires g c =
    let kept = c.self.inside.metadata in
    let q = pending_of c.self.inside.queue in
    let disk = c.self.invariant.alive.disk in
    let volume = c.self.invariant.alive.some in
    let leads = led c.frozen-frozen.result.now kept c.frozen-frozen.ensures.same c.target.result c.in_ok-path.path c.target.ensures (users_view disk q) (shown kept c.self.inside.holdings q disk c.frozen-frozen.ensures.metadata volume) in
    subst (λ (k : Kept). IsTrue (is_number k.geometry c.in_ok-number.number)) (sym c.frozen-frozen.ensures.same)
    (number_of kept c.self.inside.holdings q disk volume c.args.path.now c.in_ok-path.path c.in_ok-path.ensures c.in_ok-number.number (sym leads ∙ c.in_ok-number.was))

pub returns-clause-status : goal.returns-clause-status
returns-clause-status g c = λ h beside.
    let kept = c.self.inside.metadata in
    let image = g.D.Device.image c.self.inside.device in
    let disk = image_view kept.geometry image in
    let q = pending_of c.self.inside.queue in
    let volume = c.self.invariant.alive.true (subst (λ (l : Alive _). g.D.Device.honest l.device) (sym c.self.view_is) h) in
    let seen = shown kept c.self.inside.holdings q disk c.frozen-frozen.ensures.metadata volume in
    let leads = led c.frozen-frozen.result.now kept c.frozen-frozen.ensures.same c.target.result c.in_ok-path.path c.target.ensures (users_view disk q) seen in
    let is = sym leads ∙ c.in_ok-number.was in
    let inode : c.record-record.result ≡ (users_view disk q).inode c.in_ok-number.number =
    c.record-record.ensures ∙ ap (λ (k : Kept). (frozen_view k).inode c.in_ok-number.number) c.frozen-frozen.ensures.same ∙ volume.shows.inode c.in_ok-number.number in
    let sound = sound_there kept c.self.inside.holdings q disk volume c.args.path.now c.in_ok-path.path c.in_ok-path.ensures c.in_ok-number.number is in
    let mode = ap mode_of (c.kind_of.ensures ∙ ap kind_of inode) ∙ mode_of_sound kept.geometry ((users_view disk q).inode c.in_ok-number.number) sound
    ∙ ap (λ (r : Inode). r.mode) (sym inode ∙ sym c.record.view_is) in
    let whole = c.record.view_is ∙ inode ∙ ap (λ i. (users_view disk q).inode i) (sym (number_there kept.geometry (state_over disk q c.self.inside.holdings beside) c.args.path.now c.in_ok-path.path c.in_ok-path.ensures c.in_ok-number.number is)) in
    let number = sym (number_there kept.geometry (state_over disk q c.self.inside.holdings beside) c.args.path.now c.in_ok-path.path c.in_ok-path.ensures c.in_ok-number.number is) in
    subst (λ (l : Alive _). Step l.kept.geometry (state_of (g.D.Device.image l.device) l beside) (Stat c.args.path.now) (Ok (Status c.in_ok-number.number (mode_of c.kind_of.result) c.record.inside.links c.record.inside.size)) (state_of (g.D.Device.image l.device) l beside)) c.self.view_is (
      (stat_accepts kept.geometry (state_over disk q c.self.inside.holdings beside) c.args.path.now c.in_ok-path.path c.in_ok-path.ensures c.in_ok-number.number is, tt),
      (ap (λ m. Status c.in_ok-number.number m c.record.inside.links c.record.inside.size) mode ∙ ap₂ (λ n (r : Inode). Status n r.mode r.links r.size) number whole, refl),
    )
