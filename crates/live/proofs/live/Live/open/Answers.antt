use Rattle.std.proofs.Common.{ℕ, Bool, false, List, [], inr, refl, sym, ap, subst, slice_index_or}
use Rattle.std.proofs.lemmas.Result.{err_from_is_err_and}
use Rattle.model.specs.Image.{image_view}
use Rattle.ordering.specs.Cuts.{users_view}
use Rattle.machine.specs.Command.{Number, Open}
use Rattle.softdep.specs.Queued.{pending_of}
use Rattle.live_states.specs.Planned.{IsRefusedWith}
use Rattle.live_states.specs.Snapshots.{AreRepairsOf}
use Rattle.live.specs.Alive.{Alive, Answers, MayRefuse}
use Rattle.live.proofs.Commands.{refused_with}
use Rattle.live.proofs.Quietly.{none_seen, quiet_answers, quiet_live}
use Rattle.live.specs.Durable.{GoesSoundly}
use Rattle.live.proofs.Durably.{goes_still}
use Rattle.live.proofs.live.Live.open.Goals as goal

pub returns-in_err-opening-clause-refused : goal.returns-in_err-opening-clause-refused
returns-in_err-opening-clause-refused g c =
    let p = err_from_is_err_and c.from_residual.result c.from_residual.ensures.1 in
    let device = c.self.inside.device in
    rw (p.1, p.2)
    (λ h. subst (λ (l : Alive _). MayRefuse (g.D.Device.image l.device) l (Open c.args.path.now) c.in_err-opening.field-0.0) c.self.view_is
    (refused_with device (g.D.Device.honest device) (g.D.Device.image device) c.self.inside.queue c.self.inside.metadata c.self.inside.holdings c.self.invariant (subst (λ (l : Alive _). g.D.Device.honest l.device) (sym c.self.view_is) h)
    (Open c.args.path.now) c.in_err-opening.field-0.0 (inr c.in_err-opening.ensures.refused)))

pub returns-in_err-opening-clause-cause : goal.returns-in_err-opening-clause-cause
returns-in_err-opening-clause-cause g c =
    let p = err_from_is_err_and c.from_residual.result c.from_residual.ensures.1 in
    rw (p.1, p.2) (subst (λ (l : Alive _). IsRefusedWith l.kept l.holdings (Open c.args.path.now) c.in_err-opening.field-0.0) c.self.view_is (inr c.in_err-opening.ensures.refused))

pub invariant_of-self-2 : goal.invariant_of-self-2
invariant_of-self-2 g c =
    let device = c.self.inside.device in
    let handle = c.in_ok-opening.opening.handle in
    quiet_live (g.D.Device.honest device) (g.D.Device.image device) c.self.inside.queue c.self.inside.metadata c.self.inside.holdings c.self.invariant [] (Open c.args.path.now) (Number handle) c.open.new.self
    (c.in_ok-opening.ensures.opens c.open.new.self c.in_ok-open.ensures.opened) refl
    (subst (AreRepairsOf c.self.inside.metadata.geometry) (sym c.in_ok-open.ensures.opened.repairs) c.self.invariant.repairs)

pub returns-clause-done : goal.returns-clause-done
returns-clause-done g c = λ h.
    let device = c.self.inside.device in
    let image = g.D.Device.image device in
    let handle = c.in_ok-opening.opening.handle in
    subst (λ (l : Alive _). Answers (g.D.Device.image l.device) l (Open c.args.path.now) (Number handle) image
    (record { device = device; queue = c.self.inside.queue; kept = c.self.inside.metadata; holdings = c.open.new.self }) []) c.self.view_is
    (quiet_answers (g.D.Device.honest device) image c.self.inside.queue c.self.inside.metadata c.self.inside.holdings c.self.invariant [] (Open c.args.path.now) (Number handle) c.open.new.self
    (c.in_ok-opening.ensures.opens c.open.new.self c.in_ok-open.ensures.opened) device device image refl (subst (λ (l : Alive _). g.D.Device.honest l.device) (sym c.self.view_is) h)
    (none_seen (users_view (image_view c.self.inside.metadata.geometry image) (pending_of c.self.inside.queue))))

pub returns-clause-sound : goal.returns-clause-sound
returns-clause-sound g c = λ safe.
    let device = c.self.inside.device in
    let before : Alive _ = record { device = device; queue = c.self.inside.queue; kept = c.self.inside.metadata; holdings = c.self.inside.holdings } in
    let new : Alive _ = record { device = device; queue = c.self.inside.queue; kept = c.self.inside.metadata; holdings = c.open.new.self } in
    subst (λ (l : Alive _). GoesSoundly (g.D.Device.held l.device) l (g.D.Device.held device) new safe safe [] []) c.self.view_is
    (goes_still (g.D.Device.held device) (g.D.Device.held device) before new refl refl refl (ap {B = ℕ → Bool} (λ (l : List Bool). λ a. slice_index_or l a false) c.in_ok-open.ensures.opened.held) safe)
