use Rattle.std.proofs.Common.{◌≡◌, Ok, map, inr, refl, sym, ap, ◌∙◌, subst}
use Rattle.std.proofs.lemmas.Result.{err_from_is_err_and}
use Rattle.layout.specs.declared.refusal.Refusal.TheVariants.{BadName, NotDirectory}
use Rattle.model.specs.Image.{image_view}
use Rattle.model.specs.Uses.{is_directory_at}
use Rattle.model.specs.View.{View}
use Rattle.model.specs.Reach.{slot_count}
use Rattle.ordering.specs.Cuts.{users_view}
use Rattle.machine.specs.Command.{ListNames, Listed}
use Rattle.machine.specs.Effects.{names_below}
use Rattle.machine.specs.Step.{Step}
use Rattle.frozen.specs.Kept.{Kept, frozen_view}
use Rattle.softdep.specs.Queued.{pending_of}
use Rattle.live_paths.specs.Listed.{name_of}
use Rattle.live_paths.specs.Shown.{IsShownBy}
use Rattle.live_states.specs.Planned.{IsRefused}
use Rattle.live_states.specs.Volume.{state_over}
use Rattle.live.specs.Alive.{Alive, MayRefuse, state_of}
use Rattle.live.proofs.Commands.{refused}
use Rattle.live.proofs.Looks.{led, list_accepts, list_badly, list_to_file, list_to_nowhere, number_there, same_directory, shown}
use Rattle.live.proofs.live.Live.list.Goals as goal

pub returns-in_err-path-clause-refused : goal.returns-in_err-path-clause-refused
returns-in_err-path-clause-refused g c =
    let p = err_from_is_err_and c.from_residual.result c.from_residual.ensures.1 in
    let device = c.self.inside.device in
    rw (p.1, p.2, c.in_err-path.ensures.1)
    (λ h. subst (λ (l : Alive _). MayRefuse (g.D.Device.image l.device) l (ListNames c.args.path.now) BadName) c.self.view_is
    (refused device (g.D.Device.honest device) (g.D.Device.image device) c.self.inside.queue c.self.inside.metadata c.self.inside.holdings c.self.invariant (subst (λ (l : Alive _). g.D.Device.honest l.device) (sym c.self.view_is) h)
    (ListNames c.args.path.now) BadName (inr (list_badly c.self.inside.metadata c.args.path.now c.in_err-path.ensures.0))))

pub returns-in_err-path-clause-cause : goal.returns-in_err-path-clause-cause
returns-in_err-path-clause-cause g c =
    let p = err_from_is_err_and c.from_residual.result c.from_residual.ensures.1 in
    rw (p.1, p.2, c.in_err-path.ensures.1)
    (subst (λ (l : Alive _). IsRefused l.kept (ListNames c.args.path.now) BadName) c.self.view_is (inr (list_badly c.self.inside.metadata c.args.path.now c.in_err-path.ensures.0)))

pub returns-in_err-directory-clause-refused : goal.returns-in_err-directory-clause-refused
returns-in_err-directory-clause-refused g c =
    let p = err_from_is_err_and c.from_residual-in_err-directory.result c.from_residual-in_err-directory.ensures.1 in
    let device = c.self.inside.device in
    rw (p.1, p.2)
    (λ h. subst (λ (l : Alive _). MayRefuse (g.D.Device.image l.device) l (ListNames c.args.path.now) c.in_err-directory.field-0.0) c.self.view_is
    (refused device (g.D.Device.honest device) (g.D.Device.image device) c.self.inside.queue c.self.inside.metadata c.self.inside.holdings c.self.invariant (subst (λ (l : Alive _). g.D.Device.honest l.device) (sym c.self.view_is) h)
    (ListNames c.args.path.now) c.in_err-directory.field-0.0 (inr (list_to_nowhere c.frozen-frozen.result.now c.self.inside.metadata c.frozen-frozen.ensures.same c.frozen-frozen.ensures.metadata c.args.path.now c.in_ok-path.path c.in_ok-path.ensures
    c.target.result c.target.ensures c.in_err-directory.field-0.0 c.in_err-directory.was))))

pub returns-in_err-directory-clause-cause : goal.returns-in_err-directory-clause-cause
returns-in_err-directory-clause-cause g c =
    let p = err_from_is_err_and c.from_residual-in_err-directory.result c.from_residual-in_err-directory.ensures.1 in
    rw (p.1, p.2)
    (subst (λ (l : Alive _). IsRefused l.kept (ListNames c.args.path.now) c.in_err-directory.field-0.0) c.self.view_is (inr (list_to_nowhere c.frozen-frozen.result.now c.self.inside.metadata c.frozen-frozen.ensures.same c.frozen-frozen.ensures.metadata c.args.path.now c.in_ok-path.path c.in_ok-path.ensures
    c.target.result c.target.ensures c.in_err-directory.field-0.0 c.in_err-directory.was)))

pub returns-then-not-is_directory_at-clause-refused : goal.returns-then-not-is_directory_at-clause-refused
returns-then-not-is_directory_at-clause-refused g c =
    let device = c.self.inside.device in
    (λ h. subst (λ (l : Alive _). MayRefuse (g.D.Device.image l.device) l (ListNames c.args.path.now) NotDirectory) c.self.view_is
    (refused device (g.D.Device.honest device) (g.D.Device.image device) c.self.inside.queue c.self.inside.metadata c.self.inside.holdings c.self.invariant (subst (λ (l : Alive _). g.D.Device.honest l.device) (sym c.self.view_is) h)
    (ListNames c.args.path.now) NotDirectory (inr (list_to_file c.frozen-frozen.result.now c.self.inside.metadata c.frozen-frozen.ensures.same c.frozen-frozen.ensures.metadata c.args.path.now c.in_ok-path.path c.in_ok-path.ensures
    c.target.result c.target.ensures c.in_ok-directory.directory c.in_ok-directory.was (sym c.is_directory_at.ensures ∙ c.if-not-is_directory_at.true)))))

pub returns-then-not-is_directory_at-clause-cause : goal.returns-then-not-is_directory_at-clause-cause
returns-then-not-is_directory_at-clause-cause g c =
    (subst (λ (l : Alive _). IsRefused l.kept (ListNames c.args.path.now) NotDirectory) c.self.view_is (inr (list_to_file c.frozen-frozen.result.now c.self.inside.metadata c.frozen-frozen.ensures.same c.frozen-frozen.ensures.metadata c.args.path.now c.in_ok-path.path c.in_ok-path.ensures
    c.target.result c.target.ensures c.in_ok-directory.directory c.in_ok-directory.was (sym c.is_directory_at.ensures ∙ c.if-not-is_directory_at.true))))

pub returns-clause-listed : goal.returns-clause-listed
returns-clause-listed g c = λ h beside.
    let kept = c.self.inside.metadata in
    let image = g.D.Device.image c.self.inside.device in
    let disk = image_view kept.geometry image in
    let q = pending_of c.self.inside.queue in
    let volume = c.self.invariant.alive.true (subst (λ (l : Alive _). g.D.Device.honest l.device) (sym c.self.view_is) h) in
    let seen = shown kept c.self.inside.holdings q disk c.frozen-frozen.ensures.metadata volume in
    let leads = led c.frozen-frozen.result.now kept c.frozen-frozen.ensures.same c.target.result c.in_ok-path.path c.target.ensures (users_view disk q) seen in
    let is = sym leads ∙ c.in_ok-directory.was in
    let directory = sym (same_directory kept.geometry (frozen_view kept) (users_view disk q) c.in_ok-directory.directory (volume.shows.inode c.in_ok-directory.directory))
    ∙ sym (c.is_directory_at.ensures ∙ ap (λ (k : Kept). is_directory_at k.geometry (frozen_view k) c.in_ok-directory.directory) c.frozen-frozen.ensures.same) ∙ c.if-not-is_directory_at.false in
    let names = subst (λ (k : Kept). (view : View) → IsShownBy k view → map name_of c.in_ok-names.field-0.items ≡ names_below k.geometry view c.in_ok-directory.directory (slot_count k.geometry))
    c.frozen-frozen.ensures.same c.in_ok-names.ensures (users_view disk q) seen in
    subst (λ (l : Alive _). Step l.kept.geometry (state_of (g.D.Device.image l.device) l beside) (ListNames c.args.path.now) (Ok (Listed (map name_of c.in_ok-names.field-0.items))) (state_of (g.D.Device.image l.device) l beside)) c.self.view_is (
      (list_accepts kept.geometry (state_over disk q c.self.inside.holdings beside) c.args.path.now c.in_ok-path.path c.in_ok-path.ensures c.in_ok-directory.directory is directory, tt),
      (names ∙ ap (λ i. names_below kept.geometry (users_view disk q) i (slot_count kept.geometry)) (sym (number_there kept.geometry (state_over disk q c.self.inside.holdings beside) c.args.path.now c.in_ok-path.path c.in_ok-path.ensures c.in_ok-directory.directory is)), refl),
    )
