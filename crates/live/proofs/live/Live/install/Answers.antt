use Rattle.std.proofs.Common.{[], refl, sym, subst}
use Rattle.model.specs.Image.{image_view}
use Rattle.ordering.specs.Cuts.{users_view}
use Rattle.machine.specs.Command.{Done, Install}
use Rattle.softdep.specs.Queued.{pending_of}
use Rattle.live_states.specs.Planned.{IsQuietlyDone}
use Rattle.live_states.specs.Snapshots.{AreRepairsOf, installing}
use Rattle.live.specs.Alive.{Alive, Answers, IsLive}
use Rattle.live.proofs.Quietly.{none_seen, quiet_answers, quiet_live}
use Rattle.live.proofs.live.Live.install.Goals as goal

pub invariant_of-self-2 : goal.invariant_of-self-2
invariant_of-self-2 g c =
    let honest = g.D.Device.honest c.self.inside.device in
    let image = g.D.Device.image c.self.inside.device in
    let r = c.requires.check in
    let list = c.args.repairs.items in
    subst (IsLive honest image c.self.inside.queue c.self.inside.metadata) (sym c.in_ok-install.ensures.installed)
    (quiet_live honest image c.self.inside.queue c.self.inside.metadata c.self.inside.holdings c.self.invariant [] (Install r.0) Done (installing c.self.inside.holdings list)
    (subst (λ (l : Alive _). IsQuietlyDone l.kept l.holdings [] (Install r.0) Done (installing l.holdings list)) (sym c.self.view_is) r.1) refl
    (subst (λ (l : Alive _). AreRepairsOf l.kept.geometry (installing l.holdings list).repairs) (sym c.self.view_is) c.requires.repairs))

pub returns-clause-done : goal.returns-clause-done
returns-clause-done g c = λ check quiet h.
    let device = c.self.inside.device in
    let honest = g.D.Device.honest device in
    let image = g.D.Device.image device in
    let list = c.args.repairs.items in
    let before : Alive _ = record { device = device; queue = c.self.inside.queue; kept = c.self.inside.metadata; holdings = c.self.inside.holdings } in
    subst (λ (l : Alive _). Answers (g.D.Device.image l.device) l (Install check) Done image
    (record { device = device; queue = c.self.inside.queue; kept = c.self.inside.metadata; holdings = c.install.new.self }) []) c.self.view_is
    (subst (λ o. Answers image before (Install check) Done image (record { device = device; queue = c.self.inside.queue; kept = c.self.inside.metadata; holdings = o }) []) (sym c.in_ok-install.ensures.installed)
    (quiet_answers honest image c.self.inside.queue c.self.inside.metadata c.self.inside.holdings c.self.invariant [] (Install check) Done (installing c.self.inside.holdings list)
    (subst (λ (l : Alive _). IsQuietlyDone l.kept l.holdings [] (Install check) Done (installing l.holdings list)) (sym c.self.view_is) quiet) device device image refl
    (subst (λ (l : Alive _). g.D.Device.honest l.device) (sym c.self.view_is) h)
    (none_seen (users_view (image_view c.self.inside.metadata.geometry image) (pending_of c.self.inside.queue)))))
