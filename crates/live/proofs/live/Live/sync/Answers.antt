use Rattle.std.proofs.Common.{[], ◌≡◌, true, List, refl, subst}
use Rattle.model.specs.View.{View}
use Rattle.machine.specs.Command.{Done, Sync}
use Rattle.softdep.specs.Queued.{IsSettled, pending_of}
use Rattle.softdep.specs.Syncing.{AreFlushes, AreWrites}
use Rattle.live.specs.Alive.{Alive, Answers}
use Rattle.live.specs.Held.{HeldMore}
use Rattle.live.proofs.Flushes.{live_after, sync_answers, sync_keeps}
use Rattle.live.specs.Durable.{GoesSoundly}
use Rattle.live.proofs.Durably.{goes_synced}
use Rattle.live.proofs.live.Live.sync.Goals as goal

pub invariant_of-self : goal.invariant_of-self
invariant_of-self g c =
    let e = c.in_err-sync.ensures in
    let image = g.D.Device.image c.self.inside.device in
    let image' = g.D.Device.image c.sync.new.device in
    live_after (g.D.Device.honest c.self.inside.device) (g.D.Device.honest c.sync.new.device) image image' c.self.inside.queue c.sync.new.self c.self.inside.metadata c.self.inside.holdings c.self.invariant
    e.put.geometry e.count e.rest.0 e.rest.1 e.rest.2 e.honest
    (λ h. sync_keeps image image' (g.D.Device.held c.self.inside.device) (g.D.Device.held c.sync.new.device) c.self.inside.queue c.sync.new.self c.self.inside.metadata c.self.inside.holdings c.self.invariant.geometry (e.writes h))
    (λ h is. ((subst (λ geo. AreWrites geo image (g.D.Device.held c.self.inside.device) (pending_of c.self.inside.queue) image' (g.D.Device.held c.sync.new.device) (pending_of c.sync.new.self)) c.self.invariant.geometry (e.writes h)).framed is).0)

pub invariant_of-self-2 : goal.invariant_of-self-2
invariant_of-self-2 g c =
    let e = c.in_ok-sync.ensures in
    let image = g.D.Device.image c.self.inside.device in
    let image' = g.D.Device.image c.sync.new.device in
    live_after (g.D.Device.honest c.self.inside.device) (g.D.Device.honest c.sync.new.device) image image' c.self.inside.queue c.sync.new.self c.self.inside.metadata c.self.inside.holdings c.self.invariant
    e.put.geometry e.count e.rest.0 e.rest.1 e.rest.2 e.honest
    (λ h. sync_keeps image image' (g.D.Device.held c.self.inside.device) (g.D.Device.held c.sync.new.device) c.self.inside.queue c.sync.new.self c.self.inside.metadata c.self.inside.holdings c.self.invariant.geometry (e.writes h))
    (λ h is. ((subst (λ geo. AreWrites geo image (g.D.Device.held c.self.inside.device) (pending_of c.self.inside.queue) image' (g.D.Device.held c.sync.new.device) (pending_of c.sync.new.self)) c.self.invariant.geometry (e.writes h)).framed is).0)

pub returns-clause-done : goal.returns-clause-done
returns-clause-done g c = λ h.
    let e = c.in_ok-sync.ensures in
    let image = g.D.Device.image c.self.inside.device in
    let image' = g.D.Device.image c.sync.new.device in
    subst (λ (l : Alive _). (later : List View) × HeldMore l.kept.geometry (g.D.Device.held l.device) (g.D.Device.held c.sync.new.device) later
    × Answers (g.D.Device.image l.device) l Sync Done image' (record { device = c.sync.new.device; queue = c.sync.new.self; kept = c.self.inside.metadata; holdings = c.self.inside.holdings }) later) c.self.view_is
    (sync_answers image image' (g.D.Device.held c.self.inside.device) (g.D.Device.held c.sync.new.device) c.self.inside.queue c.sync.new.self c.self.inside.metadata c.self.inside.holdings c.self.invariant.geometry (e.writes h)
    c.self.inside.device c.sync.new.device (c.self.invariant.framed (e.honest h)) e.pending (e.view h))

pub returns-in_err-sync-clause-writes : goal.returns-in_err-sync-clause-writes
returns-in_err-sync-clause-writes g c = λ h.
    let e = c.in_err-sync.ensures in
    let image = g.D.Device.image c.self.inside.device in
    let image' = g.D.Device.image c.sync.new.device in
    let held' = g.D.Device.held c.sync.new.device in
    let q' = pending_of c.sync.new.self in
    subst (λ (l : Alive _). AreWrites l.kept.geometry (g.D.Device.image l.device) (g.D.Device.held l.device) (pending_of l.queue) image' held' q') c.self.view_is
    (subst (λ geo. AreWrites geo image (g.D.Device.held c.self.inside.device) (pending_of c.self.inside.queue) image' held' q') c.self.invariant.geometry (e.writes h))

pub returns-clause-writes : goal.returns-clause-writes
returns-clause-writes g c = λ h.
    let e = c.in_ok-sync.ensures in
    let image = g.D.Device.image c.self.inside.device in
    let image' = g.D.Device.image c.sync.new.device in
    let held' = g.D.Device.held c.sync.new.device in
    let q' = pending_of c.sync.new.self in
    subst (λ (l : Alive _). AreWrites l.kept.geometry (g.D.Device.image l.device) (g.D.Device.held l.device) (pending_of l.queue) image' held' q') c.self.view_is
    (subst (λ geo. AreWrites geo image (g.D.Device.held c.self.inside.device) (pending_of c.self.inside.queue) image' held' q') c.self.invariant.geometry (e.writes h))

pub returns-in_err-sync-clause-flushes : goal.returns-in_err-sync-clause-flushes
returns-in_err-sync-clause-flushes g c = λ h.
    let e = c.in_err-sync.ensures in
    let image' = g.D.Device.image c.sync.new.device in
    let held' = g.D.Device.held c.sync.new.device in
    let q' = pending_of c.sync.new.self in
    subst (λ (l : Alive _). g.D.Device.KEEPS_ORDER ≡ true → IsSettled l.queue → AreFlushes l.kept.geometry (g.D.Device.image l.device) (g.D.Device.held l.device) (pending_of l.queue) image' held' q') c.self.view_is
    (λ order settled. subst (λ geo. AreFlushes geo (g.D.Device.image c.self.inside.device) (g.D.Device.held c.self.inside.device) (pending_of c.self.inside.queue) image' held' q') c.self.invariant.geometry (e.flushes h order settled))

pub returns-clause-flushes : goal.returns-clause-flushes
returns-clause-flushes g c = λ h.
    let e = c.in_ok-sync.ensures in
    let image' = g.D.Device.image c.sync.new.device in
    let held' = g.D.Device.held c.sync.new.device in
    let q' = pending_of c.sync.new.self in
    subst (λ (l : Alive _). g.D.Device.KEEPS_ORDER ≡ true → IsSettled l.queue → AreFlushes l.kept.geometry (g.D.Device.image l.device) (g.D.Device.held l.device) (pending_of l.queue) image' held' q') c.self.view_is
    (λ order settled. subst (λ geo. AreFlushes geo (g.D.Device.image c.self.inside.device) (g.D.Device.held c.self.inside.device) (pending_of c.self.inside.queue) image' held' q') c.self.invariant.geometry (e.flushes h order settled))

pub returns-in_err-sync-clause-sound : goal.returns-in_err-sync-clause-sound
returns-in_err-sync-clause-sound g c = λ h safe.
    let e = c.in_err-sync.ensures in
    let new : Alive _ = record { device = c.sync.new.device; queue = c.sync.new.self; kept = c.self.inside.metadata; holdings = c.self.inside.holdings } in
    subst (λ (l : Alive _). GoesSoundly (g.D.Device.held l.device) l (g.D.Device.held c.sync.new.device) new safe safe [] []) c.self.view_is
    (goes_synced (g.D.Device.held c.self.inside.device) (g.D.Device.held c.sync.new.device) (record { device = c.self.inside.device; queue = c.self.inside.queue; kept = c.self.inside.metadata; holdings = c.self.inside.holdings }) new
    refl refl e.put (e.medium h) (e.held h) safe)

pub returns-clause-sound : goal.returns-clause-sound
returns-clause-sound g c = λ h safe.
    let e = c.in_ok-sync.ensures in
    let new : Alive _ = record { device = c.sync.new.device; queue = c.sync.new.self; kept = c.self.inside.metadata; holdings = c.self.inside.holdings } in
    subst (λ (l : Alive _). GoesSoundly (g.D.Device.held l.device) l (g.D.Device.held c.sync.new.device) new safe safe [] []) c.self.view_is
    (goes_synced (g.D.Device.held c.self.inside.device) (g.D.Device.held c.sync.new.device) (record { device = c.self.inside.device; queue = c.self.inside.queue; kept = c.self.inside.metadata; holdings = c.self.inside.holdings }) new
    refl refl e.put (e.medium h) (e.held h) safe)
