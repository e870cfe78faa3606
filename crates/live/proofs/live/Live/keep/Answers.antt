use Rattle.std.proofs.Common.{◌≡◌, [], false, sym, subst}
use Rattle.std.specs.Arc.{arc_value}
use Rattle.frozen.specs.Kept.{KeepsMetadata}
use Rattle.machine.specs.Standing.{too_many}
use Rattle.softdep.specs.Queued.{pending_of}
use Rattle.live_states.specs.Snapshots.{IsSettled}
use Rattle.live.specs.Alive.{Alive, IsLive}
use Rattle.live.proofs.SnapshotLemmas.{live_kept}
use Rattle.live.proofs.live.Live.keep.Goals as goal

pub invariant_of-self : goal.invariant_of-self
invariant_of-self g c =
    let honest = g.D.Device.honest c.self.inside.device in
    let image = g.D.Device.image c.self.inside.device in
    subst (IsLive honest image c.self.inside.queue c.self.inside.metadata) (sym c.keep.ensures.kept)
    (live_kept honest image c.self.inside.queue c.self.inside.metadata c.self.inside.holdings c.self.invariant
    (subst (λ (l : Alive _). pending_of l.queue ≡ []) (sym c.self.view_is) c.requires.pending)
    (subst (λ (l : Alive _). too_many l.holdings.snapshots ≡ false) (sym c.self.view_is) c.requires.room)
    (arc_value c.args.snapshot)
    (subst (λ (l : Alive _). IsSettled l.kept l.holdings (arc_value c.args.snapshot)) (sym c.self.view_is) c.requires.settled)
    (subst (λ (l : Alive _). ((arc_value c.args.snapshot).geometry ≡ l.kept.geometry) × KeepsMetadata (arc_value c.args.snapshot)) (sym c.self.view_is) c.requires.whole))
