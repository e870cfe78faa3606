use Rattle.std.proofs.Common.{◌≡◌, [], All, IsSome, IsTrue, sym, ap, ◌∙◌, subst}
use Rattle.model.specs.Image.{image_view}
use Rattle.model.specs.Layout.{is_data_address}
use Rattle.machine.specs.Standing.{ended, image_at}
use Rattle.machine.specs.Snapshot.{released}
use Rattle.frozen.specs.Kept.{Kept}
use Rattle.metadata.proofs.Steps.{same_geometry}
use Rattle.plans_data.specs.Release.{releasing}
use Rattle.softdep.specs.Queued.{pending_of, unsynced_of}
use Rattle.live_states.specs.Holdings.{AreImagesOf, Holdings}
use Rattle.live_states.specs.Snapshots.{let_go, let_go_blocks}
use Rattle.live_states.specs.Volume.{IsVolume, state_over}
use Rattle.live.specs.Alive.{Alive, IsLive, state_of}
use Rattle.live.proofs.SnapshotLemmas.{held_are_data, live_let_go, metadata_then, pending_then, released_then}
use Rattle.live.specs.Durable.{GoesSoundly}
use Rattle.live.proofs.DurablePlans.{goes_released}
use Rattle.live.proofs.live.Live.end_keep.Goals as goal

pub clearing-requires : goal.clearing-requires
clearing-requires g c =
    let items = c.in_ok-blocks.blocks.items in
    let same = c.geometry-geometry.ensures.geometry ∙ ap (λ (k : Kept). k.geometry) c.frozen.ensures.same in
    subst (All (λ a. IsTrue (is_data_address c.geometry-geometry.result a))) (sym c.as_slice.ensures.value)
    (subst (λ geo. All (λ a. IsTrue (is_data_address geo a)) items) (sym same)
    (held_are_data c.self.inside.metadata c.self.inside.holdings (pending_of c.self.inside.queue) c.self.invariant.alive.disk c.self.invariant.alive.some c.args.number items c.in_ok-blocks.ensures))

pub issue-requires-clause-geometry : goal.issue-requires-clause-geometry
issue-requires-clause-geometry g c = c.self.invariant.geometry

pub issue-requires-clause-plan : goal.issue-requires-clause-plan
issue-requires-clause-plan g c = c.in_ok-plan.ensures.geometry ∙ c.geometry-geometry.ensures.geometry ∙ ap (λ (k : Kept). k.geometry) c.frozen.ensures.same

pub issue-requires-clause-metadata : goal.issue-requires-clause-metadata
issue-requires-clause-metadata g c = λ staged is.
    metadata_then (g.D.Device.honest c.self.inside.device) (g.D.Device.image c.self.inside.device) c.self.inside.queue c.self.inside.metadata c.self.inside.holdings c.self.invariant
    (subst (λ (l : Alive _). pending_of l.queue ≡ []) (sym c.self.view_is) c.requires.pending)
    c.args.number (subst (λ (l : Alive _). IsSome (image_at l.holdings.snapshots.standing c.args.number)) (sym c.self.view_is) c.requires.stands)
    c.in_ok-plan.plan (c.in_ok-plan.ensures.updates ∙ ap (λ bs. releasing bs []) (c.as_slice.ensures.value ∙ c.in_ok-blocks.ensures)) staged is

pub let_go-requires : goal.let_go-requires
let_go-requires g c = c.as_slice-2.ensures.value ∙ c.in_ok-blocks.ensures

pub invariant_of-self-2 : goal.invariant_of-self-2
invariant_of-self-2 g c =
    let honest = g.D.Device.honest c.self.inside.device in
    let image = g.D.Device.image c.self.inside.device in
    subst (IsLive honest image c.issue.new.queue c.issue.new.metadata) (sym c.let_go.ensures)
    (live_let_go honest image c.self.inside.queue c.self.inside.metadata c.self.inside.holdings c.self.invariant
    (subst (λ (l : Alive _). pending_of l.queue ≡ []) (sym c.self.view_is) c.requires.pending)
    c.args.number (subst (λ (l : Alive _). IsSome (image_at l.holdings.snapshots.standing c.args.number)) (sym c.self.view_is) c.requires.stands)
    c.in_ok-plan.plan (c.in_ok-plan.ensures.updates ∙ ap (λ bs. releasing bs []) (c.as_slice.ensures.value ∙ c.in_ok-blocks.ensures))
    c.issue.new.queue c.issue.new.metadata c.in_ok-issue.ensures.issued)

pub returns-clause-released : goal.returns-clause-released
returns-clause-released g c = λ h beside images.
    let honest = g.D.Device.honest c.self.inside.device in
    let image = g.D.Device.image c.self.inside.device in
    ap (λ (o : Holdings). state_over (image_view c.issue.new.metadata.geometry image) (pending_of c.issue.new.queue) o (record { snapshots = ended beside.snapshots c.args.number })) c.let_go.ensures
    ∙ released_then honest image c.self.inside.queue c.self.inside.metadata c.self.inside.holdings c.self.invariant
    (subst (λ (l : Alive _). pending_of l.queue ≡ []) (sym c.self.view_is) c.requires.pending)
    c.args.number (subst (λ (l : Alive _). IsSome (image_at l.holdings.snapshots.standing c.args.number)) (sym c.self.view_is) c.requires.stands)
    c.in_ok-plan.plan (c.in_ok-plan.ensures.updates ∙ ap (λ bs. releasing bs []) (c.as_slice.ensures.value ∙ c.in_ok-blocks.ensures))
    c.issue.new.queue c.issue.new.metadata c.in_ok-issue.ensures.issued
    (subst (λ (l : Alive _). g.D.Device.honest l.device) (sym c.self.view_is) h) beside (subst (λ (l : Alive _). AreImagesOf l.holdings.snapshots beside.snapshots) (sym c.self.view_is) images)
    ∙ ap (λ (l : Alive _). released (state_of (g.D.Device.image l.device) l beside) c.args.number) c.self.view_is

pub returns-clause-pending : goal.returns-clause-pending
returns-clause-pending g c =
    pending_then (g.D.Device.honest c.self.inside.device) (g.D.Device.image c.self.inside.device) c.self.inside.queue c.self.inside.metadata c.self.inside.holdings c.self.invariant
    (subst (λ (l : Alive _). pending_of l.queue ≡ []) (sym c.self.view_is) c.requires.pending)
    c.args.number (subst (λ (l : Alive _). IsSome (image_at l.holdings.snapshots.standing c.args.number)) (sym c.self.view_is) c.requires.stands)
    c.in_ok-plan.plan (c.in_ok-plan.ensures.updates ∙ ap (λ bs. releasing bs []) (c.as_slice.ensures.value ∙ c.in_ok-blocks.ensures))
    c.issue.new.queue c.issue.new.metadata c.in_ok-issue.ensures.issued
    ∙ c.in_ok-plan.ensures.updates ∙ ap (λ bs. releasing bs []) (c.as_slice.ensures.value ∙ c.in_ok-blocks.ensures)
    ∙ ap (λ (l : Alive _). releasing (let_go_blocks l.holdings c.args.number) []) c.self.view_is

pub returns-clause-holdings : goal.returns-clause-holdings
returns-clause-holdings g c = c.let_go.ensures ∙ ap (λ (l : Alive _). let_go l.holdings c.args.number) c.self.view_is

pub returns-clause-geometry : goal.returns-clause-geometry
returns-clause-geometry g c =
    let is = c.in_ok-issue.ensures.issued in
    ap (λ (k : Kept). k.geometry) is.metadata ∙ same_geometry c.self.inside.metadata is.staged.blocks.items ∙ ap (λ (l : Alive _). l.kept.geometry) c.self.view_is

pub returns-clause-sound : goal.returns-clause-sound
returns-clause-sound g c = λ h none safe.
    let device = c.self.inside.device in
    let before : Alive _ = record { device = device; queue = c.self.inside.queue; kept = c.self.inside.metadata; holdings = c.self.inside.holdings } in
    let new : Alive _ = record { device = device; queue = c.issue.new.queue; kept = c.issue.new.metadata; holdings = c.let_go.new.self } in
    let is = c.in_ok-issue.ensures.issued in
    let none_pending = subst (λ (l : Alive _). pending_of l.queue ≡ []) (sym c.self.view_is) c.requires.pending in
    let volume = subst (λ q. IsVolume before.kept before.holdings q (image_view before.kept.geometry (g.D.Device.image device))) none_pending
    (c.self.invariant.alive.true (subst (λ (l : Alive _). g.D.Device.honest l.device) (sym c.self.view_is) h)) in
    subst (λ (l : Alive _). GoesSoundly (g.D.Device.held l.device) l (g.D.Device.held device) new safe safe [] []) c.self.view_is
    (goes_released (g.D.Device.held device) (g.D.Device.image device) (g.met.D.Device.answers device) before new (ap (λ (k : Kept). k.geometry) is.metadata ∙ same_geometry before.kept is.staged.blocks.items) c.self.invariant.alive.keeps volume
    none_pending (subst (λ (l : Alive _). unsynced_of l.queue ≡ []) (sym c.self.view_is) none) c.args.number (subst (λ (l : Alive _). IsSome (image_at l.holdings.snapshots.standing c.args.number)) (sym c.self.view_is) c.requires.stands)
    c.in_ok-plan.plan.updates (c.in_ok-plan.ensures.updates ∙ ap (λ bs. releasing bs []) (c.as_slice.ensures.value ∙ c.in_ok-blocks.ensures)) is.staged is.is_staged is.queued c.let_go.ensures safe)
