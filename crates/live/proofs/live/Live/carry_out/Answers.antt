use Rattle.std.proofs.Common.{◌≡◌, ◌<◌, ◌≤◌, [], All, length, sym, ap, ap₂, ◌∙◌, subst}
use Rattle.model.specs.Layout.{block_count}
use Rattle.ordering.specs.Cuts.{users_view}
use Rattle.softdep.specs.Queued.{pending_of}
use Rattle.live_states.specs.Holdings.{Holdings, with_held}
use Rattle.live_states.specs.Planned.{AreSeen, IsPlannedFor, IsPlannedWith}
use Rattle.live.specs.Alive.{Alive, Answers, IsLive, disk_of}
use Rattle.live.specs.Ended.{ended}
use Rattle.live.proofs.Carrying.{answers, held_within, keeps_after, left_marks, live_after, still_marks, still_repairs}
use Rattle.frozen.specs.Kept.{Kept}
use Rattle.metadata.proofs.Steps.{same_geometry}
use Rattle.live.specs.Durable.{StaysSoundAfter}
use Rattle.live.proofs.DurablePlans.{goes_planned}
use Rattle.live.proofs.live.Live.carry_out.Goals as goal

pub issue-requires-clause-geometry : goal.issue-requires-clause-geometry
issue-requires-clause-geometry g c = c.self.invariant.geometry

pub issue-requires-clause-plan : goal.issue-requires-clause-plan
issue-requires-clause-plan g c =
    let r = c.requires.planned in
    (subst (λ (l : Alive _). IsPlannedWith l.kept l.holdings [] r.0 r.1 c.args.planned.plan (with_held (ended l.holdings c.args.ending) c.args.planned.holds.items)) (sym c.self.view_is) r.2).geometry

pub issue-requires-clause-metadata : goal.issue-requires-clause-metadata
issue-requires-clause-metadata g c = λ staged is.
    let r = c.requires.planned in
    keeps_after _ _ c.self.inside.queue c.self.inside.metadata c.self.inside.holdings c.self.invariant c.args.planned.plan (with_held (ended c.self.inside.holdings c.args.ending) c.args.planned.holds.items)
    staged is r.0 r.1
    (subst (λ (l : Alive _). IsPlannedWith l.kept l.holdings [] r.0 r.1 c.args.planned.plan (with_held (ended l.holdings c.args.ending) c.args.planned.holds.items)) (sym c.self.view_is) r.2)

pub hold-requires : goal.hold-requires
hold-requires g c =
    let marks = c.self.invariant.marks in
    let holds = subst (λ (l : Alive _). All (λ a. a < block_count l.kept.geometry) c.args.planned.holds.items) (sym c.self.view_is) c.requires.holds in
    subst (All (λ a. a < length c.end.new.holdings.held)) (sym c.as_slice.ensures.value)
    (held_within (block_count c.self.inside.metadata.geometry) (length c.end.new.holdings.held) c.args.planned.holds.items
    (subst (λ n. block_count c.self.inside.metadata.geometry ≤ n) (sym (ap (λ (o : Holdings). length o.held) c.end.ensures ∙ still_marks c.self.inside.holdings c.args.ending)) marks) holds)

pub invariant_of-self-2 : goal.invariant_of-self-2
invariant_of-self-2 g c =
    let r = c.requires.planned in
    let honest = g.D.Device.honest c.self.inside.device in
    let image = g.D.Device.image c.self.inside.device in
    let holdings = with_held (ended c.self.inside.holdings c.args.ending) c.args.planned.holds.items in
    let held : c.hold.new.self ≡ holdings = c.hold.ensures ∙ ap₂ with_held c.end.ensures c.as_slice.ensures.value in
    let done = c.in_ok-issue.ensures.issued in
    subst (λ k. IsLive honest image c.issue.new.queue k c.hold.new.self) (sym done.metadata)
    (subst (IsLive honest image c.issue.new.queue _) (sym held)
    (live_after honest image c.self.inside.queue c.self.inside.metadata c.self.inside.holdings c.self.invariant c.args.planned.plan holdings
    done.staged done.is_staged r.0 r.1
    (subst (λ (l : Alive _). IsPlannedWith l.kept l.holdings [] r.0 r.1 c.args.planned.plan (with_held (ended l.holdings c.args.ending) c.args.planned.holds.items)) (sym c.self.view_is) r.2)
    c.issue.new.queue done.queued done.pending (left_marks c.self.inside.holdings c.args.ending c.args.planned.holds.items)
    (still_repairs c.self.inside.metadata.geometry c.self.inside.holdings c.args.ending c.args.planned.holds.items c.self.invariant.repairs)))

pub returns-clause-done : goal.returns-clause-done
returns-clause-done g c = λ seen command answer planned h sees.
    let honest = g.D.Device.honest c.self.inside.device in
    let image = g.D.Device.image c.self.inside.device in
    let before : Alive _ = record { device = c.self.inside.device; queue = c.self.inside.queue; kept = c.self.inside.metadata; holdings = c.self.inside.holdings } in
    let holdings = with_held (ended c.self.inside.holdings c.args.ending) c.args.planned.holds.items in
    let held : c.hold.new.self ≡ holdings = c.hold.ensures ∙ ap₂ with_held c.end.ensures c.as_slice.ensures.value in
    let is = c.in_ok-issue.ensures.issued in
    let done =
    answers honest image c.self.inside.queue c.self.inside.metadata c.self.inside.holdings c.self.invariant c.args.planned.plan holdings
    is.staged is.is_staged seen command answer
    (subst (λ (l : Alive _). IsPlannedFor l.kept l.holdings seen command answer c.args.planned.plan (with_held (ended l.holdings c.args.ending) c.args.planned.holds.items)) (sym c.self.view_is) planned)
    c.issue.new.queue is.pending c.self.inside.device
    (subst (λ (l : Alive _). g.D.Device.honest l.device) (sym c.self.view_is) h)
    (subst (λ (l : Alive _). AreSeen seen (users_view (disk_of (g.D.Device.image l.device) l) (pending_of l.queue))) (sym c.self.view_is) sees) in
    subst (λ (l : Alive _). Answers (g.D.Device.image l.device) l command answer image
    (record { device = c.self.inside.device; queue = c.issue.new.queue; kept = c.issue.new.metadata; holdings = c.hold.new.self }) []) c.self.view_is
    (subst (λ o. Answers image before command answer image (record { device = c.self.inside.device; queue = c.issue.new.queue; kept = c.issue.new.metadata; holdings = o }) []) (sym held)
    (subst (λ k. Answers image before command answer image (record { device = c.self.inside.device; queue = c.issue.new.queue; kept = k; holdings = holdings }) [])
    (sym is.metadata) done))

pub returns-clause-sound : goal.returns-clause-sound
returns-clause-sound g c = λ sights command answer planned h sees.
    let before : Alive _ = record { device = c.self.inside.device; queue = c.self.inside.queue; kept = c.self.inside.metadata; holdings = c.self.inside.holdings } in
    let new : Alive _ = record { device = c.self.inside.device; queue = c.issue.new.queue; kept = c.issue.new.metadata; holdings = c.hold.new.self } in
    let holdings = with_held (ended c.self.inside.holdings c.args.ending) c.args.planned.holds.items in
    let held : c.hold.new.self ≡ holdings = c.hold.ensures ∙ ap₂ with_held c.end.ensures c.as_slice.ensures.value in
    let is = c.in_ok-issue.ensures.issued in
    let volume = c.self.invariant.alive.true (subst (λ (l : Alive _). g.D.Device.honest l.device) (sym c.self.view_is) h) in
    let was = subst (λ (l : Alive _). IsPlannedFor l.kept l.holdings sights command answer c.args.planned.plan (with_held (ended l.holdings c.args.ending) c.args.planned.holds.items)) (sym c.self.view_is) planned in
    subst (λ (l : Alive _). StaysSoundAfter g.D.Device.held g.D.Device.image l command new) c.self.view_is
    (goes_planned (g.D.Device.held before.device) (g.D.Device.image before.device) (g.met.D.Device.answers before.device) before new (ap (λ (k : Kept). k.geometry) is.metadata ∙ same_geometry before.kept is.staged.blocks.items) volume
    sights command answer c.args.planned.plan
    (subst (IsPlannedFor before.kept before.holdings sights command answer c.args.planned.plan) (sym held) was)
    (subst (λ (l : Alive _). AreSeen sights (users_view (disk_of (g.D.Device.image l.device) l) (pending_of l.queue))) (sym c.self.view_is) sees) is.queued)
