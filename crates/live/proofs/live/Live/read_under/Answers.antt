use Rattle.std.proofs.Common.{◌≡◌, Some, sym, ◌∙◌, subst}
use Rattle.std.proofs.lemmas.Result.{on_ok_weaker}
use Rattle.model.specs.Image.{image_view}
use Rattle.ordering.specs.Cuts.{users_view}
use Rattle.softdep.specs.Queued.{pending_of}
use Rattle.live_states.specs.Planned.{AreSeen}
use Rattle.live_writes.specs.Aimed.{seen_at, seen_before, seen_so}
use Rattle.live.specs.Alive.{Alive, disk_of}
use Rattle.live.proofs.Quietly.{one_seen}
use Rattle.live.proofs.live.Live.read_under.Goals as goal

pub returns-in-Some-clause-seen : goal.returns-in-Some-clause-seen
returns-in-Some-clause-seen g c =
    let a = c.in-Some.address in
    let at : seen_at c.args.target.now.place ≡ Some a = sym c.seen.ensures ∙ c.in-Some.is in
    let image = g.D.Device.image c.self.inside.device in
    let view = users_view (image_view c.self.inside.metadata.geometry image) (pending_of c.self.inside.queue) in
    let bytes = c.read_seen.new.block in
    on_ok_weaker c.read_seen.result
    (λ seen h.
    subst (λ (l : Alive _). AreSeen (seen_before c.args.target.now bytes) (users_view (disk_of (g.D.Device.image l.device) l) (pending_of l.queue))) c.self.view_is
    (subst (λ o. AreSeen (seen_so o bytes) view) (sym at)
    (one_seen view a bytes (subst (λ geo. (users_view (image_view geo image) (pending_of c.self.inside.queue)).bytes a ≡ bytes) c.self.invariant.geometry (seen h)))))
    c.read_seen.ensures.bytes
