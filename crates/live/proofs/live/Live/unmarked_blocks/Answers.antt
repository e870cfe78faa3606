use Rattle.std.proofs.Common.{◌≡◌, ◌∙◌, subst}
use Rattle.machine.specs.Room.{unmarked_blocks}
use Rattle.model.specs.Image.{image_view}
use Rattle.ordering.specs.Cuts.{users_view}
use Rattle.frozen.specs.Kept.{frozen_view}
use Rattle.softdep.specs.Queued.{pending_of}
use Rattle.live.specs.Alive.{Alive, disk_of}
use Rattle.live.proofs.Views.{same_unmarked}
use Rattle.live.proofs.live.Live.unmarked_blocks.Goals as goal

pub returns : goal.returns
returns g c = subst (λ (l : Alive _). g.D.Device.honest l.device → c.unmarked_blocks.result ≡ unmarked_blocks l.kept.geometry (users_view (disk_of (g.D.Device.image l.device) l) (pending_of l.queue))) c.self.view_is
    (λ h. c.unmarked_blocks.ensures ∙ same_unmarked c.self.inside.metadata.geometry (frozen_view c.self.inside.metadata)
    (users_view (image_view c.self.inside.metadata.geometry (g.D.Device.image c.self.inside.device)) (pending_of c.self.inside.queue)) (c.self.invariant.alive.true h).shows.block_marked)
