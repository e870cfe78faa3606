use Rattle.std.proofs.Common.{subst}
use Rattle.frozen.specs.Kept.{KeepsMetadata}
use Rattle.metadata.specs.Shown.{Shows}
use Rattle.live.specs.Alive.{Alive}
use Rattle.live.specs.Seen.{seen_of}
use Rattle.live.proofs.live.Live.keeps_metadata.Goals as goal

pub returns-clause-whole : goal.returns-clause-whole
returns-clause-whole g c = subst (λ (l : Alive _). KeepsMetadata l.kept) c.self.view_is c.self.invariant.alive.keeps

pub returns-clause-shown : goal.returns-clause-shown
returns-clause-shown g c =
    subst (λ (l : Alive _). g.D.Device.honest l.device → Shows l.kept (seen_of g.D.Device.image l)) c.self.view_is (λ h. (c.self.invariant.alive.true h).shows)
