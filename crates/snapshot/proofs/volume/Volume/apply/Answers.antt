use Rattle.std.proofs.Common.{refl, sym, ap, ◌∙◌}
use Rattle.std.specs.Arc.{arc_value}
use Rattle.machine.specs.Command.{Bytes as AreBytes, Freeze as AsksFreeze, Install as AsksInstall, Release as AsksRelease, RepairAt, SnapRead as AsksSnapRead}
use Rattle.snapshot.specs.declared.answer.Answer.TheVariants.{Bytes, Done, Image}
use Rattle.snapshot.specs.Asked.{asked, check_of}
use Rattle.snapshot.proofs.AnswerLemmas.{neither}
use Rattle.snapshot.proofs.AppliesLemmas.{freezing, releasing, stays, stays_done}
use Rattle.snapshot.proofs.Blaming.{caused_so, freeze_caused, handed_on, never_device, never_so, release_caused}
use Rattle.layout.specs.declared.refusal.Refusal.TheVariants.{Device, NoSnapshot, TooManySnapshots}
use Rattle.device.specs.Media.{Held}
use Rattle.live_states.specs.Planned.{IsRefusedWith}
use Rattle.live.specs.Alive.{Alive}
use Rattle.snapshot.proofs.Writing.{refused_by, untouched}
use Rattle.snapshot.proofs.volume.Volume.apply.Goals as goal

pub returns-in-Freeze-clause-applied : goal.returns-in-Freeze-clause-applied
returns-in-Freeze-clause-applied g c =
    freezing (λ made. Image made.0 made.1) (λ made. made.0) (λ made. arc_value made.1) (λ made view shows. (refl, shows))
    g.D.Device.honest g.D.Device.held g.D.Device.image c.args.self.now c.freeze.new.self (asked c.args.self.now.kept.geometry c.args.command.now)
    (ap (asked c.args.self.now.kept.geometry) c.in-Freeze.is)
    c.freeze.result c.image.result c.image.ensures c.freeze.ensures.frozen c.freeze.ensures.refused

pub returns-in-SnapRead-clause-applied : goal.returns-in-SnapRead-clause-applied
returns-in-SnapRead-clause-applied g c =
    stays g.D.Device.honest g.D.Device.held g.D.Device.image c.args.self.now c.snap_read.new.self (asked c.args.self.now.kept.geometry c.args.command.now)
    (AsksSnapRead c.in-SnapRead.snapshot c.in-SnapRead.inode c.in-SnapRead.index) (ap (asked c.args.self.now.kept.geometry) c.in-SnapRead.is)
    Bytes (λ bytes. AreBytes bytes.items) (λ bytes. refl)
    c.snap_read.result c.bytes.result c.bytes.ensures c.snap_read.ensures.read c.snap_read.ensures.refused

pub returns-in-Release-clause-applied : goal.returns-in-Release-clause-applied
returns-in-Release-clause-applied g c =
    releasing g.D.Device.honest g.D.Device.held g.D.Device.image c.args.self.now c.release.new.self (asked c.args.self.now.kept.geometry c.args.command.now) c.in-Release.number
    (ap (asked c.args.self.now.kept.geometry) c.in-Release.is)
    c.release.result c.done.result c.done.ensures c.release.ensures.released c.release.ensures.refused

pub returns-in-Install-clause-applied : goal.returns-in-Install-clause-applied
returns-in-Install-clause-applied g c =
    let geo = c.args.self.now.kept.geometry in
    stays_done g.D.Device.honest g.D.Device.held g.D.Device.image c.args.self.now c.install.new.self (asked geo c.args.command.now)
    (AsksInstall (check_of geo c.deref.result.now)) (ap (asked geo) c.in-Install.is ∙ ap (λ checked. AsksInstall (check_of geo checked)) (sym c.deref.ensures))
    c.install.result c.done-in-Install.result c.done-in-Install.ensures c.install.ensures.installed c.install.ensures.refused

pub returns-in-Repair-clause-applied : goal.returns-in-Repair-clause-applied
returns-in-Repair-clause-applied g c =
    stays_done g.D.Device.honest g.D.Device.held g.D.Device.image c.args.self.now c.repair.new.self (asked c.args.self.now.kept.geometry c.args.command.now)
    (RepairAt c.in-Repair.place) (ap (asked c.args.self.now.kept.geometry) c.in-Repair.is)
    c.repair.result c.done-in-Repair.result c.done-in-Repair.ensures c.repair.ensures.repaired c.repair.ensures.refused

-- ---- what a refusal may be

pub returns-in-Freeze-clause-cause : goal.returns-in-Freeze-clause-cause
returns-in-Freeze-clause-cause g c = λ is. c.freeze.ensures.cause (refused_by (λ made. Image made.0 made.1) c.freeze.result c.image.result Device c.image.ensures is)

pub returns-in-SnapRead-clause-cause : goal.returns-in-SnapRead-clause-cause
returns-in-SnapRead-clause-cause g c = λ is. c.snap_read.ensures.cause (refused_by Bytes c.snap_read.result c.bytes.result Device c.bytes.ensures is)

pub returns-in-Release-clause-cause : goal.returns-in-Release-clause-cause
returns-in-Release-clause-cause g c = λ is. c.release.ensures.cause (refused_by (λ t. Done) c.release.result c.done.result Device c.done.ensures is)

pub returns-in-Install-clause-cause : goal.returns-in-Install-clause-cause
returns-in-Install-clause-cause g c = λ is.
    let live = c.args.self.now in
    absurd (never_so (IsRefusedWith live.kept live.holdings (AsksInstall (check_of live.kept.geometry c.deref.result.now))) Device (never_device live.kept live.holdings (AsksInstall (check_of live.kept.geometry c.deref.result.now))) c.install.result c.install.ensures.cause
    (refused_by (λ t. Done) c.install.result c.done-in-Install.result Device c.done-in-Install.ensures is))

pub returns-in-Repair-clause-cause : goal.returns-in-Repair-clause-cause
returns-in-Repair-clause-cause g c = λ is.
    let live = c.args.self.now in
    absurd (never_so (IsRefusedWith live.kept live.holdings (RepairAt c.in-Repair.place)) Device (never_device live.kept live.holdings (RepairAt c.in-Repair.place)) c.repair.result c.repair.ensures.cause
    (refused_by (λ t. Done) c.repair.result c.done-in-Repair.result Device c.done-in-Repair.ensures is))

-- ---- and why

pub returns-in-Freeze-clause-error : goal.returns-in-Freeze-clause-error
returns-in-Freeze-clause-error g c =
    let live = c.args.self.now in
    handed_on live.kept live.holdings (asked live.kept.geometry c.args.command.now) AsksFreeze (ap (asked live.kept.geometry) c.in-Freeze.is)
    (λ made. Image made.0 made.1) c.freeze.result c.image.result c.image.ensures (freeze_caused live.kept live.holdings c.freeze.result c.freeze.ensures.many c.freeze.ensures.error)

pub returns-in-SnapRead-clause-error : goal.returns-in-SnapRead-clause-error
returns-in-SnapRead-clause-error g c =
    let live = c.args.self.now in
    handed_on live.kept live.holdings (asked live.kept.geometry c.args.command.now) (AsksSnapRead c.in-SnapRead.snapshot c.in-SnapRead.inode c.in-SnapRead.index) (ap (asked live.kept.geometry) c.in-SnapRead.is)
    Bytes c.snap_read.result c.bytes.result c.bytes.ensures c.snap_read.ensures.error

pub returns-in-Release-clause-error : goal.returns-in-Release-clause-error
returns-in-Release-clause-error g c =
    let live = c.args.self.now in
    handed_on live.kept live.holdings (asked live.kept.geometry c.args.command.now) (AsksRelease c.in-Release.number) (ap (asked live.kept.geometry) c.in-Release.is)
    (λ t. Done) c.release.result c.done.result c.done.ensures (release_caused live.kept live.holdings c.in-Release.number c.release.result c.release.ensures.stands c.release.ensures.error)

pub returns-in-Install-clause-error : goal.returns-in-Install-clause-error
returns-in-Install-clause-error g c =
    let live = c.args.self.now in
    handed_on live.kept live.holdings (asked live.kept.geometry c.args.command.now) (AsksInstall (check_of live.kept.geometry c.deref.result.now)) (ap (asked live.kept.geometry) c.in-Install.is ∙ ap (λ checked. AsksInstall (check_of live.kept.geometry checked)) (sym c.deref.ensures))
    (λ t. Done) c.install.result c.done-in-Install.result c.done-in-Install.ensures (caused_so live.kept live.holdings (AsksInstall (check_of live.kept.geometry c.deref.result.now)) c.install.result c.install.ensures.cause)

pub returns-in-Repair-clause-error : goal.returns-in-Repair-clause-error
returns-in-Repair-clause-error g c =
    let live = c.args.self.now in
    handed_on live.kept live.holdings (asked live.kept.geometry c.args.command.now) (RepairAt c.in-Repair.place) (ap (asked live.kept.geometry) c.in-Repair.is)
    (λ t. Done) c.repair.result c.done-in-Repair.result c.done-in-Repair.ensures (caused_so live.kept live.holdings (RepairAt c.in-Repair.place) c.repair.result c.repair.ensures.cause)

-- ---- what an answer of bytes or names leaves

pub returns-in-Freeze-clause-reading : goal.returns-in-Freeze-clause-reading
returns-in-Freeze-clause-reading g c = neither (λ made. Image made.0 made.1) (λ made has. has) _ c.freeze.result c.image.result c.image.ensures

pub returns-in-Release-clause-reading : goal.returns-in-Release-clause-reading
returns-in-Release-clause-reading g c = neither (λ t. Done) (λ t has. has) _ c.release.result c.done.result c.done.ensures

pub returns-in-Install-clause-reading : goal.returns-in-Install-clause-reading
returns-in-Install-clause-reading g c = neither (λ t. Done) (λ t has. has) _ c.install.result c.done-in-Install.result c.done-in-Install.ensures

pub returns-in-Repair-clause-reading : goal.returns-in-Repair-clause-reading
returns-in-Repair-clause-reading g c = neither (λ t. Done) (λ t has. has) _ c.repair.result c.done-in-Repair.result c.done-in-Repair.ensures

-- ---- what it wrote

pub returns-in-Freeze-clause-writes : goal.returns-in-Freeze-clause-writes
returns-in-Freeze-clause-writes g c =
    rw c.in-Freeze.is (
      c.freeze.ensures.writes,
      λ e. untouched g.D.Device.held g.D.Device.image c.args.self.now.device c.freeze.new.self.device
          (ap (λ (l : Alive _). l.device) (c.freeze.ensures.unchanged (refused_by (λ made. Image made.0 made.1) c.freeze.result c.image.result TooManySnapshots c.image.ensures e))),
    )

pub returns-in-SnapRead-clause-writes : goal.returns-in-SnapRead-clause-writes
returns-in-SnapRead-clause-writes g c = rw c.in-SnapRead.is (record { image_stays = c.snap_read.ensures.image; held_stays = ap (λ (h : Held). h.media) c.snap_read.ensures.held })

pub returns-in-Release-clause-writes : goal.returns-in-Release-clause-writes
returns-in-Release-clause-writes g c =
    rw c.in-Release.is (
      c.release.ensures.writes,
      λ e. untouched g.D.Device.held g.D.Device.image c.args.self.now.device c.release.new.self.device
          (ap (λ (l : Alive _). l.device) (c.release.ensures.none (refused_by (λ t. Done) c.release.result c.done.result NoSnapshot c.done.ensures e))),
    )

pub returns-in-Install-clause-writes : goal.returns-in-Install-clause-writes
returns-in-Install-clause-writes g c = rw c.in-Install.is (untouched g.D.Device.held g.D.Device.image c.args.self.now.device c.install.new.self.device c.install.ensures.device)

pub returns-in-Repair-clause-writes : goal.returns-in-Repair-clause-writes
returns-in-Repair-clause-writes g c = rw c.in-Repair.is (untouched g.D.Device.held g.D.Device.image c.args.self.now.device c.repair.new.self.device c.repair.ensures.device)
