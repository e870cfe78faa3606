use Rattle.std.proofs.Common.{◌≡◌, ℕ, map, refl, sym, ap, ap₂, ◌∙◌}
use Rattle.machine.specs.Command.{Create as AsksCreate, Mkdir as AsksMkdir, Link as AsksLink, Unlink as AsksUnlink, Rmdir as AsksRmdir, Rename as AsksRename, Open as AsksOpen, Close as AsksClose, Read as AsksRead, Write as AsksWrite, Truncate as AsksTruncate, ListNames, Stat as AsksStat, Flush as AsksFlush, Sync as AsksSync, SetAttributes as AsksSetAttributes, ReadAttributes as AsksReadAttributes}
use Rattle.machine.specs.Command.{Number as IsNumber, Bytes as AreBytes, Listed, Status as IsStatus, Attributes as AreAttributes}
use Rattle.device.specs.Media.{Held}
use Rattle.softdep.specs.Queued.{pending_of}
use Rattle.live_paths.specs.Listed.{name_of}
use Rattle.snapshot.specs.declared.answer.Answer.TheVariants.{Done, Number, Bytes, Names, Status, Attributes}
use Rattle.snapshot.specs.declared.command.Command.TheVariants.{Flush}
use Rattle.snapshot.specs.Asked.{asked, mode_of}
use Rattle.snapshot.proofs.AnswerLemmas.{neither}
use Rattle.snapshot.proofs.Blaming.{cause_blamed, device_blamed, of_caused, of_device, of_device_or_caused, of_first, of_flush, of_refused, replied_so}
use Rattle.snapshot.proofs.Writing.{flush_counts, refused_writes, untouched, unwritten_writes, writes_flush}
use Rattle.snapshot.proofs.UserReplies.{looked, on_err_always, on_ok_always, on_ok_whenever, once_done, plain, plainly_done, reading, reading_done, sees_any, stays_still, unflushed, writing, writing_done}
use Rattle.snapshot.proofs.users.user_reply.Goals as goal

pub returns-in-Create-clause-replied : goal.returns-in-Create-clause-replied
returns-in-Create-clause-replied g c =
    plain g.D.Device.honest g.D.Device.held g.D.Device.image c.args.live.now c.create.new.self (asked c.args.live.now.kept.geometry c.args.command.now) (AsksCreate c.deref.result.now c.in-Create.attributes)
    (ap (asked c.args.live.now.kept.geometry) c.in-Create.is ∙ ap (λ p. AsksCreate p c.in-Create.attributes) (sym c.deref.ensures.value))
    (λ (n : ℕ). Number n) (λ (n : ℕ). IsNumber n) (λ n. refl) c.create.result c.number.result c.number.ensures c.create.ensures.device c.create.ensures.done c.create.ensures.refused c.create.ensures.untouched c.create.ensures.sound

pub returns-in-Mkdir-clause-replied : goal.returns-in-Mkdir-clause-replied
returns-in-Mkdir-clause-replied g c =
    plain g.D.Device.honest g.D.Device.held g.D.Device.image c.args.live.now c.mkdir.new.self (asked c.args.live.now.kept.geometry c.args.command.now) (AsksMkdir c.deref-in-Mkdir.result.now c.in-Mkdir.attributes)
    (ap (asked c.args.live.now.kept.geometry) c.in-Mkdir.is ∙ ap (λ p. AsksMkdir p c.in-Mkdir.attributes) (sym c.deref-in-Mkdir.ensures.value))
    (λ (n : ℕ). Number n) (λ (n : ℕ). IsNumber n) (λ n. refl) c.mkdir.result c.number-in-Mkdir.result c.number-in-Mkdir.ensures c.mkdir.ensures.device c.mkdir.ensures.done c.mkdir.ensures.refused c.mkdir.ensures.untouched c.mkdir.ensures.sound

pub returns-in-Link-clause-replied : goal.returns-in-Link-clause-replied
returns-in-Link-clause-replied g c =
    plainly_done g.D.Device.honest g.D.Device.held g.D.Device.image c.args.live.now c.link.new.self (asked c.args.live.now.kept.geometry c.args.command.now) (AsksLink c.deref-in-Link.result.now c.deref-in-Link-2.result.now)
    (ap (asked c.args.live.now.kept.geometry) c.in-Link.is ∙ ap₂ AsksLink (sym c.deref-in-Link.ensures.value) (sym c.deref-in-Link-2.ensures.value))
    c.link.result c.done.result c.done.ensures c.link.ensures.device c.link.ensures.done c.link.ensures.refused c.link.ensures.untouched c.link.ensures.sound

pub returns-in-Unlink-clause-replied : goal.returns-in-Unlink-clause-replied
returns-in-Unlink-clause-replied g c =
    plainly_done g.D.Device.honest g.D.Device.held g.D.Device.image c.args.live.now c.unlink.new.self (asked c.args.live.now.kept.geometry c.args.command.now) (AsksUnlink c.deref-in-Unlink.result.now)
    (ap (asked c.args.live.now.kept.geometry) c.in-Unlink.is ∙ ap AsksUnlink (sym c.deref-in-Unlink.ensures.value))
    c.unlink.result c.done-in-Unlink.result c.done-in-Unlink.ensures c.unlink.ensures.device c.unlink.ensures.done c.unlink.ensures.refused c.unlink.ensures.untouched c.unlink.ensures.sound

pub returns-in-Rmdir-clause-replied : goal.returns-in-Rmdir-clause-replied
returns-in-Rmdir-clause-replied g c =
    plainly_done g.D.Device.honest g.D.Device.held g.D.Device.image c.args.live.now c.rmdir.new.self (asked c.args.live.now.kept.geometry c.args.command.now) (AsksRmdir c.deref-in-Rmdir.result.now)
    (ap (asked c.args.live.now.kept.geometry) c.in-Rmdir.is ∙ ap AsksRmdir (sym c.deref-in-Rmdir.ensures.value))
    c.rmdir.result c.done-in-Rmdir.result c.done-in-Rmdir.ensures c.rmdir.ensures.device c.rmdir.ensures.done c.rmdir.ensures.refused c.rmdir.ensures.untouched c.rmdir.ensures.sound

pub returns-in-Rename-clause-replied : goal.returns-in-Rename-clause-replied
returns-in-Rename-clause-replied g c =
    plainly_done g.D.Device.honest g.D.Device.held g.D.Device.image c.args.live.now c.rename.new.self (asked c.args.live.now.kept.geometry c.args.command.now) (AsksRename c.deref-in-Rename.result.now c.deref-in-Rename-2.result.now)
    (ap (asked c.args.live.now.kept.geometry) c.in-Rename.is ∙ ap₂ AsksRename (sym c.deref-in-Rename.ensures.value) (sym c.deref-in-Rename-2.ensures.value))
    c.rename.result c.done-in-Rename.result c.done-in-Rename.ensures c.rename.ensures.device c.rename.ensures.done c.rename.ensures.refused c.rename.ensures.untouched c.rename.ensures.sound

pub returns-in-Open-clause-replied : goal.returns-in-Open-clause-replied
returns-in-Open-clause-replied g c =
    plain g.D.Device.honest g.D.Device.held g.D.Device.image c.args.live.now c.open.new.self (asked c.args.live.now.kept.geometry c.args.command.now) (AsksOpen c.deref-in-Open.result.now)
    (ap (asked c.args.live.now.kept.geometry) c.in-Open.is ∙ ap AsksOpen (sym c.deref-in-Open.ensures.value))
    (λ (n : ℕ). Number n) (λ (n : ℕ). IsNumber n) (λ n. refl) c.open.result c.number-in-Open.result c.number-in-Open.ensures c.open.ensures.device c.open.ensures.done c.open.ensures.refused c.open.ensures.untouched (sees_any (g.D.Device.held c.args.live.now.device) (g.D.Device.held c.open.new.self.device) c.args.live.now c.open.new.self _ _ c.open.result (on_ok_whenever _ _ c.open.result c.open.ensures.sound))

pub returns-in-Close-clause-replied : goal.returns-in-Close-clause-replied
returns-in-Close-clause-replied g c =
    plainly_done g.D.Device.honest g.D.Device.held g.D.Device.image c.args.live.now c.close.new.self (asked c.args.live.now.kept.geometry c.args.command.now) (AsksClose c.in-Close.handle)
    (ap (asked c.args.live.now.kept.geometry) c.in-Close.is)
    c.close.result c.done-in-Close.result c.done-in-Close.ensures c.close.ensures.device c.close.ensures.done c.close.ensures.refused c.close.ensures.untouched c.close.ensures.sound

pub returns-in-Read-clause-replied : goal.returns-in-Read-clause-replied
returns-in-Read-clause-replied g c =
    reading g.D.Device.honest g.D.Device.held g.D.Device.image c.args.live.now c.read.new.self (asked c.args.live.now.kept.geometry c.args.command.now) (AsksRead c.in-Read.handle c.in-Read.index)
    (ap (asked c.args.live.now.kept.geometry) c.in-Read.is)
    Bytes (λ bytes. AreBytes bytes.items) (λ bytes. refl) c.read.result c.bytes.result c.bytes.ensures c.read.ensures.image c.read.ensures.held c.read.ensures.done c.read.ensures.refused
    (on_err_always _ c.read.result c.read.ensures.untouched) (sees_any (g.D.Device.held c.args.live.now.device) (g.D.Device.held c.read.new.self.device) c.args.live.now c.read.new.self _ _ c.read.result (stays_still (g.D.Device.held c.args.live.now.device) (g.D.Device.held c.read.new.self.device) c.args.live.now c.read.new.self (g.D.Device.honest c.read.new.self.device) c.read.result c.read.ensures.held c.read.ensures.untouched))

pub returns-in-Write-clause-replied : goal.returns-in-Write-clause-replied
returns-in-Write-clause-replied g c =
    reading_done g.D.Device.honest g.D.Device.held g.D.Device.image c.args.live.now c.write.new.self (asked c.args.live.now.kept.geometry c.args.command.now) (AsksWrite c.in-Write.handle c.in-Write.index c.deref-in-Write.result.now)
    (ap (asked c.args.live.now.kept.geometry) c.in-Write.is ∙ ap (AsksWrite c.in-Write.handle c.in-Write.index) (sym c.deref-in-Write.ensures.value))
    c.write.result c.done-in-Write.result c.done-in-Write.ensures c.write.ensures.image c.write.ensures.held c.write.ensures.done c.write.ensures.refused c.write.ensures.untouched c.write.ensures.sound

pub returns-in-Truncate-clause-replied : goal.returns-in-Truncate-clause-replied
returns-in-Truncate-clause-replied g c =
    plainly_done g.D.Device.honest g.D.Device.held g.D.Device.image c.args.live.now c.truncate.new.self (asked c.args.live.now.kept.geometry c.args.command.now) (AsksTruncate c.in-Truncate.handle c.in-Truncate.size)
    (ap (asked c.args.live.now.kept.geometry) c.in-Truncate.is)
    c.truncate.result c.done-in-Truncate.result c.done-in-Truncate.ensures c.truncate.ensures.device c.truncate.ensures.done c.truncate.ensures.refused c.truncate.ensures.untouched c.truncate.ensures.sound

pub returns-in-SetAttributes-clause-replied : goal.returns-in-SetAttributes-clause-replied
returns-in-SetAttributes-clause-replied g c =
    plainly_done g.D.Device.honest g.D.Device.held g.D.Device.image c.args.live.now c.set_attributes.new.self (asked c.args.live.now.kept.geometry c.args.command.now) (AsksSetAttributes c.in-SetAttributes.inode c.in-SetAttributes.attributes)
    (ap (asked c.args.live.now.kept.geometry) c.in-SetAttributes.is)
    c.set_attributes.result c.done-in-SetAttributes.result c.done-in-SetAttributes.ensures c.set_attributes.ensures.device c.set_attributes.ensures.done c.set_attributes.ensures.refused c.set_attributes.ensures.untouched c.set_attributes.ensures.sound

pub returns-in-List-clause-replied : goal.returns-in-List-clause-replied
returns-in-List-clause-replied g c =
    looked g.D.Device.honest g.D.Device.held g.D.Device.image c.args.live.now (asked c.args.live.now.kept.geometry c.args.command.now) (ListNames c.deref-in-List.result.now)
    (ap (asked c.args.live.now.kept.geometry) c.in-List.is ∙ ap ListNames (sym c.deref-in-List.ensures.value)) refl (λ view safe. refl)
    Names (λ names. Listed (map name_of names.items)) (λ names. refl) c.list.result c.names.result c.names.ensures c.list.ensures.listed c.list.ensures.refused

pub returns-in-Stat-clause-replied : goal.returns-in-Stat-clause-replied
returns-in-Stat-clause-replied g c =
    looked g.D.Device.honest g.D.Device.held g.D.Device.image c.args.live.now (asked c.args.live.now.kept.geometry c.args.command.now) (AsksStat c.deref-in-Stat.result.now)
    (ap (asked c.args.live.now.kept.geometry) c.in-Stat.is ∙ ap AsksStat (sym c.deref-in-Stat.ensures.value)) refl (λ view safe. refl)
    Status (λ status. IsStatus status.number (mode_of status.kind) status.links status.size) (λ status. refl) c.stat.result c.status.result c.status.ensures c.stat.ensures.status c.stat.ensures.refused

pub returns-in-ReadAttributes-clause-replied : goal.returns-in-ReadAttributes-clause-replied
returns-in-ReadAttributes-clause-replied g c =
    looked g.D.Device.honest g.D.Device.held g.D.Device.image c.args.live.now (asked c.args.live.now.kept.geometry c.args.command.now) (AsksReadAttributes c.in-ReadAttributes.inode)
    (ap (asked c.args.live.now.kept.geometry) c.in-ReadAttributes.is) refl (λ view safe. refl)
    Attributes (λ words. AreAttributes words) (λ words. refl) c.attributes.result c.attributes-in-ReadAttributes.result c.attributes-in-ReadAttributes.ensures c.attributes.ensures.attributes c.attributes.ensures.refused

pub returns-in-Flush-clause-replied : goal.returns-in-Flush-clause-replied
returns-in-Flush-clause-replied g c =
    writing g.D.Device.honest g.D.Device.held g.D.Device.image c.args.live.now c.flush.new.self (asked c.args.live.now.kept.geometry c.args.command.now) (AsksFlush c.in-Flush.address)
    (ap (asked c.args.live.now.kept.geometry) c.in-Flush.is)
    (λ (n : ℕ). Number n) (λ (n : ℕ). IsNumber n) (λ n. refl) c.flush.result c.count.result c.count.ensures c.flush.ensures.done c.flush.ensures.refused
    (unflushed g.D.Device.honest g.D.Device.held g.D.Device.image c.args.live.now c.flush.new.self c.flush.result c.flush.ensures.untouched) c.flush.ensures.metadata c.flush.ensures.holdings (sees_any (g.D.Device.held c.args.live.now.device) (g.D.Device.held c.flush.new.self.device) c.args.live.now c.flush.new.self _ _ c.flush.result (on_ok_always _ c.flush.result c.flush.ensures.sound)) (on_err_always _ c.flush.result c.flush.ensures.sound)

pub returns-in-Sync-clause-replied : goal.returns-in-Sync-clause-replied
returns-in-Sync-clause-replied g c =
    writing_done g.D.Device.honest g.D.Device.held g.D.Device.image c.args.live.now c.sync.new.self (asked c.args.live.now.kept.geometry c.args.command.now) AsksSync
    (ap (asked c.args.live.now.kept.geometry) c.in-Sync.is)
    c.sync.result c.done-in-Sync.result c.done-in-Sync.ensures c.sync.ensures.done c.sync.ensures.refused
    (on_err_always _ c.sync.result c.sync.ensures.writes) c.sync.ensures.metadata c.sync.ensures.holdings (sees_any (g.D.Device.held c.args.live.now.device) (g.D.Device.held c.sync.new.self.device) c.args.live.now c.sync.new.self _ _ c.sync.result (on_ok_always _ c.sync.result c.sync.ensures.sound)) (on_err_always _ c.sync.result c.sync.ensures.sound)

pub returns-in-Sync-clause-synced : goal.returns-in-Sync-clause-synced
returns-in-Sync-clause-synced g c = λ _. once_done _ c.sync.result c.done-in-Sync.result c.done-in-Sync.ensures c.sync.ensures.unsynced

-- ---- what a refusal may be

pub returns-in-Create-clause-cause : goal.returns-in-Create-clause-cause
returns-in-Create-clause-cause g c =
    let live = c.args.live.now in
    device_blamed _ live.kept live.holdings _ c.number.result (replied_so _ live.kept live.holdings _ (λ (n : ℕ). Number n) c.create.result c.number.result c.number.ensures
    (of_refused _ live.kept live.holdings (AsksCreate c.deref.result.now c.in-Create.attributes) c.create.result c.create.ensures.cause))

pub returns-in-Create-clause-error : goal.returns-in-Create-clause-error
returns-in-Create-clause-error g c =
    let live = c.args.live.now in
    cause_blamed ⊥ live.kept live.holdings _ (asked live.kept.geometry c.args.command.now) (ap (asked live.kept.geometry) c.in-Create.is ∙ ap (λ p. AsksCreate p c.in-Create.attributes) (sym c.deref.ensures.value)) c.number.result (replied_so ⊥ live.kept live.holdings _ (λ (n : ℕ). Number n) c.create.result c.number.result c.number.ensures
    (of_refused ⊥ live.kept live.holdings (AsksCreate c.deref.result.now c.in-Create.attributes) c.create.result c.create.ensures.cause))

pub returns-in-Mkdir-clause-cause : goal.returns-in-Mkdir-clause-cause
returns-in-Mkdir-clause-cause g c =
    let live = c.args.live.now in
    device_blamed _ live.kept live.holdings _ c.number-in-Mkdir.result (replied_so _ live.kept live.holdings _ (λ (n : ℕ). Number n) c.mkdir.result c.number-in-Mkdir.result c.number-in-Mkdir.ensures
    (of_refused _ live.kept live.holdings (AsksMkdir c.deref-in-Mkdir.result.now c.in-Mkdir.attributes) c.mkdir.result c.mkdir.ensures.cause))

pub returns-in-Mkdir-clause-error : goal.returns-in-Mkdir-clause-error
returns-in-Mkdir-clause-error g c =
    let live = c.args.live.now in
    cause_blamed ⊥ live.kept live.holdings _ (asked live.kept.geometry c.args.command.now) (ap (asked live.kept.geometry) c.in-Mkdir.is ∙ ap (λ p. AsksMkdir p c.in-Mkdir.attributes) (sym c.deref-in-Mkdir.ensures.value)) c.number-in-Mkdir.result (replied_so ⊥ live.kept live.holdings _ (λ (n : ℕ). Number n) c.mkdir.result c.number-in-Mkdir.result c.number-in-Mkdir.ensures
    (of_refused ⊥ live.kept live.holdings (AsksMkdir c.deref-in-Mkdir.result.now c.in-Mkdir.attributes) c.mkdir.result c.mkdir.ensures.cause))

pub returns-in-Link-clause-cause : goal.returns-in-Link-clause-cause
returns-in-Link-clause-cause g c =
    let live = c.args.live.now in
    device_blamed _ live.kept live.holdings _ c.done.result (replied_so _ live.kept live.holdings _ (λ t. Done) c.link.result c.done.result c.done.ensures
    (of_refused _ live.kept live.holdings (AsksLink c.deref-in-Link.result.now c.deref-in-Link-2.result.now) c.link.result c.link.ensures.cause))

pub returns-in-Link-clause-error : goal.returns-in-Link-clause-error
returns-in-Link-clause-error g c =
    let live = c.args.live.now in
    cause_blamed ⊥ live.kept live.holdings _ (asked live.kept.geometry c.args.command.now) (ap (asked live.kept.geometry) c.in-Link.is ∙ ap₂ AsksLink (sym c.deref-in-Link.ensures.value) (sym c.deref-in-Link-2.ensures.value)) c.done.result (replied_so ⊥ live.kept live.holdings _ (λ t. Done) c.link.result c.done.result c.done.ensures
    (of_refused ⊥ live.kept live.holdings (AsksLink c.deref-in-Link.result.now c.deref-in-Link-2.result.now) c.link.result c.link.ensures.cause))

pub returns-in-Unlink-clause-cause : goal.returns-in-Unlink-clause-cause
returns-in-Unlink-clause-cause g c =
    let live = c.args.live.now in
    device_blamed _ live.kept live.holdings _ c.done-in-Unlink.result (replied_so _ live.kept live.holdings _ (λ t. Done) c.unlink.result c.done-in-Unlink.result c.done-in-Unlink.ensures
    (of_refused _ live.kept live.holdings (AsksUnlink c.deref-in-Unlink.result.now) c.unlink.result c.unlink.ensures.cause))

pub returns-in-Unlink-clause-error : goal.returns-in-Unlink-clause-error
returns-in-Unlink-clause-error g c =
    let live = c.args.live.now in
    cause_blamed ⊥ live.kept live.holdings _ (asked live.kept.geometry c.args.command.now) (ap (asked live.kept.geometry) c.in-Unlink.is ∙ ap AsksUnlink (sym c.deref-in-Unlink.ensures.value)) c.done-in-Unlink.result (replied_so ⊥ live.kept live.holdings _ (λ t. Done) c.unlink.result c.done-in-Unlink.result c.done-in-Unlink.ensures
    (of_refused ⊥ live.kept live.holdings (AsksUnlink c.deref-in-Unlink.result.now) c.unlink.result c.unlink.ensures.cause))

pub returns-in-Rmdir-clause-cause : goal.returns-in-Rmdir-clause-cause
returns-in-Rmdir-clause-cause g c =
    let live = c.args.live.now in
    device_blamed _ live.kept live.holdings _ c.done-in-Rmdir.result (replied_so _ live.kept live.holdings _ (λ t. Done) c.rmdir.result c.done-in-Rmdir.result c.done-in-Rmdir.ensures
    (of_refused _ live.kept live.holdings (AsksRmdir c.deref-in-Rmdir.result.now) c.rmdir.result c.rmdir.ensures.cause))

pub returns-in-Rmdir-clause-error : goal.returns-in-Rmdir-clause-error
returns-in-Rmdir-clause-error g c =
    let live = c.args.live.now in
    cause_blamed ⊥ live.kept live.holdings _ (asked live.kept.geometry c.args.command.now) (ap (asked live.kept.geometry) c.in-Rmdir.is ∙ ap AsksRmdir (sym c.deref-in-Rmdir.ensures.value)) c.done-in-Rmdir.result (replied_so ⊥ live.kept live.holdings _ (λ t. Done) c.rmdir.result c.done-in-Rmdir.result c.done-in-Rmdir.ensures
    (of_refused ⊥ live.kept live.holdings (AsksRmdir c.deref-in-Rmdir.result.now) c.rmdir.result c.rmdir.ensures.cause))

pub returns-in-Rename-clause-cause : goal.returns-in-Rename-clause-cause
returns-in-Rename-clause-cause g c =
    let live = c.args.live.now in
    device_blamed _ live.kept live.holdings _ c.done-in-Rename.result (replied_so _ live.kept live.holdings _ (λ t. Done) c.rename.result c.done-in-Rename.result c.done-in-Rename.ensures
    (of_refused _ live.kept live.holdings (AsksRename c.deref-in-Rename.result.now c.deref-in-Rename-2.result.now) c.rename.result c.rename.ensures.cause))

pub returns-in-Rename-clause-error : goal.returns-in-Rename-clause-error
returns-in-Rename-clause-error g c =
    let live = c.args.live.now in
    cause_blamed ⊥ live.kept live.holdings _ (asked live.kept.geometry c.args.command.now) (ap (asked live.kept.geometry) c.in-Rename.is ∙ ap₂ AsksRename (sym c.deref-in-Rename.ensures.value) (sym c.deref-in-Rename-2.ensures.value)) c.done-in-Rename.result (replied_so ⊥ live.kept live.holdings _ (λ t. Done) c.rename.result c.done-in-Rename.result c.done-in-Rename.ensures
    (of_refused ⊥ live.kept live.holdings (AsksRename c.deref-in-Rename.result.now c.deref-in-Rename-2.result.now) c.rename.result c.rename.ensures.cause))

pub returns-in-Open-clause-cause : goal.returns-in-Open-clause-cause
returns-in-Open-clause-cause g c =
    let live = c.args.live.now in
    device_blamed _ live.kept live.holdings _ c.number-in-Open.result (replied_so _ live.kept live.holdings _ (λ (n : ℕ). Number n) c.open.result c.number-in-Open.result c.number-in-Open.ensures
    (of_caused _ live.kept live.holdings (AsksOpen c.deref-in-Open.result.now) c.open.result c.open.ensures.cause))

pub returns-in-Open-clause-error : goal.returns-in-Open-clause-error
returns-in-Open-clause-error g c =
    let live = c.args.live.now in
    cause_blamed ⊥ live.kept live.holdings _ (asked live.kept.geometry c.args.command.now) (ap (asked live.kept.geometry) c.in-Open.is ∙ ap AsksOpen (sym c.deref-in-Open.ensures.value)) c.number-in-Open.result (replied_so ⊥ live.kept live.holdings _ (λ (n : ℕ). Number n) c.open.result c.number-in-Open.result c.number-in-Open.ensures
    (of_caused ⊥ live.kept live.holdings (AsksOpen c.deref-in-Open.result.now) c.open.result c.open.ensures.cause))

pub returns-in-Close-clause-cause : goal.returns-in-Close-clause-cause
returns-in-Close-clause-cause g c =
    let live = c.args.live.now in
    device_blamed _ live.kept live.holdings _ c.done-in-Close.result (replied_so _ live.kept live.holdings _ (λ t. Done) c.close.result c.done-in-Close.result c.done-in-Close.ensures
    (of_caused _ live.kept live.holdings (AsksClose c.in-Close.handle) c.close.result c.close.ensures.cause))

pub returns-in-Close-clause-error : goal.returns-in-Close-clause-error
returns-in-Close-clause-error g c =
    let live = c.args.live.now in
    cause_blamed ⊥ live.kept live.holdings _ (asked live.kept.geometry c.args.command.now) (ap (asked live.kept.geometry) c.in-Close.is) c.done-in-Close.result (replied_so ⊥ live.kept live.holdings _ (λ t. Done) c.close.result c.done-in-Close.result c.done-in-Close.ensures
    (of_caused ⊥ live.kept live.holdings (AsksClose c.in-Close.handle) c.close.result c.close.ensures.cause))

pub returns-in-Read-clause-cause : goal.returns-in-Read-clause-cause
returns-in-Read-clause-cause g c =
    let live = c.args.live.now in
    device_blamed _ live.kept live.holdings _ c.bytes.result (replied_so _ live.kept live.holdings _ Bytes c.read.result c.bytes.result c.bytes.ensures
    (of_device_or_caused _ live.kept live.holdings (AsksRead c.in-Read.handle c.in-Read.index) c.read.result c.read.ensures.error c.read.ensures.cause))

pub returns-in-Read-clause-error : goal.returns-in-Read-clause-error
returns-in-Read-clause-error g c =
    let live = c.args.live.now in
    cause_blamed _ live.kept live.holdings _ (asked live.kept.geometry c.args.command.now) (ap (asked live.kept.geometry) c.in-Read.is) c.bytes.result (replied_so _ live.kept live.holdings _ Bytes c.read.result c.bytes.result c.bytes.ensures
    (of_device_or_caused _ live.kept live.holdings (AsksRead c.in-Read.handle c.in-Read.index) c.read.result c.read.ensures.error c.read.ensures.cause))

pub returns-in-Write-clause-cause : goal.returns-in-Write-clause-cause
returns-in-Write-clause-cause g c =
    let live = c.args.live.now in
    device_blamed _ live.kept live.holdings _ c.done-in-Write.result (replied_so _ live.kept live.holdings _ (λ t. Done) c.write.result c.done-in-Write.result c.done-in-Write.ensures
    (of_device_or_caused _ live.kept live.holdings (AsksWrite c.in-Write.handle c.in-Write.index c.deref-in-Write.result.now) c.write.result c.write.ensures.error c.write.ensures.cause))

pub returns-in-Write-clause-error : goal.returns-in-Write-clause-error
returns-in-Write-clause-error g c =
    let live = c.args.live.now in
    cause_blamed _ live.kept live.holdings _ (asked live.kept.geometry c.args.command.now) (ap (asked live.kept.geometry) c.in-Write.is ∙ ap (AsksWrite c.in-Write.handle c.in-Write.index) (sym c.deref-in-Write.ensures.value)) c.done-in-Write.result (replied_so _ live.kept live.holdings _ (λ t. Done) c.write.result c.done-in-Write.result c.done-in-Write.ensures
    (of_device_or_caused _ live.kept live.holdings (AsksWrite c.in-Write.handle c.in-Write.index c.deref-in-Write.result.now) c.write.result c.write.ensures.error c.write.ensures.cause))

pub returns-in-Truncate-clause-cause : goal.returns-in-Truncate-clause-cause
returns-in-Truncate-clause-cause g c =
    let live = c.args.live.now in
    device_blamed _ live.kept live.holdings _ c.done-in-Truncate.result (replied_so _ live.kept live.holdings _ (λ t. Done) c.truncate.result c.done-in-Truncate.result c.done-in-Truncate.ensures
    (of_caused _ live.kept live.holdings (AsksTruncate c.in-Truncate.handle c.in-Truncate.size) c.truncate.result c.truncate.ensures.cause))

pub returns-in-SetAttributes-clause-cause : goal.returns-in-SetAttributes-clause-cause
returns-in-SetAttributes-clause-cause g c =
    let live = c.args.live.now in
    device_blamed _ live.kept live.holdings _ c.done-in-SetAttributes.result (replied_so _ live.kept live.holdings _ (λ t. Done) c.set_attributes.result c.done-in-SetAttributes.result c.done-in-SetAttributes.ensures
    (of_refused _ live.kept live.holdings (AsksSetAttributes c.in-SetAttributes.inode c.in-SetAttributes.attributes) c.set_attributes.result c.set_attributes.ensures.cause))

pub returns-in-Truncate-clause-error : goal.returns-in-Truncate-clause-error
returns-in-Truncate-clause-error g c =
    let live = c.args.live.now in
    cause_blamed ⊥ live.kept live.holdings _ (asked live.kept.geometry c.args.command.now) (ap (asked live.kept.geometry) c.in-Truncate.is) c.done-in-Truncate.result (replied_so ⊥ live.kept live.holdings _ (λ t. Done) c.truncate.result c.done-in-Truncate.result c.done-in-Truncate.ensures
    (of_caused ⊥ live.kept live.holdings (AsksTruncate c.in-Truncate.handle c.in-Truncate.size) c.truncate.result c.truncate.ensures.cause))

pub returns-in-SetAttributes-clause-error : goal.returns-in-SetAttributes-clause-error
returns-in-SetAttributes-clause-error g c =
    let live = c.args.live.now in
    cause_blamed ⊥ live.kept live.holdings _ (asked live.kept.geometry c.args.command.now) (ap (asked live.kept.geometry) c.in-SetAttributes.is) c.done-in-SetAttributes.result (replied_so ⊥ live.kept live.holdings _ (λ t. Done) c.set_attributes.result c.done-in-SetAttributes.result c.done-in-SetAttributes.ensures
    (of_refused ⊥ live.kept live.holdings (AsksSetAttributes c.in-SetAttributes.inode c.in-SetAttributes.attributes) c.set_attributes.result c.set_attributes.ensures.cause))

pub returns-in-List-clause-cause : goal.returns-in-List-clause-cause
returns-in-List-clause-cause g c =
    let live = c.args.live.now in
    device_blamed _ live.kept live.holdings _ c.names.result (replied_so _ live.kept live.holdings _ Names c.list.result c.names.result c.names.ensures
    (of_refused _ live.kept live.holdings (ListNames c.deref-in-List.result.now) c.list.result c.list.ensures.cause))

pub returns-in-List-clause-error : goal.returns-in-List-clause-error
returns-in-List-clause-error g c =
    let live = c.args.live.now in
    cause_blamed ⊥ live.kept live.holdings _ (asked live.kept.geometry c.args.command.now) (ap (asked live.kept.geometry) c.in-List.is ∙ ap ListNames (sym c.deref-in-List.ensures.value)) c.names.result (replied_so ⊥ live.kept live.holdings _ Names c.list.result c.names.result c.names.ensures
    (of_refused ⊥ live.kept live.holdings (ListNames c.deref-in-List.result.now) c.list.result c.list.ensures.cause))

pub returns-in-Stat-clause-cause : goal.returns-in-Stat-clause-cause
returns-in-Stat-clause-cause g c =
    let live = c.args.live.now in
    device_blamed _ live.kept live.holdings _ c.status.result (replied_so _ live.kept live.holdings _ Status c.stat.result c.status.result c.status.ensures
    (of_first _ live.kept live.holdings (AsksStat c.deref-in-Stat.result.now) c.stat.result c.stat.ensures.cause))

pub returns-in-Stat-clause-error : goal.returns-in-Stat-clause-error
returns-in-Stat-clause-error g c =
    let live = c.args.live.now in
    cause_blamed ⊥ live.kept live.holdings _ (asked live.kept.geometry c.args.command.now) (ap (asked live.kept.geometry) c.in-Stat.is ∙ ap AsksStat (sym c.deref-in-Stat.ensures.value)) c.status.result (replied_so ⊥ live.kept live.holdings _ Status c.stat.result c.status.result c.status.ensures
    (of_first ⊥ live.kept live.holdings (AsksStat c.deref-in-Stat.result.now) c.stat.result c.stat.ensures.cause))

pub returns-in-ReadAttributes-clause-cause : goal.returns-in-ReadAttributes-clause-cause
returns-in-ReadAttributes-clause-cause g c =
    let live = c.args.live.now in
    device_blamed _ live.kept live.holdings _ c.attributes-in-ReadAttributes.result (replied_so _ live.kept live.holdings _ Attributes c.attributes.result c.attributes-in-ReadAttributes.result c.attributes-in-ReadAttributes.ensures
    (of_first _ live.kept live.holdings (AsksReadAttributes c.in-ReadAttributes.inode) c.attributes.result c.attributes.ensures.cause))

pub returns-in-ReadAttributes-clause-error : goal.returns-in-ReadAttributes-clause-error
returns-in-ReadAttributes-clause-error g c =
    let live = c.args.live.now in
    cause_blamed ⊥ live.kept live.holdings _ (asked live.kept.geometry c.args.command.now) (ap (asked live.kept.geometry) c.in-ReadAttributes.is) c.attributes-in-ReadAttributes.result (replied_so ⊥ live.kept live.holdings _ Attributes c.attributes.result c.attributes-in-ReadAttributes.result c.attributes-in-ReadAttributes.ensures
    (of_first ⊥ live.kept live.holdings (AsksReadAttributes c.in-ReadAttributes.inode) c.attributes.result c.attributes.ensures.cause))

pub returns-in-Flush-clause-cause : goal.returns-in-Flush-clause-cause
returns-in-Flush-clause-cause g c =
    let live = c.args.live.now in
    device_blamed _ live.kept live.holdings _ c.count.result (replied_so _ live.kept live.holdings _ (λ (n : ℕ). Number n) c.flush.result c.count.result c.count.ensures
    (of_flush _ live.kept live.holdings c.in-Flush.address c.flush.result c.flush.ensures.error c.flush.ensures.cause))

pub returns-in-Flush-clause-error : goal.returns-in-Flush-clause-error
returns-in-Flush-clause-error g c =
    let live = c.args.live.now in
    cause_blamed _ live.kept live.holdings _ (asked live.kept.geometry c.args.command.now) (ap (asked live.kept.geometry) c.in-Flush.is) c.count.result (replied_so _ live.kept live.holdings _ (λ (n : ℕ). Number n) c.flush.result c.count.result c.count.ensures
    (of_flush _ live.kept live.holdings c.in-Flush.address c.flush.result c.flush.ensures.error c.flush.ensures.cause))

pub returns-in-Sync-clause-cause : goal.returns-in-Sync-clause-cause
returns-in-Sync-clause-cause g c =
    let live = c.args.live.now in
    device_blamed _ live.kept live.holdings _ c.done-in-Sync.result (replied_so _ live.kept live.holdings _ (λ t. Done) c.sync.result c.done-in-Sync.result c.done-in-Sync.ensures
    (of_device _ live.kept live.holdings AsksSync c.sync.result c.sync.ensures.error c.sync.ensures.cause))

pub returns-in-Sync-clause-error : goal.returns-in-Sync-clause-error
returns-in-Sync-clause-error g c =
    let live = c.args.live.now in
    cause_blamed _ live.kept live.holdings _ (asked live.kept.geometry c.args.command.now) (ap (asked live.kept.geometry) c.in-Sync.is) c.done-in-Sync.result (replied_so _ live.kept live.holdings _ (λ t. Done) c.sync.result c.done-in-Sync.result c.done-in-Sync.ensures
    (of_device _ live.kept live.holdings AsksSync c.sync.result c.sync.ensures.error c.sync.ensures.cause))

-- ---- what an answer of bytes or names leaves

pub returns-in-Create-clause-reading : goal.returns-in-Create-clause-reading
returns-in-Create-clause-reading g c = neither (λ (n : ℕ). Number n) (λ n has. has) _ c.create.result c.number.result c.number.ensures

pub returns-in-Mkdir-clause-reading : goal.returns-in-Mkdir-clause-reading
returns-in-Mkdir-clause-reading g c = neither (λ (n : ℕ). Number n) (λ n has. has) _ c.mkdir.result c.number-in-Mkdir.result c.number-in-Mkdir.ensures

pub returns-in-Link-clause-reading : goal.returns-in-Link-clause-reading
returns-in-Link-clause-reading g c = neither (λ t. Done) (λ t has. has) _ c.link.result c.done.result c.done.ensures

pub returns-in-Unlink-clause-reading : goal.returns-in-Unlink-clause-reading
returns-in-Unlink-clause-reading g c = neither (λ t. Done) (λ t has. has) _ c.unlink.result c.done-in-Unlink.result c.done-in-Unlink.ensures

pub returns-in-Rmdir-clause-reading : goal.returns-in-Rmdir-clause-reading
returns-in-Rmdir-clause-reading g c = neither (λ t. Done) (λ t has. has) _ c.rmdir.result c.done-in-Rmdir.result c.done-in-Rmdir.ensures

pub returns-in-Rename-clause-reading : goal.returns-in-Rename-clause-reading
returns-in-Rename-clause-reading g c = neither (λ t. Done) (λ t has. has) _ c.rename.result c.done-in-Rename.result c.done-in-Rename.ensures

pub returns-in-Open-clause-reading : goal.returns-in-Open-clause-reading
returns-in-Open-clause-reading g c = neither (λ (n : ℕ). Number n) (λ n has. has) _ c.open.result c.number-in-Open.result c.number-in-Open.ensures

pub returns-in-Close-clause-reading : goal.returns-in-Close-clause-reading
returns-in-Close-clause-reading g c = neither (λ t. Done) (λ t has. has) _ c.close.result c.done-in-Close.result c.done-in-Close.ensures

pub returns-in-Read-clause-reading : goal.returns-in-Read-clause-reading
returns-in-Read-clause-reading g c = λ _. (c.read.ensures.untouched.1, c.read.ensures.untouched.2)

pub returns-in-Write-clause-reading : goal.returns-in-Write-clause-reading
returns-in-Write-clause-reading g c = neither (λ t. Done) (λ t has. has) _ c.write.result c.done-in-Write.result c.done-in-Write.ensures

pub returns-in-Truncate-clause-reading : goal.returns-in-Truncate-clause-reading
returns-in-Truncate-clause-reading g c = neither (λ t. Done) (λ t has. has) _ c.truncate.result c.done-in-Truncate.result c.done-in-Truncate.ensures

pub returns-in-SetAttributes-clause-reading : goal.returns-in-SetAttributes-clause-reading
returns-in-SetAttributes-clause-reading g c = neither (λ t. Done) (λ t has. has) _ c.set_attributes.result c.done-in-SetAttributes.result c.done-in-SetAttributes.ensures

pub returns-in-List-clause-reading : goal.returns-in-List-clause-reading
returns-in-List-clause-reading g c = λ _. (refl, refl)

pub returns-in-Stat-clause-reading : goal.returns-in-Stat-clause-reading
returns-in-Stat-clause-reading g c = neither Status (λ status has. has) _ c.stat.result c.status.result c.status.ensures

pub returns-in-ReadAttributes-clause-reading : goal.returns-in-ReadAttributes-clause-reading
returns-in-ReadAttributes-clause-reading g c = neither Attributes (λ words has. has) _ c.attributes.result c.attributes-in-ReadAttributes.result c.attributes-in-ReadAttributes.ensures

pub returns-in-Flush-clause-reading : goal.returns-in-Flush-clause-reading
returns-in-Flush-clause-reading g c = neither (λ (n : ℕ). Number n) (λ n has. has) _ c.flush.result c.count.result c.count.ensures

pub returns-in-Sync-clause-reading : goal.returns-in-Sync-clause-reading
returns-in-Sync-clause-reading g c = neither (λ t. Done) (λ t has. has) _ c.sync.result c.done-in-Sync.result c.done-in-Sync.ensures

-- ---- what it wrote

pub returns-in-Create-clause-writes : goal.returns-in-Create-clause-writes
returns-in-Create-clause-writes g c = rw c.in-Create.is (untouched g.D.Device.held g.D.Device.image c.args.live.now.device c.create.new.self.device c.create.ensures.device)

pub returns-in-Mkdir-clause-writes : goal.returns-in-Mkdir-clause-writes
returns-in-Mkdir-clause-writes g c = rw c.in-Mkdir.is (untouched g.D.Device.held g.D.Device.image c.args.live.now.device c.mkdir.new.self.device c.mkdir.ensures.device)

pub returns-in-Link-clause-writes : goal.returns-in-Link-clause-writes
returns-in-Link-clause-writes g c = rw c.in-Link.is (untouched g.D.Device.held g.D.Device.image c.args.live.now.device c.link.new.self.device c.link.ensures.device)

pub returns-in-Unlink-clause-writes : goal.returns-in-Unlink-clause-writes
returns-in-Unlink-clause-writes g c = rw c.in-Unlink.is (untouched g.D.Device.held g.D.Device.image c.args.live.now.device c.unlink.new.self.device c.unlink.ensures.device)

pub returns-in-Rmdir-clause-writes : goal.returns-in-Rmdir-clause-writes
returns-in-Rmdir-clause-writes g c = rw c.in-Rmdir.is (untouched g.D.Device.held g.D.Device.image c.args.live.now.device c.rmdir.new.self.device c.rmdir.ensures.device)

pub returns-in-Rename-clause-writes : goal.returns-in-Rename-clause-writes
returns-in-Rename-clause-writes g c = rw c.in-Rename.is (untouched g.D.Device.held g.D.Device.image c.args.live.now.device c.rename.new.self.device c.rename.ensures.device)

pub returns-in-Open-clause-writes : goal.returns-in-Open-clause-writes
returns-in-Open-clause-writes g c = rw c.in-Open.is (untouched g.D.Device.held g.D.Device.image c.args.live.now.device c.open.new.self.device c.open.ensures.device)

pub returns-in-Close-clause-writes : goal.returns-in-Close-clause-writes
returns-in-Close-clause-writes g c = rw c.in-Close.is (untouched g.D.Device.held g.D.Device.image c.args.live.now.device c.close.new.self.device c.close.ensures.device)

pub returns-in-Read-clause-writes : goal.returns-in-Read-clause-writes
returns-in-Read-clause-writes g c = rw c.in-Read.is (record { image_stays = c.read.ensures.image; held_stays = ap (λ (h : Held). h.media) c.read.ensures.held })

pub returns-in-Write-clause-writes : goal.returns-in-Write-clause-writes
returns-in-Write-clause-writes g c = rw c.in-Write.is (record { image_stays = c.write.ensures.image; held_stays = ap (λ (h : Held). h.media) c.write.ensures.held })

pub returns-in-Truncate-clause-writes : goal.returns-in-Truncate-clause-writes
returns-in-Truncate-clause-writes g c = rw c.in-Truncate.is (untouched g.D.Device.held g.D.Device.image c.args.live.now.device c.truncate.new.self.device c.truncate.ensures.device)

pub returns-in-SetAttributes-clause-writes : goal.returns-in-SetAttributes-clause-writes
returns-in-SetAttributes-clause-writes g c = rw c.in-SetAttributes.is (untouched g.D.Device.held g.D.Device.image c.args.live.now.device c.set_attributes.new.self.device c.set_attributes.ensures.device)

pub returns-in-List-clause-writes : goal.returns-in-List-clause-writes
returns-in-List-clause-writes g c = rw c.in-List.is (record { image_stays = refl; held_stays = refl })

pub returns-in-Stat-clause-writes : goal.returns-in-Stat-clause-writes
returns-in-Stat-clause-writes g c = rw c.in-Stat.is (record { image_stays = refl; held_stays = refl })

pub returns-in-ReadAttributes-clause-writes : goal.returns-in-ReadAttributes-clause-writes
returns-in-ReadAttributes-clause-writes g c = rw c.in-ReadAttributes.is (record { image_stays = refl; held_stays = refl })

pub returns-in-Flush-clause-flushed : goal.returns-in-Flush-clause-flushed
returns-in-Flush-clause-flushed g c = λ a asks.
    flush_counts c.args.live.now a c.in-Flush.address c.flush.result c.count.result c.count.ensures c.flush.ensures.count (let same : Flush c.in-Flush.address ≡ Flush a = sym c.in-Flush.is ∙ asks in cc)

pub returns-in-Flush-clause-writes : goal.returns-in-Flush-clause-writes
returns-in-Flush-clause-writes g c =
    let old = c.args.live.now.device in
    let new = c.flush.new.self.device in
    rw c.in-Flush.is (writes_flush c.in-Flush.address (g.D.Device.image old) (g.D.Device.held old) (g.D.Device.image new) (g.D.Device.held new) c.flush.result c.count.result c.count.ensures
    (unwritten_writes (g.D.Device.image old) (g.D.Device.image new) (g.D.Device.held old) (g.D.Device.held new) c.flush.result c.flush.ensures.unwritten) c.flush.ensures.written
    (refused_writes _ (g.D.Device.image old) (g.D.Device.held old) (g.D.Device.image new) (g.D.Device.held new) c.flush.result c.flush.ensures.untouched))

pub returns-in-Sync-clause-writes : goal.returns-in-Sync-clause-writes
returns-in-Sync-clause-writes g c = rw c.in-Sync.is (λ h. (pending_of c.sync.new.self.queue, c.sync.ensures.writes h))
