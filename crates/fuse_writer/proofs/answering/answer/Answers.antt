use Rattle.std.proofs.Common.{◌≡◌, ◌⊎◌, Bool, refl, ap, inl, inr, ◌∙◌}
use Rattle.fuse_wire.specs.declared.bodies.Body.TheVariants as bodies
use Rattle.fuse_wire.specs.declared.errors.Errno.TheVariants as errors
use Rattle.frozen.specs.Kept.{Kept}
use Rattle.fuse_wire.specs.declared.numbers.Handle.{Handle}
use Rattle.fuse_wire.specs.declared.requests.Head.{Head}
use Rattle.fuse_wire.specs.declared.requests.Request.{Request}
use Rattle.fuse_wire.specs.declared.requests.Request.TheVariants.{Sync, SyncDirectory}
use Rattle.fuse_writer.specs.declared.session.Session.{Session}
use Rattle.fuse_wire.specs.Requests as asked
use Rattle.fuse_wire.specs.Requests.{seen}
use Rattle.fuse_reader.specs.Said.{Nothing, Refused, told}
use Rattle.fuse_reader.specs.Turns.{agreed}
use Rattle.fuse_writer.specs.Answers.{doing_of, served}
use Rattle.fuse_writer.specs.Doings.{said_by}
use Rattle.fuse_writer.specs.Requests.{kept_for, syncs_node}
use Rattle.fuse_writer.specs.Saying.{said_bytes, said_created, said_done, said_found}
use Rattle.fuse_writer.proofs.DoingLemmas.{does_note, does_say}
use Rattle.fuse_writer.proofs.TurnLemmas.{turn_does, turn_syncs}
use Rattle.fuse_writer.proofs.answering.answer.Goals as goal
use Rattle.fuse_writer.proofs.answering.answer.Goals.{in-Sync, in-Sync-2}

pub returns-in-Init-clause-turn : goal.returns-in-Init-clause-turn
unfolding doing_of
returns-in-Init-clause-turn g c =
    turn_does _ _ _ _ _ _ _ _ (asked.Init c.in-Init.offer) _ (ap seen c.in-Init.is) refl refl (agreed served c.in-Init.offer) (does_say _ _ _ _ _ _ refl refl refl) c.agree.ensures

pub returns-in-Lookup-clause-turn : goal.returns-in-Lookup-clause-turn
unfolding doing_of
returns-in-Lookup-clause-turn g c =
    turn_does _ _ _ _ _ _ _ _ (asked.Lookup c.in-Lookup.name.now) _ (ap seen c.in-Lookup.is) refl refl (said_found c.look_up.result) c.look_up.ensures.does c.say_found.ensures

pub returns-in-Forget-clause-turn : goal.returns-in-Forget-clause-turn
unfolding doing_of
returns-in-Forget-clause-turn g c =
    turn_does _ _ _ _ _ _ _ _ (asked.Forgotten c.in-Forget.lookups) _ (ap seen c.in-Forget.is) refl refl (Nothing) (does_note _ _ _ _ _ _ _ _ (does_say _ _ _ _ _ _ refl refl (rw c.forget.ensures refl))) c.clear.ensures.items

pub returns-in-BatchForget-clause-turn : goal.returns-in-BatchForget-clause-turn
unfolding doing_of
returns-in-BatchForget-clause-turn g c =
    turn_does _ _ _ _ _ _ _ _ (asked.BatchForget _) _ (ap seen c.in-BatchForget.is) refl refl (Nothing) (does_note _ _ _ _ _ _ _ _ (does_say _ _ _ _ _ _ refl refl (rw c.forget_all.ensures.nodes refl))) c.clear-in-BatchForget.ensures.items

pub returns-in-GetAttributes-clause-turn : goal.returns-in-GetAttributes-clause-turn
unfolding doing_of
returns-in-GetAttributes-clause-turn g c =
    turn_does _ _ _ _ _ _ _ _ (asked.GetAttributes _) _ (ap seen c.in-GetAttributes.is) refl refl (said_by (bodies.Attributes (kept_for c.args.mounted.now.session)) c.attributes_at.result) c.attributes_at.ensures (rw c.kept_for-kept.ensures at c.say_attributes.ensures)

pub returns-in-SetAttributes-clause-turn : goal.returns-in-SetAttributes-clause-turn
unfolding doing_of
returns-in-SetAttributes-clause-turn g c =
    turn_does _ _ _ _ _ _ _ _ (asked.SetAttributes c.in-SetAttributes.changes) _ (ap seen c.in-SetAttributes.is) refl refl (said_by (bodies.Attributes (kept_for c.set_attributes-outcome.new.mounted.session)) c.set_attributes-outcome.result) c.set_attributes-outcome.ensures.does (rw c.kept_for-kept-in-SetAttributes.ensures at c.say_attributes-in-SetAttributes.ensures)

pub returns-in-MakeNode-clause-turn : goal.returns-in-MakeNode-clause-turn
unfolding doing_of
returns-in-MakeNode-clause-turn g c =
    turn_does _ _ _ _ _ _ _ _ (asked.MakeNode c.in-MakeNode.mode c.in-MakeNode.device _ c.in-MakeNode.name.now) _ (ap seen c.in-MakeNode.is) refl refl (said_by bodies.Entry c.make_node.result) (rw c.node.ensures at c.make_node.ensures.does) c.say_entry-in-MakeNode.ensures

pub returns-in-MakeDirectory-clause-turn : goal.returns-in-MakeDirectory-clause-turn
unfolding doing_of
returns-in-MakeDirectory-clause-turn g c =
    turn_does _ _ _ _ _ _ _ _ (asked.MakeDirectory c.in-MakeDirectory.mode _ c.in-MakeDirectory.name.now) _ (ap seen c.in-MakeDirectory.is) refl refl (said_by bodies.Entry c.make_directory.result) (rw c.directory.ensures at c.make_directory.ensures.does) c.say_entry-in-MakeDirectory.ensures

pub returns-in-Unlink-clause-turn : goal.returns-in-Unlink-clause-turn
unfolding doing_of
returns-in-Unlink-clause-turn g c =
    turn_does _ _ _ _ _ _ _ _ (asked.Unlink c.in-Unlink.name.now) _ (ap seen c.in-Unlink.is) refl refl (said_done c.unlink.result) c.unlink.ensures.does c.say_done.ensures

pub returns-in-RemoveDirectory-clause-turn : goal.returns-in-RemoveDirectory-clause-turn
unfolding doing_of
returns-in-RemoveDirectory-clause-turn g c =
    turn_does _ _ _ _ _ _ _ _ (asked.RemoveDirectory c.in-RemoveDirectory.name.now) _ (ap seen c.in-RemoveDirectory.is) refl refl (said_done c.remove_directory.result) c.remove_directory.ensures.does c.say_done-in-RemoveDirectory.ensures

pub returns-in-Rename-clause-turn : goal.returns-in-Rename-clause-turn
unfolding doing_of
returns-in-Rename-clause-turn g c =
    turn_does _ _ _ _ _ _ _ _ (asked.Rename c.in-Rename.directory c.in-Rename.flags c.in-Rename.old.now c.in-Rename.new.now) _ (ap seen c.in-Rename.is) refl refl (said_done c.rename.result) c.rename.ensures.does c.say_done-in-Rename.ensures

pub returns-in-Link-clause-turn : goal.returns-in-Link-clause-turn
unfolding doing_of
returns-in-Link-clause-turn g c =
    turn_does _ _ _ _ _ _ _ _ (asked.Link c.in-Link.file c.in-Link.name.now) _ (ap seen c.in-Link.is) refl refl (said_by bodies.Entry c.link-in-Link.result) c.link-in-Link.ensures.does c.say_entry-in-Link.ensures

pub returns-in-Open-clause-turn : goal.returns-in-Open-clause-turn
unfolding doing_of
returns-in-Open-clause-turn g c =
    turn_does _ _ _ _ _ _ _ _ (asked.Open _) _ (ap seen c.in-Open.is) refl refl (said_by bodies.Opened c.open.result) c.open.ensures.does c.say_opened.ensures

pub returns-in-Create-clause-turn : goal.returns-in-Create-clause-turn
unfolding doing_of
returns-in-Create-clause-turn g c =
    turn_does _ _ _ _ _ _ _ _ (asked.Create _ c.in-Create.mode _ c.in-Create.name.now) _ (ap seen c.in-Create.is) refl refl (said_created c.create.result) (rw c.file.ensures at c.create.ensures.does) c.say_created.ensures

pub returns-in-Read-clause-turn : goal.returns-in-Read-clause-turn
unfolding doing_of
returns-in-Read-clause-turn g c =
    turn_does _ _ _ _ _ _ _ _ (asked.Read _ c.in-Read.offset c.in-Read.size) _ (ap seen c.in-Read.is) refl refl (said_bytes (λ bytes. bytes.items) c.read.result) c.read.ensures.does c.say_bytes-in-Read.ensures

pub returns-in-Write-clause-turn : goal.returns-in-Write-clause-turn
unfolding doing_of
returns-in-Write-clause-turn g c =
    turn_does _ _ _ _ _ _ _ _ (asked.Write _ c.in-Write.offset c.in-Write.bytes.now) _ (ap seen c.in-Write.is) refl refl (said_by bodies.Written c.write.result) c.write.ensures.does c.say_written.ensures

pub returns-in-Release-clause-turn : goal.returns-in-Release-clause-turn
unfolding doing_of
returns-in-Release-clause-turn g c =
    turn_does _ _ _ _ _ _ _ _ (asked.Release c.in-Release.handle) _ (ap seen c.in-Release.is) refl refl (said_done c.release.result) c.release.ensures.does c.say_done-in-Release.ensures

pub returns-in-OpenDirectory-clause-turn : goal.returns-in-OpenDirectory-clause-turn
unfolding doing_of
returns-in-OpenDirectory-clause-turn g c =
    turn_does _ _ _ _ _ _ _ _ (asked.OpenDirectory _) _ (ap seen c.in-OpenDirectory.is) refl refl (said_by bodies.Opened c.open_directory.result) c.open_directory.ensures c.say_opened-in-OpenDirectory.ensures

pub returns-in-ReadDirectory-clause-turn : goal.returns-in-ReadDirectory-clause-turn
unfolding doing_of
returns-in-ReadDirectory-clause-turn g c =
    turn_does _ _ _ _ _ _ _ _ (asked.ReadDirectory _ c.in-ReadDirectory.offset c.in-ReadDirectory.size) _ (ap seen c.in-ReadDirectory.is) refl refl (said_bytes (λ bytes. bytes.items) c.list.result) c.list.ensures.does c.say_bytes-in-ReadDirectory.ensures

pub returns-in-Statistics-clause-turn : goal.returns-in-Statistics-clause-turn
unfolding doing_of
returns-in-Statistics-clause-turn g c =
    turn_does _ _ _ _ _ _ _ _ (asked.Statistics) _ (ap seen c.in-Statistics.is) refl refl (told (bodies.Statistics c.room_of-room.result)) (does_say _ _ _ _ _ _ refl (ap (λ r. told (bodies.Statistics r)) (rw c.metadata.ensures at c.room_of-room.ensures)) refl) c.tell.ensures

pub returns-in-Interrupt-clause-turn : goal.returns-in-Interrupt-clause-turn
unfolding doing_of
returns-in-Interrupt-clause-turn g c =
    turn_does _ _ _ _ _ _ _ _ (asked.Interrupt _) _ (ap seen c.in-Interrupt.is) refl refl (Nothing) (does_say _ _ _ _ _ _ refl refl refl) c.clear-in-Interrupt.ensures.items

pub returns-in-ReleaseDirectory-clause-turn : goal.returns-in-ReleaseDirectory-clause-turn
unfolding doing_of
returns-in-ReleaseDirectory-clause-turn g c =
    turn_does _ _ _ _ _ _ _ _ (asked.ReleaseDirectory _) _ (ap seen c.in-ReleaseDirectory.is) refl refl (told bodies.Empty) (does_say _ _ _ _ _ _ refl refl refl) c.tell-in-ReleaseDirectory.ensures

pub returns-in-Destroy-clause-turn : goal.returns-in-Destroy-clause-turn
unfolding doing_of
returns-in-Destroy-clause-turn g c =
    turn_syncs _ _ _ _ _ _ _ _ c.end.result c.end.ensures.synced _ (ap (doing_of c.args.mounted.now.asking.volume.kept c.args.mounted.now.session c.args.head) (ap seen c.in-Destroy.is))
    c.end.ensures.does c.say_done-in-Destroy.ensures

-- a sync of a file and one of a directory lead to the same
syncs_either : (kept : Kept) (s : Session) (head : Head) (request : Request) (data_only : Bool)
    → ((handle : Handle) × request ≡ Sync handle data_only) ⊎ ((handle : Handle) × request ≡ SyncDirectory handle data_only)
    → doing_of kept s head (seen request) ≡ syncs_node s head.node data_only
unfolding doing_of
syncs_either kept s head request data_only (inl h) = ap (λ (r : Request). doing_of kept s head (seen r)) h.1
syncs_either kept s head request data_only (inr h) = ap (λ (r : Request). doing_of kept s head (seen r)) h.1

pub returns-in-Sync-clause-turn : goal.returns-in-Sync-clause-turn
returns-in-Sync-clause-turn g c =
    let kept = c.args.mounted.now.asking.volume.kept in
    let s = c.args.mounted.now.session in
    let head = c.args.head in
    elim c.in-Sync-1.branch [
      | in-Sync w ↦
          let same : w.in-Sync.data_only ≡ c.in-Sync-1.data_only = cc in
          turn_syncs _ _ _ _ _ _ _ _ c.sync_node.result c.sync_node.ensures.synced _ (syncs_either kept s head c.args.request w.in-Sync.data_only w.in-Sync.is ∙ ap (syncs_node s head.node) same)
          c.sync_node.ensures.does c.say_done-in-Sync.ensures
      | in-Sync-2 w ↦
          let same : w.in-Sync.data_only ≡ c.in-Sync-1.data_only = cc in
          turn_syncs _ _ _ _ _ _ _ _ c.sync_node.result c.sync_node.ensures.synced _ (syncs_either kept s head c.args.request w.in-Sync.data_only w.in-Sync.is ∙ ap (syncs_node s head.node) same)
          c.sync_node.ensures.does c.say_done-in-Sync.ensures
    ]

pub returns-in-SyncVolume-clause-turn : goal.returns-in-SyncVolume-clause-turn
unfolding doing_of
returns-in-SyncVolume-clause-turn g c =
    turn_syncs _ _ _ _ _ _ _ _ c.sync_all.result c.sync_all.ensures.synced _ (ap (doing_of c.args.mounted.now.asking.volume.kept c.args.mounted.now.session c.args.head) (ap seen c.in-SyncVolume.is))
    c.sync_all.ensures.does c.say_done-in-SyncVolume.ensures

pub returns-in-ReadSymbolicLink-clause-turn : goal.returns-in-ReadSymbolicLink-clause-turn
unfolding doing_of
returns-in-ReadSymbolicLink-clause-turn g c =
    turn_does _ _ _ _ _ _ _ _ (asked.ReadSymbolicLink) _ (ap seen c.in-ReadSymbolicLink.is) refl refl (said_bytes (λ bytes. bytes.items) c.read_link.result) c.read_link.ensures.does c.say_bytes.ensures

pub returns-in-MakeSymbolicLink-clause-turn : goal.returns-in-MakeSymbolicLink-clause-turn
unfolding doing_of
returns-in-MakeSymbolicLink-clause-turn g c =
    turn_does _ _ _ _ _ _ _ _ (asked.MakeSymbolicLink c.in-MakeSymbolicLink.name.now c.in-MakeSymbolicLink.target.now) _ (ap seen c.in-MakeSymbolicLink.is) refl refl (said_by bodies.Entry c.make_link.result)
    (rw c.link.ensures at c.make_link.ensures.does) c.say_entry.ensures

pub returns-in-Flush-clause-turn : goal.returns-in-Flush-clause-turn
unfolding doing_of
returns-in-Flush-clause-turn g c = elim c.in-Flush.is [
  | inl h ↦ turn_does _ _ _ _ _ _ _ _ _ _ (ap seen h.1) refl refl (Refused errors.NotImplemented) (does_say _ _ _ _ _ _ refl refl refl) c.refuse.ensures
  | inr h ↦ turn_does _ _ _ _ _ _ _ _ _ _ (ap seen h.1) refl refl (Refused errors.NotImplemented) (does_say _ _ _ _ _ _ refl refl refl) c.refuse.ensures
]

pub returns-in-ReadDirectoryPlus-clause-turn : goal.returns-in-ReadDirectoryPlus-clause-turn
unfolding doing_of
returns-in-ReadDirectoryPlus-clause-turn g c =
    turn_does _ _ _ _ _ _ _ _ (asked.ReadDirectoryPlus _ c.in-ReadDirectoryPlus.offset c.in-ReadDirectoryPlus.size) _ (ap seen c.in-ReadDirectoryPlus.is) refl refl (said_bytes (λ bytes. bytes.items) c.list_plus.result) c.list_plus.ensures.does c.say_bytes-in-ReadDirectoryPlus.ensures

pub returns-in-Allocate-clause-turn : goal.returns-in-Allocate-clause-turn
unfolding doing_of
returns-in-Allocate-clause-turn g c =
    turn_does _ _ _ _ _ _ _ _ (asked.Allocate _ c.in-Allocate.offset c.in-Allocate.bytes c.in-Allocate.mode) _ (ap seen c.in-Allocate.is) refl refl (said_done c.allocate.result) c.allocate.ensures.does c.say_done-in-Allocate.ensures
