use Rattle.std.proofs.Common.{◌≡◌, ◌≤◌, ◌-◌, [], length}
use Rattle.fuse_writer.specs.Doings.{MayLead}
use Rattle.fuse_writer.specs.Requests.{adds_slots}
use Rattle.fuse_writer.proofs.listing.list_plus.Given as goal

-- the names of the slots before, all of which had room
abbrev pub invariant-loop-place : goal.invariant-loop-place
invariant-loop-place g l = record {
  asking : l.mounted.asking ≡ l.fn.mounted.asking;
  few : length l.listing.items ≤ l.room;
  on : MayLead (adds_slots l.fn.mounted.asking.volume.kept l.fn.mounted.session l.directory l.room l.from (l.end - l.from) []) l.fn.mounted.session
      (adds_slots l.fn.mounted.asking.volume.kept l.mounted.session l.directory l.room l.place (l.end - l.place) l.listing.items) l.mounted.session;
}
