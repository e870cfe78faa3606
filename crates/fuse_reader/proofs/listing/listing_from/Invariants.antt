use Rattle.std.proofs.Common.{◌≡◌, ◌≤◌, ◌-◌, false, length}
use Rattle.frozen.specs.Kept.{frozen_view}
use Rattle.fuse_reader.specs.Listings.{listed, so_far}
use Rattle.fuse_reader.proofs.listing.listing_from.Given as goal

-- the names of the slots before, all of which had room
abbrev pub invariant-loop-place : goal.invariant-loop-place
invariant-loop-place l = record {
  listed : so_far l.listing.items false ≡ listed l.frozen.geometry (frozen_view l.frozen) l.directory l.room l.from (l.place - l.from);
  few : length l.listing.items ≤ l.room;
}
