use Rattle.std.proofs.Common.{false, ap, ◌∙◌}
use Rattle.fuse_wire.specs.Replies.{listed_bytes, listed_head}
use Rattle.fuse_wire.specs.declared.entries.DirectoryEntry.{DirectoryEntry}
use Rattle.fuse_reader.specs.Listings.{add_bytes, so_far}
use Rattle.fuse_reader.proofs.ListingLemmas.{room_added}
use Rattle.fuse_reader.proofs.listing.push_name.Goals as goal

pub returns-clause-added : goal.returns-clause-added
unfolding listed_head
returns-clause-added c =
    room_added c.args.room c.args.listing.now.items c.push_entry.new.listing.items (listed_bytes c.entry_in-entry.result) c.in_ok-fits.fits c.in_ok-fits.ensures.fits c.in_ok-fits.ensures.written
    ∙ ap (λ (e : DirectoryEntry). add_bytes c.args.room (listed_bytes e) (so_far c.args.listing.now.items false)) c.entry_in-entry.ensures
