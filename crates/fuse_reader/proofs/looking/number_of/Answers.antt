use Rattle.std.proofs.Common.{sym}
use Rattle.frozen.specs.Kept.{frozen_view}
use Rattle.live_paths.proofs.ShownLemmas.{self_shown}
use Rattle.fuse_reader.proofs.ListingLemmas.{lookup_none, lookup_some}
use Rattle.fuse_reader.proofs.looking.number_of.Goals as goal

pub returns-in-Some : goal.returns-in-Some
returns-in-Some c =
    let kept = c.args.frozen.now in
    let found = c.in-Some.ensures.found (frozen_view kept) (self_shown kept) in
    sym (lookup_some kept.geometry (frozen_view kept) c.args.directory c.args.name.now c.in-Some.entry.slot c.in-Some.entry.number found.0 found.1)

pub returns-in-None : goal.returns-in-None
returns-in-None c =
    let kept = c.args.frozen.now in
    sym (lookup_none kept.geometry (frozen_view kept) c.args.directory c.args.name.now (c.in-None.ensures.found (frozen_view kept) (self_shown kept)))
