use Rattle.std.proofs.Common.{◌≡◌, ◌<◌, cond, true, sym, ap, ◌∙◌, arith}
use Rattle.frozen.specs.Kept.{frozen_view}
use Rattle.fuse_wire.specs.declared.bodies.Body.TheVariants as bodies
use Rattle.fuse_wire.specs.declared.bodies.Entry.{Entry}
use Rattle.fuse_wire.specs.declared.errors.Errno.TheVariants as errors
use Rattle.model.specs.Layout.{inode_count}
use Rattle.fuse_reader.specs.Said.{Refused, spelled, told}
use Rattle.fuse_reader.specs.Shown.{entry_of}
use Rattle.fuse_reader.specs.Turns.{is_below_root}
use Rattle.fuse_reader.proofs.ListingLemmas.{below_root, entry_small}
use Rattle.fuse_reader.proofs.SameLemmas.{on_ok}
use Rattle.fuse_reader.proofs.looking.tell_found.Goals as goal

pub tell-requires-2 : goal.tell-requires-2
tell-requires-2 c = omega (arith, entry_small c.entry_of-entry.result)

pub returns-clause-told : goal.returns-clause-told
returns-clause-told c =
    let geo = c.args.frozen.now.geometry in
    let view = frozen_view c.args.frozen.now in
    let t = c.args.nodes.now in
    let i = c.args.number in
    let count = c.inodes.ensures.count ∙ ap inode_count c.geometry.ensures.geometry in
    let low : i < inode_count geo = omega (arith, c.if-number-inodes.false, count) in
    let below : is_below_root geo i ≡ true = below_root geo i (omega (arith, c.if-number-le-ROOT.false)) low in
    on_ok c.tell-2.result c.tell-2.ensures (λ r. r
    ∙ ap (λ (e : Entry). spelled c.args.unique (told (bodies.Entry e))) (c.entry_of-entry.ensures t c.in-Ok.ensures.node)
    ∙ sym (ap (λ b. spelled c.args.unique (cond b (told (bodies.Entry (entry_of geo view c.args.owner t i))) (Refused errors.Device))) below))
