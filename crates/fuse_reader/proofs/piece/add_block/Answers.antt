use Rattle.std.proofs.Common.{◌≡◌, ◌<◌, ◌++◌, ◌-◌, ◌*◌, min, sym, ap, ◌∙◌, arith}
use Rattle.frozen.specs.Kept.{frozen_view}
use Rattle.model.specs.Layout.{block_count}
use Rattle.model.specs.View.{Inode}
use Rattle.model.proofs.UseLemmas.{claim_parts}
use Rattle.fuse_reader.proofs.PieceLemmas.{address_below, seen_block}
use Rattle.fuse_reader.proofs.piece.add_block.Goals as goal

pub read-requires : goal.read-requires
read-requires g c =
    let kept = c.args.frozen.now in
    let low : c.in-Some.address < block_count kept.geometry =
    address_below kept.geometry c.in-Some.address (claim_parts kept.geometry (frozen_view kept) c.args.number c.args.index c.in-Some.address (sym c.claim_at.ensures ∙ c.in-Some.is)).1 in
    omega (arith, low, c.requires.count)

pub returns-clause-added : goal.returns-clause-added
returns-clause-added g c = λ honest is.
    let kept = c.args.frozen.now in
    let items = c.args.bytes.now.items in
    let count : c.length_in-length.result ≡ min (((frozen_view kept).inode c.args.number).size - 1024 * c.args.index) 1024 =
    c.length_in-length.ensures ∙ ap (λ (r : Inode). min (r.size - 1024 * c.args.index) 1024) (c.length_in.view_is ∙ c.record_of.ensures) in
    c.in_ok-extend_from_slice.ensures.items
    ∙ ap (λ more. items ++ more) (seen_block kept (g.D.Device.image c.args.device.now) is c.args.number c.args.index c.in-Some.address c.read.new.to c.length_in-length.result
    (sym c.claim_at.ensures ∙ c.in-Some.is) (c.in_ok-read.ensures.block honest) c.read.array_long count)
