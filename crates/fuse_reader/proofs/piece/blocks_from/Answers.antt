use Rattle.std.proofs.Common.{◌+◌, ◌++◌, refl, sym, ap₂, ◌∙◌, subst, arith}
use Rattle.device.proofs.ReadingLemmas.{reads_on}
use Rattle.frozen.specs.Kept.{IsKeptOf, frozen_view}
use Rattle.layout.specs.declared.refusal.Refusal.TheVariants.{Damaged}
use Rattle.machine.specs.Cells.{seen}
use Rattle.model.specs.Image.{image_view}
use Rattle.fuse_reader.proofs.PieceLemmas.{err_other, lacks_here, lacks_more, lacks_none, seen_next, seen_none}
use Rattle.fuse_reader.proofs.piece.blocks_from.Goals as goal

pub loop-index-init : goal.loop-index-init
loop-index-init g c = record {
  reads = record { same = refl; held = refl; honest = λ h. h };
  failures = refl;
  whole = lacks_none c.args.frozen.now.geometry (frozen_view c.args.frozen.now) c.args.number c.args.first;
  read = λ h is. c.new-bytes.ensures.items
      ∙ sym (seen_none c.args.frozen.now.geometry (image_view c.args.frozen.now.geometry (g.D.Device.image c.args.device.now)) c.args.number c.args.first);
}

pub returns-in-Err-clause-damaged : goal.returns-in-Err-clause-damaged
returns-in-Err-clause-damaged g c = λ e.
    lacks_here c.args.frozen.now.geometry (frozen_view c.args.frozen.now) c.args.number c.args.first c.args.count c.loop-index.index (omega (arith, c.loop-index-test.true))
    (c.in-Err.ensures.damaged (err_other c.in-Err.refusal Damaged e))

pub loop-index-preserved : goal.loop-index-preserved
loop-index-preserved g c =
    let inv = c.loop-index.invariant in
    let kept = c.args.frozen.now in
    let image = g.D.Device.image c.args.device.now in
    let i = c.args.number in
    let n = c.loop-index.index in
    record {
      reads = reads_on inv.reads c.add_block.ensures.reads;
      failures = c.in-Ok.ensures.failures ∙ inv.failures;
      whole = lacks_more kept.geometry (frozen_view kept) i c.args.first n inv.whole c.in-Ok.ensures.there;
      read = λ h is.
          c.in-Ok.ensures.added h (subst (IsKeptOf kept) (sym inv.reads.same) is)
          ∙ ap₂ (λ bytes there. bytes ++ seen kept.geometry (image_view kept.geometry there) i (c.args.first + n)) (inv.read (c.add_block.ensures.reads.honest h) is) inv.reads.same
          ∙ sym (seen_next kept.geometry (image_view kept.geometry image) i c.args.first n);
    }
