use Rattle.std.proofs.Common.{◌≡◌, ◌++◌, inl, inr, refl, sym, ap, ap₂, ◌∙◌, subst, arith}
use Rattle.std.proofs.lemmas.Result.{err_from_is_err_and}
use Rattle.device.proofs.ReadingLemmas.{reads_on}
use Rattle.frozen.specs.Kept.{IsKeptOf, frozen_view}
use Rattle.layout.specs.declared.refusal.Refusal.TheVariants.{Device}
use Rattle.machine.specs.Cells.{seen}
use Rattle.model.specs.Image.{image_view}
use Rattle.model.specs.Uses.{blocks_of}
use Rattle.model.specs.View.{Inode}
use Rattle.reading.specs.Bytes.{bytes_of, seen_below}
use Rattle.reading.proofs.ByteLemmas.{same_directory, same_inode, seen_next, seen_none}
use Rattle.reading.proofs.CauseLemmas.{as_other, number_of, open_accepted, open_of_directory, open_refused}
use Rattle.reading.proofs.bytes.read.Goals as goal

pub returns-in_err-number-clause-refused : goal.returns-in_err-number-clause-refused
returns-in_err-number-clause-refused g c =
    let p = err_from_is_err_and c.from_residual.result c.from_residual.ensures.1 in
    let kept = c.args.frozen.now in
    rw (p.1, p.2) (inr (λ image is. open_refused kept.geometry (image_view kept.geometry image) c.args.path.now c.in_err-number.field-0.0 (c.in_err-number.ensures.refused image is)))

pub returns-in_err-number-clause-cause : goal.returns-in_err-number-clause-cause
returns-in_err-number-clause-cause g c =
    let p = err_from_is_err_and c.from_residual.result c.from_residual.ensures.1 in
    rw (p.1, p.2) (λ e. absurd (c.in_err-number.ensures.device (as_other _ _ c.in_err-number.field-0.0 Device refl e refl)))

pub returns-then-is_directory_at-clause-refused : goal.returns-then-is_directory_at-clause-refused
returns-then-is_directory_at-clause-refused g c = inr (λ image is.
    let kept = c.args.frozen.now in
    let view = image_view kept.geometry image in
    let i = c.in_ok-number.number in
    open_of_directory kept.geometry view c.args.path.now i (c.in_ok-number.ensures.found image is)
    (sym (same_directory kept.geometry (frozen_view kept) view is.metadata i) ∙ sym c.is_directory_at.ensures ∙ c.if-is_directory_at.true))

pub loop-index-init : goal.loop-index-init
loop-index-init g c = record {
  reads = record { same = refl; held = refl; honest = λ h. h };
  failures = refl;
  read = λ h is. c.new-bytes.ensures.items ∙ sym (seen_none c.args.frozen.now.geometry (image_view c.args.frozen.now.geometry (g.D.Device.image c.args.device.now)) c.in_ok-number.number);
}

pub returns-in_err-add_block-clause-refused : goal.returns-in_err-add_block-clause-refused
returns-in_err-add_block-clause-refused g c =
    let p = err_from_is_err_and c.from_residual-in_err-add_block.result c.from_residual-in_err-add_block.ensures.1 in
    rw (p.1, p.2) (elim c.in_err-add_block.ensures.error [ inl device ↦ inl device | inr memory ↦ inr (λ image is. (inl memory, refl)) ])

pub returns-in_err-add_block-clause-cause : goal.returns-in_err-add_block-clause-cause
returns-in_err-add_block-clause-cause g c =
    let p = err_from_is_err_and c.from_residual-in_err-add_block.result c.from_residual-in_err-add_block.ensures.1 in
    rw (p.1, p.2, ← c.loop-index.invariant.failures) (λ e. c.in_err-add_block.ensures.cause (as_other _ _ c.in_err-add_block.field-0.0 Device refl e refl))

pub loop-index-preserved : goal.loop-index-preserved
loop-index-preserved g c =
    let inv = c.loop-index.invariant in
    let kept = c.args.frozen.now in
    let image = g.D.Device.image c.args.device.now in
    let i = c.in_ok-number.number in
    let k = c.loop-index.index in
    record {
      reads = reads_on inv.reads c.add_block.ensures.reads;
      failures = c.in_ok-add_block.ensures.failures ∙ inv.failures;
      read = λ h is.
          c.in_ok-add_block.ensures.added h (subst (IsKeptOf kept) (sym inv.reads.same) is)
          ∙ ap₂ (λ bytes there. bytes ++ seen kept.geometry (image_view kept.geometry there) i k) (inv.read (c.add_block.ensures.reads.honest h) is) inv.reads.same
          ∙ sym (seen_next kept.geometry (image_view kept.geometry image) i k);
    }

pub returns-clause-read : goal.returns-clause-read
returns-clause-read g c = λ honest is.
    let kept = c.args.frozen.now in
    let view = image_view kept.geometry (g.D.Device.image c.args.device.now) in
    let i = c.in_ok-number.number in
    let leads = c.in_ok-number.ensures.found (g.D.Device.image c.args.device.now) is in
    let file = sym (same_directory kept.geometry (frozen_view kept) view is.metadata i) ∙ sym c.is_directory_at.ensures ∙ c.if-is_directory_at.false in
    let blocks : c.blocks-index-end.result ≡ blocks_of (view.inode i).size =
    c.blocks-index-end.ensures ∙ ap (λ (r : Inode). blocks_of r.size) (c.record_of.ensures ∙ same_inode kept (g.D.Device.image c.args.device.now) is i) in
    let all : c.loop-index.index ≡ c.blocks-index-end.result = omega (arith, c.loop-index-test.false, c.loop-index.auto.index-end) in
    record {
      opens = (open_accepted kept.geometry view c.args.path.now i leads file, tt);
      bytes = c.loop-index.invariant.read honest is ∙ ap (seen_below kept.geometry view i) (all ∙ blocks)
          ∙ ap (λ n. bytes_of kept.geometry view n) (sym (number_of kept.geometry view c.args.path.now i leads));
    }
