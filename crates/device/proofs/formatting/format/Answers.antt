-- Up to the address that is looked at all blocks are those of the fresh image; where all were zeroes, those from there on still are.
use Rattle.std.proofs.Common.{◌≡◌, ◌<◌, ◌≤◌, ℕ, [], get_or-set_other, sym, ap, ◌∙◌, subst, arith, length, set as slice_set}
use Rattle.std.proofs.lemmas.List.{length-set}
use Rattle.model.specs.Image.{IsImage, block_at, image_view}
use Rattle.model.specs.Rules.{ObeysRules}
use Rattle.layout.specs.Fresh.{fresh_bytes, zero_block}
use Rattle.device.specs.declared.formatting.Before.TheVariants.{Zeroes}
use Rattle.device.proofs.FormatLemmas.{all_written, one_written, written_to_next}
use Rattle.device.proofs.formatting.format.Goals as goal

pub returns-clause-image : goal.returns-clause-image
returns-clause-image g c =
    all_written c.args.geometry.now (g.D.Device.image c.loop-address.device) (c.loop-address.invariant.count ∙ c.requires.count)
    (λ k b. c.loop-address.invariant.written k (omega (arith, b, c.loop-address-test.false, c.blocks-in-loop-address.ensures.count)))

pub returns-clause-is_image : goal.returns-clause-is_image
returns-clause-is_image g c =
    subst (IsImage c.args.geometry.now) (sym (returns-clause-image g c)) (c.fresh_blocks_are_the_fresh_image.ensures.image c.args.geometry.now c.blocks-in-loop-address.ensures.geometry)

pub returns-clause-view : goal.returns-clause-view
returns-clause-view g c =
    ap (image_view c.args.geometry.now) (returns-clause-image g c) ∙ c.fresh_blocks_are_the_fresh_image.ensures.view c.args.geometry.now c.blocks-in-loop-address.ensures.geometry

pub returns-clause-rules : goal.returns-clause-rules
returns-clause-rules g c =
    subst (λ image. ObeysRules c.args.geometry.now (image_view c.args.geometry.now image)) (sym (returns-clause-image g c))
    (c.fresh_blocks_are_the_fresh_image.ensures.rules c.args.geometry.now c.blocks-in-loop-address.ensures.geometry)

pub put-requires-clause-address : goal.put-requires-clause-address
put-requires-clause-address g c = omega (arith, c.loop-address.invariant.count, c.requires.count, c.loop-address-test.true, c.blocks-in-loop-address.ensures.count)

pub put-requires-clause-zeroes : goal.put-requires-clause-zeroes
put-requires-clause-zeroes g c zeroes = c.loop-address.invariant.zeroes zeroes c.loop-address.address (omega arith) (put-requires-clause-address g c)

pub loop-address-preserved : goal.loop-address-preserved
loop-address-preserved g c =
    let kept = c.loop-address.invariant in
    let at = c.loop-address.address in
    let block = c.fresh_block.new.block in
    let old = g.D.Device.image c.loop-address.device in
    let image = g.D.Device.image c.put.new.device in
    let new : image ≡ slice_set old at block = c.in_ok-put.ensures.put in
    let same : length image ≡ length old = ap length new ∙ length-set old at block in
    let next = c.next_address-address.ensures in
    let within : at < length old = omega (arith, kept.count, c.requires.count, c.loop-address-test.true, c.blocks-in-loop-address.ensures.count) in
    let behind : c.args.before ≡ Zeroes → (k : ℕ) → at < k → k < length image → block_at image k ≡ zero_block = λ zeroes k after b.
    ap (λ blocks. block_at blocks k) new ∙ get_or-set_other old at k block [] (λ e. omega (arith, after, e)) ∙ kept.zeroes zeroes k (omega (arith, after)) (omega (arith, b, same)) in
    let on_device : c.next_address-address.result ≤ length image = omega (arith, next.on_volume, kept.count, c.requires.count, same) in
    record {
      on_volume = next.on_volume;
      written = written_to_next (fresh_bytes c.args.geometry.now) image at c.next_address-address.result on_device
          (one_written (fresh_bytes c.args.geometry.now) old image at block within kept.written new c.fresh_block.ensures)
          (λ k low high. let both = next.between k low high in (behind both.0 k low (omega (arith, high, on_device)), both.1));
      zeroes = λ zeroes k after b. behind zeroes k (omega (arith, next.later, after)) b;
      count = same ∙ kept.count;
      failures = c.in_ok-put.ensures.cause ∙ kept.failures;
      honest = λ h. kept.honest (c.in_ok-put.ensures.honest h);
    }
