use Rattle.std.proofs.Common.{◌≡◌, ◌∷◌, ◌++◌, [], length, refl, sym, ap, ◌∙◌, arith, subst}
use Rattle.std.proofs.lemmas.List.{length_push, map-append}
use Rattle.std.proofs.lemmas.Result.{err_from_is_err_and}
use Rattle.std.specs.Option.{option_map}
use Rattle.std.specs.Arc.{arc_value}
use Rattle.model.specs.Image.{block_at}
use Rattle.model.specs.Layout.{header_blocks}
use Rattle.frozen.specs.Shared.{shared_blocks}
use Rattle.frozen.specs.Loading.{BlockRefuses, IsKeptBlock}
use Rattle.device.proofs.ReadingLemmas.{reads_on}
use Rattle.frozen.proofs.LoadLemmas.{header_block_more, header_refused, header_told_more, no_header, no_header_told}
use Rattle.frozen.proofs.loading.read_header.Goals as goal

pub returns-in_err-kept-clause-refused : goal.returns-in_err-kept-clause-refused
returns-in_err-kept-clause-refused g c =
    let p = err_from_is_err_and c.from_residual-in_err-kept.result c.from_residual-in_err-kept.ensures.1 in
    let i = c.loop-address.invariant in
    let honest = g.D.Device.honest c.keep_block.new.device in
    rw (p.1, p.2)
    (header_refused honest c.args.geometry.now c.group_block-start.ensures.geometry (g.D.Device.image c.args.device.now) c.args.group c.loop-address.address c.in_err-kept.field-0.0
    (omega (arith, c.group_block-start.ensures.address, c.loop-address.auto.address))
    (omega (arith, c.group_block-start.ensures.address, c.header_blocks-header.ensures.count, c.header_blocks-header.ensures.room_for_data, c.loop-address-test.true))
    (subst (λ image. BlockRefuses honest c.args.geometry.now image c.loop-address.address c.in_err-kept.field-0.0) i.reads.same c.in_err-kept.ensures.refused))

pub loop-address-init : goal.loop-address-init
loop-address-init g c =
    let none : shared_blocks c.in_ok-blocks.blocks.items ≡ [] = ap shared_blocks c.in_ok-blocks.ensures.items in
    record {
      count = omega (arith, ap length none, c.group_block-start.ensures.address);
      each = no_header c.args.geometry.now (g.D.Device.image c.args.device.now) c.args.group (shared_blocks c.in_ok-blocks.blocks.items) none;
      told = λ honest. no_header_told c.args.geometry.now (g.D.Device.image c.args.device.now) c.args.group (shared_blocks c.in_ok-blocks.blocks.items) none;
      reads = record { same = refl; held = refl; honest = λ h. h };
      failures = refl;
    }

pub loop-address-preserved : goal.loop-address-preserved
loop-address-preserved g c =
    let i = c.loop-address.invariant in
    let image = g.D.Device.image c.args.device.now in
    let old = shared_blocks c.loop-address.blocks.items in
    let all = shared_blocks c.push.new.self.items in
    let new = option_map arc_value c.in_ok-kept.kept in
    let added : all ≡ old ++ new ∷ [] =
    ap shared_blocks c.in_ok-push.ensures.items ∙ map-append (option_map arc_value) c.loop-address.blocks.items (c.in_ok-kept.kept ∷ []) in
    record {
      count = omega (arith, ap length added, length_push old new, i.count);
      each = header_block_more c.args.geometry.now image c.args.group old all new added i.each (subst (λ a. IsKeptBlock c.args.geometry.now a new) (sym i.count) c.in_ok-kept.ensures.kept);
      told = λ h. header_told_more c.args.geometry.now image c.args.group old all new added (i.told (c.in_ok-kept.ensures.reads.honest h))
          (λ b e. c.in_ok-kept.ensures.block h b e ∙ ap (λ image. block_at image c.loop-address.address) i.reads.same ∙ ap (block_at image) (sym i.count));
      reads = reads_on i.reads c.in_ok-kept.ensures.reads;
      failures = c.in_ok-kept.ensures.failures ∙ i.failures;
    }

pub returns-clause-header : goal.returns-clause-header
returns-clause-header g c =
    let i = c.loop-address.invariant in
    let geo = c.args.geometry.now in
    let count : length (shared_blocks c.loop-address.blocks.items) ≡ header_blocks geo =
    omega (arith, i.count, c.group_block-start.ensures.address, c.header_blocks-header.ensures.count, c.loop-address-test.false, c.loop-address.auto.address) in
    record { count = count; each = λ k b. i.each k (omega (arith, b, count)) }
