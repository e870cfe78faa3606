use Rattle.std.proofs.Common.{◌≡◌, ℕ, ◌+◌, ◌*◌, refl, sym, ap, ◌∙◌, arith, subst}
use Rattle.std.proofs.lemmas.Result.{err_from_is_err_and}
use Rattle.model.specs.Layout.{block_count, group_block}
use Rattle.model.proofs.ImageLemmas.{is_block}
use Rattle.frozen.specs.Shared.{shared_blocks}
use Rattle.frozen.specs.Loading.{AreReadFrom, FrameRefuses, IsHeaderOf}
use Rattle.device.proofs.ReadingLemmas.{reads_on}
use Rattle.frozen.proofs.LoadLemmas.{all_kept, frame_refused}
use Rattle.frozen.proofs.loading.read_frame.Goals as goal

pub returns-in_err-header-clause-refused : goal.returns-in_err-header-clause-refused
returns-in_err-header-clause-refused g c =
    let p = err_from_is_err_and c.from_residual-in_err-header.result c.from_residual-in_err-header.ensures.1 in
    let i = c.loop-group.invariant in
    let blocks = shared_blocks c.loop-group.blocks.items in
    let step = c.in_err-header.ensures in
    rw (p.1, p.2)
    (subst (λ image. FrameRefuses (g.D.Device.honest c.read_header.new.device) c.args.geometry.now image c.in_err-header.field-0.0) i.reads.same
    (frame_refused c.args.geometry.now c.groups-group-end.ensures.geometry c.args.first.now blocks (group_block c.args.geometry.now c.loop-group.group) i.kept
    (g.D.Device.honest c.read_header.new.device) (g.D.Device.image c.loop-group.device) c.loop-group.group c.in_err-header.field-0.0
    (omega (arith, c.loop-group-test.true, c.groups-group-end.ensures.count)) refl
    (λ h. subst (AreReadFrom blocks) (sym i.reads.same) (i.told (step.reads.honest h))) step.refused))

pub loop-group-preserved : goal.loop-group-preserved
loop-group-preserved g c =
    let i = c.loop-group.invariant in
    let first = c.args.first.now in
    let image = g.D.Device.image c.args.device.now in
    let step = c.in_ok-header.ensures in
    let rest = c.in_ok-add_group.ensures in
    record {
      kept = rest.kept first i.kept;
      told = λ h. rest.told image i.kept.count
          (subst (λ image. IsHeaderOf c.args.geometry.now image c.loop-group.group (shared_blocks c.in_ok-header.header.items)) i.reads.same (step.blocks h)) (i.told (step.reads.honest h));
      reads = reads_on i.reads step.reads;
      failures = step.failures ∙ i.failures;
    }

pub returns-clause-kept : goal.returns-clause-kept
returns-clause-kept g c =
    let geo = c.args.geometry.now in
    let all : c.loop-group.group ≡ geo.groups = omega (arith, c.groups-group-end.ensures.count, c.loop-group-test.false, c.loop-group.auto.group-end) in
    all_kept geo c.groups-group-end.ensures.geometry c.args.first.now (shared_blocks c.loop-group.blocks.items) (group_block geo c.loop-group.group) c.loop-group.invariant.kept
    (ap (λ (n : ℕ). 1 + n * geo.blocks) all) c.requires.first (is_block c.args.first.now c.told-first c.fits-first)
