-- The frame is the image's, and so is all that was read behind it.
use Rattle.std.proofs.Common.{◌≡◌, ◌∙◌, sym, ap, subst}
use Rattle.model.specs.Layout.{Geometry, block_count}
use Rattle.model.specs.Image.{block_at}
use Rattle.frozen.specs.Kept.{Kept, KeepsMore}
use Rattle.frozen.specs.Shared.{shared_blocks}
use Rattle.frozen.specs.Loading.{AreBlocksOf}
use Rattle.device.proofs.ReadingLemmas.{reads_on}
use Rattle.frozen.proofs.KeepingLemmas.{all_kept_of}
use Rattle.frozen.proofs.loading.load.Goals as goal

pub returns-clause-reads : goal.returns-clause-reads
returns-clause-reads g c = reads_on (reads_on c.in_ok-geometry.ensures.reads c.in_ok-read_frame.ensures.reads) c.in_ok-fill.ensures.reads

pub returns-clause-ok : goal.returns-clause-ok
returns-clause-ok g c = λ honest.
    let kept : Kept = record { geometry = c.in_ok-geometry.geometry; blocks = shared_blocks c.in_ok-read_frame.field-0.items } in
    let held = c.in_ok-fill.field-0 in
    let image = g.D.Device.image c.args.device.now in
    let start = c.in_ok-geometry.ensures in
    let frame = c.in_ok-read_frame.ensures in
    let rest = c.in_ok-fill.ensures in
    let middle = g.D.Device.image c.read_frame.new.device in
    let before = rest.reads.honest honest in
    let first : c.in_ok-geometry.first ≡ block_at image 0 = start.block (frame.reads.honest before) in
    let are : AreBlocksOf kept.blocks middle =
    subst (AreBlocksOf kept.blocks) (sym frame.reads.same) (frame.blocks before (first ∙ ap (λ i. block_at i 0) (sym start.reads.same))) in
    let are_held : AreBlocksOf held.blocks image =
    subst (AreBlocksOf held.blocks) (frame.reads.same ∙ start.reads.same) (rest.blocks honest (subst (λ (k : Kept). AreBlocksOf k.blocks middle) (sym c.new-held.ensures) are)) in
    let more : KeepsMore kept held = subst (λ (k : Kept). KeepsMore k held) c.new-held.ensures rest.more in
    all_kept_of held image rest.metadata are_held (start.count ∙ ap (λ (geo : Geometry). block_count geo) (sym more.geometry)) start.whole
