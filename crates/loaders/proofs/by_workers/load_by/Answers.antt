-- The frame that the workers read is the image's, and so is all that was read behind it.
use Rattle.std.proofs.Common.{◌≡◌, ◌∙◌, All, inl, inr, sym, ap, subst}
use Rattle.std.proofs.lemmas.Result.{IfErr-weaker}
use Rattle.model.specs.Layout.{Geometry, block_count}
use Rattle.model.specs.Image.{block_at}
use Rattle.frozen.specs.Kept.{Kept, KeepsMore}
use Rattle.frozen.specs.Shared.{shared_blocks}
use Rattle.frozen.specs.Loading.{AreBlocksOf, LoadRefuses}
use Rattle.layout.specs.declared.refusal.Refusal.{Refusal}
use Rattle.frozen.proofs.KeepingLemmas.{all_kept_of}
use Rattle.device.proofs.ReadingLemmas.{reads_on}
use Rattle.loaders.proofs.FrameLemmas.{alone_to_load, frame_to_load, no_memory_is_no_device}
use Rattle.loaders.proofs.by_workers.load_by.Goals as goal

pub returns-clause-ok : goal.returns-clause-ok
returns-clause-ok g c = λ honest others.
    let kept : Kept = record { geometry = c.in_ok-geometry.geometry; blocks = shared_blocks c.in-Ok-read_frame.blocks.items } in
    let held = c.in_ok-fill.field-0 in
    let image = g.D.Device.image c.args.device.now in
    let start = c.in_ok-geometry.ensures in
    let rest = c.in_ok-fill.ensures in
    let middle = g.D.Device.image c.read_first.new.device in
    let first : c.in_ok-geometry.first ≡ block_at image 0 = start.block (rest.reads.honest honest) in
    let are : AreBlocksOf kept.blocks middle =
    subst (AreBlocksOf kept.blocks) (sym start.reads.same) (c.in-Ok-read_frame.ensures.blocks image c.requires others first) in
    let are_held : AreBlocksOf held.blocks image =
    subst (AreBlocksOf held.blocks) start.reads.same (rest.blocks honest (subst (λ (k : Kept). AreBlocksOf k.blocks middle) (sym c.new-held.ensures) are)) in
    let more : KeepsMore kept held = subst (λ (k : Kept). KeepsMore k held) c.new-held.ensures rest.more in
    all_kept_of held image rest.metadata are_held (start.count ∙ ap (λ (geo : Geometry). block_count geo) (sym more.geometry)) start.whole

pub returns-in-Err-clause-refused : goal.returns-in-Err-clause-refused
returns-in-Err-clause-refused g c =
    let d = g.D.Device in
    let image = d.image c.args.device.now in
    let start = c.in_ok-geometry.ensures in
    let honest = d.honest c.read_alone.new.device in
    let others = All d.honest c.read_frame.new.devices.items in
    IfErr-weaker c.read_alone.result _ _ (λ told h. elim h [
      | inl same ↦ subst (λ (r : Refusal). LoadRefuses (honest × others) image r) (sym same)
          (frame_to_load honest others c.in_ok-geometry.geometry image c.in-Err.refusal (λ t. start.told (c.read_alone.ensures.reads.honest t)) start.count
          (c.in-Err.ensures.refused image c.requires))
      | inr alone ↦ alone_to_load honest others image told (subst (λ i. LoadRefuses honest i told) start.reads.same alone)
    ]) c.read_alone.ensures.refused

pub returns-clause-reads : goal.returns-clause-reads
returns-clause-reads g c = reads_on c.in_ok-geometry.ensures.reads c.in_ok-fill.ensures.reads

pub returns-in-Err-clause-lost : goal.returns-in-Err-clause-lost
returns-in-Err-clause-lost g c =
    IfErr-weaker c.read_alone.result _ _ (λ told stands. elim c.in-Err.ensures.lost [
      | inl none ↦ elim stands [
        | inl device ↦ absurd (no_memory_is_no_device (sym none.0 ∙ device))
        | inr same ↦ inl (same ∙ none.0, none.1)
      ]
      | inr read ↦ inr read
    ]) c.read_alone.ensures.stands
