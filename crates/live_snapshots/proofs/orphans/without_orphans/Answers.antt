-- What is staged is what the updates free.
use Rattle.std.proofs.Common.{◌≡◌, List, sym, ap, ◌∙◌, subst}
use Rattle.std.proofs.lemmas.Result.{IfOk-weaker}
use Rattle.model.specs.Layout.{inode_count}
use Rattle.updates.specs.declared.change.Update.{Update}
use Rattle.frozen.specs.Kept.{Kept, KeepsMetadata}
use Rattle.metadata.specs.declared.staged.Staged.{Staged}
use Rattle.metadata.specs.Staged.{IsStaged, after, changes}
use Rattle.metadata.proofs.Steps.{same_after}
use Rattle.live_states.specs.Holdings.{Holdings}
use Rattle.live_snapshots.specs.Orphans.{Frees, LacksOrphans, is_of_orphan_below, is_orphan_of}
use Rattle.live_snapshots.proofs.Leaving.{keeps_left, lacks}
use Rattle.live_snapshots.proofs.orphans.without_orphans.Goals as goal

module _ (kept frozen : Kept) (holdings : Holdings) (us slice : List Update) (staged : Staged) (same : frozen ≡ kept) (value : slice ≡ us) (keeps : KeepsMetadata kept)
    (freed : Frees frozen.geometry (is_orphan_of frozen holdings) (is_of_orphan_below frozen holdings (inode_count frozen.geometry)) us)
    (is : IsStaged kept (changes slice) staged) where
  frees : Frees kept.geometry (is_orphan_of kept holdings) (is_of_orphan_below kept holdings (inode_count kept.geometry)) us
  frees = subst (λ (k : Kept). Frees k.geometry (is_orphan_of k holdings) (is_of_orphan_below k holdings (inode_count k.geometry)) us) same freed

  stages : IsStaged kept (changes us) staged
  stages = subst (λ (xs : List Update). IsStaged kept (changes xs) staged) value is

  left_is_metadata : KeepsMetadata (after kept staged)
  left_is_metadata = keeps_left kept keeps holdings us frees staged stages

  left_lacks : LacksOrphans kept holdings (after kept staged)
  left_lacks = lacks kept keeps holdings us frees staged stages

pub copy_with-requires-clause-metadata : goal.copy_with-requires-clause-metadata
copy_with-requires-clause-metadata c =
    left_is_metadata c.args.metadata.now c.frozen.result.now c.args.holdings.now c.in_ok-updates.updates.items c.as_slice.result.now c.in_ok-staged.staged
    c.frozen.ensures.same c.as_slice.ensures.value c.frozen.ensures.metadata c.in_ok-updates.ensures c.in_ok-staged.ensures

pub returns-clause-shows : goal.returns-clause-shows
returns-clause-shows c =
    let kept = c.args.metadata.now in
    let holdings = c.args.holdings.now in
    let left = after kept c.in_ok-staged.staged in
    let lacking = left_lacks kept c.frozen.result.now holdings c.in_ok-updates.updates.items c.as_slice.result.now c.in_ok-staged.staged
    c.frozen.ensures.same c.as_slice.ensures.value c.frozen.ensures.metadata c.in_ok-updates.ensures c.in_ok-staged.ensures in
    IfOk-weaker c.copy_with.result (λ (copy : Kept). copy ≡ left) (LacksOrphans kept holdings) (λ copy e. subst (LacksOrphans kept holdings) (sym e) lacking) c.copy_with.ensures

pub returns-clause-geometry : goal.returns-clause-geometry
returns-clause-geometry c =
    let kept = c.args.metadata.now in
    IfOk-weaker c.copy_with.result (λ (copy : Kept). copy ≡ after kept c.in_ok-staged.staged) (λ (copy : Kept). copy.geometry ≡ kept.geometry)
    (λ copy e. ap (λ (k : Kept). k.geometry) e ∙ same_after kept c.in_ok-staged.staged) c.copy_with.ensures

pub returns-clause-metadata : goal.returns-clause-metadata
returns-clause-metadata c =
    let left = after c.args.metadata.now c.in_ok-staged.staged in
    let keeps = left_is_metadata c.args.metadata.now c.frozen.result.now c.args.holdings.now c.in_ok-updates.updates.items c.as_slice.result.now c.in_ok-staged.staged
    c.frozen.ensures.same c.as_slice.ensures.value c.frozen.ensures.metadata c.in_ok-updates.ensures c.in_ok-staged.ensures in
    IfOk-weaker c.copy_with.result (λ (copy : Kept). copy ≡ left) KeepsMetadata (λ copy e. subst KeepsMetadata (sym e) keeps) c.copy_with.ensures
