use Rattle.std.proofs.Common.{false, List, [], ◌∷◌, map, sym, ap, ◌∙◌, slice_index_or}
use Rattle.model.specs.Cells.{SetBlock}
use Rattle.ordering.specs.Cuts.{Cell}
use Rattle.updates.specs.Values.{cell}
use Rattle.live_states.specs.Drafts.{over}
use Rattle.live.proofs.SnapshotLemmas.{cleared_at, clears_next}
use Rattle.live.proofs.snapshots.clearing.Goals as goal

pub loop-block-preserved : goal.loop-block-preserved
loop-block-preserved c =
    let k = c.loop-block.block-index in
    let blocks = c.args.blocks.now in
    let a = slice_index_or blocks k 0 in (
      c.in_ok-push.ensures.geometry ∙ c.loop-block.invariant.0,
      c.in_ok-push.ensures.pending []
          ∙ ap (λ (cells : List Cell). record { change = SetBlock a false; after = cells } ∷ over [] c.loop-block.plan.updates) (ap (map cell) c.new.ensures.items)
          ∙ ap (λ q. cleared_at a ∷ q) c.loop-block.invariant.1 ∙ sym (clears_next blocks k c.loop-block-test.true),
    )
