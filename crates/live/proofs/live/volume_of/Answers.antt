use Rattle.std.proofs.Common.{ap, ◌∙◌}
use Rattle.model.specs.Layout.{block_count}
use Rattle.frozen.specs.Kept.{Kept}
use Rattle.softdep.specs.Queued.{fresh_queue}
use Rattle.live.proofs.live.volume_of.Goals as goal

pub returns-clause-fresh : goal.returns-clause-fresh
returns-clause-fresh c =
    let geometry = c.geometry.ensures.geometry ∙ ap (λ (k : Kept). k.geometry) (c.frozen.ensures.same ∙ c.in_ok-metadata.ensures) in
    record {
      metadata_is = c.in_ok-metadata.ensures;
      keeps = c.frozen.ensures.metadata;
      queue_is = c.in_ok-queue.ensures.queue ∙ ap fresh_queue geometry;
      idle = c.in_ok-queue.ensures.idle;
      marks = c.in_ok-queue.ensures.marks ∙ ap block_count geometry;
    }
