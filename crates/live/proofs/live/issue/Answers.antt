use Rattle.std.proofs.Common.{All, sym, ap, ◌∙◌, map, subst}
use Rattle.updates.specs.Places.{IsUpdate}
use Rattle.updates.specs.Values.{written}
use Rattle.metadata.specs.Staged.{IsStaged, changes}
use Rattle.softdep.specs.Queued.{issued, pending_of}
use Rattle.live_states.specs.Drafts.{over}
use Rattle.live.proofs.live.issue.Goals as goal

pub stage-requires : goal.stage-requires
stage-requires c =
    subst (All (IsUpdate c.args.metadata.now.geometry)) (sym c.as_slice.ensures.value) (subst (λ geo. All (IsUpdate geo) c.into_updates-updates.result.items) c.requires.plan c.into_updates-updates.ensures.of_volume.cells)

pub issue-requires : goal.issue-requires
issue-requires c = subst (λ geo. All (IsUpdate geo) c.into_updates-updates.result.items) (c.requires.plan ∙ sym c.requires.geometry) c.into_updates-updates.ensures.of_volume.cells

pub install-requires-clause-metadata : goal.install-requires-clause-metadata
install-requires-clause-metadata c = c.requires.metadata c.in_ok-staged.staged
    (subst (λ us. IsStaged c.args.metadata.now (changes us) c.in_ok-staged.staged) (c.as_slice.ensures.value ∙ c.into_updates-updates.ensures.updates) c.in_ok-staged.ensures)

pub returns-clause-issued : goal.returns-clause-issued
returns-clause-issued c = record {
  staged = c.in_ok-staged.staged;
  is_staged = subst (λ us. IsStaged c.args.metadata.now (changes us) c.in_ok-staged.staged) (c.as_slice.ensures.value ∙ c.into_updates-updates.ensures.updates) c.in_ok-staged.ensures;
  metadata = c.install.ensures;
  queued = c.in_ok-issue.ensures.issued ∙ ap (λ us. issued c.args.queue.now (map written us)) c.into_updates-updates.ensures.updates;
  pending = c.in_ok-issue.ensures.pending ∙ ap (over (pending_of c.args.queue.now)) c.into_updates-updates.ensures.updates;
}
