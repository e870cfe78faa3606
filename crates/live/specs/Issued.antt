-- The updates of a plan were issued, and users see them.
use Rattle.std.specs.Prelude.{◌≡◌, map}
use Rattle.frozen.specs.Kept.{Kept}
use Rattle.metadata.specs.declared.staged.Staged.{Staged}
use Rattle.metadata.specs.Staged.{IsStaged, after, changes}
use Rattle.softdep.specs.Queued.{Queued, issued, pending_of}
use Rattle.updates.specs.Values.{written}
use Rattle.live_states.specs.Drafts.{Draft, over}

-- They are pending behind what was pending, and the metadata in memory is what they make of it.
pub record IsIssued (draft : Draft) (queue : Queued) (kept : Kept) (queue' : Queued) (kept' : Kept) : Type 0 where
  pub staged : Staged
  pub is_staged : IsStaged kept (changes draft.updates) staged
  pub metadata : kept' ≡ after kept staged
  pub queued : queue' ≡ issued queue (map written draft.updates)
  pub pending : pending_of queue' ≡ over (pending_of queue) draft.updates
