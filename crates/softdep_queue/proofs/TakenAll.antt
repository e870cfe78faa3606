-- All that may go to a block was taken.
use Rattle.std.proofs.Common.{◌≡◌, ℕ, Bool, List, [], ◌++◌, sym, ap, ◌∙◌, subst, Contains, length, ◌↔◌}
use Rattle.model.specs.Layout.{Geometry}
use Rattle.model.specs.View.{view_of}
use Rattle.ordering.specs.Cuts.{Pending, cell_of}
use Rattle.queue_model.specs.Blocks.{home_of}
use Rattle.queue_model.specs.Flush.{ready, taken, TakesChange}
use Rattle.queue_model.specs.Entries.{Entry, Queue, Represents, has_id, marks, NoOtherMayGo}
use Rattle.power_cut.specs.Epochs.{union}
use Rattle.updates.specs.Alone.{IsPutAll}
use Rattle.softdep_queue.specs.declared.table.Table.{Table}
use Rattle.softdep_queue.specs.Next.{unwritten}
use Rattle.softdep_queue.specs.Ties.{Takes, of_block}
use Rattle.softdep_queue.specs.Taking.{TakesAll, changes_of}
use Rattle.softdep_queue.proofs.Falling.{marks_of}
use Rattle.softdep_queue.proofs.LooseCuts.{marks_with, new_count, new_changes}

pub takes_all : (geo : Geometry) (t : Table) (queue : Queue) (q : List Pending) (loose : List Bool) (a : ℕ) (ws es : List Entry) (old new : List ℕ) (number : ℕ) → Takes geo t queue q (es ++ ws)
    → ((e : Entry) → Contains es e → home_of geo (cell_of e.change) ≡ a) → NoOtherMayGo queue a (of_block (home_of geo) a (es ++ ws)) → (r : Represents (home_of geo) queue q) → marks (has_id ws) r.entries ≡ loose
    → length es ≡ number → IsPutAll geo (changes_of es) old new → TakesAll geo queue q loose a t old new number
takes_all geo t queue q loose a ws es old new number takes own all r was count put =
    let home = home_of geo in
    let now = takes.ties.represents in
    let before : marks (has_id ws) takes.ties.represents.entries ≡ loose = marks_of home queue (has_id ws) q now r ∙ was in
    record {
      holds = record { written = es ++ ws; takes = takes; cut = marks_with home queue q now a es ws takes.each own all ∙ ap (λ l. union l (ready home a q)) before };
      last = record { older = ws; es = es; takes = takes; own = own; all = all; count = count; cut = before };
      count = sym count ∙ new_count home queue q now a es ws takes.each own all (view_of geo (λ _. [])) ∙ ap (λ l. taken (unwritten l (ready home a q))) before;
      put = put;
      changes = λ u. subst (λ l. Contains (changes_of es) u ↔ TakesChange q (unwritten l (ready home a q)) u) before (new_changes home queue q now a es ws takes.each own all u);
    }
