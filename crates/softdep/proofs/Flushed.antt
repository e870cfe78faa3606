-- What a write, and what the medium tells, leave of a queue.
use Rattle.std.proofs.Common.{◌≡◌, ℕ, zero, suc, ◌<◌, Bool, true, false, IsTrue, eqb, List, [], ◌∷◌, ◌++◌, ◌↔◌, inl, inr, refl, sym, ap, ◌∙◌, subst, length, arith, eq-eqb, ne_eqb, slice_set, get_or-set_same, get_or-set_other}
use Rattle.std.specs.List.{All}
use Rattle.std.proofs.lemmas.List.Elements.{All-cons, All-nil}
use Rattle.std.proofs.lemmas.Bool.{cases_eq, cond-true, cond-false}
use mathlib.Core.Path.{fun_ext}
use Rattle.model.specs.Layout.{Geometry}
use Rattle.model.specs.View.{View}
use Rattle.model.specs.Cells.{Update, put_at}
use Rattle.model.specs.Image.{block_at}
use Rattle.ordering.specs.Cuts.{cell_of, rest, seen}
use Rattle.ordering.specs.ClosedSets.{takes}
use Rattle.queue_model.specs.Blocks.{home_of}
use Rattle.queue_model.specs.Flush.{ready, taken, IsOfBlock, TakesChange}
use Rattle.queue_model.specs.History.{none_of}
use Rattle.queue_model.specs.Entries as entries
use Rattle.queue_model.specs.Entries.{Entry}
use Rattle.queue_model.proofs.Lists.{contains_none}
use Rattle.queue_model.proofs.FlushLemmas.{ready_closed, none_taken}
use Rattle.power_cut.specs.Epochs.{union}
use Rattle.updates.specs.Places.{IsCell}
use Rattle.softdep_queue.specs.declared.table.Table.{Table}
use Rattle.softdep_queue.specs.Next.{to_write}
use Rattle.softdep_queue.specs.Ties.{Holds, WereTaken}
use Rattle.softdep_queue.specs.Taking.{TakesAll, changes_of}
use Rattle.softdep.specs.Queued.{Queued, IsQueue, AreClosed, unsynced_of, pending_of, next_cut, flushed, settled}
use Rattle.softdep.specs.Writing.{WritesTaken}
use Rattle.softdep.proofs.Queues.{beyond_changes, pending_rest, next_closed, next_of_block, next_taken, closed_flushed, flushed_same, closed_settled}

-- ---- the queue after a write, and once all is durable

-- all that may go to a block was written
pub queue_flushed : (geo : Geometry) (t t' : Table) (queue : Queued) (a : ℕ) (is : IsQueue geo t queue) → Holds geo t' is.entries (unsynced_of queue) (union queue.loose (ready (home_of geo) a (unsynced_of queue))) → IsQueue geo t' (flushed queue a)
queue_flushed geo t t' queue a is holds = record {
  entries = is.entries;
  holds = subst (λ g. Holds geo t' is.entries (unsynced_of queue) (union queue.loose (ready (home_of g) a (unsynced_of queue)))) (sym is.same) holds;
  closed = closed_flushed queue is.closed a;
  same = is.same;
}

-- with nothing to write nothing changes
pub queue_unflushed : (geo : Geometry) (t : Table) (queue : Queued) (a : ℕ) → IsQueue geo t queue → taken (next_cut queue a) ≡ 0 → IsQueue geo t (flushed queue a)
queue_unflushed geo t queue a is none = subst (IsQueue geo t) (sym (flushed_same queue is.closed a none)) is

pub queue_settled : (geo : Geometry) (t t' : Table) (queue : Queued) (is : IsQueue geo t queue) (es' : entries.Queue) → Holds geo t' es' (rest (unsynced_of queue) queue.loose) (none_of (rest (unsynced_of queue) queue.loose)) → IsQueue geo t' (settled queue)
queue_settled geo t t' queue is es' holds = record {
  entries = es';
  holds = subst (λ q. Holds geo t' es' q (none_of q)) (sym (pending_rest queue is.closed)) holds;
  closed = closed_settled queue is.closed;
  same = is.same;
}

-- what the table has to write of a block is what a flush of it writes
pub next_count : (geo : Geometry) (t : Table) (queue : Queued) (a : ℕ) → IsQueue geo t queue → taken (to_write (home_of geo) a (unsynced_of queue) queue.loose) ≡ taken (next_cut queue a)
next_count geo t queue a is = subst (λ g. taken (to_write (home_of g) a (unsynced_of queue) queue.loose) ≡ taken (next_cut queue a)) is.same (next_taken queue is.closed a)

-- ---- the block that is written

pub block_written : (image : List (List ℕ)) (a : ℕ) (block : List ℕ) → a < length image → block_at (slice_set image a block) ≡ put_at (block_at image) a block
block_written image a block low = fun_ext (λ k. elim (cases_eq k a) [
  | inl d ↦ ap (block_at (slice_set image a block)) d ∙ get_or-set_same image a block [] low ∙ sym (cond-true (eqb k a) block (block_at image k) (eq-eqb k a d))
  | inr d ↦ get_or-set_other image a k block [] d ∙ sym (cond-false (eqb k a) block (block_at image k) (ne_eqb k a d))
])

-- what is written is what was taken
pub flushed_bytes : (geo : Geometry) (t0 : Table) (queue : Queued) (is : IsQueue geo t0 queue) (a : ℕ) (t : Table) (old new : List ℕ) (count : ℕ) → TakesAll geo is.entries (unsynced_of queue) queue.loose a t old new count
    → WritesTaken geo a (pending_of queue) (next_cut queue a) old new
flushed_bytes geo t0 queue is a t old new count takes = record {
  own = subst (λ g. IsOfBlock (home_of g) a (pending_of queue) (next_cut queue a)) is.same (next_of_block queue is.closed a);
  changes = changes_of takes.last.es;
  put = takes.put;
  cells = cells takes.last.es takes.last.takes.each;
  taken = λ u. let there = takes.changes u in let here = change_taken u in ((λ m. here.0 (there.0 m)), (λ m. there.1 (here.1 m)));
}
  where
    cells : (es : List Entry) → WereTaken (home_of geo) is.entries (es ++ takes.last.older) → All (λ u. IsCell geo (cell_of u)) (changes_of es)
    cells [] each = All-nil (λ (u : Update). IsCell geo (cell_of u))
    cells (e ∷ es) each = All-cons (λ (u : Update). IsCell geo (cell_of u)) e.change (changes_of es) (takes.last.takes.ties.node (home_of geo (cell_of e.change)) e each.0).cell (cells es each.3)

    change_taken : (u : Update) → TakesChange (unsynced_of queue) (to_write (home_of geo) a (unsynced_of queue) queue.loose) u ↔ TakesChange (pending_of queue) (next_cut queue a) u
    change_taken u =
        subst (λ g. TakesChange (unsynced_of queue) (to_write (home_of g) a (unsynced_of queue) queue.loose) u ↔ TakesChange (pending_of queue) (next_cut queue a) u) is.same
        (subst (λ q. TakesChange (unsynced_of queue) (to_write (home_of queue.geometry) a (unsynced_of queue) queue.loose) u ↔ TakesChange q (next_cut queue a) u) (sym (pending_rest queue is.closed))
        (beyond_changes (unsynced_of queue) queue.loose (ready (home_of queue.geometry) a (unsynced_of queue)) is.closed.loose (ready_closed (home_of queue.geometry) a (unsynced_of queue)) u))

-- with nothing to write nothing is
pub unflushed_bytes : (queue : Queued) → AreClosed queue → (a : ℕ) (block : List ℕ) → taken (next_cut queue a) ≡ 0 → WritesTaken queue.geometry a (pending_of queue) (next_cut queue a) block block
unflushed_bytes queue closed a block none = record {
  own = next_of_block queue closed a;
  changes = [];
  put = refl;
  cells = All-nil (λ (u : Update). IsCell queue.geometry (cell_of u));
  taken = λ u. ((λ m. absurd (contains_none u m)), (λ t. absurd (takes_none (next_cut queue a) t.0 none t.1)));
}
  where
    takes_none : (cut : List Bool) (k : ℕ) → taken cut ≡ 0 → IsTrue (takes cut k) → ⊥
    takes_none [] k none t = let bad : false ≡ true = t in cc
    takes_none (true ∷ cut) k none t = omega (arith, none)
    takes_none (false ∷ cut) zero none t = let bad : false ≡ true = t in cc
    takes_none (false ∷ cut) (suc k) none t = takes_none cut k none t

-- and a view that is seen through nothing stays
pub unflushed_view : (queue : Queued) → AreClosed queue → (a : ℕ) (disk : View) → taken (next_cut queue a) ≡ 0 → disk ≡ seen disk (pending_of queue) (next_cut queue a)
unflushed_view queue closed a disk none = sym ((none_taken disk (pending_of queue) (next_cut queue a) (next_closed queue closed a) none).0)
