-- What a write, and what the device tells, make of a queue: the laws of its value.
use Rattle.std.proofs.Common.{◌≡◌, ℕ, zero, suc, ◌≤◌, Bool, true, false, ◌||◌, ◌==◌, if◌then◌else◌, List, [], ◌∷◌, ◌↔◌, refl, sym, ap, ap₂, ◌∙◌, subst, IsTrue, arith, eq-eqb, ne_eqb}
use Rattle.std.proofs.lemmas.Bool.{cond-true, cond-false}
use Rattle.model.specs.Layout.{Geometry}
use Rattle.model.specs.View.{View, view_of}
use Rattle.model.specs.Cells.{Update}
use Rattle.ordering.specs.Cuts.{Cell, Pending, IsClosed, cell_of, rest, joined}
use Rattle.ordering.specs.ClosedSets.{pending_at, takes}
use Rattle.ordering.proofs.Flushes.{joined_closed}
use Rattle.queue_model.specs.Blocks.{home_of}
use Rattle.queue_model.specs.Flush.{ready, taken, IsOfBlock, TakesChange}
use Rattle.queue_model.specs.Sync.{IsLeastReady, oldest_home}
use Rattle.queue_model.specs.History.{none_of}
use Rattle.queue_model.specs.Files.{Written, updates}
use Rattle.queue_model.proofs.FlushLemmas.{ready_closed, ready_of_block, none_taken}
use Rattle.queue_model.proofs.HistoryLemmas.{none_closed, joined_none, joined_rest, joined_joined}
use Rattle.queue_model.proofs.SyncLemmas.{oldest_ready}
use Rattle.power_cut.specs.Epochs.{union, beyond}
use Rattle.power_cut.proofs.BeyondLemmas.{joined_beyond, beyond_closed}
use Rattle.power_cut.proofs.Unions.{union_closed}
use Rattle.softdep_queue.specs.Next.{unwritten}
use Rattle.softdep.specs.Queued.{Queued, AreClosed, IsSettled, IsLeastNext, NothingNext, unsynced_of, cut_of, pending_of, next_cut, issued, added, flushed, settled, after_flush}

-- the view of no blocks, where only cuts count
abbrev pub no_view : Geometry → View
no_view geo = view_of geo (λ _. [])

-- ---- cuts

pub nothing_taken : (q : List Pending) → taken (none_of q) ≡ 0
nothing_taken [] = refl
nothing_taken (u ∷ q) = nothing_taken q

-- a closed cut that takes nothing is the one that does
pub is_none : (q : List Pending) (cut : List Bool) → IsClosed q cut → taken cut ≡ 0 → cut ≡ none_of q
is_none [] [] k z = refl
is_none [] (b ∷ cut) k z = absurd k
is_none (u ∷ q) [] k z = absurd k
is_none (u ∷ q) (true ∷ cut) k z = absurd (omega (arith, z))
is_none (u ∷ q) (false ∷ cut) k z = ap (λ c. false ∷ c) (is_none q cut k z)

pub beyond_nothing : (q : List Pending) (loose cut : List Bool) → IsClosed q loose → taken loose ≡ 0 → IsClosed q cut → beyond loose cut ≡ cut
beyond_nothing [] [] cut k z l = refl
beyond_nothing [] (b ∷ loose) cut k z l = absurd k
beyond_nothing (u ∷ q) [] cut k z l = absurd k
beyond_nothing (u ∷ q) (b ∷ loose) [] k z l = absurd l
beyond_nothing (u ∷ q) (true ∷ loose) (d ∷ cut) k z l = absurd (omega (arith, z))
beyond_nothing (u ∷ q) (false ∷ loose) (true ∷ cut) k z l = ap (λ c. true ∷ c) (beyond_nothing q loose cut k z l.0)
beyond_nothing (u ∷ q) (false ∷ loose) (false ∷ cut) k z l = ap (λ c. false ∷ c) (beyond_nothing q loose cut k z l)

-- what a cut takes beyond another, counted and by its updates
pub beyond_taken : (q : List Pending) (loose cut : List Bool) → IsClosed q loose → IsClosed q cut → taken (unwritten loose cut) ≡ taken (beyond loose cut)
beyond_taken [] [] cut k l = refl
beyond_taken [] (b ∷ loose) cut k l = absurd k
beyond_taken (u ∷ q) [] cut k l = absurd k
beyond_taken (u ∷ q) (b ∷ loose) [] k l = absurd l
beyond_taken (u ∷ q) (true ∷ loose) (true ∷ cut) k l = beyond_taken q loose cut k.0 l.0
beyond_taken (u ∷ q) (true ∷ loose) (false ∷ cut) k l = beyond_taken q loose cut k.0 l
beyond_taken (u ∷ q) (false ∷ loose) (true ∷ cut) k l = ap suc (beyond_taken q loose cut k l.0)
beyond_taken (u ∷ q) (false ∷ loose) (false ∷ cut) k l = beyond_taken q loose cut k l

-- an update that a cut takes beyond another stands among the rest of that one, and the other way round
beyond_to : (q : List Pending) (loose cut : List Bool) → IsClosed q loose → IsClosed q cut → (i : ℕ) → IsTrue (takes (unwritten loose cut) i) → (j : ℕ) × IsTrue (takes (beyond loose cut) j) × (pending_at (rest q loose) j ≡ pending_at q i)
beyond_to [] [] cut k l i t = (i, t, refl)
beyond_to [] (b ∷ loose) cut k l i t = absurd k
beyond_to (u ∷ q) [] cut k l i t = absurd k
beyond_to (u ∷ q) (b ∷ loose) [] k l i t = absurd l
beyond_to (u ∷ q) (true ∷ loose) (true ∷ cut) k l zero t = absurd (let bad : false ≡ true = t in cc)
beyond_to (u ∷ q) (true ∷ loose) (false ∷ cut) k l zero t = absurd (let bad : false ≡ true = t in cc)
beyond_to (u ∷ q) (true ∷ loose) (true ∷ cut) k l (suc i) t = beyond_to q loose cut k.0 l.0 i t
beyond_to (u ∷ q) (true ∷ loose) (false ∷ cut) k l (suc i) t = beyond_to q loose cut k.0 l i t
beyond_to (u ∷ q) (false ∷ loose) (true ∷ cut) k l zero t = (0, refl, refl)
beyond_to (u ∷ q) (false ∷ loose) (false ∷ cut) k l zero t = absurd (let bad : false ≡ true = t in cc)
beyond_to (u ∷ q) (false ∷ loose) (true ∷ cut) k l (suc i) t = let r = beyond_to q loose cut k l.0 i t in (suc r.0, r.1, r.2)
beyond_to (u ∷ q) (false ∷ loose) (false ∷ cut) k l (suc i) t = let r = beyond_to q loose cut k l i t in (suc r.0, r.1, r.2)

beyond_from : (q : List Pending) (loose cut : List Bool) → IsClosed q loose → IsClosed q cut → (j : ℕ) → IsTrue (takes (beyond loose cut) j) → (i : ℕ) × IsTrue (takes (unwritten loose cut) i) × (pending_at q i ≡ pending_at (rest q loose) j)
beyond_from [] [] cut k l j t = (j, t, refl)
beyond_from [] (b ∷ loose) cut k l j t = absurd k
beyond_from (u ∷ q) [] cut k l j t = absurd k
beyond_from (u ∷ q) (b ∷ loose) [] k l j t = absurd l
beyond_from (u ∷ q) (true ∷ loose) (true ∷ cut) k l j t = let r = beyond_from q loose cut k.0 l.0 j t in (suc r.0, r.1, r.2)
beyond_from (u ∷ q) (true ∷ loose) (false ∷ cut) k l j t = let r = beyond_from q loose cut k.0 l j t in (suc r.0, r.1, r.2)
beyond_from (u ∷ q) (false ∷ loose) (true ∷ cut) k l zero t = (0, refl, refl)
beyond_from (u ∷ q) (false ∷ loose) (false ∷ cut) k l zero t = absurd (let bad : false ≡ true = t in cc)
beyond_from (u ∷ q) (false ∷ loose) (true ∷ cut) k l (suc j) t = let r = beyond_from q loose cut k l.0 j t in (suc r.0, r.1, r.2)
beyond_from (u ∷ q) (false ∷ loose) (false ∷ cut) k l (suc j) t = let r = beyond_from q loose cut k l j t in (suc r.0, r.1, r.2)

pub beyond_changes : (q : List Pending) (loose cut : List Bool) → IsClosed q loose → IsClosed q cut → (change : Update) → TakesChange q (unwritten loose cut) change ↔ TakesChange (rest q loose) (beyond loose cut) change
beyond_changes q loose cut k l change = (
  (λ t. let r = beyond_to q loose cut k l t.0 t.1 in (r.0, r.1, ap (λ (u : Pending). u.change) r.2 ∙ t.2)),
  (λ t. let r = beyond_from q loose cut k l t.0 t.1 in (r.0, r.1, ap (λ (u : Pending). u.change) r.2 ∙ t.2)),
)

-- of what is not written a cut takes what it takes at all
unwritten_takes : (loose cut : List Bool) (i : ℕ) → IsTrue (takes (unwritten loose cut) i) → IsTrue (takes cut i)
unwritten_takes [] cut i t = t
unwritten_takes (d ∷ loose) [] i t = t
unwritten_takes (true ∷ loose) (true ∷ cut) zero t = refl
unwritten_takes (false ∷ loose) (true ∷ cut) zero t = refl
unwritten_takes (d ∷ loose) (false ∷ cut) zero t = t
unwritten_takes (d ∷ loose) (b ∷ cut) (suc i) t = unwritten_takes loose cut i t

pub beyond_of_block : (home : Cell → ℕ) (a : ℕ) (q : List Pending) (loose cut : List Bool) → IsClosed q loose → IsClosed q cut → IsOfBlock home a q cut → IsOfBlock home a (rest q loose) (beyond loose cut)
beyond_of_block home a q loose cut k l own j t =
    let r = beyond_from q loose cut k l j t in
    ap (λ (u : Pending). home (cell_of u.change)) (sym r.2) ∙ own r.0 (unwritten_takes loose cut r.0 r.1)

-- where a cut takes nothing beyond another, it adds nothing to it
pub union_nothing : (q : List Pending) (loose cut : List Bool) → IsClosed q loose → IsClosed q cut → taken (beyond loose cut) ≡ 0 → union loose cut ≡ loose
union_nothing [] [] [] k l z = refl
union_nothing [] [] (d ∷ cut) k l z = absurd l
union_nothing [] (b ∷ loose) cut k l z = absurd k
union_nothing (u ∷ q) [] cut k l z = absurd k
union_nothing (u ∷ q) (b ∷ loose) [] k l z = absurd l
union_nothing (u ∷ q) (true ∷ loose) (true ∷ cut) k l z = ap (λ c. true ∷ c) (union_nothing q loose cut k.0 l.0 z)
union_nothing (u ∷ q) (true ∷ loose) (false ∷ cut) k l z = ap (λ c. true ∷ c) (union_nothing q loose cut k.0 l z)
union_nothing (u ∷ q) (false ∷ loose) (true ∷ cut) k l z = absurd (omega (arith, z))
union_nothing (u ∷ q) (false ∷ loose) (false ∷ cut) k l z = ap (λ c. false ∷ c) (union_nothing q loose cut k l z)

-- ---- the value

module _ (queue : Queued) (closed : AreClosed queue) where
  abbrev us : List Pending
  us = updates queue.written

  abbrev next : ℕ → List Bool
  next a = ready (home_of queue.geometry) a (unsynced_of queue)

  next_ready : (a : ℕ) → IsClosed (unsynced_of queue) (ready (home_of queue.geometry) a (unsynced_of queue))
  next_ready a = ready_closed (home_of queue.geometry) a (unsynced_of queue)

  -- what is written is closed, and what is pending is not loose
  pub cut_closed : IsClosed (updates queue.written) (cut_of queue)
  cut_closed = joined_closed us queue.durable queue.loose closed.durable closed.loose

  pub pending_rest : pending_of queue ≡ rest (unsynced_of queue) queue.loose
  pending_rest = joined_rest us queue.durable queue.loose closed.durable closed.loose

  -- what a flush writes
  pub next_closed : (a : ℕ) → IsClosed (pending_of queue) (next_cut queue a)
  next_closed a = subst (λ q. IsClosed q (next_cut queue a)) (sym pending_rest) (beyond_closed (unsynced_of queue) queue.loose (next a) closed.loose (next_ready a))

  pub next_of_block : (a : ℕ) → IsOfBlock (home_of queue.geometry) a (pending_of queue) (next_cut queue a)
  next_of_block a = subst (λ q. IsOfBlock (home_of queue.geometry) a q (next_cut queue a)) (sym pending_rest)
      (beyond_of_block (home_of queue.geometry) a (unsynced_of queue) queue.loose (next a) closed.loose (next_ready a) (ready_of_block (home_of queue.geometry) a (unsynced_of queue)))

  pub next_taken : (a : ℕ) → taken (unwritten queue.loose (ready (home_of queue.geometry) a (unsynced_of queue))) ≡ taken (next_cut queue a)
  next_taken a = beyond_taken (unsynced_of queue) queue.loose (next a) closed.loose (next_ready a)

  -- after a write
  pub closed_flushed : (a : ℕ) → AreClosed (flushed queue a)
  closed_flushed a = record { durable = closed.durable; loose = union_closed (unsynced_of queue) queue.loose (next a) closed.loose (next_ready a) }

  pub cut_flushed : (a : ℕ) → cut_of (flushed queue a) ≡ joined (updates queue.written) (cut_of queue) (next_cut queue a)
  cut_flushed a =
      ap (joined us queue.durable) (sym (joined_beyond (unsynced_of queue) queue.loose (next a) closed.loose (next_ready a)))
      ∙ joined_joined us queue.durable queue.loose (next_cut queue a) closed.durable closed.loose (subst (λ q. IsClosed q (next_cut queue a)) pending_rest (next_closed a))

  pub pending_flushed : (a : ℕ) → pending_of (flushed queue a) ≡ rest (pending_of queue) (next_cut queue a)
  pending_flushed a = ap (rest us) (cut_flushed a) ∙ joined_rest us (cut_of queue) (next_cut queue a) cut_closed (next_closed a)

  -- a write of nothing
  pub flushed_same : (a : ℕ) → taken (next_cut queue a) ≡ 0 → flushed queue a ≡ queue
  flushed_same a none = ap (λ l. record queue { loose = l }) (union_nothing (unsynced_of queue) queue.loose (next a) closed.loose (next_ready a) none)

  -- once the device has told that all is durable
  pub closed_settled : AreClosed (settled queue)
  closed_settled = record { durable = cut_closed; loose = none_closed (pending_of queue) }

  pub settled_is : IsSettled (settled queue)
  settled_is = nothing_taken (pending_of queue)

  pub cut_settled : cut_of (settled queue) ≡ cut_of queue
  cut_settled = joined_none us (cut_of queue) cut_closed

  pub pending_settled : pending_of (settled queue) ≡ pending_of queue
  pending_settled = ap (rest us) cut_settled

  -- where nothing is loose
  module _ (is : IsSettled queue) where
    pub unsynced_pending : unsynced_of queue ≡ pending_of queue
    unsynced_pending = sym ((none_taken (no_view queue.geometry) (unsynced_of queue) queue.loose closed.loose is).1) ∙ sym pending_rest

    pub next_is_ready : (a : ℕ) → next_cut queue a ≡ ready (home_of queue.geometry) a (pending_of queue)
    next_is_ready a = beyond_nothing (unsynced_of queue) queue.loose (next a) closed.loose is (next_ready a) ∙ ap (ready (home_of queue.geometry) a) unsynced_pending

    pub settled_same : settled queue ≡ queue
    settled_same =
        ap₂ (λ d l. record queue { durable = d; loose = l })
        (ap (joined us queue.durable) (is_none (unsynced_of queue) queue.loose closed.loose is) ∙ joined_none us queue.durable closed.durable)
        (ap none_of (sym unsynced_pending) ∙ sym (is_none (unsynced_of queue) queue.loose closed.loose is))

    pub nothing_unsynced : pending_of queue ≡ [] → unsynced_of queue ≡ []
    nothing_unsynced none = unsynced_pending ∙ none

    -- something may go as long as something is pending
    pub nothing_pending : NothingNext queue → pending_of queue ≡ []
    nothing_pending none = step (pending_of queue) (λ a. sym (ap taken (next_is_ready a)) ∙ none a)
      where
        step : (q : List Pending) → ((a : ℕ) → taken (ready (home_of queue.geometry) a q) ≡ 0) → q ≡ []
        step [] none = refl
        step (u ∷ q) none = absurd (let some = oldest_ready (home_of queue.geometry) u q in let no = none (oldest_home (home_of queue.geometry) (u ∷ q)) in omega (arith, some, no))

    pub least_is_ready : (a : ℕ) → IsLeastNext queue a → IsLeastReady (home_of queue.geometry) (pending_of queue) a
    least_is_ready a least = record {
      has = subst (λ cut. 1 ≤ taken cut) (next_is_ready a) least.has;
      least = λ b low. sym (ap taken (next_is_ready b)) ∙ least.least b low;
    }

-- ---- a flush

-- a flush settles, or it does not
pub after_either : (P : Queued → Type 0) (order : Bool) (queue : Queued) (a : ℕ) → P (flushed queue a) → P (settled (flushed queue a)) → P (after_flush order queue a)
after_either P order queue a here there = step (order || taken (next_cut queue a) == 0)
  where
    step : (b : Bool) → P (if b then settled (flushed queue a) else flushed queue a)
    step true = there
    step false = here

-- where something is written on a device that does not keep order, it stays loose; where nothing is, the flush settles
pub after_some : (queue : Queued) (a : ℕ) → 1 ≤ taken (next_cut queue a) → after_flush false queue a ≡ flushed queue a
after_some queue a some = cond-false (taken (next_cut queue a) == 0) (settled (flushed queue a)) (flushed queue a) (ne_eqb (taken (next_cut queue a)) 0 (λ z. omega (arith, some, z)))

pub after_nothing : (queue : Queued) (a : ℕ) → taken (next_cut queue a) ≡ 0 → after_flush false queue a ≡ settled (flushed queue a)
after_nothing queue a none = cond-true (taken (next_cut queue a) == 0) (settled (flushed queue a)) (flushed queue a) (eq-eqb (taken (next_cut queue a)) 0 none)

module _ (order : Bool) (queue : Queued) (closed : AreClosed queue) (a : ℕ) where
  pub closed_after : AreClosed (after_flush order queue a)
  closed_after = after_either AreClosed order queue a (closed_flushed queue closed a) (closed_settled (flushed queue a) (closed_flushed queue closed a))

  pub cut_after : cut_of (after_flush order queue a) ≡ joined (updates queue.written) (cut_of queue) (next_cut queue a)
  cut_after = after_either (λ w. cut_of w ≡ joined (updates queue.written) (cut_of queue) (next_cut queue a)) order queue a
      (cut_flushed queue closed a) (cut_settled (flushed queue a) (closed_flushed queue closed a) ∙ cut_flushed queue closed a)

  pub pending_after : pending_of (after_flush order queue a) ≡ rest (pending_of queue) (next_cut queue a)
  pending_after = after_either (λ w. pending_of w ≡ rest (pending_of queue) (next_cut queue a)) order queue a
      (pending_flushed queue closed a) (pending_settled (flushed queue a) (closed_flushed queue closed a) ∙ pending_flushed queue closed a)

  pub geometry_after : (after_flush order queue a).geometry ≡ queue.geometry
  geometry_after = after_either (λ w. w.geometry ≡ queue.geometry) order queue a refl refl

  pub written_after : (after_flush order queue a).written ≡ queue.written
  written_after = after_either (λ w. w.written ≡ queue.written) order queue a refl refl

-- on a device that keeps order nothing is loose then
pub order_settles : (queue : Queued) → AreClosed queue → (a : ℕ) → IsSettled (after_flush true queue a)
order_settles queue closed a = settled_is (flushed queue a) (closed_flushed queue closed a)

-- ---- issues

pub pending_issued : (queue : Queued) (ws : List Written) → pending_of (issued queue ws) ≡ added (pending_of queue) ws
pending_issued queue [] = refl
pending_issued queue (w ∷ ws) = pending_issued (record queue { written = w ∷ queue.written; durable = false ∷ queue.durable; loose = false ∷ queue.loose }) ws

pub unsynced_issued : (queue : Queued) (ws : List Written) → unsynced_of (issued queue ws) ≡ added (unsynced_of queue) ws
unsynced_issued queue [] = refl
unsynced_issued queue (w ∷ ws) = unsynced_issued (record queue { written = w ∷ queue.written; durable = false ∷ queue.durable; loose = false ∷ queue.loose }) ws

pub geometry_issued : (queue : Queued) (ws : List Written) → (issued queue ws).geometry ≡ queue.geometry
geometry_issued queue [] = refl
geometry_issued queue (w ∷ ws) = geometry_issued (record queue { written = w ∷ queue.written; durable = false ∷ queue.durable; loose = false ∷ queue.loose }) ws

pub closed_issued : (queue : Queued) (ws : List Written) → AreClosed queue → AreClosed (issued queue ws)
closed_issued queue [] closed = closed
closed_issued queue (w ∷ ws) closed =
    closed_issued (record queue { written = w ∷ queue.written; durable = false ∷ queue.durable; loose = false ∷ queue.loose }) ws (record { durable = closed.durable; loose = closed.loose })

pub settled_issued : (queue : Queued) (ws : List Written) → IsSettled queue → IsSettled (issued queue ws)
settled_issued queue [] is = is
settled_issued queue (w ∷ ws) is = settled_issued (record queue { written = w ∷ queue.written; durable = false ∷ queue.durable; loose = false ∷ queue.loose }) ws is
