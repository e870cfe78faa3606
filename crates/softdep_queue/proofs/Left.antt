-- What a block is given last, over what is left of the queue without what was taken before.
use Rattle.std.proofs.Common.{◌≡◌, ℕ, Bool, true, false, not, ◌&&◌, ◌||◌, if◌then◌else◌, List, [], ◌∷◌, ◌++◌, ◌⊎◌, inl, inr, refl, sym, ap, ap₂, ◌∙◌, subst, IsTrue, IsFalse, Contains, filter}
use Rattle.std.proofs.lemmas.Bool.{or_cases, or_left, or_parts, or_right, both_ways, not_from_false}
use Rattle.model.specs.View.{View}
use Rattle.ordering.specs.Cuts.{Cell, Pending, cell_of, seen, rest}
use Rattle.queue_model.specs.Flush.{ready}
use Rattle.queue_model.specs.Entries.{Entry, Queue, Represents, has_id, marks, view_after, AreTaken, NoOtherMayGo}
use Rattle.queue_model.proofs.Lists.{contains_head, contains_tail, contains_cases, contains_none, all_at, all_from}
use Rattle.queue_model.proofs.QueueLemmas.{kept}
use Rattle.queue_model.proofs.TakenLemmas.{cut_view}
use Rattle.power_cut.specs.Epochs.{beyond}
use Rattle.softdep_queue.specs.Ties.{of_block, WereTaken}
use Rattle.softdep_queue.specs.Retiring.{struck_out}
use Rattle.softdep_queue.proofs.MoreCounts.{has_append}
use Rattle.softdep_queue.proofs.Blocks.{has_of, not_of}
use Rattle.softdep_queue.proofs.LooseCuts.{older_taken, struck_represents, struck_entries, ready_marks, has_here}

pub filter_to : (f : Entry → Bool) (xs : List Entry) (x : Entry) → Contains xs x → IsTrue (f x) → Contains (filter f xs) x
filter_to f [] x m t = absurd (contains_none x m)
filter_to f (y ∷ xs) x m t = step (f y) refl (elim (contains_cases y x xs m) [ inl d ↦ inl d | inr there ↦ inr (filter_to f xs x there t) ])
  where
    step : (b : Bool) → f y ≡ b → (y ≡ x) ⊎ Contains (filter f xs) x → Contains (if b then y ∷ filter f xs else filter f xs) x
    step true e (inl d) = subst (Contains (y ∷ filter f xs)) d (contains_head y (filter f xs))
    step true e (inr there) = contains_tail y x (filter f xs) there
    step false e (inl d) = absurd (both_ways (f y) e (ap f d ∙ t))
    step false e (inr there) = there

-- what a set takes of the entries that another leaves, where it is the rest of a third
kept_marks : (set f g : ℕ → Bool) (es : List Entry) → ((i : ℕ) → IsFalse (set i) → f i ≡ g i) → marks f (kept set es) ≡ beyond (marks set es) (marks g es)
kept_marks set f g [] same = refl
kept_marks set f g (e ∷ es) same = step (set e.id) refl (kept_marks set f g es same)
  where
    step : (b : Bool) → set e.id ≡ b → marks f (kept set es) ≡ beyond (marks set es) (marks g es) → marks f (if not b then e ∷ kept set es else kept set es) ≡ beyond (b ∷ marks set es) (g e.id ∷ marks g es)
    step true t more = more
    step false t more = ap₂ (λ x l. x ∷ l) (same e.id t) more

module _ (home : Cell → ℕ) (queue : Queue) (q : List Pending) (r : Represents home queue q) (a : ℕ) (es ws : List Entry) (each : WereTaken home queue (es ++ ws))
    (own : (e : Entry) → Contains es e → home (cell_of e.change) ≡ a) (all : NoOtherMayGo queue a (of_block home a (es ++ ws))) where
  left_taken : (es : List Entry) → WereTaken home queue (es ++ ws) → ((e : Entry) → Contains es e → home (cell_of e.change) ≡ a) → AreTaken (struck_out ws queue) a es
  left_taken [] each own = tt
  left_taken (e ∷ es) each own =
      let apart = or_parts (has_id es e.id) (has_id ws e.id) (sym (has_append es ws e.id) ∙ each.1) in (
        filter_to (λ (x : Entry). not (has_id ws x.id)) (queue.lists a) e (subst (λ k. Contains (queue.lists k) e) (own e (contains_head e es)) each.0) (not_from_false (has_id ws e.id) apart.1),
        apart.0,
        all_from (λ i. not (queue.pending i && not (has_id ws i)) || has_id es i) e.waits (λ i m.
            step (queue.pending i) (has_id ws i) (has_id es i) (wide i (all_at (λ j. not (queue.pending j) || has_id (of_block home (home (cell_of e.change)) (es ++ ws)) j) e.waits i each.2 m))),
        left_taken es each.3 (λ x m. own x (contains_tail e x es m)),
      )
    where
      step : (x y z : Bool) → IsTrue (not x || (z || y)) → IsTrue (not (x && not y) || z)
      step true true z h = refl
      step true false true h = refl
      step true false false h = h
      step false y z h = refl

      wide : (i : ℕ) → IsTrue (not (queue.pending i) || has_id (of_block home (home (cell_of e.change)) (es ++ ws)) i) → IsTrue (not (queue.pending i) || (has_id es i || has_id ws i))
      wide i t = elim (or_cases (not (queue.pending i)) (has_id (of_block home (home (cell_of e.change)) (es ++ ws)) i) t) [
        | inl free ↦ or_left (not (queue.pending i)) (has_id es i || has_id ws i) free
        | inr there ↦ or_right (not (queue.pending i)) (has_id es i || has_id ws i) (sym (has_append es ws i) ∙ has_of home (home (cell_of e.change)) (es ++ ws) i there)
      ]

  -- The changes of what was taken last make of a view what shows all that may go beyond what was written.
  pub view_left : (disk : View) → view_after disk es ≡ seen disk (rest q (marks (has_id ws) r.entries)) (beyond (marks (has_id ws) r.entries) (ready home a q))
  view_left disk =
      let older = older_taken home queue es ws each in
      let left = struck_represents home queue q r ws older in
      (cut_view home a (struck_out ws queue) (rest q (marks (has_id ws) r.entries)) left disk es (left_taken es each own)).0
      ∙ ap (seen disk (rest q (marks (has_id ws) r.entries)))
      (ap (marks (has_id es)) (struck_entries home queue q r ws older) ∙ kept_marks (has_id ws) (has_id es) (has_id (of_block home a (es ++ ws))) r.entries same ∙ ap (beyond (marks (has_id ws) r.entries)) (ready_marks home queue q r a es ws each own all))
    where
      same : (i : ℕ) → IsFalse (has_id ws i) → has_id es i ≡ has_id (of_block home a (es ++ ws)) i
      same i out = step (has_id es i) (has_id (of_block home a ws) i) (not_of home a ws i out) ∙ sym (has_here home queue q r a es ws each own all i)
        where
          step : (x y : Bool) → y ≡ false → x ≡ (x || y)
          step true y f = refl
          step false y f = sym f
