-- A block has something to write exactly where its stack is not empty.
use Rattle.std.proofs.Common.{◌≡◌, ℕ, zero, suc, ◌≤◌, Bool, true, false, not, ◌&&◌, List, [], ◌∷◌, inl, inr, refl, sym, ap, ◌∙◌, subst, IsTrue, Contains, length}
use Rattle.std.proofs.lemmas.Bool.{and_from, not_from_false}
use Rattle.std.proofs.lemmas.List.{length-map, length-reverse}
use Rattle.model.specs.Layout.{Geometry}
use Rattle.model.specs.View.{view_of}
use Rattle.ordering.specs.Cuts.{Cell, Pending, cell_of}
use Rattle.queue_model.specs.Blocks.{home_of}
use Rattle.queue_model.specs.Flush.{ready, taken, IsOfBlock}
use Rattle.queue_model.specs.Entries.{Entry, Queue, Stand, Represents, has_id, marks, goes, AreTaken}
use Rattle.queue_model.specs.History.{Holds as HoldsCut}
use Rattle.queue_model.proofs.Lists.{contains_head, contains_tail, contains_cases, contains_none}
use Rattle.queue_model.proofs.Listed.{at_within}
use Rattle.queue_model.proofs.FlushLemmas.{ready_greatest}
use Rattle.queue_model.proofs.Represented.{goes_ready}
use Rattle.queue_model.proofs.TakenLemmas.{after, closed, all_taken}
use Rattle.lists.specs.Ready.{IsLeast, IsNext, NothingStands, NothingStandsFrom}
use Rattle.lists.specs.Stacks.{stack_at, is_empty}
use Rattle.softdep_queue.specs.declared.table.Table.{Table}
use Rattle.softdep_queue.specs.Next.{unwritten, to_write, HasToWrite, IsLeastToWrite, IsNextToWrite, NothingToWrite, NothingToWriteFrom}
use Rattle.softdep_queue.specs.Ties.{Holds, of_block}
use Rattle.softdep_queue.proofs.Blocks.{by_block, has_of}
use Rattle.softdep_queue.proofs.LooseCuts.{unwritten_marks, some_marked, none_marked, loose_count}
use Rattle.softdep_queue.proofs.Taken.{ids, none_left, next_entry, next_listed, next_taken, one_taken}

-- a cut of a block's entries, where each is marked that another cut by ids marks
holds_mark : (f g : ℕ → Bool) (n : ℕ) (es : List Entry) (q : List Pending) → Stand n es q → HoldsCut (marks g es) (marks f es) → (e : Entry) → Contains es e → IsTrue (f e.id) → IsTrue (g e.id)
holds_mark f g n [] q s h e m t = absurd (contains_none e m)
holds_mark f g n (x ∷ es) [] s h e m t = absurd s
holds_mark f g n (x ∷ es) (u ∷ q) s h e m t = elim (contains_cases x e es m) [
  | inl d ↦ ap (λ (z : Entry). g z.id) (sym d) ∙ h 0 (ap (λ (z : Entry). f z.id) d ∙ t)
  | inr there ↦ holds_mark f g x.id es q s.1 (λ k l. h (suc k) l) e there t
]

-- a cut by ids of a block's entries is of the block
marks_of_block : (home : Cell → ℕ) (a : ℕ) (f : ℕ → Bool) (n : ℕ) (es : List Entry) (q : List Pending) → Stand n es q → ((e : Entry) → Contains es e → IsTrue (f e.id) → home (cell_of e.change) ≡ a) → IsOfBlock home a q (marks f es)
marks_of_block home a f n [] q s own k t = absurd (let bad : false ≡ true = t in cc)
marks_of_block home a f n (e ∷ es) [] s own k t = absurd s
marks_of_block home a f n (e ∷ es) (u ∷ q) s own zero t = ap (λ x. home (cell_of x)) (sym s.2.change) ∙ own e (contains_head e es) t
marks_of_block home a f n (e ∷ es) (u ∷ q) s own (suc k) t = marks_of_block home a f e.id es q s.1 (λ x m. own x (contains_tail e x es m)) k t

-- what may be taken one by one goes to the block
pub goes_too : (home : Cell → ℕ) (a : ℕ) (queue : Queue) (q : List Pending) (r : Represents home queue q) (es : List Entry) → AreTaken queue a es → (e : Entry) → Contains r.entries e → IsTrue (has_id es e.id) → IsTrue (goes queue a e.id)
goes_too home a queue q r es each =
    holds_mark (has_id es) (goes queue a) queue.next r.entries q r.stand
    (subst (λ c. HoldsCut c (marks (has_id es) r.entries)) (sym (goes_ready home a queue q r))
    (ready_greatest home a q (marks (has_id es) r.entries) (closed home a queue q r es each) (marks_of_block home a (has_id es) queue.next r.entries q r.stand (λ e m h. (after home a queue q r es each e m h).0))))

module _ (geo : Geometry) (t : Table) (queue : Queue) (q : List Pending) (loose : List Bool) (holds : Holds geo t queue q loose) where
  abbrev ws : List Entry
  ws = holds.written

  -- what is to be written, by ids
  to_write_is : (a : ℕ) → to_write (home_of geo) a q loose ≡ marks (λ i. goes queue a i && not (has_id ws i)) holds.takes.ties.represents.entries
  to_write_is a =
      ap (λ l. unwritten l (ready (home_of geo) a q)) (sym holds.cut) ∙ ap (unwritten (marks (has_id ws) holds.takes.ties.represents.entries)) (sym (goes_ready (home_of geo) a queue q holds.takes.ties.represents))
      ∙ unwritten_marks (has_id ws) (goes queue a) holds.takes.ties.represents.entries

  pub some_ready : (a : ℕ) → (stack_at t.ready a ≡ [] → ⊥) → HasToWrite (home_of geo) q loose a
  some_ready a some = step (stack_at t.ready a) refl
    where
      step : (l : List ℕ) → stack_at t.ready a ≡ l → HasToWrite (home_of geo) q loose a
      step [] is = absurd (some is)
      step (i ∷ l) is =
          let e = next_entry geo t queue q a ws holds.takes i l is in
          let listed = next_listed geo t queue q a ws holds.takes i l is in
          let each = next_taken geo t queue q a ws holds.takes i l is in
          let within = at_within (home_of geo) a holds.takes.ties.represents.entries e (subst (λ x. Contains x e) (holds.takes.ties.represents.lists a) listed) in
          let too = one_taken geo t queue q a ws holds.takes i l is in
          let goes_now = goes_too (home_of geo) a queue q holds.takes.ties.represents too.0 too.1 e within too.2 in
          subst (λ c. 1 ≤ taken c) (sym (to_write_is a))
          (some_marked (λ j. goes queue a j && not (has_id ws j)) holds.takes.ties.represents.entries e within (and_from (goes queue a e.id) (not (has_id ws e.id)) goes_now (not_from_false (has_id ws e.id) each.1)))

  pub none_ready_at : (a : ℕ) → stack_at t.ready a ≡ [] → taken (to_write (home_of geo) a q loose) ≡ 0
  none_ready_at a empty =
      let tells = (all_taken (home_of geo) a queue q holds.takes.ties.represents (view_of geo (λ _. [])) (of_block (home_of geo) a ws) (by_block (home_of geo) queue ws holds.takes.each a) (none_left geo t queue q a ws holds.takes empty)).2 in
      ap taken (to_write_is a) ∙ none_marked (λ i. goes queue a i && not (has_id ws i)) holds.takes.ties.represents.entries
      (λ e m. step (goes queue a e.id) (has_id ws e.id) (λ g. has_of (home_of geo) a ws e.id (sym (tells e.id) ∙ g)))
    where
      step : (x y : Bool) → (IsTrue x → IsTrue y) → (x && not y) ≡ false
      step true true h = refl
      step true false h = absurd (let bad : false ≡ true = h refl in cc)
      step false y h = refl

  pub least_is : (a : ℕ) → IsLeast t.ready a → IsLeastToWrite (home_of geo) q loose a
  least_is a is = record { has = some_ready a is.has; least = λ b low. none_ready_at b (is.least b low) }

  pub next_is : (from a : ℕ) → IsNext t.ready from a → IsNextToWrite (home_of geo) q loose from a
  next_is from a is = record { above = is.above; has = some_ready a is.has; least = λ b high low. none_ready_at b (is.least b high low) }

  pub nothing_next : (from : ℕ) → NothingStandsFrom t.ready from → NothingToWriteFrom (home_of geo) q loose from
  nothing_next from none = λ b high. none_ready_at b (none b high)

  pub nothing_is : NothingStands t.ready → NothingToWrite (home_of geo) q loose
  nothing_is none = λ b. none_ready_at b (none b)

  pub loose_is : length t.taken.items ≡ taken loose
  loose_is =
      ap length holds.takes.taken ∙ length-reverse (ids ws) ∙ length-map ws (λ (e : Entry). e.id)
      ∙ loose_count (home_of geo) queue q holds.takes.ties.represents (view_of geo (λ _. [])) ws holds.takes.each ∙ ap taken holds.cut

-- the answers of the table

pub empty_tells : (l : List ℕ) → not (is_empty l) ≡ false → l ≡ []
empty_tells [] h = refl
empty_tells (x ∷ l) h = absurd (let bad : true ≡ false = h in cc)

pub some_tells : (l : List ℕ) → not (is_empty l) ≡ true → l ≡ [] → ⊥
some_tells l h e = let bad : false ≡ true = sym (ap (λ x. not (is_empty x)) e) ∙ h in absurd (let b : false ≡ true = bad in cc)
