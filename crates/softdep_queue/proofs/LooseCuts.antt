-- What was taken, as a cut of the pending updates.
use Rattle.std.proofs.Common.{◌≡◌, ℕ, suc, ◌+◌, ◌≤◌, Bool, true, false, not, ◌&&◌, ◌||◌, eqb, List, [], ◌∷◌, ◌++◌, ◌⊎◌, inl, inr, refl, sym, ap, ap₂, ◌∙◌, subst, IsTrue, IsFalse, Contains, length, arith, map, ◌↔◌, length-append, eqb-true, eq-eqb}
use Rattle.std.proofs.lemmas.Bool.{both_ways, or_cases, or_parts, and_from, and_parts}
use Rattle.model.specs.View.{View}
use Rattle.model.specs.Cells.{Update}
use Rattle.ordering.specs.Cuts.{Cell, Pending, IsClosed, cell_of, rest}
use Rattle.queue_model.specs.Flush.{ready, taken, TakesChange}
use Rattle.queue_model.specs.History.{none_of}
use Rattle.queue_model.specs.Entries.{Entry, Queue, Represents, Stand, has_id, marks, may_go, unless, NoOtherMayGo}
use Rattle.queue_model.proofs.Lists.{bool_same, contains_head, contains_tail, contains_cases, contains_none}
use Rattle.queue_model.proofs.Standing.{same_entry, listed}
use Rattle.queue_model.proofs.Listed.{at_within, has_from, one_entry}
use Rattle.queue_model.proofs.QueueLemmas.{kept, has_kept, last_kept, stand_kept, at_kept}
use Rattle.queue_model.proofs.TakenLemmas.{set_closed, one_more, more_may_go, marked, unmarked, change_of, change_in, of_id, found, taken_cut}
use Rattle.power_cut.specs.Epochs.{union}
use Rattle.softdep_queue.specs.Ties.{of_block, WereTaken}
use Rattle.softdep_queue.specs.Next.{unwritten}
use Rattle.softdep_queue.specs.Moving.{of_home}
use Rattle.softdep_queue.specs.Retiring.{struck_out}
use Rattle.softdep_queue.proofs.MoreCounts.{has_append}
use Rattle.softdep_queue.proofs.Blocks.{of_append, of_own, has_of, by_block, own_of}

-- ---- cuts by ids

pub marks_same : (f g : ℕ → Bool) (es : List Entry) → ((e : Entry) → Contains es e → f e.id ≡ g e.id) → marks f es ≡ marks g es
marks_same f g [] same = refl
marks_same f g (e ∷ es) same = ap₂ (λ b l. b ∷ l) (same e (contains_head e es)) (marks_same f g es (λ x m. same x (contains_tail e x es m)))

pub union_marks : (f g : ℕ → Bool) (es : List Entry) → union (marks f es) (marks g es) ≡ marks (λ i. f i || g i) es
union_marks f g [] = refl
union_marks f g (e ∷ es) = ap (λ l. (f e.id || g e.id) ∷ l) (union_marks f g es)

pub unwritten_marks : (f g : ℕ → Bool) (es : List Entry) → unwritten (marks f es) (marks g es) ≡ marks (λ i. g i && not (f i)) es
unwritten_marks f g [] = refl
unwritten_marks f g (e ∷ es) = ap (λ l. (g e.id && not (f e.id)) ∷ l) (unwritten_marks f g es)

pub some_marked : (f : ℕ → Bool) (es : List Entry) (e : Entry) → Contains es e → IsTrue (f e.id) → 1 ≤ taken (marks f es)
some_marked f [] e m t = absurd (contains_none e m)
some_marked f (x ∷ es) e m t = step (f x.id) refl (elim (contains_cases x e es m) [ inl d ↦ inl d | inr there ↦ inr (some_marked f es e there t) ])
  where
    step : (b : Bool) → f x.id ≡ b → (x ≡ e) ⊎ (1 ≤ taken (marks f es)) → 1 ≤ taken (b ∷ marks f es)
    step true y h = omega arith
    step false y (inl d) = absurd (both_ways (f x.id) y (ap (λ (z : Entry). f z.id) d ∙ t))
    step false y (inr more) = more

pub none_marked : (f : ℕ → Bool) (es : List Entry) → ((e : Entry) → Contains es e → IsFalse (f e.id)) → taken (marks f es) ≡ 0
none_marked f [] none = refl
none_marked f (e ∷ es) none = ap (λ b. taken (b ∷ marks f es)) (none e (contains_head e es)) ∙ none_marked f es (λ x m. none x (contains_tail e x es m))

both_marked : (f g : ℕ → Bool) (es : List Entry) → ((i : ℕ) → IsTrue (f i) → IsFalse (g i)) → taken (marks f es) + taken (marks g es) ≡ taken (marks (λ i. f i || g i) es)
both_marked f g [] apart = refl
both_marked f g (e ∷ es) apart = step (f e.id) (g e.id) (apart e.id) (both_marked f g es apart)
  where
    step : (x y : Bool) → (IsTrue x → IsFalse y) → taken (marks f es) + taken (marks g es) ≡ taken (marks (λ i. f i || g i) es) → taken (x ∷ marks f es) + taken (y ∷ marks g es) ≡ taken ((x || y) ∷ marks (λ i. f i || g i) es)
    step true true a h = absurd (let bad : true ≡ false = a refl in cc)
    step true false a h = omega (arith, h)
    step false true a h = omega (arith, h)
    step false false a h = h

-- nothing is marked
pub no_marks : (n : ℕ) (es : List Entry) (q : List Pending) → Stand n es q → marks (has_id []) es ≡ none_of q
no_marks n [] [] s = refl
no_marks n [] (u ∷ q) s = absurd s
no_marks n (e ∷ es) [] s = absurd s
no_marks n (e ∷ es) (u ∷ q) s = ap (λ l. false ∷ l) (no_marks e.id es q s.1)

-- ---- what was taken

-- what was taken later was not taken before
pub apart_append : (home : Cell → ℕ) (queue : Queue) (es ws : List Entry) → WereTaken home queue (es ++ ws) → (i : ℕ) → IsTrue (has_id es i) → IsFalse (has_id ws i)
apart_append home queue [] ws each i t = absurd (let bad : false ≡ true = t in cc)
apart_append home queue (e ∷ es) ws each i t = elim (or_cases (eqb i e.id) (has_id es i) t) [
  | inl same ↦ (or_parts (has_id es i) (has_id ws i) (sym (has_append es ws i) ∙ ap (has_id (es ++ ws)) (eqb-true i e.id same) ∙ each.1)).1
  | inr there ↦ apart_append home queue es ws each.3 i there
]

pub older_taken : (home : Cell → ℕ) (queue : Queue) (es ws : List Entry) → WereTaken home queue (es ++ ws) → WereTaken home queue ws
older_taken home queue [] ws each = each
older_taken home queue (e ∷ es) ws each = older_taken home queue es ws each.3

module _ (home : Cell → ℕ) (queue : Queue) (q : List Pending) (r : Represents home queue q) where
  within : (a : ℕ) (e : Entry) → Contains (queue.lists a) e → Contains r.entries e
  within a e m = at_within home a r.entries e (subst (λ l. Contains l e) (r.lists a) m)

  -- an entry that was taken waits for nothing that is pending but for others that were
  pub taken_may_go : (ws : List Entry) → WereTaken home queue ws → (e : Entry) → Contains r.entries e → IsTrue (has_id ws e.id) → IsTrue (may_go queue.pending (has_id (of_block home (home (cell_of e.change)) ws)) e)
  taken_may_go ws each e m h =
      let a = home (cell_of e.change) in
      let own = own_of home queue q r ws each a e (listed home queue q r e m) h in
      let f = found home a queue q r (of_block home a ws) (by_block home queue ws each a) e.id own in
      subst (λ (x : Entry). IsTrue (may_go queue.pending (has_id (of_block home a ws)) x)) (one_entry queue.next r.entries q r.stand f.0 e (within a f.0 f.1) m f.2) f.3

  pub loose_closed : (ws : List Entry) → WereTaken home queue ws → IsClosed q (marks (has_id ws) r.entries)
  loose_closed ws each = set_closed queue.pending queue.next r.entries q (has_id ws) r.stand (λ i b. r.pending i) (λ e m h.
      more_may_go queue.pending (has_id (of_block home (home (cell_of e.change)) ws)) (has_id ws) e (λ i t. has_of home (home (cell_of e.change)) ws i t) (taken_may_go ws each e m h))

  pub loose_count : (disk : View) (ws : List Entry) → WereTaken home queue ws → length ws ≡ taken (marks (has_id ws) r.entries)
  loose_count disk [] each = sym (none_marked (has_id []) r.entries (λ e m. refl))
  loose_count disk (e ∷ ws) each =
      let more = one_more disk queue.next r.entries q (has_id ws) e r.stand (loose_closed ws each.3) (within (home (cell_of e.change)) e each.0) each.1 in
      ap suc (loose_count disk ws each.3) ∙ sym more.count

  -- ---- what is left of the queue without it

  pub struck_represents : (ws : List Entry) → WereTaken home queue ws → Represents home (struck_out ws queue) (rest q (marks (has_id ws) r.entries))
  struck_represents ws each =
      let set = has_id ws in
      let k = loose_closed ws each in
      record {
        entries = kept set r.entries;
        stand = stand_kept queue.next r.entries q set r.stand k;
        lists = λ b. ap (kept set) (r.lists b) ∙ sym (at_kept home b set r.entries);
        pending = λ i. ap (λ b. b && not (set i)) (r.pending i) ∙ sym (has_kept set r.entries i);
        last = λ c. ap (unless set) (r.last c) ∙ sym (last_kept queue.next r.entries q set r.stand k c);
      }

  pub struck_entries : (ws : List Entry) (each : WereTaken home queue ws) → (struck_represents ws each).entries ≡ kept (has_id ws) r.entries
  unfolding struck_represents
  struck_entries ws each = refl

  -- ---- all that may go to a block was taken

  module _ (a : ℕ) (es ws : List Entry) (each : WereTaken home queue (es ++ ws)) (own : (e : Entry) → Contains es e → home (cell_of e.change) ≡ a) (all : NoOtherMayGo queue a (of_block home a (es ++ ws))) where
    pub ready_marks : marks (has_id (of_block home a (es ++ ws))) r.entries ≡ ready home a q
    ready_marks = taken_cut home a queue q r (of_block home a (es ++ ws)) (by_block home queue (es ++ ws) each a) all

    pub has_here : (i : ℕ) → has_id (of_block home a (es ++ ws)) i ≡ has_id es i || has_id (of_block home a ws) i
    has_here i = ap (λ l. has_id l i) (of_append home a es ws ∙ ap (λ l. l ++ of_block home a ws) (of_own home a es own)) ∙ has_append es (of_block home a ws) i

    pub marks_with : marks (has_id (es ++ ws)) r.entries ≡ union (marks (has_id ws) r.entries) (ready home a q)
    marks_with =
        marks_same (has_id (es ++ ws)) (λ i. has_id ws i || has_id (of_block home a (es ++ ws)) i) r.entries
        (λ e m. has_append es ws e.id ∙ step (has_id es e.id) (has_id ws e.id) (has_id (of_block home a ws) e.id) (has_of home a ws e.id) ∙ ap (λ b. has_id ws e.id || b) (sym (has_here e.id)))
        ∙ sym (union_marks (has_id ws) (has_id (of_block home a (es ++ ws))) r.entries) ∙ ap (union (marks (has_id ws) r.entries)) ready_marks
      where
        step : (x y z : Bool) → (IsTrue z → IsTrue y) → (x || y) ≡ (y || (x || z))
        step true true z h = refl
        step true false z h = refl
        step false true z h = refl
        step false false true h = h refl
        step false false false h = refl

    pub marks_new : marks (has_id es) r.entries ≡ unwritten (marks (has_id ws) r.entries) (ready home a q)
    marks_new =
        marks_same (has_id es) (λ i. has_id (of_block home a (es ++ ws)) i && not (has_id ws i)) r.entries
        (λ e m. step (has_id es e.id) (has_id ws e.id) (has_id (of_block home a ws) e.id) (has_of home a ws e.id) (apart_append home queue es ws each e.id) ∙ ap (λ b. b && not (has_id ws e.id)) (sym (has_here e.id)))
        ∙ sym (unwritten_marks (has_id ws) (has_id (of_block home a (es ++ ws))) r.entries) ∙ ap (unwritten (marks (has_id ws) r.entries)) ready_marks
      where
        step : (x y z : Bool) → (IsTrue z → IsTrue y) → (IsTrue x → IsFalse y) → x ≡ ((x || z) && not y)
        step true true z h d = let bad : true ≡ false = d refl in absurd (let no : true ≡ false = bad in cc)
        step true false z h d = refl
        step false true true h d = refl
        step false true false h d = refl
        step false false true h d = absurd (let bad : false ≡ true = h refl in cc)
        step false false false h d = refl

    pub new_count : (disk : View) → length es ≡ taken (unwritten (marks (has_id ws) r.entries) (ready home a q))
    new_count disk =
        let whole = loose_count disk (es ++ ws) each in
        let older = loose_count disk ws (older_taken home queue es ws each) in
        let both = both_marked (has_id es) (has_id ws) r.entries (apart_append home queue es ws each) in
        let same = ap taken (marks_same (has_id (es ++ ws)) (λ i. has_id es i || has_id ws i) r.entries (λ e m. has_append es ws e.id)) in
        let long = length-append es ws in
        let count : length es ≡ taken (marks (has_id es) r.entries) = omega (arith, whole, older, both, same, long) in
        count ∙ ap taken marks_new

    pub new_changes : (u : Update) → Contains (map (λ (e : Entry). e.change) es) u ↔ TakesChange q (unwritten (marks (has_id ws) r.entries) (ready home a q)) u
    new_changes u = (
      (λ m.
          let e = change_of es u m in
          let now = marked (has_id es) queue.next r.entries q r.stand e.0 (in_entries es each own e.0 e.1) (has_from es e.0 e.1) in
          subst (TakesChange q (unwritten (marks (has_id ws) r.entries) (ready home a q))) e.2 (subst (λ cut. TakesChange q cut e.0.change) marks_new now)),
      (λ m.
          let e = unmarked (has_id es) queue.next r.entries q r.stand u (subst (λ cut. TakesChange q cut u) (sym marks_new) m) in
          let x = of_id es e.0.id e.2 in
          let same = one_entry queue.next r.entries q r.stand x.0 e.0 (in_entries es each own x.0 x.1) e.1 x.2 in
          subst (Contains (map (λ (z : Entry). z.change) es)) (ap (λ (z : Entry). z.change) same ∙ e.3) (change_in es x.0 x.1)),
    )
      where
        in_entries : (es : List Entry) → WereTaken home queue (es ++ ws) → ((e : Entry) → Contains es e → home (cell_of e.change) ≡ a) → (e : Entry) → Contains es e → Contains r.entries e
        in_entries [] each own e m = absurd (contains_none e m)
        in_entries (x ∷ es) each own e m = elim (contains_cases x e es m) [
          | inl d ↦ subst (Contains r.entries) d (within (home (cell_of x.change)) x each.0)
          | inr there ↦ in_entries es each.3 (λ z k. own z (contains_tail x z es k)) e there
        ]

  -- ---- by blocks

  pub own_marks : (a : ℕ) (ws : List Entry) → WereTaken home queue ws → marks (has_id (of_block home a ws)) r.entries ≡ of_home home a q (marks (has_id ws) r.entries)
  own_marks a ws each = along queue.next r.entries q r.stand (λ e m. m)
    where
      along : (n : ℕ) (es : List Entry) (p : List Pending) → Stand n es p → ((e : Entry) → Contains es e → Contains r.entries e) → marks (has_id (of_block home a ws)) es ≡ of_home home a p (marks (has_id ws) es)
      along n [] [] s in_all = refl
      along n [] (u ∷ p) s in_all = absurd s
      along n (e ∷ es) [] s in_all = absurd s
      along n (e ∷ es) (u ∷ p) s in_all = ap₂ (λ b l. b ∷ l)
          (bool_same (has_id (of_block home a ws) e.id) (has_id ws e.id && eqb (home (cell_of u.change)) a)
          (λ t. and_from (has_id ws e.id) (eqb (home (cell_of u.change)) a) (has_of home a ws e.id t)
          (eq-eqb (home (cell_of u.change)) a (ap (λ x. home (cell_of x)) (sym s.2.change) ∙ at_home t)))
          (λ t.
          let both = and_parts (has_id ws e.id) (eqb (home (cell_of u.change)) a) t in
          own_of home queue q r ws each a e (subst (λ k. Contains (queue.lists k) e) (ap (λ x. home (cell_of x)) s.2.change ∙ eqb-true (home (cell_of u.change)) a both.1) listed_now) both.0))
          (along e.id es p s.1 (λ x m. in_all x (contains_tail e x es m)))
        where
          listed_now : Contains (queue.lists (home (cell_of e.change))) e
          listed_now = listed home queue q r e (in_all e (contains_head e es))

          at_home : IsTrue (has_id (of_block home a ws) e.id) → home (cell_of e.change) ≡ a
          at_home t =
              let f = found home a queue q r (of_block home a ws) (by_block home queue ws each a) e.id t in
              (same_entry home queue q r (home (cell_of e.change)) a e f.0 listed_now f.1 (sym f.2)).1
