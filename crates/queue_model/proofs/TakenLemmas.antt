-- Entries that are taken one by one until no other may go are those that a flush takes.
use Rattle.std.proofs.Common.{◌≡◌, ◌↔◌, ℕ, zero, suc, ◌<◌, Bool, true, false, not, eqb, ◌||◌, List, [], ◌∷◌, ◌⊎◌, inl, inr, refl, sym, ap, ◌∙◌, subst, IsTrue, IsFalse, Contains, length, map, arith, eqb-true, eq-eqb, ne_eqb}
use Rattle.std.proofs.lemmas.Bool.{or_cases, or_left, or_right, cases_Bool, both_ways}
use Rattle.model.specs.View.{View}
use Rattle.model.specs.Cells.{Update, updated}
use Rattle.ordering.specs.Cuts.{Cell, Pending, IsClosed, cell_of, fresh, seen}
use Rattle.ordering.specs.ClosedSets.{pending_at, takes}
use Rattle.ordering.proofs.CutLemmas.{was_fresh, is_other}
use Rattle.ordering.proofs.Flushes.{commute}
use Rattle.queue_model.specs.Flush.{is_ready, ready, taken, TakesChange}
use Rattle.queue_model.specs.Entries.{Entry, marks, has_id, entries_at, Stand, may_go, Queue, Represents, goes, AreTaken, NoOtherMayGo, view_after}
use Rattle.queue_model.proofs.Lists.{bool_same, contains_head, contains_tail, contains_cases, contains_none, all_at, all_from}
use Rattle.queue_model.proofs.FlushLemmas.{ready_parts, closed_step}
use Rattle.queue_model.proofs.EntryLemmas.{marks_same, has_below, pending_older, go_ready, ready_go, passed_has}
use Rattle.queue_model.proofs.Listed.{at_within, at_from, at_to, has_from, one_entry}
use Rattle.queue_model.proofs.Represented.{goes_ready, goes_passed}

-- ---- a set that takes with each entry what it waits for is a closed cut

pub set_closed : (pending : ℕ → Bool) (n : ℕ) (es : List Entry) (q : List Pending) (set : ℕ → Bool) → Stand n es q → ((i : ℕ) → i < n → pending i ≡ has_id es i)
    → ((e : Entry) → Contains es e → IsTrue (set e.id) → IsTrue (may_go pending set e)) → IsClosed q (marks set es)
set_closed pending n [] [] set s says after = tt
set_closed pending n [] (u ∷ q) set s says after = absurd s
set_closed pending n (e ∷ es) [] set s says after = absurd s
set_closed pending n (e ∷ es) (u ∷ q) set s says after =
    let older = pending_older pending n e es s.0 says in
    let k = set_closed pending e.id es q set s.1 older (λ x m. after x (contains_tail e x es m)) in
    closed_step u q (marks set es) (set e.id) k (λ t.
    let home : Cell → ℕ = λ c. 0 in
    let p = ready_parts home 0 (fresh q (marks set es)) u (go_ready home pending 0 e es u q set s.1 s.2 older k refl (after e (contains_head e es) t)) in
    (p.1, p.2))

-- ---- one more entry

-- the cell of an entry that is not taken is not fresh
not_fresh : (n : ℕ) (es : List Entry) (q : List Pending) (set : ℕ → Bool) (x : Entry) → Stand n es q → Contains es x → IsFalse (set x.id) → IsTrue (fresh q (marks set es) (cell_of x.change)) → ⊥
not_fresh n [] q set x s m f t = contains_none x m
not_fresh n (e ∷ es) [] set x s m f t = absurd s
not_fresh n (e ∷ es) (u ∷ q) set x s m f t = step (set e.id) refl t (contains_cases e x es m) (λ older t. not_fresh e.id es q set x s.1 older f t)
  where
    step : (b : Bool) → set e.id ≡ b → IsTrue (fresh (u ∷ q) (b ∷ marks set es) (cell_of x.change)) → (e ≡ x) ⊎ Contains es x
        → (Contains es x → IsTrue (fresh q (marks set es) (cell_of x.change)) → ⊥) → ⊥
    step true y t (inl d) more = both_ways (set e.id) (ap (λ (z : Entry). set z.id) d ∙ f) y
    step true y t (inr older) more = more older t
    step false y t (inl d) more = is_other (fresh q (marks set es)) (cell_of u.change) (cell_of x.change) t (ap (λ (z : Entry). cell_of z.change) (sym d) ∙ ap cell_of s.2.change)
    step false y t (inr older) more = more older (was_fresh (fresh q (marks set es)) (cell_of u.change) (cell_of x.change) t)

-- the set with one more id
abbrev pub with_id : (ℕ → Bool) → ℕ → ℕ → Bool
with_id set i j = eqb j i || set j

-- an entry that is taken after a closed cut changes its view by its update
pub record IsOneMore (disk : View) (es : List Entry) (q : List Pending) (set : ℕ → Bool) (x : Entry) : Type 0 where
  pub view : seen disk q (marks (with_id set x.id) es) ≡ updated (seen disk q (marks set es)) x.change
  pub count : taken (marks (with_id set x.id) es) ≡ suc (taken (marks set es))

pub one_more : (disk : View) (n : ℕ) (es : List Entry) (q : List Pending) (set : ℕ → Bool) (x : Entry) → Stand n es q → IsClosed q (marks set es) → Contains es x → IsFalse (set x.id) → IsOneMore disk es q set x
one_more disk n [] q set x s k m f = absurd (contains_none x m)
one_more disk n (e ∷ es) [] set x s k m f = absurd s
one_more disk n (e ∷ es) (u ∷ q) set x s k m f = elim (contains_cases e x es m) [
  | inl d ↦ here d
  | inr older ↦ there (set e.id) refl k older (λ k. one_more disk e.id es q set x s.1 k older f)
]
  where
    set' : ℕ → Bool
    set' = with_id set x.id

    here : e ≡ x → IsOneMore disk (e ∷ es) (u ∷ q) set x
    here d =
        let id : e.id ≡ x.id = ap (λ (z : Entry). z.id) d in
        let taken_now : set' e.id ≡ true = or_left (eqb e.id x.id) (set e.id) (eq-eqb e.id x.id id) in
        let not_before : set e.id ≡ false = ap set id ∙ f in
        let same : marks set' es ≡ marks set es = marks_same e.id es q set' set s.1 (λ j b. ap (λ y. y || set j) (ne_eqb j x.id (λ g. omega (arith, b, g, id)))) in
        record {
          view = ap (λ b. seen disk (u ∷ q) (b ∷ marks set' es)) taken_now ∙ ap (λ cut. updated (seen disk q cut) u.change) same
              ∙ ap (updated (seen disk q (marks set es))) (sym s.2.change ∙ ap (λ (z : Entry). z.change) d)
              ∙ sym (ap (λ b. updated (seen disk (u ∷ q) (b ∷ marks set es)) x.change) not_before);
          count = ap (λ b. taken (b ∷ marks set' es)) taken_now ∙ ap (λ cut. suc (taken cut)) same ∙ sym (ap (λ b. suc (taken (b ∷ marks set es))) not_before);
        }

    there : (b : Bool) → set e.id ≡ b → IsClosed (u ∷ q) (b ∷ marks set es) → Contains es x → (IsClosed q (marks set es) → IsOneMore disk es q set x) → IsOneMore disk (e ∷ es) (u ∷ q) set x
    there true y k older by =
        let more = by k.0 in
        let now : set' e.id ≡ true = or_right (eqb e.id x.id) (set e.id) y in
        let differ : cell_of x.change ≡ cell_of u.change → ⊥ = λ same. not_fresh e.id es q set x s.1 older f (subst (λ c. IsTrue (fresh q (marks set es) c)) (sym same) k.1) in
        record {
          view = ap (λ b. seen disk (u ∷ q) (b ∷ marks set' es)) now ∙ ap (λ v. updated v u.change) more.view ∙ commute (seen disk q (marks set es)) x.change u.change differ
              ∙ sym (ap (λ b. updated (seen disk (u ∷ q) (b ∷ marks set es)) x.change) y);
          count = ap (λ b. taken (b ∷ marks set' es)) now ∙ ap suc more.count ∙ sym (ap (λ b. suc (taken (b ∷ marks set es))) y);
        }
    there false y k older by =
        let more = by k in
        let below = has_below e.id es q x.id s.1 (has_from es x older) in
        let now : set' e.id ≡ false = ap (λ b. b || set e.id) (ne_eqb e.id x.id (λ g. omega (arith, below, g))) ∙ y in
        record {
          view = ap (λ b. seen disk (u ∷ q) (b ∷ marks set' es)) now ∙ more.view ∙ sym (ap (λ b. updated (seen disk (u ∷ q) (b ∷ marks set es)) x.change) y);
          count = ap (λ b. taken (b ∷ marks set' es)) now ∙ more.count ∙ sym (ap (λ b. suc (taken (b ∷ marks set es))) y);
        }

-- ---- more may go where more is taken

pub more_may_go : (pending set more : ℕ → Bool) (e : Entry) → ((i : ℕ) → IsTrue (set i) → IsTrue (more i)) → IsTrue (may_go pending set e) → IsTrue (may_go pending more e)
more_may_go pending set more e h t = all_from (λ i. not (pending i) || more i) e.waits (λ i m. elim (or_cases (not (pending i)) (set i) (all_at (λ j. not (pending j) || set j) e.waits i t m)) [
  | inl free ↦ or_left (not (pending i)) (more i) free
  | inr there ↦ or_right (not (pending i)) (more i) (h i there)
])

-- ---- what was taken

marks_head : (x y : Bool) (xs ys : List Bool) → x ∷ xs ≡ y ∷ ys → x ≡ y
marks_head x y xs ys e = ap (λ l. first l) e
  where
    first : List Bool → Bool
    first [] = x
    first (b ∷ l) = b

marks_rest : (x y : Bool) (xs ys : List Bool) → x ∷ xs ≡ y ∷ ys → xs ≡ ys
marks_rest x y xs ys e = ap (λ l. others l) e
  where
    others : List Bool → List Bool
    others [] = []
    others (b ∷ l) = l

-- an entry in the set is an update that its cut takes
pub marked : (set : ℕ → Bool) (n : ℕ) (es : List Entry) (q : List Pending) → Stand n es q → (e : Entry) → Contains es e → IsTrue (set e.id) → TakesChange q (marks set es) e.change
marked set n [] q s x m t = absurd (contains_none x m)
marked set n (e ∷ es) [] s x m t = absurd s
marked set n (e ∷ es) (u ∷ q) s x m t = elim (contains_cases e x es m) [
  | inl d ↦ (0, ap (λ (z : Entry). set z.id) d ∙ t, sym s.2.change ∙ ap (λ (z : Entry). z.change) d)
  | inr older ↦ let more = marked set e.id es q s.1 x older t in (suc more.0, more.1, more.2)
]

pub unmarked : (set : ℕ → Bool) (n : ℕ) (es : List Entry) (q : List Pending) → Stand n es q → (u : Update) → TakesChange q (marks set es) u
    → (e : Entry) × Contains es e × IsTrue (set e.id) × (e.change ≡ u)
unmarked set n [] q s u t = absurd (let bad : false ≡ true = t.1 in cc)
unmarked set n (e ∷ es) [] s u t = absurd s
unmarked set n (e ∷ es) (p ∷ q) s u t = at t.0 t.1 t.2 (λ older. unmarked set e.id es q s.1 u older)
  where
    at : (k : ℕ) → IsTrue (takes (marks set (e ∷ es)) k) → (pending_at (p ∷ q) k).change ≡ u → (TakesChange q (marks set es) u → (x : Entry) × Contains es x × IsTrue (set x.id) × (x.change ≡ u))
        → (x : Entry) × Contains (e ∷ es) x × IsTrue (set x.id) × (x.change ≡ u)
    at zero t d more = (e, contains_head e es, t, s.2.change ∙ d)
    at (suc k) t d more = let x = more (k, t, d) in (x.0, contains_tail e x.0 es x.1, x.2, x.3)

-- the changes of entries, and the entries of ids
pub change_of : (es : List Entry) (u : Update) → Contains (map (λ (e : Entry). e.change) es) u → (e : Entry) × Contains es e × (e.change ≡ u)
change_of [] u m = absurd (contains_none u m)
change_of (e ∷ es) u m = elim (contains_cases e.change u (map (λ (x : Entry). x.change) es) m) [
  | inl d ↦ (e, contains_head e es, d)
  | inr older ↦ let x = change_of es u older in (x.0, contains_tail e x.0 es x.1, x.2)
]

pub change_in : (es : List Entry) (e : Entry) → Contains es e → Contains (map (λ (x : Entry). x.change) es) e.change
change_in [] e m = absurd (contains_none e m)
change_in (x ∷ es) e m = elim (contains_cases x e es m) [
  | inl d ↦ subst (λ (z : Entry). Contains (map (λ (y : Entry). y.change) (x ∷ es)) z.change) d (contains_head x.change (map (λ (y : Entry). y.change) es))
  | inr older ↦ contains_tail x.change e.change (map (λ (y : Entry). y.change) es) (change_in es e older)
]

pub of_id : (es : List Entry) (i : ℕ) → IsTrue (has_id es i) → (e : Entry) × Contains es e × (e.id ≡ i)
of_id [] i h = absurd (let bad : false ≡ true = h in cc)
of_id (e ∷ es) i h = elim (or_cases (eqb i e.id) (has_id es i) h) [
  | inl same ↦ (e, contains_head e es, sym (eqb-true i e.id same))
  | inr before ↦ let x = of_id es i before in (x.0, contains_tail e x.0 es x.1, x.2)
]

module _ (home : Cell → ℕ) (a : ℕ) (queue : Queue) (q : List Pending) (r : Represents home queue q) where
  -- each entry of the block's list is an entry, and stands there
  pub listed : (e : Entry) → Contains (queue.lists a) e → Contains r.entries e × (home (cell_of e.change) ≡ a)
  listed e m = let there : Contains (entries_at home a r.entries) e = subst (λ l. Contains l e) (r.lists a) m in (at_within home a r.entries e there, at_from home a r.entries e there)

  -- an id that was taken is that of a listed entry, which may go
  pub found : (es : List Entry) → AreTaken queue a es → (i : ℕ) → IsTrue (has_id es i) → (e : Entry) × Contains (queue.lists a) e × (e.id ≡ i) × IsTrue (may_go queue.pending (has_id es) e)
  found [] t i h = absurd (let bad : false ≡ true = h in cc)
  found (e ∷ es) t i h = elim (or_cases (eqb i e.id) (has_id es i) h) [
    | inl same ↦ (e, t.0, sym (eqb-true i e.id same), more_may_go queue.pending (has_id es) (has_id (e ∷ es)) e (λ j k. or_right (eqb j e.id) (has_id es j) k) t.2)
    | inr before ↦ let f = found es t.3 i before in (f.0, f.1, f.2, more_may_go queue.pending (has_id es) (has_id (e ∷ es)) f.0 (λ j k. or_right (eqb j e.id) (has_id es j) k) f.3)
  ]

  one_id : (x y : Entry) → Contains r.entries x → Contains r.entries y → x.id ≡ y.id → x ≡ y
  one_id x y m k e = one_entry queue.next r.entries q r.stand x y m k e

  -- it takes with each entry what it waits for
  pub after : (es : List Entry) → AreTaken queue a es → (e : Entry) → Contains r.entries e → IsTrue (has_id es e.id) → (home (cell_of e.change) ≡ a) × IsTrue (may_go queue.pending (has_id es) e)
  after es t e m h =
      let f = found es t e.id h in
      let l = listed f.0 f.1 in
      let same : f.0 ≡ e = one_id f.0 e l.0 m f.2 in
      (ap (λ (z : Entry). home (cell_of z.change)) (sym same) ∙ l.1, subst (λ (z : Entry). IsTrue (may_go queue.pending (has_id es) z)) same f.3)

  pub closed : (es : List Entry) → AreTaken queue a es → IsClosed q (marks (has_id es) r.entries)
  closed es t = set_closed queue.pending queue.next r.entries q (has_id es) r.stand (λ i b. r.pending i) (λ e m h. (after es t e m h).1)

  -- the view after them is that of their cut
  pub cut_view : (disk : View) (es : List Entry) → AreTaken queue a es → (view_after disk es ≡ seen disk q (marks (has_id es) r.entries)) × (length es ≡ taken (marks (has_id es) r.entries))
  cut_view disk [] t = none queue.next r.entries q r.stand
    where
      none : (n : ℕ) (es : List Entry) (q : List Pending) → Stand n es q → (disk ≡ seen disk q (marks (λ i. false) es)) × (0 ≡ taken (marks (λ i. false) es))
      none n [] [] s = (refl, refl)
      none n [] (u ∷ q) s = absurd s
      none n (e ∷ es) [] s = absurd s
      none n (e ∷ es) (u ∷ q) s = none e.id es q s.1
  cut_view disk (e ∷ es) t =
      let before = cut_view disk es t.3 in
      let more = one_more disk queue.next r.entries q (has_id es) e r.stand (closed es t.3) (listed e t.0).0 t.1 in
      (ap (λ v. updated v e.change) before.0 ∙ sym more.view, ap suc before.1 ∙ sym more.count)

  -- until no other may go, it is the ready cut
  settled : (set : ℕ → Bool) (n : ℕ) (es : List Entry) (p : List Pending) → Stand n es p → ((i : ℕ) → i < n → queue.pending i ≡ has_id es i)
      → ((e : Entry) → Contains es e → IsTrue (set e.id) → (home (cell_of e.change) ≡ a) × IsTrue (may_go queue.pending set e))
      → ((e : Entry) → Contains es e → home (cell_of e.change) ≡ a → IsTrue (may_go queue.pending set e) → IsTrue (set e.id)) → marks set es ≡ ready home a p
  settled set n [] [] s says out inside = refl
  settled set n [] (u ∷ p) s says out inside = absurd s
  settled set n (e ∷ es) [] s says out inside = absurd s
  settled set n (e ∷ es) (u ∷ p) s says out inside =
      let older = pending_older queue.pending n e es s.0 says in
      let same = settled set e.id es p s.1 older (λ x m. out x (contains_tail e x es m)) (λ x m. inside x (contains_tail e x es m)) in
      let k = set_closed queue.pending e.id es p set s.1 older (λ x m t. (out x (contains_tail e x es m) t).1) in
      let first : set e.id ≡ is_ready home a (fresh p (marks set es)) u
      = bool_same (set e.id) (is_ready home a (fresh p (marks set es)) u)
      (λ t. let o = out e (contains_head e es) t in go_ready home queue.pending a e es u p set s.1 s.2 older k o.0 o.1)
      (λ t. let o = ready_go home queue.pending a e es u p set s.1 s.2 older k t in inside e (contains_head e es) o.0 o.1) in
      ap (λ b. b ∷ marks set es) first ∙ ap (λ cut. is_ready home a (fresh p cut) u ∷ cut) same

  -- an entry of the block stands in its list
  in_list : (e : Entry) → Contains r.entries e → home (cell_of e.change) ≡ a → Contains (queue.lists a) e
  in_list e m at = subst (λ l. Contains l e) (sym (r.lists a)) (at_to home a r.entries e m at)

  pub marks_tell : (f g : ℕ → Bool) (es : List Entry) → marks f es ≡ marks g es → (i : ℕ) → IsTrue (has_id es i) → f i ≡ g i
  marks_tell f g [] m i h = absurd (let bad : false ≡ true = h in cc)
  marks_tell f g (e ∷ es) m i h = elim (or_cases (eqb i e.id) (has_id es i) h) [
    | inl same ↦ let d = eqb-true i e.id same in ap f d ∙ marks_head (f e.id) (g e.id) (marks f es) (marks g es) m ∙ sym (ap g d)
    | inr there ↦ marks_tell f g es (marks_rest (f e.id) (g e.id) (marks f es) (marks g es) m) i there
  ]

  pub taken_cut : (es : List Entry) → AreTaken queue a es → NoOtherMayGo queue a es → marks (has_id es) r.entries ≡ ready home a q
  taken_cut es t none = settled (has_id es) queue.next r.entries q r.stand (λ i b. r.pending i) (λ e m h. after es t e m h) (λ e m at may. none e (in_list e m at) may)

  pub all_taken : (disk : View) (es : List Entry) → AreTaken queue a es → NoOtherMayGo queue a es
      → (view_after disk es ≡ seen disk q (ready home a q)) × (length es ≡ taken (ready home a q)) × ((i : ℕ) → goes queue a i ≡ has_id es i)
  all_taken disk es t none =
      let c = cut_view disk es t in
      let same = taken_cut es t none in
      let go : marks (goes queue a) r.entries ≡ marks (has_id es) r.entries = goes_ready home a queue q r ∙ sym same in (
        c.0 ∙ ap (seen disk q) same,
        c.1 ∙ ap taken same,
        λ i. elim (cases_Bool (has_id r.entries i)) [
          | inl there ↦ marks_tell (goes queue a) (has_id es) r.entries go i there
          | inr not_there ↦ bool_same (goes queue a i) (has_id es i)
              (λ g. absurd (both_ways (has_id r.entries i) not_there (passed_has home queue.pending a r.entries i (sym (ap (λ f. f i) (goes_passed home a queue q r)) ∙ g))))
              (λ g. let f = found es t i g in absurd (both_ways (has_id r.entries i) not_there (subst (λ j. IsTrue (has_id r.entries j)) f.2 (has_from r.entries f.0 (listed f.0 f.1).0))))
        ],
      )

  within : (es : List Entry) → AreTaken queue a es → (e : Entry) → Contains es e → Contains r.entries e
  within [] t e m = absurd (contains_none e m)
  within (x ∷ es) t e m = elim (contains_cases x e es m) [
    | inl d ↦ subst (Contains r.entries) d (listed x t.0).0
    | inr older ↦ within es t.3 e older
  ]

  -- their changes are those of the updates that the cut takes
  pub taken_changes : (es : List Entry) → AreTaken queue a es → NoOtherMayGo queue a es → (u : Update) → Contains (map (λ (e : Entry). e.change) es) u ↔ TakesChange q (ready home a q) u
  taken_changes es t none u = (
    (λ m.
        let e = change_of es u m in
        let marked_now = marked (has_id es) queue.next r.entries q r.stand e.0 (within es t e.0 e.1) (has_from es e.0 e.1) in
        subst (TakesChange q (ready home a q)) e.2 (subst (λ cut. TakesChange q cut e.0.change) (taken_cut es t none) marked_now)),
    (λ m.
        let e = unmarked (has_id es) queue.next r.entries q r.stand u (subst (λ cut. TakesChange q cut u) (sym (taken_cut es t none)) m) in
        let x = of_id es e.0.id e.2 in
        let same : x.0 ≡ e.0 = one_id x.0 e.0 (within es t x.0 x.1) e.1 x.2 in
        subst (Contains (map (λ (z : Entry). z.change) es)) (ap (λ (z : Entry). z.change) same ∙ e.3) (change_in es x.0 x.1)),
  )
