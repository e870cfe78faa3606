-- What is left once what was taken is struck out.
use Rattle.std.proofs.Common.{◌≡◌, ℕ, ◌+◌, ◌≤◌, Bool, true, false, not, ◌&&◌, ◌||◌, if◌then◌else◌, List, [], ◌∷◌, inl, inr, refl, sym, ap, ap₂, ◌∙◌, subst, IsTrue, IsFalse, Contains, length, filter, arith, slice_index_or, Vec, Global}
use Rattle.std.specs.Vec.{vec_capacity}
use Rattle.std.proofs.lemmas.Bool.{cases_Bool, or_cases, and_from, both_ways, not-true, not_from_false}
use Rattle.std.proofs.lemmas.List.{length-map, length-reverse}
use Rattle.model.specs.Layout.{Geometry}
use Rattle.model.specs.View.{View}
use Rattle.ordering.specs.Cuts.{Pending, cell_of, rest}
use Rattle.queue_model.specs.Blocks.{home_of}
use Rattle.queue_model.specs.Flush.{taken}
use Rattle.queue_model.specs.History.{none_of}
use Rattle.queue_model.specs.Entries.{Entry, Queue, Stand, has_id, marks}
use Rattle.queue_model.proofs.Lists.{contains_head, contains_tail, contains_cases, contains_none, all_at}
use Rattle.queue_model.proofs.Listed.{at_within}
use Rattle.queue_model.proofs.Standing.{is_pending, listed}
use Rattle.queue_model.proofs.FlushLemmas.{taken_rest}
use Rattle.lists.specs.Chains.{Links as ChainLinks, numbers, IsChain}
use Rattle.updates.specs.Places.{place_of}
use Rattle.lists.specs.Stacks.{Links as StackLinks, stack_at, count_of, room_of}
use Rattle.softdep_queue.specs.declared.table.Node.{Node}
use Rattle.softdep_queue.specs.declared.table.Table.{Table}
use Rattle.softdep_queue.specs.Counts.{occurrences}
use Rattle.softdep_queue.specs.Ties.{Ties, Takes, Holds, Shows, of_block, due_after, node_at, shown_by, waiters_of}
use Rattle.softdep_queue.specs.Retiring.{due_without, struck_out, IsReleased, AreStruck}
use Rattle.softdep_queue.proofs.Counting.{count_same, occurs, occurring}
use Rattle.softdep_queue.proofs.Shown.{AreShown, left_shown, within_rest}
use Rattle.softdep_queue.proofs.Taken.{ids, has_to, has_from, reverse_to, reverse_from}
use Rattle.softdep_queue.proofs.Blocks.{has_of, taken_entry}
use Rattle.softdep_queue.proofs.Left.{filter_to}
use Rattle.softdep_queue.proofs.LooseCuts.{no_marks, taken_may_go, loose_closed, loose_count, struck_represents}

filter_from : (f : Entry → Bool) (xs : List Entry) (x : Entry) → Contains (filter f xs) x → Contains xs x × IsTrue (f x)
filter_from f [] x m = absurd (contains_none x m)
filter_from f (y ∷ xs) x m = step (f y) refl m (filter_from f xs x)
  where
    step : (b : Bool) → f y ≡ b → Contains (if b then y ∷ filter f xs else filter f xs) x → (Contains (filter f xs) x → Contains xs x × IsTrue (f x)) → Contains (y ∷ xs) x × IsTrue (f x)
    step true t m more = elim (contains_cases y x (filter f xs) m) [
      | inl d ↦ (subst (Contains (y ∷ xs)) d (contains_head y xs), ap f (sym d) ∙ t)
      | inr there ↦ let h = more there in (contains_tail y x xs h.0, h.1)
    ]
    step false t m more = let h = more m in (contains_tail y x xs h.0, h.1)

-- the fields of the table once all is done
pub record IsEmptied (t t' : Table) : Type 0 where
  pub nodes : t'.nodes ≡ t.nodes
  pub chains : t'.chains ≡ t.chains
  pub ready : t'.ready ≡ t.ready
  pub latest : t'.latest ≡ t.latest
  pub taken : t'.taken.items ≡ []
  pub capacity : vec_capacity t'.taken ≡ vec_capacity t.taken
  pub pending : t'.pending + length t.taken.items ≡ t.pending

-- what was taken was pending
pub few_pending : (geo : Geometry) (disk : View) (t0 t1 : Table) (queue : Queue) (q : List Pending) (ws : List Entry) → IsReleased geo t0 queue q ws → AreStruck geo t0 t1 queue ws → length t1.taken.items ≤ t1.pending
few_pending geo disk t0 t1 queue q ws released struck =
    let s = struck.pending in
    let was = released.ties.pending in
    let l = ap (λ v. length v.items) struck.taken ∙ ap length released.taken ∙ length-reverse (ids ws) ∙ length-map ws (λ (e : Entry). e.id) in
    let r = released.ties.represents in
    let cut = taken_rest q (marks (has_id ws) r.entries) (loose_closed (home_of geo) queue q r ws released.each) in
    let f = loose_count (home_of geo) queue q r disk ws released.each in
    omega (arith, s, was, l, cut, f)

module _ (geo : Geometry) (disk : View) (t0 t1 t2 : Table) (queue : Queue) (q : List Pending) (ws : List Entry) (released : IsReleased geo t0 queue q ws) (struck : AreStruck geo t0 t1 queue ws) (emptied : IsEmptied t1 t2) where
  ties : Ties geo t0 queue q (due_without queue ws)
  ties = released.ties

  abbrev loose : List Bool
  loose = marks (has_id ws) released.ties.represents.entries

  -- an entry that is left was listed, and was not taken
  left : (b : ℕ) (e : Entry) → Contains ((struck_out ws queue).lists b) e → Contains (queue.lists b) e × IsFalse (has_id ws e.id)
  left b e m = let f = filter_from (λ (x : Entry). not (has_id ws x.id)) (queue.lists b) e m in (f.0, not-true (has_id ws e.id) f.1)

  stays : (b : ℕ) (e : Entry) → Contains (queue.lists b) e → IsFalse (has_id ws e.id) → Contains ((struck_out ws queue).lists b) e
  stays b e m f = filter_to (λ (x : Entry). not (has_id ws x.id)) (queue.lists b) e m (not_from_false (has_id ws e.id) f)

  node_same : (i : ℕ) → IsFalse (has_id ws i) → node_at t2.nodes.items i ≡ node_at t0.nodes.items i
  node_same i f = ap (λ (v : Vec Node Global). node_at v.items i) emptied.nodes ∙ struck.nodes i f

  chains_same : t2.chains ≡ t0.chains
  chains_same = emptied.chains ∙ struck.chains

  waiters_same : (i : ℕ) → IsFalse (has_id ws i) → waiters_of t2 i ≡ waiters_of t0 i
  waiters_same i f = ap₂ (λ (c : ChainLinks) (x : Node). numbers c x.waiters) chains_same (node_same i f)

  ready_same : t2.ready ≡ t0.ready
  ready_same = emptied.ready ∙ struck.ready

  due_same : (b : ℕ) (e : Entry) → due_without queue ws b e ≡ due_after (home_of geo) (struck_out ws queue) [] b e
  due_same b e = count_same (λ i. queue.pending i && not (has_id ws i)) (λ i. (queue.pending i && not (has_id ws i)) && not (has_id (of_block (home_of geo) b []) i)) (λ i. all (queue.pending i && not (has_id ws i))) e.waits
    where
      all : (x : Bool) → x ≡ (x && true)
      all true = refl
      all false = refl

  -- who waits for one that is left is left too
  waits_on : (b : ℕ) (e : Entry) (i : ℕ) → Contains (queue.lists b) e → IsFalse (has_id ws e.id) → Contains (waiters_of t0 e.id) i → IsFalse (has_id ws i)
  waits_on b e i m f w = elim (cases_Bool (has_id ws i)) [
    | inr g ↦ g
    | inl t ↦
        let x = taken_entry (home_of geo) queue ws released.each i t in
        let a = home_of geo (cell_of x.0.change) in
        let count = released.ties.waiters b a e x.0 m x.2 in
        let some = occurs i (waiters_of t0 e.id) w in
        let same = ap (λ j. occurrences j (waiters_of t0 e.id)) x.3 in
        let there : Contains x.0.waits e.id = occurring e.id x.0.waits (omega (arith, count, some, same)) in
        let within = at_within (home_of geo) a released.ties.represents.entries x.0 (subst (λ l. Contains l x.0) (released.ties.represents.lists a) x.2) in
        let may = taken_may_go (home_of geo) queue q released.ties.represents ws released.each x.0 within (ap (has_id ws) x.3 ∙ t) in
        absurd (elim (or_cases (not (queue.pending e.id)) (has_id (of_block (home_of geo) a ws) e.id) (all_at (λ j. not (queue.pending j) || has_id (of_block (home_of geo) a ws) j) x.0.waits e.id may there)) [
          | inl gone ↦ both_ways (queue.pending e.id) (not-true (queue.pending e.id) gone) (is_pending (home_of geo) queue q released.ties.represents b e m)
          | inr taken ↦ both_ways (has_id ws e.id) f (has_of (home_of geo) a ws e.id taken)
        ])
  ]

  some_shown : AreShown t0.nodes.items released.ties.represents.entries
  some_shown e m z = subst (λ o. Shows o e.change) z (released.ties.node (home_of geo (cell_of e.change)) e (listed (home_of geo) queue q released.ties.represents e m)).change

  shown_left : shown_by t2.nodes.items (length t2.nodes.items) ≡ rest q (marks (has_id ws) released.ties.represents.entries)
  shown_left =
      ap (λ (v : Vec Node Global). shown_by v.items (length v.items)) emptied.nodes ∙ ap (shown_by t1.nodes.items) struck.count
      ∙ left_shown t0.nodes.items t1.nodes.items (has_id ws) (λ i f. ap (λ (x : Node). x.update) (struck.nodes i f)) (λ i t. struck.gone i t)
      (length t0.nodes.items) released.ties.represents.entries q (subst (λ n. Stand n released.ties.represents.entries q) released.ties.next released.ties.represents.stand) some_shown released.ties.shown

  count_same_nodes : length t2.nodes.items ≡ length t0.nodes.items
  count_same_nodes = ap (λ (v : Vec Node Global). length v.items) emptied.nodes ∙ struck.count

  left_takes : Takes geo t2 (struck_out ws queue) (rest q (marks (has_id ws) released.ties.represents.entries)) []
  left_takes = record {
    ties = record {
      represents = struck_represents (home_of geo) queue q released.ties.represents ws released.each;
      shown = shown_left;
      cells = λ u m. ties.cells u (within_rest q loose u m);
      next = ties.next ∙ sym count_same_nodes;
      node = λ b e m. let l = left b e m in let n = ties.node b e l.0 in record {
        home = ap (λ (x : Node). x.home) (node_same e.id l.1) ∙ n.home;
        on_volume = n.on_volume;
        change = subst (λ (x : Node). Shows x.update e.change) (sym (node_same e.id l.1)) n.change;
        cell = n.cell;
        fits = n.fits;
        waiting = ap (λ (x : Node). x.waiting) (node_same e.id l.1) ∙ n.waiting ∙ due_same b e;
        few = n.few;
        chain = subst (λ (x : Node). IsChain t2.chains x.waiters) (sym (node_same e.id l.1)) (subst (λ (c : ChainLinks). IsChain c (node_at t0.nodes.items e.id).waiters) (sym chains_same) n.chain);
      };
      waiters = λ b c e f m o. let l = left b e m in let k = left c f o in ap (occurrences f.id) (waiters_same e.id l.1) ∙ ties.waiters b c e f l.0 k.0;
      alive = λ b e i m w. let l = left b e m in
          let w0 = subst (λ l. Contains l i) (waiters_same e.id l.1) w in
          and_from (queue.pending i) (not (has_id ws i)) (ties.alive b e i l.0 w0) (not_from_false (has_id ws i) (waits_on b e i l.0 l.1 w0));
      ready = λ b e m. let l = left b e m in let r = ties.ready b e l.0 in (
        (λ x. sym (due_same b e) ∙ r.0 (elim x [
          | inl stack ↦ inl (subst (λ (s : StackLinks). Contains (stack_at s b) e.id) ready_same stack)
          | inr bad ↦ absurd (contains_none e.id (subst (λ l. Contains l e.id) emptied.taken bad))
        ])),
        (λ z. elim (r.1 (due_same b e ∙ z)) [
          | inl stack ↦ inl (subst (λ (s : StackLinks). Contains (stack_at s b) e.id) (sym ready_same) stack)
          | inr taken ↦ absurd (not_taken e.id l.1 taken)
        ]),
      );
      flags = λ b e m. let l = left b e m in (
        (λ x. absurd (not_taken e.id l.1 ((ties.flags b e l.0).0 (ap (λ (y : Node). y.taken) (sym (node_same e.id l.1)) ∙ x)))),
        (λ x. absurd (contains_none e.id (subst (λ l. Contains l e.id) emptied.taken x))),
      );
      stacked = λ b i m. let s = ties.stacked b i (subst (λ (s : StackLinks). Contains (stack_at s b) i) ready_same m) in (
        s.0,
        stays b s.0 s.1 (elim (cases_Bool (has_id ws s.0.id)) [
          | inr f ↦ f
          | inl t ↦ absurd (s.3 (subst (λ l. Contains l i) (sym released.taken) (reverse_to (ids ws) i (subst (Contains (ids ws)) s.2 (has_to ws s.0.id t)))))
        ]),
        s.2,
        λ taken. contains_none i (subst (λ l. Contains l i) emptied.taken taken),
      );
      latest = λ c is. ap (λ v. slice_index_or v.items (place_of geo c) 0) emptied.latest ∙ struck.latest c is;
      places = ap (λ v. length v.items) emptied.latest ∙ struck.places ∙ ties.places;
      blocks = ap count_of ready_same ∙ ties.blocks;
      pending = (
          let p = emptied.pending in
          let s = struck.pending in
          let was = released.ties.pending in
          let l = ap (λ v. length v.items) struck.taken ∙ ap length released.taken ∙ length-reverse (ids ws) ∙ length-map ws (λ (e : Entry). e.id) in
          let cut = taken_rest q (marks (has_id ws) released.ties.represents.entries) (loose_closed (home_of geo) queue q released.ties.represents ws released.each) in
          let f = loose_count (home_of geo) queue q released.ties.represents disk ws released.each in
          omega (arith, p, s, was, l, cut, f)
          );
      room = (let n = count_same_nodes in let r = released.ties.room in let s = ap room_of ready_same in omega (arith, n, r, s));
      spare = (let n = count_same_nodes in let r = released.ties.spare in let s = emptied.capacity ∙ ap vec_capacity struck.taken in omega (arith, n, r, s));
    };
    taken = emptied.taken;
    each = tt;
  }
    where
      not_taken : (i : ℕ) → IsFalse (has_id ws i) → Contains t0.taken.items i → ⊥
      not_taken i f taken = both_ways (has_id ws i) f (has_from ws i (reverse_from (ids ws) i (subst (λ l. Contains l i) released.taken taken)))

  pub settled : (loose : List Bool) → marks (has_id ws) released.ties.represents.entries ≡ loose → (queue' : Queue) × Holds geo t2 queue' (rest q loose) (none_of (rest q loose))
  settled cut_of cut = subst (λ l. (queue' : Queue) × Holds geo t2 queue' (rest q l) (none_of (rest q l))) cut (
    struck_out ws queue,
    record { written = []; takes = left_takes; cut = no_marks queue.next left_takes.ties.represents.entries (rest q (marks (has_id ws) released.ties.represents.entries)) left_takes.ties.represents.stand },
  )
