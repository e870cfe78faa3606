-- An entry that may go is taken.
use Rattle.std.proofs.Common.{◌≡◌, ℕ, ◌+◌, ◌-◌, ◌<◌, ◌≤◌, Bool, true, false, not, ◌&&◌, eqb, if◌then◌else◌, List, [], ◌∷◌, ◌++◌, ◌⊎◌, inl, inr, ◌↔◌, refl, sym, ap, ap₂, ◌∙◌, subst, IsTrue, IsFalse, Contains, length, map, reverse, slice_index_or, slice_set, Vec, Global, arith, eqb-true, eq-eqb}
use Rattle.std.specs.List.{IsDistinct, AllByRecursion}
use Rattle.std.specs.Vec.{vec_capacity}
use Rattle.std.proofs.lemmas.Bool.{cases_eq, cases_Bool, or_cases, or_left, or_right, or_parts, both_ways}
use Rattle.std.proofs.lemmas.List.Elements.{Contains-append_cases, Contains-append_left, Contains-append_right}
use Rattle.std.proofs.lemmas.List.{reverse-append, length-map}
use Rattle.std.proofs.lemmas.Map.Steps.{length-le_from_distinct_below}
use Rattle.std.proofs.lemmas.Map.Views.{Contains-from_any}
use Rattle.model.specs.Layout.{Geometry}
use Rattle.ordering.specs.Cuts.{Pending, cell_of}
use Rattle.queue_model.specs.Blocks.{home_of}
use Rattle.queue_model.specs.Entries.{Entry, Queue, has_id, may_go, AreTaken, NoOtherMayGo}
use Rattle.queue_model.proofs.Lists.{contains_head, contains_tail, contains_cases, contains_none}
use Rattle.queue_model.proofs.Standing.{same_entry, home_is, id_low, is_pending}
use Rattle.lists.specs.Stacks.{Links as StackLinks, stack_at, count_of, room_of}
use Rattle.lists.specs.Chains.{Links as ChainLinks, numbers, IsChain}
use Rattle.updates.specs.Places.{place_of}
use Rattle.softdep_queue.specs.declared.table.Node.{Node}
use Rattle.softdep_queue.specs.declared.table.Table.{Table}
use Rattle.softdep_queue.specs.Counts.{occurrences, count_in}
use Rattle.softdep_queue.specs.Ties.{Ties, TiesBy, Takes, WereTaken, of_block, due_after, Shows, node_at, waiters_of}
use Rattle.softdep_queue.specs.Lowering.{released, AreWaiting, MayBeReleased}
use Rattle.softdep_queue.proofs.Counting.{taken_one, may_go_of_none, none_of_may_go}
use Rattle.softdep_queue.proofs.Steps.{ties_due}
use Rattle.softdep_queue.proofs.Shown.{same_shown}
use Rattle.softdep_queue.proofs.Flagged.{IsFlagged, flagged_node, other_node, same_update, same_chain, same_home, same_waiting, same_count}
use Rattle.softdep_queue.proofs.Blocks.{of_here, of_other, not_of, by_block, own_of}

abbrev pub ids : List Entry → List ℕ
ids es = map (λ (e : Entry). e.id) es

-- ---- members of a list that is turned round

pub reverse_cons : (x : ℕ) (xs : List ℕ) → reverse (x ∷ xs) ≡ reverse xs ++ x ∷ []
reverse_cons x xs = reverse-append (x ∷ []) xs

pub reverse_to : (xs : List ℕ) (y : ℕ) → Contains xs y → Contains (reverse xs) y
reverse_to [] y m = absurd (contains_none y m)
reverse_to (x ∷ xs) y m = subst (λ l. Contains l y) (sym (reverse_cons x xs)) (elim (contains_cases x y xs m) [
  | inl d ↦ Contains-append_right (reverse xs) (x ∷ []) y (subst (Contains (x ∷ [])) d (contains_head x []))
  | inr there ↦ Contains-append_left (reverse xs) (x ∷ []) y (reverse_to xs y there)
])

pub reverse_from : (xs : List ℕ) (y : ℕ) → Contains (reverse xs) y → Contains xs y
reverse_from [] y m = m
reverse_from (x ∷ xs) y m = elim (Contains-append_cases (reverse xs) (x ∷ []) y (subst (λ l. Contains l y) (reverse_cons x xs) m)) [
  | inl there ↦ contains_tail x y xs (reverse_from xs y there)
  | inr here ↦ elim (contains_cases x y [] here) [ inl d ↦ subst (Contains (x ∷ xs)) d (contains_head x xs) | inr bad ↦ absurd (contains_none y bad) ]
]

-- ---- what is taken is few

pub has_from : (es : List Entry) (i : ℕ) → Contains (ids es) i → IsTrue (has_id es i)
has_from [] i m = absurd (contains_none i m)
has_from (e ∷ es) i m = elim (contains_cases e.id i (ids es) m) [
  | inl d ↦ or_left (eqb i e.id) (has_id es i) (eq-eqb i e.id (sym d))
  | inr there ↦ or_right (eqb i e.id) (has_id es i) (has_from es i there)
]

pub has_to : (es : List Entry) (i : ℕ) → IsTrue (has_id es i) → Contains (ids es) i
has_to [] i t = absurd (let bad : false ≡ true = t in cc)
has_to (e ∷ es) i t = elim (or_cases (eqb i e.id) (has_id es i) t) [
  | inl same ↦ subst (λ j. Contains (e.id ∷ ids es) j) (sym (eqb-true i e.id same)) (contains_head e.id (ids es))
  | inr there ↦ contains_tail e.id i (ids es) (has_to es i there)
]

other_ids : (es : List Entry) (i : ℕ) → IsFalse (has_id es i) → AllByRecursion (λ j. eqb i j ≡ false) (ids es)
other_ids [] i f = tt
other_ids (e ∷ es) i f = let p = or_parts (eqb i e.id) (has_id es i) f in (p.0, other_ids es i p.1)

module _ (geo : Geometry) (t : Table) (queue : Queue) (q : List Pending) (due : ℕ → Entry → ℕ) (IsReady : ℕ → Entry → Type 0) (ties : TiesBy geo t queue q due IsReady) where
  distinct : (es : List Entry) → WereTaken (home_of geo) queue es → IsDistinct eqb (ids es)
  unfolding IsDistinct
  distinct [] each = tt
  distinct (e ∷ es) each = (other_ids es e.id each.1, distinct es each.3)

  all_low : (es : List Entry) → WereTaken (home_of geo) queue es → (i : ℕ) → Contains (ids es) i → i < queue.next
  all_low [] each i m = absurd (contains_none i m)
  all_low (e ∷ es) each i m = elim (contains_cases e.id i (ids es) m) [
    | inl d ↦ subst (λ j. j < queue.next) d (id_low (home_of geo) queue q ties.represents (home_of geo (cell_of e.change)) e each.0)
    | inr there ↦ all_low es each.3 i there
  ]

  pub few_taken : (es : List Entry) → WereTaken (home_of geo) queue es → length es ≤ length t.nodes.items
  few_taken es each =
      let l = length-le_from_distinct_below (ids es) queue.next (distinct es each) (λ i m. all_low es each i (Contains-from_any (λ x y d. eqb-true x y d) i (ids es) m)) in
      let n = ties.next in
      let m = length-map es (λ (e : Entry). e.id) in
      omega (arith, l, n, m)

-- ---- the next one

-- a number is moved from the stack of a block to what is taken, and its node says so
pub record IsMoved (t t1 : Table) (a number : ℕ) : Type 0 where
  pub nodes : t1.nodes.items ≡ slice_set t.nodes.items number (record (node_at t.nodes.items number) { taken = true })
  pub low : number < length t.nodes.items
  pub chains : t1.chains ≡ t.chains
  pub latest : t1.latest ≡ t.latest
  pub pending : t1.pending ≡ t.pending
  pub taken : t1.taken.items ≡ t.taken.items ++ number ∷ []
  pub capacity : vec_capacity t1.taken ≡ vec_capacity t.taken
  pub count : count_of t1.ready ≡ count_of t.ready
  pub room : room_of t1.ready ≡ room_of t.ready
  pub was : (b i : ℕ) → Contains (stack_at t1.ready b) i → Contains (stack_at t.ready b) i
  pub still : (b i : ℕ) → Contains (stack_at t.ready b) i → (i ≡ number → ⊥) → Contains (stack_at t1.ready b) i
  pub gone : (b : ℕ) → Contains (stack_at t1.ready b) number → ⊥

-- what a pop of the stack leaves, with the number behind what is taken
pub moved_to : (t : Table) (ready : StackLinks) (taken : Vec ℕ Global) (nodes : Vec Node Global) (a number : ℕ) → nodes.items ≡ slice_set t.nodes.items number (record (node_at t.nodes.items number) { taken = true })
    → number < length t.nodes.items → stack_at t.ready a ≡ number ∷ stack_at ready a → ((b : ℕ) → (b ≡ a → ⊥) → stack_at ready b ≡ stack_at t.ready b)
    → ((b : ℕ) → Contains (stack_at ready b) number → ⊥) → count_of ready ≡ count_of t.ready → room_of ready ≡ room_of t.ready → taken.items ≡ t.taken.items ++ number ∷ [] → vec_capacity taken ≡ vec_capacity t.taken
    → IsMoved t (record t { nodes = nodes; ready = ready; taken = taken }) a number
moved_to t ready taken nodes a number flagged low popped others gone count room items capacity = record {
  nodes = flagged;
  low = low;
  chains = refl;
  latest = refl;
  pending = refl;
  taken = items;
  capacity = capacity;
  count = count;
  room = room;
  was = λ b i m. elim (cases_eq b a) [
    | inl d ↦ subst (λ k. Contains (stack_at t.ready k) i) (sym d) (subst (λ l. Contains l i) (sym popped) (contains_tail number i (stack_at ready a) (subst (λ k. Contains (stack_at ready k) i) d m)))
    | inr d ↦ subst (λ l. Contains l i) (others b d) m
  ];
  still = λ b i m other. elim (cases_eq b a) [
    | inl d ↦ elim (contains_cases number i (stack_at ready a) (subst (λ l. Contains l i) popped (subst (λ k. Contains (stack_at t.ready k) i) d m))) [
      | inl is ↦ absurd (other (sym is))
      | inr there ↦ subst (λ k. Contains (stack_at ready k) i) (sym d) there
    ]
    | inr d ↦ subst (λ l. Contains l i) (sym (others b d)) m
  ];
  gone = gone;
}

module _ (geo : Geometry) (t : Table) (queue : Queue) (q : List Pending) (a : ℕ) (ws : List Entry) (takes : Takes geo t queue q ws) where
  abbrev here : List Entry
  here = of_block (home_of geo) a ws

  -- with nothing on the stack no other may go
  pub none_left : stack_at t.ready a ≡ [] → NoOtherMayGo queue a (of_block (home_of geo) a ws)
  none_left empty e m may = elim ((takes.ties.ready a e m).1 (none_of_may_go queue.pending (has_id here) e may)) [
    | inl stack ↦ absurd (contains_none e.id (subst (λ l. Contains l e.id) empty stack))
    | inr taken ↦ own_of (home_of geo) queue q takes.ties.represents ws takes.each a e m (has_from ws e.id (reverse_from (ids ws) e.id (subst (λ l. Contains l e.id) takes.taken taken)))
  ]

  module _ (number : ℕ) (rest : List ℕ) (stack : stack_at t.ready a ≡ number ∷ rest) where
    pub top : Contains (stack_at t.ready a) number
    top = subst (λ l. Contains l number) (sym stack) (contains_head number rest)

    abbrev pub next_entry : Entry
    next_entry = (takes.ties.stacked a number top).0

    pub next_listed : Contains (queue.lists a) next_entry
    next_listed = (takes.ties.stacked a number top).1

    pub next_id : next_entry.id ≡ number
    next_id = (takes.ties.stacked a number top).2

    pub next_home : home_of geo (cell_of next_entry.change) ≡ a
    next_home = home_is (home_of geo) queue q takes.ties.represents a next_entry next_listed

    pub next_low : number < length t.nodes.items
    next_low = let l = id_low (home_of geo) queue q takes.ties.represents a next_entry next_listed in let n = takes.ties.next in let d = next_id in omega (arith, l, n, d)

    not_yet : IsFalse (has_id ws next_entry.id)
    not_yet = elim (cases_Bool (has_id ws next_entry.id)) [
      | inr f ↦ f
      | inl h ↦ absurd ((takes.ties.stacked a number top).3
          (subst (λ l. Contains l number) (sym takes.taken) (reverse_to (ids ws) number (subst (Contains (ids ws)) next_id (has_to ws next_entry.id h)))))
    ]

    due0 : due_after (home_of geo) queue ws a next_entry ≡ 0
    due0 = (takes.ties.ready a next_entry next_listed).0 (inl (subst (Contains (stack_at t.ready a)) (sym next_id) top))

    pub next_taken : WereTaken (home_of geo) queue (next_entry ∷ ws)
    next_taken = (
      subst (λ k. Contains (queue.lists k) next_entry) (sym next_home) next_listed,
      not_yet,
      subst (λ k. IsTrue (may_go queue.pending (has_id (of_block (home_of geo) k ws)) next_entry)) (sym next_home) (may_go_of_none queue.pending (has_id here) next_entry due0),
      takes.each,
    )

    -- the entries of the block that were taken, and it
    pub one_taken : (es : List Entry) × AreTaken queue a es × IsTrue (has_id es next_entry.id)
    one_taken = (
      next_entry ∷ here,
      (next_listed, not_of (home_of geo) a ws next_entry.id not_yet, may_go_of_none queue.pending (has_id here) next_entry due0, by_block (home_of geo) queue ws takes.each a),
      or_left (eqb next_entry.id next_entry.id) (has_id here next_entry.id) (eq-eqb next_entry.id next_entry.id refl),
    )

    one_less : (xs : List ℕ) → count_in (λ i. queue.pending i && not (has_id (next_entry ∷ here) i)) xs + occurrences next_entry.id xs ≡ count_in (λ i. queue.pending i && not (has_id here i)) xs
    one_less xs = taken_one queue.pending here next_entry (is_pending (home_of geo) queue q takes.ties.represents a next_entry next_listed) (not_of (home_of geo) a ws next_entry.id not_yet) xs

    -- ---- the table once its number is moved from the stack

    module _ (t1 : Table) (moved : IsMoved t t1 a number) where
      flag : IsFlagged t.nodes.items t1.nodes.items number true
      flag = (moved.nodes, moved.low)

      same_waiters : (i : ℕ) → waiters_of t1 i ≡ waiters_of t i
      same_waiters i = ap₂ (λ (c : ChainLinks) w. numbers c w) moved.chains (same_chain t.nodes.items t1.nodes.items number true flag i)

      pub moved_ties : Ties geo t1 queue q (due_after (home_of geo) queue ws)
      moved_ties = record {
        represents = takes.ties.represents;
        shown = same_shown t1.nodes.items t.nodes.items (same_count t.nodes.items t1.nodes.items number true flag) (same_update t.nodes.items t1.nodes.items number true flag) ∙ takes.ties.shown;
        cells = takes.ties.cells;
        next = takes.ties.next ∙ sym (same_count t.nodes.items t1.nodes.items number true flag);
        node = λ b e m. let n = takes.ties.node b e m in record {
          home = same_home t.nodes.items t1.nodes.items number true flag e.id ∙ n.home;
          on_volume = n.on_volume;
          change = subst (λ c. Shows c e.change) (sym (same_update t.nodes.items t1.nodes.items number true flag e.id)) n.change;
          cell = n.cell;
          fits = n.fits;
          waiting = same_waiting t.nodes.items t1.nodes.items number true flag e.id ∙ n.waiting;
          few = n.few;
          chain = subst (λ w. IsChain t1.chains w) (sym (same_chain t.nodes.items t1.nodes.items number true flag e.id)) (subst (λ (c : ChainLinks). IsChain c (node_at t.nodes.items e.id).waiters) (sym moved.chains) n.chain);
        };
        waiters = λ b c e f m o. ap (occurrences f.id) (same_waiters e.id) ∙ takes.ties.waiters b c e f m o;
        alive = λ b e i m o. takes.ties.alive b e i m (subst (λ l. Contains l i) (same_waiters e.id) o);
        ready = ready;
        flags = flags;
        stacked = stacked;
        latest = λ c is. ap (λ v. slice_index_or v.items (place_of geo c) 0) moved.latest ∙ takes.ties.latest c is;
        places = ap (λ v. length v.items) moved.latest ∙ takes.ties.places;
        blocks = moved.count ∙ takes.ties.blocks;
        pending = moved.pending ∙ takes.ties.pending;
        room = (let n = same_count t.nodes.items t1.nodes.items number true flag in let r = takes.ties.room in let s = moved.room in omega (arith, n, r, s));
        spare = (let n = same_count t.nodes.items t1.nodes.items number true flag in let r = takes.ties.spare in let s = moved.capacity in omega (arith, n, r, s));
      }
        where
          same : (b : ℕ) (e : Entry) → Contains (queue.lists b) e → e.id ≡ number → (e ≡ next_entry) × (b ≡ a)
          same b e m d = same_entry (home_of geo) queue q takes.ties.represents b a e next_entry m next_listed (d ∙ sym next_id)

          taken_now : Contains t1.taken.items number
          taken_now = subst (λ l. Contains l number) (sym moved.taken) (Contains-append_right t.taken.items (number ∷ []) number (contains_head number []))

          taken_before : (i : ℕ) → (i ≡ number → ⊥) → Contains t1.taken.items i → Contains t.taken.items i
          taken_before i d m = elim (Contains-append_cases t.taken.items (number ∷ []) i (subst (λ l. Contains l i) moved.taken m)) [
            | inl old ↦ old
            | inr now ↦ elim (contains_cases number i [] now) [ inl is ↦ absurd (d (sym is)) | inr bad ↦ absurd (contains_none i bad) ]
          ]

          taken_still : (i : ℕ) → Contains t.taken.items i → Contains t1.taken.items i
          taken_still i m = subst (λ l. Contains l i) (sym moved.taken) (Contains-append_left t.taken.items (number ∷ []) i m)

          ready : (b : ℕ) (e : Entry) → Contains (queue.lists b) e → (Contains (stack_at t1.ready b) e.id ⊎ Contains t1.taken.items e.id) ↔ (due_after (home_of geo) queue ws b e ≡ 0)
          ready b e m = elim (cases_eq e.id number) [
            | inl d ↦ let s = same b e m d in (
              (λ x. ap₂ (due_after (home_of geo) queue ws) s.1 s.0 ∙ due0),
              (λ z. inr (subst (Contains t1.taken.items) (sym d) taken_now)),
            )
            | inr d ↦ let r = takes.ties.ready b e m in (
              (λ x. r.0 (elim x [ inl stack ↦ inl (moved.was b e.id stack) | inr taken ↦ inr (taken_before e.id d taken) ])),
              (λ z. elim (r.1 z) [ inl stack ↦ inl (moved.still b e.id stack d) | inr taken ↦ inr (taken_still e.id taken) ]),
            )
          ]

          flags : (b : ℕ) (e : Entry) → Contains (queue.lists b) e → IsTrue (node_at t1.nodes.items e.id).taken ↔ Contains t1.taken.items e.id
          flags b e m = elim (cases_eq e.id number) [
            | inl d ↦ (
              (λ x. subst (Contains t1.taken.items) (sym d) taken_now),
              (λ x. ap (λ j. (node_at t1.nodes.items j).taken) d ∙ ap (λ (y : Node). y.taken) (flagged_node t.nodes.items t1.nodes.items number true flag)),
            )
            | inr d ↦ let f = takes.ties.flags b e m in let o = ap (λ (y : Node). y.taken) (other_node t.nodes.items t1.nodes.items number true flag e.id d) in (
              (λ x. taken_still e.id (f.0 (sym o ∙ x))),
              (λ x. o ∙ f.1 (taken_before e.id d x)),
            )
          ]

          stacked : (b i : ℕ) → Contains (stack_at t1.ready b) i → (e : Entry) × Contains (queue.lists b) e × (e.id ≡ i) × (Contains t1.taken.items i → ⊥)
          stacked b i m = let s = takes.ties.stacked b i (moved.was b i m) in (
            s.0,
            s.1,
            s.2,
            λ taken. elim (cases_eq i number) [ inl d ↦ moved.gone b (subst (Contains (stack_at t1.ready b)) d m) | inr d ↦ s.3 (taken_before i d taken) ],
          )

      waiting : AreWaiting queue (due_after (home_of geo) queue ws) a true next_entry.id
      waiting b f m chosen =
          let count = one_less f.waits in
          let due = ap (λ k. due_after (home_of geo) queue ws k f) (eqb-true b a chosen) in
          omega (arith, count, due)

      pub waits_next : AreWaiting queue (due_after (home_of geo) queue ws) a true number
      waits_next = subst (AreWaiting queue (due_after (home_of geo) queue ws) a true) next_id waiting

      pub may_be_released : MayBeReleased t1 number a true
      may_be_released = record {
        geo = geo;
        queue = queue;
        q = q;
        due = due_after (home_of geo) queue ws;
        block = a;
        entry = next_entry;
        ties = moved_ties;
        listed = next_listed;
        id = next_id;
        waiting = waits_next;
      }

      module _ (t2 : Table) (lowered : Ties geo t2 queue q (released a true number (due_after (home_of geo) queue ws))) (same : t2.taken ≡ t1.taken) where
        pub takes_more : Takes geo t2 queue q (next_entry ∷ ws)
        takes_more = record {
          ties = ties_due geo t2 queue q (released a true number (due_after (home_of geo) queue ws)) (due_after (home_of geo) queue (next_entry ∷ ws)) due lowered;
          taken = ap (λ v. v.items) same ∙ moved.taken ∙ ap (λ l. l ++ number ∷ []) takes.taken ∙ ap (λ i. reverse (ids ws) ++ i ∷ []) (sym next_id) ∙ sym (reverse_cons next_entry.id (ids ws));
          each = next_taken;
        }
          where
            with_it : (b : ℕ) (f : Entry) → of_block (home_of geo) b (next_entry ∷ ws) ≡ next_entry ∷ of_block (home_of geo) b ws → b ≡ a
                → due_after (home_of geo) queue ws b f - occurrences number f.waits ≡ due_after (home_of geo) queue (next_entry ∷ ws) b f
            with_it b f is at =
                let count = one_less f.waits in
                let o = ap (λ i. occurrences i f.waits) next_id in
                let before = ap (λ k. due_after (home_of geo) queue ws k f) at in
                let after = ap (λ l. count_in (λ i. queue.pending i && not (has_id l i)) f.waits) (is ∙ ap (λ k. next_entry ∷ of_block (home_of geo) k ws) at) in
                omega (arith, count, o, before, after)

            due : (b : ℕ) (f : Entry) → Contains (queue.lists b) f → released a true number (due_after (home_of geo) queue ws) b f ≡ due_after (home_of geo) queue (next_entry ∷ ws) b f
            due b f m = step (eqb b a) refl
              where
                step : (x : Bool) → eqb b a ≡ x → (if x then due_after (home_of geo) queue ws b f - occurrences number f.waits else due_after (home_of geo) queue ws b f) ≡ due_after (home_of geo) queue (next_entry ∷ ws) b f
                step true t = let at = eqb-true b a t in with_it b f (of_here (home_of geo) b next_entry ws (next_home ∙ sym at)) at
                step false n = ap (λ l. count_in (λ i. queue.pending i && not (has_id l i)) f.waits)
                    (sym (of_other (home_of geo) b next_entry ws (λ h. both_ways (eqb b a) n (eq-eqb b a (sym h ∙ next_home)))))
