-- What was taken from a block last goes back, the oldest first.
use Rattle.std.proofs.Common.{◌≡◌, ℕ, ◌+◌, ◌-◌, ◌<◌, ◌≤◌, Bool, true, false, not, ◌&&◌, ◌||◌, eqb, List, [], ◌∷◌, ◌++◌, ◌⊎◌, inl, inr, ◌↔◌, refl, sym, ap, ap₂, ◌∙◌, subst, IsTrue, IsFalse, Contains, length, map, reverse, arith, get_or, slice_index_or, take, length-append, append-nil, eqb-true, eq-eqb, ne_eqb, Vec, Global}
use Rattle.std.proofs.lemmas.Bool.{cases_eq, cases_Bool, cond-true, cond-false, or_cases, or_left, or_right, or_parts, both_ways}
use Rattle.std.proofs.lemmas.List.{append_assoc, map-append, get_or-reverse, length-reverse, length-map, reverse-append}
use Rattle.std.proofs.Math.Seq.{get_or-append_seam, take-append_seam}
use Rattle.std.proofs.lemmas.List.Elements.{Contains-append_cases, Contains-append_left, Contains-append_right}
use Rattle.std.specs.Vec.{vec_capacity}
use Rattle.model.specs.Layout.{Geometry}
use Rattle.ordering.specs.Cuts.{Pending, cell_of}
use Rattle.queue_model.specs.Blocks.{home_of}
use Rattle.queue_model.specs.Entries.{Entry, Queue, has_id, marks, may_go, NoOtherMayGo}
use Rattle.queue_model.proofs.Lists.{bool_same, contains_head, contains_tail, contains_cases, contains_none, all_at, all_from}
use Rattle.queue_model.proofs.Listed.{at_within}
use Rattle.queue_model.proofs.Standing.{same_entry, home_is, id_low, waits_low, is_pending}
use Rattle.lists.specs.Stacks.{Links as Stacks, stack_at, count_of, room_of}
use Rattle.lists.specs.Chains.{Links as Chains, numbers, IsChain}
use Rattle.updates.specs.Places.{place_of}
use Rattle.softdep_queue.specs.declared.table.Node.{Node}
use Rattle.softdep_queue.specs.declared.table.Table.{Table}
use Rattle.softdep_queue.specs.Counts.{occurrences, count_in}
use Rattle.softdep_queue.specs.Ties.{Holds, Takes, WereTaken, Shows, of_block, node_at, due_after, waiters_of}
use Rattle.softdep_queue.specs.Returning.{ShowsAll, held, AreFree}
use Rattle.softdep_queue.proofs.Blocks.{of_append, of_own, of_none, has_of, not_of}
use Rattle.softdep_queue.proofs.Counting.{none_counted, none_of_may_go}
use Rattle.softdep_queue.proofs.Falling.{marks_of}
use Rattle.softdep_queue.proofs.Flagged.{IsFlagged, flagged_node, other_node, same_update, same_chain, same_home, same_waiting, same_count}
use Rattle.softdep_queue.proofs.LooseCuts.{apart_append, older_taken, taken_may_go}
use Rattle.softdep_queue.proofs.MoreCounts.{count_low, count_same, count_none, count_more, has_append}
use Rattle.softdep_queue.proofs.Raising.{shows_due}
use Rattle.softdep_queue.proofs.Shown.{same_shown}
use Rattle.softdep_queue.proofs.Steps.{read}
use Rattle.softdep_queue.proofs.Taken.{ids, has_to, has_from, reverse_to, reverse_from}

-- ---- entries that were taken

-- the entry that has so many older ones behind it
pub record IsSplit (es : List Entry) (k : ℕ) : Type 0 where
  pub newer : List Entry
  pub next : Entry
  pub back : List Entry
  pub all : es ≡ newer ++ next ∷ back
  pub count : length back ≡ k

pub split : (es : List Entry) (k : ℕ) → k < length es → IsSplit es k
split [] k l = absurd (omega (arith, l))
split (e ∷ es) k l = elim (cases_eq (length es) k) [
  | inl d ↦ record { newer = []; next = e; back = es; all = refl; count = d }
  | inr d ↦ let s = split es k (omega (arith, l, d)) in record { newer = e ∷ s.newer; next = s.next; back = s.back; all = ap (λ l. e ∷ l) s.all; count = s.count }
]

-- the entry of an id
record IsFound (es : List Entry) (i : ℕ) : Type 0 where
  newer : List Entry
  next : Entry
  back : List Entry
  all : es ≡ newer ++ next ∷ back
  id : next.id ≡ i

found : (es : List Entry) (i : ℕ) → IsTrue (has_id es i) → IsFound es i
found [] i t = absurd (let bad : false ≡ true = t in cc)
found (e ∷ es) i t = elim (or_cases (eqb i e.id) (has_id es i) t) [
  | inl same ↦ record { newer = []; next = e; back = es; all = refl; id = sym (eqb-true i e.id same) }
  | inr there ↦ let s = found es i there in record { newer = e ∷ s.newer; next = s.next; back = s.back; all = ap (λ l. e ∷ l) s.all; id = s.id }
]

entry_of_id : (es : List Entry) (i : ℕ) → IsTrue (has_id es i) → (e : Entry) × Contains es e × (e.id ≡ i)
entry_of_id es i t = let s = found es i t in (s.next, subst (λ l. Contains l s.next) (sym s.all) (Contains-append_right s.newer (s.next ∷ s.back) s.next (contains_head s.next s.back)), s.id)

id_of_entry : (es : List Entry) (e : Entry) → Contains es e → IsTrue (has_id es e.id)
id_of_entry [] e m = absurd (contains_none e m)
id_of_entry (x ∷ es) e m = elim (contains_cases x e es m) [
  | inl d ↦ or_left (eqb e.id x.id) (has_id es e.id) (eq-eqb e.id x.id (ap (λ (y : Entry). y.id) (sym d)))
  | inr n ↦ or_right (eqb e.id x.id) (has_id es e.id) (id_of_entry es e n)
]

-- the ids, the oldest first
abbrev ids_of : List Entry → List ℕ
ids_of es = reverse (map (λ (e : Entry). e.id) es)

length-ids : (es : List Entry) → length (ids_of es) ≡ length es
length-ids es = length-reverse (map (λ (e : Entry). e.id) es) ∙ length-map es (λ (e : Entry). e.id)

id_at : (newer : List Entry) (e : Entry) (back : List Entry) (d : ℕ) → get_or (ids_of (newer ++ e ∷ back)) (length back) d ≡ e.id
id_at newer e back d =
    let new = map (λ (x : Entry). x.id) newer in
    let old = map (λ (x : Entry). x.id) back in
    let all = map-append (λ (x : Entry). x.id) newer (e ∷ back) in
    let long : length (new ++ e.id ∷ old) ≡ length new + length (e.id ∷ old) = length-append new (e.id ∷ old) in
    let old_long = length-map back (λ (x : Entry). x.id) in
    let place : length (new ++ e.id ∷ old) - 1 - length back ≡ length new = omega (arith, long, old_long) in
    ap (λ l. get_or (reverse l) (length back) d) all
    ∙ get_or-reverse (new ++ e.id ∷ old) (length back) d (omega (arith, long, old_long))
    ∙ ap (λ k. get_or (new ++ e.id ∷ old) k d) place ∙ get_or-append_seam new e.id old d

-- an entry that waits for none of what is pending but for these was taken, if no other may go
waits_for_none : (queue : Queue) (a : ℕ) (es : List Entry) → NoOtherMayGo queue a es → (e : Entry) → Contains (queue.lists a) e → count_in (λ i. queue.pending i && not (has_id es i)) e.waits ≡ 0 → IsTrue (has_id es e.id)
waits_for_none queue a es all e listed z =
    all e listed (all_from (λ i. not (queue.pending i) || has_id es i) e.waits (λ i m. either (queue.pending i) (has_id es i) (count_none (λ j. queue.pending j && not (has_id es j)) e.waits z i m)))
  where
    either : (p n : Bool) → (p && not n) ≡ false → (not p || n) ≡ true
    either false n h = refl
    either true true h = refl
    either true false h = absurd (let no : true ≡ false = h in cc)

-- ---- the table

-- the number was pushed onto the stack of the block, if it has nothing to wait for
pub record IsPushed (t t' : Table) (a w n : ℕ) : Type 0 where
  pub same : t' ≡ record t { ready = t'.ready }
  pub count : count_of t'.ready ≡ count_of t.ready
  pub room : room_of t'.ready ≡ room_of t.ready
  pub pushed : n ≡ 0 → stack_at t'.ready a ≡ w ∷ stack_at t.ready a
  pub kept : (n ≡ 0 → ⊥) → stack_at t'.ready a ≡ stack_at t.ready a
  pub others : (b : ℕ) → (b ≡ a → ⊥) → stack_at t'.ready b ≡ stack_at t.ready b

pub pushes : (t t' : Table) (a w n : ℕ) (r : Stacks) → t' ≡ record t { ready = r } → n ≡ 0 → count_of r ≡ count_of t.ready → room_of r ≡ room_of t.ready → stack_at r a ≡ w ∷ stack_at t.ready a
    → ((b : ℕ) → (b ≡ a → ⊥) → stack_at r b ≡ stack_at t.ready b) → IsPushed t t' a w n
pushes t t' a w n r is none count room pushed others = subst (λ x. IsPushed t x a w n) (sym is) (record {
  same = refl;
  count = count;
  room = room;
  pushed = λ z. pushed;
  kept = λ some. absurd (some none);
  others = others;
})

pub stays : (t t' : Table) (a w n : ℕ) → t' ≡ t → (n ≡ 0 → ⊥) → IsPushed t t' a w n
stays t t' a w n is some = subst (λ x. IsPushed t x a w n) (sym is) (record {
  same = refl;
  count = refl;
  room = refl;
  pushed = λ z. absurd (some z);
  kept = λ other. refl;
  others = λ b d. refl;
})

shows_ready : (geo : Geometry) (t : Table) (queue : Queue) (q : List Pending) (due : ℕ → Entry → ℕ) (r : Stacks) → count_of r ≡ count_of t.ready → room_of r ≡ room_of t.ready → ShowsAll geo t queue q due → ShowsAll geo (record t { ready = r }) queue q due
shows_ready geo t queue q due r count room shows = record {
  represents = shows.represents;
  shown = shows.shown;
  cells = shows.cells;
  next = shows.next;
  node = λ b e m. let n = shows.node b e m in record { home = n.home; on_volume = n.on_volume; change = n.change; cell = n.cell; fits = n.fits; waiting = n.waiting; few = n.few; chain = n.chain };
  waiters = shows.waiters;
  alive = shows.alive;
  latest = shows.latest;
  places = shows.places;
  blocks = count ∙ shows.blocks;
  pending = shows.pending;
  room = (let s = shows.room in omega (arith, s, room));
  spare = shows.spare;
}

pub shows_pushed : (geo : Geometry) (t t' : Table) (queue : Queue) (q : List Pending) (due : ℕ → Entry → ℕ) (a w n : ℕ) → IsPushed t t' a w n → ShowsAll geo t queue q due → ShowsAll geo t' queue q due
shows_pushed geo t t' queue q due a w n push shows = subst (λ x. ShowsAll geo x queue q due) (sym push.same) (shows_ready geo t queue q due t'.ready push.count push.room shows)

-- another flag of a node shows the same entries
pub shows_flagged : (geo : Geometry) (t t' : Table) (queue : Queue) (q : List Pending) (due : ℕ → Entry → ℕ) (number : ℕ) (flag : Bool) → IsFlagged t.nodes.items t'.nodes.items number flag → t'.chains ≡ t.chains → t'.ready ≡ t.ready → t'.latest ≡ t.latest
    → t'.taken ≡ t.taken → t'.pending ≡ t.pending → ShowsAll geo t queue q due → ShowsAll geo t' queue q due
shows_flagged geo t t' queue q due number flag is chains ready latest taken pending shows =
    let ns = t.nodes.items in
    let ms = t'.nodes.items in
    let waiters : (i : ℕ) → waiters_of t' i ≡ waiters_of t i = λ i. ap₂ (λ (c : Chains) w. numbers c w) chains (same_chain ns ms number flag is i) in
    let count = same_count ns ms number flag is in
    record {
      represents = shows.represents;
      shown = same_shown ms ns count (same_update ns ms number flag is) ∙ shows.shown;
      cells = shows.cells;
      next = shows.next ∙ sym count;
      node = λ b e m. let n = shows.node b e m in record {
        home = same_home ns ms number flag is e.id ∙ n.home;
        on_volume = n.on_volume;
        change = subst (λ o. Shows o e.change) (sym (same_update ns ms number flag is e.id)) n.change;
        cell = n.cell;
        fits = n.fits;
        waiting = same_waiting ns ms number flag is e.id ∙ n.waiting;
        few = n.few;
        chain = subst (λ w. IsChain t'.chains w) (sym (same_chain ns ms number flag is e.id)) (subst (λ (c : Chains). IsChain c (node_at ns e.id).waiters) (sym chains) n.chain);
      };
      waiters = λ b c e f m o. ap (occurrences f.id) (waiters e.id) ∙ shows.waiters b c e f m o;
      alive = λ b e i m o. shows.alive b e i m (subst (λ l. Contains l i) (waiters e.id) o);
      latest = λ c is. ap (λ v. slice_index_or v.items (place_of geo c) 0) latest ∙ shows.latest c is;
      places = ap (λ v. length v.items) latest ∙ shows.places;
      blocks = ap count_of ready ∙ shows.blocks;
      pending = pending ∙ shows.pending;
      room = (let s = shows.room in let r = ap room_of ready in omega (arith, s, r, count));
      spare = (let s = shows.spare in let k = ap vec_capacity taken in omega (arith, s, k, count));
    }

-- Of the entries that were taken last these are back, and the newer ones are not; the older ones stay taken.
pub record IsBack (geo : Geometry) (t₀ t : Table) (queue : Queue) (q : List Pending) (a : ℕ) (ws newer back : List Entry) : Type 0 where
  pub shows : ShowsAll geo t queue q (due_after (home_of geo) queue (newer ++ ws))
  pub here : (i : ℕ) → Contains (stack_at t.ready a) i → (e : Entry) × Contains back e × (e.id ≡ i) × (due_after (home_of geo) queue ws a e ≡ 0)
  pub stands : (e : Entry) → Contains back e → due_after (home_of geo) queue ws a e ≡ 0 → Contains (stack_at t.ready a) e.id
  pub others : (b : ℕ) → (b ≡ a → ⊥) → stack_at t.ready b ≡ stack_at t₀.ready b
  pub flags : (b : ℕ) (e : Entry) → Contains (queue.lists b) e → (node_at t.nodes.items e.id).taken ≡ has_id (newer ++ ws) e.id

-- a number is that of the next entry to go back
pub record IsNext (geo : Geometry) (t₀ t : Table) (queue : Queue) (q : List Pending) (a : ℕ) (es ws : List Entry) (n : ℕ) : Type 0 where
  pub newer : List Entry
  pub next : Entry
  pub back : List Entry
  pub all : es ≡ newer ++ next ∷ back
  pub before : IsBack geo t₀ t queue q a ws (newer ++ next ∷ []) back
  pub number : n ≡ next.id

module _ (geo : Geometry) (t₀ : Table) (queue : Queue) (q : List Pending) (a : ℕ) (es ws : List Entry) (takes : Takes geo t₀ queue q (es ++ ws)) (own : (e : Entry) → Contains es e → home_of geo (cell_of e.change) ≡ a)
    (all : NoOtherMayGo queue a (of_block (home_of geo) a (es ++ ws))) where
  abbrev mine : List Entry
  mine = of_block (home_of geo) a ws

  -- those of the block among some of them and the older ones
  has_here : (xs : List Entry) → ((e : Entry) → Contains xs e → home_of geo (cell_of e.change) ≡ a) → (i : ℕ) → has_id (of_block (home_of geo) a (xs ++ ws)) i ≡ has_id xs i || has_id mine i
  has_here xs are i = ap (λ l. has_id l i) (of_append (home_of geo) a xs ws ∙ ap (λ l. l ++ mine) (of_own (home_of geo) a xs are)) ∙ has_append xs mine i

  -- another block has none of them
  due_there : (xs : List Entry) → ((e : Entry) → Contains xs e → home_of geo (cell_of e.change) ≡ a) → (b : ℕ) → (b ≡ a → ⊥) → (f : Entry) → due_after (home_of geo) queue (xs ++ ws) b f ≡ due_after (home_of geo) queue ws b f
  due_there xs are b d f = ap (λ l. count_in (λ i. queue.pending i && not (has_id l i)) f.waits) (of_append (home_of geo) b xs ws ∙ ap (λ l. l ++ of_block (home_of geo) b ws) (of_none (home_of geo) a b xs are d))

  flag_is : (b : ℕ) (e : Entry) → Contains (queue.lists b) e → (node_at t₀.nodes.items e.id).taken ≡ has_id (es ++ ws) e.id
  flag_is b e m = let f = takes.ties.flags b e m in bool_same (node_at t₀.nodes.items e.id).taken (has_id (es ++ ws) e.id)
      (λ x. has_from (es ++ ws) e.id (reverse_from (ids (es ++ ws)) e.id (subst (λ l. Contains l e.id) takes.taken (f.0 x))))
      (λ x. f.1 (subst (λ l. Contains l e.id) (sym takes.taken) (reverse_to (ids (es ++ ws)) e.id (has_to (es ++ ws) e.id x))))

  listed_in : (xs : List Entry) → WereTaken (home_of geo) queue (xs ++ ws) → (x : Entry) → Contains xs x → Contains (queue.lists (home_of geo (cell_of x.change))) x
  listed_in [] each x k = absurd (contains_none x k)
  listed_in (y ∷ xs) each x k = elim (contains_cases y x xs k) [
    | inl d ↦ subst (λ (z : Entry). Contains (queue.lists (home_of geo (cell_of z.change))) z) d each.0
    | inr there ↦ listed_in xs each.3 x there
  ]

  -- at first nothing of the block stands as ready
  nothing_here : (i : ℕ) → Contains (stack_at t₀.ready a) i → ⊥
  nothing_here i m =
      let s = takes.ties.stacked a i m in
      let z : due_after (home_of geo) queue (es ++ ws) a s.0 ≡ 0 = (takes.ties.ready a s.0 s.1).0 (inl (subst (λ j. Contains (stack_at t₀.ready a) j) (sym s.2) m)) in
      let has = has_of (home_of geo) a (es ++ ws) s.0.id (waits_for_none queue a (of_block (home_of geo) a (es ++ ws)) all s.0 s.1 z) in
      s.3 (subst (λ l. Contains l i) (sym takes.taken) (reverse_to (ids (es ++ ws)) i (subst (Contains (ids (es ++ ws))) s.2 (has_to (es ++ ws) s.0.id has))))

  begun : IsBack geo t₀ t₀ queue q a ws es []
  begun = record {
    shows = record {
      represents = takes.ties.represents;
      shown = takes.ties.shown;
      cells = takes.ties.cells;
      next = takes.ties.next;
      node = takes.ties.node;
      waiters = takes.ties.waiters;
      alive = takes.ties.alive;
      latest = takes.ties.latest;
      places = takes.ties.places;
      blocks = takes.ties.blocks;
      pending = takes.ties.pending;
      room = takes.ties.room;
      spare = takes.ties.spare;
    };
    here = λ i m. absurd (nothing_here i m);
    stands = λ e m. absurd (contains_none e m);
    others = λ b d. refl;
    flags = flag_is;
  }

  pub begins : (newer back : List Entry) → es ≡ newer ++ back → length back ≡ 0 → IsBack geo t₀ t₀ queue q a ws newer back
  begins newer [] e n = subst (λ l. IsBack geo t₀ t₀ queue q a ws l []) (e ∙ append-nil newer) begun
  begins newer (x ∷ back) e n = absurd (omega (arith, n))

  pub taken_many : length t₀.taken.items ≡ length es + length ws
  taken_many = ap length takes.taken ∙ length-ids (es ++ ws) ∙ length-append es ws

  -- the next one
  module _ (newer : List Entry) (e : Entry) (back : List Entry) (whole : es ≡ newer ++ e ∷ back) where
    with_older : es ++ ws ≡ newer ++ e ∷ (back ++ ws)
    with_older = ap (λ l. l ++ ws) whole ∙ append_assoc newer (e ∷ back) ws

    each_at : WereTaken (home_of geo) queue (newer ++ e ∷ (back ++ ws))
    each_at = subst (WereTaken (home_of geo) queue) with_older takes.each

    at_home : home_of geo (cell_of e.change) ≡ a
    at_home = own e (subst (λ l. Contains l e) (sym whole) (Contains-append_right newer (e ∷ back) e (contains_head e back)))

    own_newer : (x : Entry) → Contains newer x → home_of geo (cell_of x.change) ≡ a
    own_newer x m = own x (subst (λ l. Contains l x) (sym whole) (Contains-append_left newer (e ∷ back) x m))

    own_with : (x : Entry) → Contains (newer ++ e ∷ []) x → home_of geo (cell_of x.change) ≡ a
    own_with x m = elim (Contains-append_cases newer (e ∷ []) x m) [
      | inl old ↦ own_newer x old
      | inr now ↦ elim (contains_cases e x [] now) [ inl d ↦ ap (λ (y : Entry). home_of geo (cell_of y.change)) (sym d) ∙ at_home | inr bad ↦ absurd (contains_none x bad) ]
    ]

    pub next_number : (t : Table) (k n : ℕ) → length back + length ws ≡ k → t.taken ≡ t₀.taken → n ≡ get_or t.taken.items k n → n ≡ e.id
    next_number t k n count taken number =
        number ∙ ap (λ v. get_or v.items k n) taken ∙ ap (λ l. get_or l k n) takes.taken ∙ ap (λ l. get_or (ids_of l) k n) with_older
        ∙ ap (λ j. get_or (ids_of (newer ++ e ∷ (back ++ ws))) j n) (sym (length-append back ws ∙ count)) ∙ id_at newer e (back ++ ws) n

    since_then : WereTaken (home_of geo) queue (e ∷ (back ++ ws))
    since_then = older_taken (home_of geo) queue newer (e ∷ (back ++ ws)) each_at

    pub next_listed : Contains (queue.lists a) e
    next_listed = subst (λ k. Contains (queue.lists k) e) at_home since_then.0

    next_pending : IsTrue (queue.pending e.id)
    next_pending = is_pending (home_of geo) queue q takes.ties.represents a e next_listed

    -- an older one has another id than the newer ones
    newer_apart : (i : ℕ) → IsTrue (has_id (e ∷ (back ++ ws)) i) → IsFalse (has_id newer i)
    newer_apart i h = elim (cases_Bool (has_id newer i)) [
      | inr f ↦ f
      | inl t ↦ absurd (both_ways (has_id (e ∷ (back ++ ws)) i) (apart_append (home_of geo) queue newer (e ∷ (back ++ ws)) each_at i t) h)
    ]

    next_apart : IsFalse (has_id newer e.id)
    next_apart = newer_apart e.id (or_left (eqb e.id e.id) (has_id (back ++ ws) e.id) (eq-eqb e.id e.id refl))

    older_apart : IsFalse (has_id back e.id) × IsFalse (has_id ws e.id)
    older_apart = or_parts (has_id back e.id) (has_id ws e.id) (sym (has_append back ws e.id) ∙ since_then.1)

    -- another id is among the newer ones with this one exactly where it is without it
    other_id : (i : ℕ) → (i ≡ e.id → ⊥) → has_id (newer ++ e ∷ []) i ≡ has_id newer i
    other_id i d = has_append newer (e ∷ []) i ∙ ap (λ b. has_id newer i || (b || false)) (ne_eqb i e.id d) ∙ none (has_id newer i)
      where
        none : (x : Bool) → (x || (false || false)) ≡ x
        none true = refl
        none false = refl

    this_id : IsTrue (has_id (newer ++ e ∷ []) e.id)
    this_id = has_append newer (e ∷ []) e.id ∙ or_right (has_id newer e.id) (eqb e.id e.id || false) (or_left (eqb e.id e.id) false (eq-eqb e.id e.id refl))

    -- what waits for it did not count it
    given : (xs : List ℕ) → count_in (λ i. queue.pending i && not (has_id (of_block (home_of geo) a ((newer ++ e ∷ []) ++ ws)) i)) xs + occurrences e.id xs
        ≡ count_in (λ i. queue.pending i && not (has_id (of_block (home_of geo) a (newer ++ ws)) i)) xs
    given xs = count_more (λ i. queue.pending i && not (has_id (of_block (home_of geo) a ((newer ++ e ∷ []) ++ ws)) i)) (λ i. queue.pending i && not (has_id (of_block (home_of geo) a (newer ++ ws)) i)) e.id xs
        (ap (λ b. queue.pending e.id && not b) (has_here (newer ++ e ∷ []) own_with e.id ∙ or_left (has_id (newer ++ e ∷ []) e.id) (has_id mine e.id) this_id) ∙ never (queue.pending e.id))
        (ap₂ (λ x y. x && not y) next_pending (has_here newer own_newer e.id ∙ ap₂ (λ x y. x || y) next_apart (not_of (home_of geo) a ws e.id older_apart.1)))
        (λ j d. ap (λ b. queue.pending j && not b) (has_here (newer ++ e ∷ []) own_with j ∙ ap (λ b. b || has_id mine j) (other_id j d) ∙ sym (has_here newer own_newer j)))
      where
        never : (b : Bool) → (b && false) ≡ false
        never true = refl
        never false = refl

    pub next_free : AreFree queue (due_after (home_of geo) queue ((newer ++ e ∷ []) ++ ws)) a e.id
    next_free b f m chosen =
        let now = ap (λ k. due_after (home_of geo) queue ((newer ++ e ∷ []) ++ ws) k f) (eqb-true b a chosen) in
        let g = given f.waits in
        let l = count_low (λ i. queue.pending i && not (has_id (of_block (home_of geo) a (newer ++ ws)) i)) f.waits in
        omega (arith, now, g, l)

    due_next : (b : ℕ) (f : Entry) → held a e.id (due_after (home_of geo) queue ((newer ++ e ∷ []) ++ ws)) b f ≡ due_after (home_of geo) queue (newer ++ ws) b f
    due_next b f = elim (cases_eq b a) [
      | inl d ↦
          let now = ap (λ k. due_after (home_of geo) queue ((newer ++ e ∷ []) ++ ws) k f) d in
          let left = ap (λ k. due_after (home_of geo) queue (newer ++ ws) k f) d in
          let g = given f.waits in
          cond-true (eqb b a) (due_after (home_of geo) queue ((newer ++ e ∷ []) ++ ws) b f + occurrences e.id f.waits) (due_after (home_of geo) queue ((newer ++ e ∷ []) ++ ws) b f) (eq-eqb b a d) ∙ omega (arith, now, left, g)
      | inr d ↦ cond-false (eqb b a) (due_after (home_of geo) queue ((newer ++ e ∷ []) ++ ws) b f + occurrences e.id f.waits) (due_after (home_of geo) queue ((newer ++ e ∷ []) ++ ws) b f) (ne_eqb b a d)
          ∙ due_there (newer ++ e ∷ []) own_with b d f ∙ sym (due_there newer own_newer b d f)
    ]

    -- when all those before it are back, it waits for all that it waited for before the flush
    due_then : due_after (home_of geo) queue ((newer ++ e ∷ []) ++ ws) a e ≡ due_after (home_of geo) queue ws a e
    due_then = count_same (λ i. queue.pending i && not (has_id (of_block (home_of geo) a ((newer ++ e ∷ []) ++ ws)) i)) (λ i. queue.pending i && not (has_id mine i)) e.waits
        (λ i m. ap (λ b. queue.pending i && not b) (has_here (newer ++ e ∷ []) own_with i) ∙ both (queue.pending i) (has_id (newer ++ e ∷ []) i) (has_id mine i) (apart i m))
      where
        both : (p n w : Bool) → (not p ≡ true) ⊎ ((n ≡ false) ⊎ (w ≡ true)) → (p && not (n || w)) ≡ (p && not w)
        both false n w h = refl
        both true false w h = refl
        both true true true h = refl
        both true true false (inl bad) = absurd (let no : false ≡ true = bad in cc)
        both true true false (inr (inl bad)) = absurd (let no : true ≡ false = bad in cc)
        both true true false (inr (inr bad)) = absurd (let no : false ≡ true = bad in cc)

        own_back : (x : Entry) → Contains back x → home_of geo (cell_of x.change) ≡ a
        own_back x m = own x (subst (λ l. Contains l x) (sym whole) (Contains-append_right newer (e ∷ back) x (contains_tail e x back m)))

        may : IsTrue (may_go queue.pending (has_id (of_block (home_of geo) a (back ++ ws))) e)
        may = subst (λ k. IsTrue (may_go queue.pending (has_id (of_block (home_of geo) k (back ++ ws))) e)) at_home since_then.2

        older_only : (i : ℕ) → Contains e.waits i → IsTrue (has_id back i) → has_id (newer ++ e ∷ []) i ≡ false
        older_only i m h = other_id i (λ d. let low = waits_low (home_of geo) queue q takes.ties.represents a e i next_listed m in omega (arith, low, d))
            ∙ newer_apart i (or_right (eqb i e.id) (has_id (back ++ ws) i) (has_append back ws i ∙ or_left (has_id back i) (has_id ws i) h))

        apart : (i : ℕ) → Contains e.waits i → (not (queue.pending i) ≡ true) ⊎ ((has_id (newer ++ e ∷ []) i ≡ false) ⊎ (has_id mine i ≡ true))
        apart i m = elim (or_cases (not (queue.pending i)) (has_id (of_block (home_of geo) a (back ++ ws)) i) (all_at (λ j. not (queue.pending j) || has_id (of_block (home_of geo) a (back ++ ws)) j) e.waits i may m)) [
          | inl free ↦ inl free
          | inr there ↦ inr (elim (or_cases (has_id back i) (has_id mine i) (sym (has_here back own_back i) ∙ there)) [ inl older ↦ inl (older_only i m older) | inr written ↦ inr written ])
        ]

    module _ (t : Table) (before : IsBack geo t₀ t queue q a ws (newer ++ e ∷ []) back) where
      next_due : (node_at t.nodes.items e.id).waiting ≡ due_after (home_of geo) queue ws a e
      next_due = (before.shows.node a e next_listed).waiting ∙ due_then

      pub next_low : e.id < length t.nodes.items
      next_low = let l = id_low (home_of geo) queue q before.shows.represents a e next_listed in let n = before.shows.next in omega (arith, l, n)

      pub next_block : a < count_of t.ready
      next_block = let l = (before.shows.node a e next_listed).on_volume in let c = before.shows.blocks in omega (arith, l, c)

      pub next_new : (b : ℕ) → Contains (stack_at t.ready b) e.id → ⊥
      next_new b m = elim (cases_eq b a) [
        | inl d ↦
            let h = before.here e.id (subst (λ j. Contains (stack_at t.ready j) e.id) d m) in
            both_ways (has_id back e.id) older_apart.0 (subst (λ j. IsTrue (has_id back j)) h.2 (id_of_entry back h.0 h.1))
        | inr d ↦
            let s = takes.ties.stacked b e.id (subst (λ l. Contains l e.id) (before.others b d) m) in
            d (same_entry (home_of geo) queue q takes.ties.represents b a s.0 e s.1 next_listed s.2).1
      ]

      next_back : (t1 t2 t3 : Table) → IsPushed t t1 a e.id (node_at t.nodes.items e.id).waiting → ShowsAll geo t2 queue q (held a e.id (due_after (home_of geo) queue ((newer ++ e ∷ []) ++ ws))) → t2.ready ≡ t1.ready
          → ((i : ℕ) → (node_at t2.nodes.items i).taken ≡ (node_at t1.nodes.items i).taken)
          → IsFlagged t2.nodes.items t3.nodes.items e.id false → t3.chains ≡ t2.chains → t3.ready ≡ t2.ready → t3.latest ≡ t2.latest → t3.taken ≡ t2.taken → t3.pending ≡ t2.pending
          → IsBack geo t₀ t3 queue q a ws newer (e ∷ back)
      next_back t1 t2 t3 push shows ready flags flagged chains still latest taken pending =
          let due = held a e.id (due_after (home_of geo) queue ((newer ++ e ∷ []) ++ ws)) in
          record {
            shows = shows_due geo t3 queue q due (due_after (home_of geo) queue (newer ++ ws)) (λ b f m. due_next b f) (shows_flagged geo t2 t3 queue q due e.id false flagged chains still latest taken pending shows);
            here = λ i m. here i (subst (λ r. Contains (stack_at r a) i) (still ∙ ready) m);
            stands = λ f m z. subst (λ r. Contains (stack_at r a) f.id) (sym (still ∙ ready)) (stands f z (contains_cases e f back m));
            others = λ b d. ap (λ r. stack_at r b) (still ∙ ready) ∙ push.others b d ∙ before.others b d;
            flags = flags_now;
          }
        where
          here : (i : ℕ) → Contains (stack_at t1.ready a) i → (f : Entry) × Contains (e ∷ back) f × (f.id ≡ i) × (due_after (home_of geo) queue ws a f ≡ 0)
          here i m = elim (cases_eq (node_at t.nodes.items e.id).waiting 0) [
            | inl z ↦ elim (contains_cases e.id i (stack_at t.ready a) (subst (λ l. Contains l i) (push.pushed z) m)) [
              | inl is ↦ (e, contains_head e back, is, sym next_due ∙ z)
              | inr old ↦ let h = before.here i old in (h.0, contains_tail e h.0 back h.1, h.2, h.3)
            ]
            | inr some ↦ let h = before.here i (subst (λ l. Contains l i) (push.kept some) m) in (h.0, contains_tail e h.0 back h.1, h.2, h.3)
          ]

          stays : (i : ℕ) → Contains (stack_at t.ready a) i → Contains (stack_at t1.ready a) i
          stays i m = elim (cases_eq (node_at t.nodes.items e.id).waiting 0) [
            | inl z ↦ subst (λ l. Contains l i) (sym (push.pushed z)) (contains_tail e.id i (stack_at t.ready a) m)
            | inr some ↦ subst (λ l. Contains l i) (sym (push.kept some)) m
          ]

          stands : (f : Entry) → due_after (home_of geo) queue ws a f ≡ 0 → (e ≡ f) ⊎ Contains back f → Contains (stack_at t1.ready a) f.id
          stands f z (inl d) =
              subst (λ (y : Entry). Contains (stack_at t1.ready a) y.id) d
              (subst (λ l. Contains l e.id) (sym (push.pushed (next_due ∙ ap (λ (y : Entry). due_after (home_of geo) queue ws a y) d ∙ z))) (contains_head e.id (stack_at t.ready a)))
          stands f z (inr old) = stays f.id (before.stands f old z)

          flags_now : (b : ℕ) (f : Entry) → Contains (queue.lists b) f → (node_at t3.nodes.items f.id).taken ≡ has_id (newer ++ ws) f.id
          flags_now b f m = elim (cases_eq f.id e.id) [
            | inl d ↦ ap (λ i. (node_at t3.nodes.items i).taken) d ∙ ap (λ (x : Node). x.taken) (flagged_node t2.nodes.items t3.nodes.items e.id false flagged)
                ∙ sym (ap (has_id (newer ++ ws)) d ∙ has_append newer ws e.id ∙ ap₂ (λ x y. x || y) next_apart older_apart.1)
            | inr d ↦ ap (λ (x : Node). x.taken) (other_node t2.nodes.items t3.nodes.items e.id false flagged f.id d) ∙ flags f.id ∙ ap (λ (x : Table). (node_at x.nodes.items f.id).taken) push.same
                ∙ before.flags b f m ∙ has_append (newer ++ e ∷ []) ws f.id ∙ ap (λ x. x || has_id ws f.id) (other_id f.id d) ∙ sym (has_append newer ws f.id)
          ]

      pub goes_back : (t1 t2 t3 : Table) (n : ℕ) (x : Node) → n ≡ e.id → x ≡ slice_index_or t.nodes.items n x → IsPushed t t1 a n x.waiting
          → (ShowsAll geo t1 queue q (due_after (home_of geo) queue ((newer ++ e ∷ []) ++ ws)) → e.id ≡ n → AreFree queue (due_after (home_of geo) queue ((newer ++ e ∷ []) ++ ws)) a n
          → ShowsAll geo t2 queue q (held a n (due_after (home_of geo) queue ((newer ++ e ∷ []) ++ ws))))
          → t2.ready ≡ t1.ready → ((i : ℕ) → (node_at t2.nodes.items i).taken ≡ (node_at t1.nodes.items i).taken)
          → IsFlagged t2.nodes.items t3.nodes.items n false → t3.chains ≡ t2.chains → t3.ready ≡ t2.ready → t3.latest ≡ t2.latest → t3.taken ≡ t2.taken → t3.pending ≡ t2.pending
          → IsBack geo t₀ t3 queue q a ws newer (e ∷ back)
      goes_back t1 t2 t3 n x number is push raise ready flags flagged =
          let due = due_after (home_of geo) queue ((newer ++ e ∷ []) ++ ws) in
          let low : n < length t.nodes.items = (let l = next_low in omega (arith, l, number)) in
          let waiting : x.waiting ≡ (node_at t.nodes.items e.id).waiting = ap (λ (y : Node). y.waiting) (read t.nodes.items n x low is) ∙ ap (λ i. (node_at t.nodes.items i).waiting) number in
          next_back t1 t2 t3 (subst (λ i. IsPushed t t1 a i (node_at t.nodes.items e.id).waiting) number (subst (λ k. IsPushed t t1 a n k) waiting push))
          (subst (λ i. ShowsAll geo t2 queue q (held a i due)) number
          (raise (shows_pushed geo t t1 queue q due a n x.waiting push before.shows) (sym number) (subst (λ i. AreFree queue due a i) (sym number) next_free))) ready flags
          (subst (λ i. IsFlagged t2.nodes.items t3.nodes.items i false) number flagged)

  -- the number at a place is that of the next one
  pub at_place : (t : Table) (k n : ℕ) → t.taken ≡ t₀.taken → length ws ≤ k → k < length t₀.taken.items → n ≡ get_or t.taken.items k n
      → ((newer back : List Entry) → es ≡ newer ++ back → length back + length ws ≡ k → IsBack geo t₀ t queue q a ws newer back)
      → IsNext geo t₀ t queue q a es ws n
  at_place t k n taken from low number back =
      let many = taken_many in
      let s = split es (k - length ws) (omega (arith, from, low, many)) in
      let at = s.count in
      let count : length s.back + length ws ≡ k = omega (arith, at, from) in
      record {
        newer = s.newer;
        next = s.next;
        back = s.back;
        all = s.all;
        before = back (s.newer ++ s.next ∷ []) s.back (s.all ∙ sym (append_assoc s.newer (s.next ∷ []) s.back)) count;
        number = next_number s.newer s.next s.back s.all t k n count taken number;
      }

  -- those that are back are so with the last one
  pub with_next : (k : ℕ) (t : Table) → length ws ≤ k → ((newer : List Entry) (e : Entry) (back : List Entry) → es ≡ newer ++ e ∷ back → length back + length ws ≡ k → IsBack geo t₀ t queue q a ws newer (e ∷ back))
      → (newer back : List Entry) → es ≡ newer ++ back → length back + length ws ≡ k + 1 → IsBack geo t₀ t queue q a ws newer back
  with_next k t from step newer [] whole count = absurd (omega (arith, count, from))
  with_next k t from step newer (e ∷ back) whole count = step newer e back whole (omega (arith, count))

  -- all are back
  module _ (t : Table) (v : Vec ℕ Global) (left : v.items ≡ ids_of ws) (capacity : vec_capacity v ≡ vec_capacity t.taken) (last : IsBack geo t₀ t queue q a ws [] es) where
    older : WereTaken (home_of geo) queue ws
    older = older_taken (home_of geo) queue es ws takes.each

    taken_now : (i : ℕ) → IsTrue (has_id ws i) → Contains v.items i
    taken_now i h = subst (λ l. Contains l i) (sym left) (reverse_to (ids ws) i (has_to ws i h))

    taken_from : (i : ℕ) → Contains v.items i → IsTrue (has_id ws i)
    taken_from i m = has_from ws i (reverse_from (ids ws) i (subst (λ l. Contains l i) left m))

    -- one that was taken before waits for nothing
    none_due : (b : ℕ) (e : Entry) → Contains (queue.lists b) e → IsTrue (has_id ws e.id) → due_after (home_of geo) queue ws b e ≡ 0
    none_due b e m h =
        let at = home_is (home_of geo) queue q takes.ties.represents b e m in
        let within = at_within (home_of geo) b takes.ties.represents.entries e (subst (λ l. Contains l e) (takes.ties.represents.lists b) m) in
        none_of_may_go queue.pending (has_id (of_block (home_of geo) b ws)) e
        (subst (λ k. IsTrue (may_go queue.pending (has_id (of_block (home_of geo) k ws)) e)) at (taken_may_go (home_of geo) queue q takes.ties.represents ws older e within h))

    -- an entry of this id is the one that went back
    entry_back : (b : ℕ) (e : Entry) → Contains (queue.lists b) e → IsTrue (has_id es e.id) → Contains es e × (b ≡ a)
    entry_back b e m h =
        let g = entry_of_id es e.id h in
        let same = same_entry (home_of geo) queue q takes.ties.represents (home_of geo (cell_of g.0.change)) b g.0 e (listed_in es takes.each g.0 g.1) m g.2 in
        (subst (Contains es) same.0 g.1, sym same.1 ∙ own g.0 g.1)

    -- fewer to wait for
    fewer : (e : Entry) → due_after (home_of geo) queue ws a e ≡ 0 → due_after (home_of geo) queue (es ++ ws) a e ≡ 0
    fewer e z = none_counted (λ i. queue.pending i && not (has_id (of_block (home_of geo) a (es ++ ws)) i)) e.waits
        (λ i m. ap (λ b. queue.pending i && not b) (has_here es own i) ∙ less (queue.pending i) (has_id es i) (has_id mine i) (count_none (λ j. queue.pending j && not (has_id mine j)) e.waits z i m))
      where
        less : (p n w : Bool) → (p && not w) ≡ false → (p && not (n || w)) ≡ false
        less false n w h = refl
        less true true w h = refl
        less true false w h = h

    ready : (b : ℕ) (e : Entry) → Contains (queue.lists b) e → (Contains (stack_at t.ready b) e.id ⊎ Contains v.items e.id) ↔ (due_after (home_of geo) queue ws b e ≡ 0)
    ready b e m = elim (cases_eq b a) [
      | inl d ↦ let here = subst (λ j. Contains (queue.lists j) e) d m in (
        (λ x. elim x [
          | inl stack ↦
              let h = last.here e.id (subst (λ j. Contains (stack_at t.ready j) e.id) d stack) in
              let same = (same_entry (home_of geo) queue q takes.ties.represents (home_of geo (cell_of h.0.change)) a h.0 e (listed_in es takes.each h.0 h.1) here h.2).0 in
              ap (λ k. due_after (home_of geo) queue ws k e) d ∙ subst (λ (y : Entry). due_after (home_of geo) queue ws a y ≡ 0) same h.3
          | inr taken ↦ none_due b e m (taken_from e.id taken)
        ]),
        (λ z.
            let now = ap (λ k. due_after (home_of geo) queue ws k e) (sym d) ∙ z in
            let has = waits_for_none queue a (of_block (home_of geo) a (es ++ ws)) all e here (fewer e now) in
            elim (or_cases (has_id es e.id) (has_id mine e.id) (sym (has_here es own e.id) ∙ has)) [
              | inl back ↦ inl (subst (λ j. Contains (stack_at t.ready j) e.id) (sym d) (last.stands e (entry_back a e here back).0 now))
              | inr written ↦ inr (taken_now e.id (has_of (home_of geo) a ws e.id written))
            ]),
      )
      | inr d ↦
          let r = takes.ties.ready b e m in
          let due = due_there es own b d e in (
            (λ x. elim x [ inl stack ↦ sym due ∙ r.0 (inl (subst (λ l. Contains l e.id) (last.others b d) stack)) | inr taken ↦ none_due b e m (taken_from e.id taken) ]),
            (λ z. elim (r.1 (due ∙ z)) [
              | inl stack ↦ inl (subst (λ l. Contains l e.id) (sym (last.others b d)) stack)
              | inr taken ↦ elim (or_cases (has_id es e.id) (has_id ws e.id) (sym (has_append es ws e.id) ∙ has_from (es ++ ws) e.id (reverse_from (ids (es ++ ws)) e.id (subst (λ l. Contains l e.id) takes.taken taken)))) [
                | inl back ↦ absurd (d (entry_back b e m back).1)
                | inr written ↦ inr (taken_now e.id written)
              ]
            ]),
          )
    ]

    stacked : (b i : ℕ) → Contains (stack_at t.ready b) i → (e : Entry) × Contains (queue.lists b) e × (e.id ≡ i) × (Contains v.items i → ⊥)
    stacked b i m = elim (cases_eq b a) [
      | inl d ↦
          let h = last.here i (subst (λ j. Contains (stack_at t.ready j) i) d m) in (
            h.0,
            subst (λ j. Contains (queue.lists j) h.0) (own h.0 h.1 ∙ sym d) (listed_in es takes.each h.0 h.1),
            h.2,
            λ taken. both_ways (has_id ws i) (apart_append (home_of geo) queue es ws takes.each i (subst (λ j. IsTrue (has_id es j)) h.2 (id_of_entry es h.0 h.1))) (taken_from i taken),
          )
      | inr d ↦ let s = takes.ties.stacked b i (subst (λ l. Contains l i) (last.others b d) m) in (
        s.0,
        s.1,
        s.2,
        λ taken. s.3 (subst (λ l. Contains l i) (sym takes.taken) (reverse_to (ids (es ++ ws)) i (has_to (es ++ ws) i (has_append es ws i ∙ or_right (has_id es i) (has_id ws i) (taken_from i taken))))),
      )
    ]

    back_takes : Takes geo (record t { taken = v }) queue q ws
    back_takes = record {
      ties = record {
        represents = last.shows.represents;
        shown = last.shows.shown;
        cells = last.shows.cells;
        next = last.shows.next;
        node = λ b e m. let n = last.shows.node b e m in record { home = n.home; on_volume = n.on_volume; change = n.change; cell = n.cell; fits = n.fits; waiting = n.waiting; few = n.few; chain = n.chain };
        waiters = last.shows.waiters;
        alive = last.shows.alive;
        ready = ready;
        flags = λ b e m. let f = last.flags b e m in ((λ x. taken_now e.id (sym f ∙ x)), (λ x. f ∙ taken_from e.id x));
        stacked = stacked;
        latest = last.shows.latest;
        places = last.shows.places;
        blocks = last.shows.blocks;
        pending = last.shows.pending;
        room = last.shows.room;
        spare = (let s = last.shows.spare in omega (arith, s, capacity));
      };
      taken = left;
      each = older;
    }

  pub ends : (loose : List Bool) → marks (has_id ws) takes.ties.represents.entries ≡ loose → (t : Table) (v : Vec ℕ Global) → v.items ≡ ids_of ws → vec_capacity v ≡ vec_capacity t.taken
      → ((newer back : List Entry) → es ≡ newer ++ back → length back ≡ length es → IsBack geo t₀ t queue q a ws newer back) → Holds geo (record t { taken = v }) queue q loose
  ends loose cut t v left capacity back =
      let now = back_takes t v left capacity (back [] es refl refl) in
      record { written = ws; takes = now; cut = marks_of (home_of geo) queue (has_id ws) q now.ties.represents takes.ties.represents ∙ cut }

-- the first of what was taken is what was taken before
pub ids_left : (es ws : List Entry) (n : ℕ) → n ≡ length ws → take n (ids_of (es ++ ws)) ≡ ids_of ws
ids_left es ws n count =
    ap (λ k. take k (ids_of (es ++ ws))) (count ∙ sym (length-ids ws)) ∙ ap (take (length (ids_of ws))) (ap reverse (map-append (λ (e : Entry). e.id) es ws) ∙ reverse-append (ids es) (ids ws))
    ∙ take-append_seam (ids_of ws) (ids_of es)
