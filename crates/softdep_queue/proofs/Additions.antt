-- A table to which an update is added.
use Rattle.std.proofs.Common.{◌≡◌, ℕ, suc, ◌+◌, ◌<◌, ◌≤◌, ◌^◌, Bool, true, false, not, eqb, ltb, leb, ◌||◌, ◌&&◌, List, [], ◌∷◌, ◌++◌, ◌⊎◌, inl, inr, ◌↔◌, Some, refl, sym, ap, ap₂, ◌∙◌, subst, IsTrue, Contains, length, arith, slice_set, slice_index_or, filter, length-append, get_or-set_same, get_or-set_other, eqb-true, eq-eqb, ne_eqb, if◌then◌else◌}
use Rattle.std.proofs.lemmas.Bool.{cases_eq, cases_Bool, cond-true, cond-false, or_left, or_right, both_ways, and_from, and_parts, false_from_ne_true}
use Rattle.std.proofs.lemmas.List.{length-set, get_or_append_left}
use Rattle.std.proofs.Math.Seq.{get_or-append_seam}
use Rattle.std.proofs.lemmas.List.Elements.{Contains-append_cases, Contains-append_left, Contains-append_right}
use Rattle.std.specs.List.{All, filter_map, cons_option}
use borrow.Author.Tests.{ltb-true}
use Rattle.std.specs.Vec.{vec_capacity}
use Rattle.model.specs.Layout.{Geometry, block_count, inode_count, is_number, is_data_address, header_blocks, place_in_group, root}
use Rattle.ordering.specs.Cuts.{Cell, Record, NumberBit, BlockBit, Block, Pending, cell_of, same_cell}
use Rattle.ordering.proofs.CutLemmas.{same_cell_eq, same_cell_self}
use Rattle.queue_model.specs.Blocks.{home_of}
use Rattle.queue_model.specs.Entries.{Entry, Queue, Stand, has_id, marks, issued, new_entry}
use Rattle.queue_model.proofs.Lists.{bool_same, contains_head, contains_tail, contains_cases, contains_none, all_at, all_from, unmapped}
use Rattle.queue_model.proofs.Represented.{issued_represents}
use Rattle.queue_model.proofs.Standing.{is_pending, entry_of, id_low, waits_low, last_entry}
use Rattle.updates.specs.Places.{IsCell, AreCells, place_of, place_count}
use Rattle.lists.specs.Chains.{Links as ChainLinks, numbers, IsChain}
use Rattle.lists.specs.Stacks.{Links as StackLinks, stack_at, count_of, room_of}
use Rattle.softdep_queue.specs.declared.table.Node.{Node}
use Rattle.softdep_queue.specs.declared.table.Table.{Table}
use Rattle.softdep_queue.specs.Counts.{occurrences, count_in, code}
use Rattle.softdep_queue.specs.Ties.{Holds, Takes, WereTaken, IsNodeOf, Shows, of_block, due_after, node_at, pending_in, shown_by, waiters_of}
use Rattle.softdep_queue.specs.Rooms.{HasRoom}
use Rattle.softdep_queue.specs.Adding.{lasts, is_own, counted, in_front, IsBehind}
use Rattle.softdep_queue.proofs.Shown.{same_below}
use Rattle.softdep_queue.proofs.Falling.{marks_issued}
use Rattle.softdep_queue.proofs.Blocks.{has_of, taken_entry, own_of, apart_of}
use Rattle.softdep_queue.proofs.Taken.{ids, has_to, has_from, reverse_to, reverse_from}
use Rattle.softdep_queue.proofs.Waits.{occurrences_tail, front_other, front_own, front_member, last_is}

-- ---- counts

pub occurs_not : (j : ℕ) (ns : List ℕ) → ((i : ℕ) → Contains ns i → i ≡ j → ⊥) → occurrences j ns ≡ 0
occurs_not j [] d = refl
occurs_not j (n ∷ ns) d = occurrences_tail j n ns (d n (contains_head n ns)) ∙ occurs_not j ns (λ i m. d i (contains_tail n i ns m))

pub count_all : (set : ℕ → Bool) (ns : List ℕ) → ((i : ℕ) → Contains ns i → IsTrue (set i)) → count_in set ns ≡ length ns
count_all set [] all = refl
count_all set (n ∷ ns) all =
    ap length (cond-true (set n) (n ∷ filter set ns) (filter set ns) (all n (contains_head n ns))) ∙ ap suc (count_all set ns (λ i m. all i (contains_tail n i ns m)))

pub count_same : (set other : ℕ → Bool) (ns : List ℕ) → ((i : ℕ) → Contains ns i → set i ≡ other i) → count_in set ns ≡ count_in other ns
count_same set other [] same = refl
count_same set other (n ∷ ns) same = step (set n) (other n) (same n (contains_head n ns)) (count_same set other ns (λ i m. same i (contains_tail n i ns m)))
  where
    step : (x y : Bool) → x ≡ y → length (filter set ns) ≡ length (filter other ns) → length (if x then n ∷ filter set ns else filter set ns) ≡ length (if y then n ∷ filter other ns else filter other ns)
    step true true e more = ap suc more
    step false false e more = more
    step true false e more = absurd (let bad : true ≡ false = e in cc)
    step false true e more = absurd (let bad : false ≡ true = e in cc)

-- no more are pending than there were numbers
pub few_pending : (n : ℕ) (es : List Entry) (q : List Pending) → Stand n es q → length q ≤ n
few_pending n [] [] s = omega arith
few_pending n [] (u ∷ q) s = absurd s
few_pending n (e ∷ es) [] s = absurd s
few_pending n (e ∷ es) (u ∷ q) s = let low = s.0 in let few = few_pending e.id es q s.1 in omega (arith, low, few)

-- ---- places

number_within : (geo : Geometry) (n : ℕ) → IsTrue (is_number geo n) → n < inode_count geo
number_within geo n is = ltb-true n (inode_count geo) (and_parts (leb root n) (ltb n (inode_count geo)) is).1

address_within : (geo : Geometry) (a : ℕ) → IsTrue (is_data_address geo a) → a < block_count geo
address_within geo a is = ltb-true a (block_count geo) (and_parts (ltb 0 a) (ltb a (block_count geo)) (and_parts (ltb 0 a && ltb a (block_count geo)) (leb (header_blocks geo) (place_in_group geo a)) is).0).1

pub apart : (geo : Geometry) (c d : Cell) → IsCell geo c → IsCell geo d → place_of geo c ≡ place_of geo d → c ≡ d
apart geo (Record m) (Record n) is also same = ap Record (let e : m ≡ n = omega (arith, same) in e)
apart geo (Record m) (NumberBit n) is also same = let low = number_within geo m is in let high = number_within geo n also in absurd (omega (arith, low, high, same))
apart geo (Record m) (BlockBit n) is also same = let low = number_within geo m is in let high = address_within geo n also in absurd (omega (arith, low, high, same))
apart geo (Record m) (Block n) is also same = let low = number_within geo m is in let high = address_within geo n also in absurd (omega (arith, low, high, same))
apart geo (NumberBit m) (Record n) is also same = let low = number_within geo m is in let high = number_within geo n also in absurd (omega (arith, low, high, same))
apart geo (NumberBit m) (NumberBit n) is also same = ap NumberBit (let e : m ≡ n = omega (arith, same) in e)
apart geo (NumberBit m) (BlockBit n) is also same = let low = number_within geo m is in let high = address_within geo n also in absurd (omega (arith, low, high, same))
apart geo (NumberBit m) (Block n) is also same = let low = number_within geo m is in let high = address_within geo n also in absurd (omega (arith, low, high, same))
apart geo (BlockBit m) (Record n) is also same = let low = address_within geo m is in let high = number_within geo n also in absurd (omega (arith, low, high, same))
apart geo (BlockBit m) (NumberBit n) is also same = let low = address_within geo m is in let high = number_within geo n also in absurd (omega (arith, low, high, same))
apart geo (BlockBit m) (BlockBit n) is also same = ap BlockBit (let e : m ≡ n = omega (arith, same) in e)
apart geo (BlockBit m) (Block n) is also same = let low = address_within geo m is in let high = address_within geo n also in absurd (omega (arith, low, high, same))
apart geo (Block m) (Record n) is also same = let low = address_within geo m is in let high = number_within geo n also in absurd (omega (arith, low, high, same))
apart geo (Block m) (NumberBit n) is also same = let low = address_within geo m is in let high = number_within geo n also in absurd (omega (arith, low, high, same))
apart geo (Block m) (BlockBit n) is also same = let low = address_within geo m is in let high = address_within geo n also in absurd (omega (arith, low, high, same))
apart geo (Block m) (Block n) is also same = ap Block (let e : m ≡ n = omega (arith, same) in e)

-- ---- what the code adds

pub record IsAdded (t t' : Table) (place number : ℕ) (node : Node) : Type 0 where
  pub nodes : t'.nodes.items ≡ t.nodes.items ++ node ∷ []
  pub capacity : vec_capacity t'.nodes ≡ vec_capacity t.nodes
  pub chains : t'.chains ≡ t.chains
  pub taken : t'.taken ≡ t.taken
  pub latest : t'.latest.items ≡ slice_set t.latest.items place (number + 1)
  pub pending : t'.pending ≡ t.pending + 1
  pub count : count_of t'.ready ≡ count_of t.ready
  pub room : room_of t'.ready ≡ room_of t.ready
  pub more : (b i : ℕ) → Contains (stack_at t'.ready b) i → Contains (stack_at t.ready b) i ⊎ ((node.waiting ≡ 0) × (b ≡ node.home) × (i ≡ number))
  pub still : (b i : ℕ) → Contains (stack_at t.ready b) i → Contains (stack_at t'.ready b) i
  pub pushed : node.waiting ≡ 0 → Contains (stack_at t'.ready node.home) number

-- the last of the cell is written, and the number is pushed if it waits for nothing
pub record IsReadied (t t' : Table) (place number home waiting : ℕ) : Type 0 where
  pub nodes : t'.nodes ≡ t.nodes
  pub chains : t'.chains ≡ t.chains
  pub taken : t'.taken ≡ t.taken
  pub latest : t'.latest.items ≡ slice_set t.latest.items place (number + 1)
  pub pending : t'.pending ≡ t.pending
  pub count : count_of t'.ready ≡ count_of t.ready
  pub room : room_of t'.ready ≡ room_of t.ready
  pub more : (b i : ℕ) → Contains (stack_at t'.ready b) i → Contains (stack_at t.ready b) i ⊎ ((waiting ≡ 0) × (b ≡ home) × (i ≡ number))
  pub still : (b i : ℕ) → Contains (stack_at t.ready b) i → Contains (stack_at t'.ready b) i
  pub pushed : waiting ≡ 0 → Contains (stack_at t'.ready home) number

pub readied_at : (t t' : Table) (place place' number number' home waiting : ℕ) → place ≡ place' → number ≡ number' → IsReadied t t' place number home waiting → IsReadied t t' place' number' home waiting
readied_at t t' place place' number number' home waiting p n readied = subst (λ k. IsReadied t t' k number' home waiting) p (subst (λ k. IsReadied t t' place k home waiting) n readied)

pub stacks_more : (ready ready' : StackLinks) (home number waiting : ℕ) → waiting ≡ 0 → stack_at ready' home ≡ number ∷ stack_at ready home → ((b : ℕ) → (b ≡ home → ⊥) → stack_at ready' b ≡ stack_at ready b)
    → (b i : ℕ) → Contains (stack_at ready' b) i → Contains (stack_at ready b) i ⊎ ((waiting ≡ 0) × (b ≡ home) × (i ≡ number))
stacks_more ready ready' home number waiting none pushed others b i m = elim (cases_eq b home) [
  | inl e ↦ elim (contains_cases number i (stack_at ready home) (subst (λ l. Contains l i) (ap (stack_at ready') e ∙ pushed) m)) [
    | inl is ↦ inr (none, e, sym is)
    | inr old ↦ inl (subst (λ k. Contains (stack_at ready k) i) (sym e) old)
  ]
  | inr d ↦ inl (subst (λ l. Contains l i) (others b d) m)
]

pub stacks_still : (ready ready' : StackLinks) (home number : ℕ) → stack_at ready' home ≡ number ∷ stack_at ready home → ((b : ℕ) → (b ≡ home → ⊥) → stack_at ready' b ≡ stack_at ready b)
    → (b i : ℕ) → Contains (stack_at ready b) i → Contains (stack_at ready' b) i
stacks_still ready ready' home number pushed others b i m = elim (cases_eq b home) [
  | inl e ↦ subst (λ l. Contains l i) (sym (ap (stack_at ready') e ∙ pushed)) (contains_tail number i (stack_at ready home) (subst (λ k. Contains (stack_at ready k) i) e m))
  | inr d ↦ subst (λ l. Contains l i) (sym (others b d)) m
]

-- the node of a new update
pub record IsNodeFor (geo : Geometry) (t : Table) (u : Pending) (node : Node) : Type 0 where
  pub home : node.home ≡ home_of geo (cell_of u.change)
  pub on_volume : node.home < block_count geo
  pub update : pending_in node.update ≡ Some u
  pub change : Shows node.update u.change
  pub waiting : node.waiting ≡ counted t (home_of geo (cell_of u.change)) (lasts geo t (cell_of u.change ∷ u.after))
  pub flag : node.taken ≡ false
  pub few : node.waiting < 2 ^ 64
  pub waiters : node.waiters ≡ 0

-- ---- room

pub room_left : (t t' t'' : Table) (number place many updates cells : ℕ) (ids : List ℕ) (node : Node) → IsBehind t t' number ids → IsAdded t' t'' place number node → length ids ≤ many → HasRoom t (updates + 1) (cells + many) → HasRoom t'' updates cells
room_left t t' t'' number place many updates cells ids node behind added few has =
    let nodes = ap length added.nodes in
    let one = length-append t'.nodes.items (node ∷ []) in
    let same = behind.count in
    let n = has.nodes in let cn = added.capacity in let bn = behind.capacity in
    let k = has.taken in let ck = ap vec_capacity added.taken in let bk = ap vec_capacity behind.taken in
    let r = has.ready in let cr = added.room in let br = ap room_of behind.ready in
    let f = has.few in
    let l = has.links in let cl = ap (λ (v : ChainLinks). v.room) added.chains in let bl = behind.room in
    record {
      nodes = omega (arith, nodes, one, same, n, cn, bn);
      taken = omega (arith, nodes, one, same, k, ck, bk);
      ready = omega (arith, nodes, one, same, r, cr, br);
      few = omega (arith, f, cr, br);
      links = omega (arith, l, cl, bl, few);
    }

module _ (geo : Geometry) (t : Table) (queue : Queue) (q : List Pending) (ws : List Entry) (holds : Takes geo t queue q ws) where
  -- what was taken has an id below the next one
  pub taken_low : (i : ℕ) → IsTrue (has_id ws i) → i < queue.next
  taken_low i h =
      let e = taken_entry (home_of geo) queue ws holds.each i h in
      subst (λ j. j < queue.next) e.3 (id_low (home_of geo) queue q holds.ties.represents (home_of geo (cell_of e.0.change)) e.0 e.2)

  pub next_not_taken : Contains t.taken.items (length t.nodes.items) → ⊥
  next_not_taken m =
      let low = taken_low (length t.nodes.items) (has_from ws (length t.nodes.items) (reverse_from (ids ws) (length t.nodes.items) (subst (λ l. Contains l (length t.nodes.items)) holds.taken m))) in
      let next = holds.ties.next in
      omega (arith, low, next)

  pub next_not_written : has_id ws queue.next ≡ false
  next_not_written = false_from_ne_true (has_id ws queue.next) (λ h. let low = taken_low queue.next h in omega (arith, low))

  -- the node of a pending update tells whether it was taken of a block
  own_is : (b i : ℕ) → IsTrue (queue.pending i) → has_id (of_block (home_of geo) b ws) i ≡ is_own t b i
  own_is b i p =
      let x = entry_of (home_of geo) queue q holds.ties.represents i p in
      let e = x.0 in
      let k = home_of geo (cell_of e.change) in
      let flag = holds.ties.flags k e x.1 in
      let at = (holds.ties.node k e x.1).home in
      subst (λ j. has_id (of_block (home_of geo) b ws) j ≡ is_own t b j) x.2
      (bool_same (has_id (of_block (home_of geo) b ws) e.id) (is_own t b e.id)
      (λ h. and_from (node_at t.nodes.items e.id).taken (eqb (node_at t.nodes.items e.id).home b)
      (flag.1 (subst (λ l. Contains l e.id) (sym holds.taken) (reverse_to (ids ws) e.id (has_to ws e.id (has_of (home_of geo) b ws e.id h)))))
      (eq-eqb (node_at t.nodes.items e.id).home b (at ∙ elim (cases_eq b k) [
        | inl d ↦ sym d
        | inr d ↦ absurd (both_ways (has_id (of_block (home_of geo) b ws) e.id) (apart_of (home_of geo) queue q holds.ties.represents ws holds.each k b e x.1 d) h)
      ])))
      (λ o.
      let both = and_parts (node_at t.nodes.items e.id).taken (eqb (node_at t.nodes.items e.id).home b) o in
      let same = sym at ∙ eqb-true (node_at t.nodes.items e.id).home b both.1 in
      own_of (home_of geo) queue q holds.ties.represents ws holds.each b e (subst (λ j. Contains (queue.lists j) e) same x.1)
      (has_from ws e.id (reverse_from (ids ws) e.id (subst (λ l. Contains l e.id) holds.taken (flag.0 both.0))))))

  -- the next number stands in no stack
  pub next_not_stacked : (b : ℕ) → Contains (stack_at t.ready b) (length t.nodes.items) → ⊥
  next_not_stacked b m =
      let s = holds.ties.stacked b (length t.nodes.items) m in
      let low = id_low (home_of geo) queue q holds.ties.represents b s.0 s.1 in
      let next = holds.ties.next in
      let same = s.2 in
      omega (arith, low, next, same)

  pub lasts_are : (cells : List Cell) → All (IsCell geo) cells → lasts geo t cells ≡ filter_map queue.last cells
  lasts_are [] all = refl
  lasts_are (c ∷ cells) all = ap₂ (λ o l. cons_option o l) (last_is geo t queue q ws holds c (all 0 c (omega arith))) (lasts_are cells (λ k d l. all (suc k) d (omega (arith, l))))

  module _ (u : Pending) (cells : AreCells geo u) where
    abbrev home : ℕ
    home = home_of geo (cell_of u.change)

    abbrev after_it : Queue
    after_it = issued (home_of geo) u queue

    abbrev entry : Entry
    entry = new_entry queue u

    pub waits_are : lasts geo t (cell_of u.change ∷ u.after) ≡ entry.waits
    waits_are = ap₂ (λ o l. cons_option o l) (last_is geo t queue q ws holds (cell_of u.change) cells.changed) (lasts_are u.after cells.after)

    waits_pending : (i : ℕ) → Contains entry.waits i → IsTrue (queue.pending i)
    waits_pending i m =
        let o = unmapped queue.last (cell_of u.change ∷ u.after) i m in
        let e = last_entry (home_of geo) queue q holds.ties.represents o.0 i o.2 in
        subst (λ j. IsTrue (queue.pending j)) e.2 (is_pending (home_of geo) queue q holds.ties.represents (home_of geo o.0) e.0 e.1)

    pending_low : (i : ℕ) → IsTrue (queue.pending i) → i < queue.next
    pending_low i p =
        let e = entry_of (home_of geo) queue q holds.ties.represents i p in
        let low = id_low (home_of geo) queue q holds.ties.represents (home_of geo (cell_of e.0.change)) e.0 e.1 in
        let same = e.2 in
        omega (arith, low, same)

    still_pending : (i : ℕ) → IsTrue (queue.pending i) → IsTrue (after_it.pending i)
    still_pending i p = or_right (eqb i queue.next) (queue.pending i) p

    same_pending : (b : ℕ) (e : Entry) → Contains (queue.lists b) e → (i : ℕ) → Contains e.waits i → after_it.pending i ≡ queue.pending i
    same_pending b e m i w =
        let low = id_low (home_of geo) queue q holds.ties.represents b e m in
        let before = waits_low (home_of geo) queue q holds.ties.represents b e i m w in
        ap (λ x. x || queue.pending i) (ne_eqb i queue.next (λ d. omega (arith, low, before, d)))

    -- what older updates wait for
    same_due : (b : ℕ) (e : Entry) → Contains (queue.lists b) e → due_after (home_of geo) after_it ws b e ≡ due_after (home_of geo) queue ws b e
    same_due b e m = count_same (λ i. after_it.pending i && not (has_id (of_block (home_of geo) b ws) i)) (λ i. queue.pending i && not (has_id (of_block (home_of geo) b ws) i)) e.waits
        (λ i w. ap (λ x. x && not (has_id (of_block (home_of geo) b ws) i)) (same_pending b e m i w))

    new_due : due_after (home_of geo) after_it ws home entry ≡ counted t home entry.waits
    new_due = count_same (λ i. after_it.pending i && not (has_id (of_block (home_of geo) home ws) i)) (λ i. not (is_own t home i)) entry.waits
        (λ i m. ap₂ (λ x y. x && not y) (still_pending i (waits_pending i m)) (own_is home i (waits_pending i m)))

    -- the entries of a block
    listed_cases : (b : ℕ) (e : Entry) → Contains (after_it.lists b) e → Contains (queue.lists b) e ⊎ ((entry ≡ e) × (home ≡ b))
    listed_cases b e m = elim (cases_Bool (eqb home b)) [
      | inr f ↦ inl (subst (λ l. Contains l e) (cond-false (eqb home b) (queue.lists b ++ entry ∷ []) (queue.lists b) f) m)
      | inl y ↦ elim (Contains-append_cases (queue.lists b) (entry ∷ []) e (subst (λ l. Contains l e) (cond-true (eqb home b) (queue.lists b ++ entry ∷ []) (queue.lists b) y) m)) [
        | inl old ↦ inl old
        | inr new ↦ elim (contains_cases entry e [] new) [ inl d ↦ inr (d, eqb-true home b y) | inr bad ↦ absurd (contains_none e bad) ]
      ]
    ]

    listed_still : (b : ℕ) (e : Entry) → Contains (queue.lists b) e → Contains (after_it.lists b) e
    listed_still b e m = elim (cases_Bool (eqb home b)) [
      | inr f ↦ subst (λ l. Contains l e) (sym (cond-false (eqb home b) (queue.lists b ++ entry ∷ []) (queue.lists b) f)) m
      | inl y ↦ subst (λ l. Contains l e) (sym (cond-true (eqb home b) (queue.lists b ++ entry ∷ []) (queue.lists b) y)) (Contains-append_left (queue.lists b) (entry ∷ []) e m)
    ]

    listed_new : Contains (after_it.lists home) entry
    listed_new = subst (λ l. Contains l entry) (sym (cond-true (eqb home home) (queue.lists home ++ entry ∷ []) (queue.lists home) (eq-eqb home home refl)))
        (Contains-append_right (queue.lists home) (entry ∷ []) entry (contains_head entry []))

    -- what was taken was so from the queue with the update, too
    still_taken : (es : List Entry) → WereTaken (home_of geo) queue es → WereTaken (home_of geo) (issued (home_of geo) u queue) es
    still_taken [] each = tt
    still_taken (e ∷ es) each = (
      listed_still (home_of geo (cell_of e.change)) e each.0,
      each.1,
      all_from (λ i. not (after_it.pending i) || has_id (of_block (home_of geo) (home_of geo (cell_of e.change)) es) i) e.waits (λ i w.
          subst (λ x. IsTrue (not x || has_id (of_block (home_of geo) (home_of geo (cell_of e.change)) es) i)) (sym (same_pending (home_of geo (cell_of e.change)) e each.0 i w))
          (all_at (λ j. not (queue.pending j) || has_id (of_block (home_of geo) (home_of geo (cell_of e.change)) es) j) e.waits i each.2 w)),
      still_taken es each.3,
    )

    module _ (t' t'' : Table) (node : Node) (behind : IsBehind t t' (length t.nodes.items) (lasts geo t (cell_of u.change ∷ u.after))) (is_node : IsNodeFor geo t u node)
        (added : IsAdded t' t'' (place_of geo (cell_of u.change)) (length t.nodes.items) node) (own_place : place_of geo (cell_of u.change) < place_count geo) (few_waits : length entry.waits < 2 ^ 64) (many : ℕ) (has : HasRoom t 1 many) where
      -- the nodes
      node_old : (i : ℕ) → i < length t.nodes.items → node_at t''.nodes.items i ≡ node_at t'.nodes.items i
      node_old i low = let same = behind.count in ap (λ l. node_at l i) added.nodes ∙ get_or_append_left t'.nodes.items (node ∷ []) (node_at [] 0) i (omega (arith, low, same))

      node_new : node_at t''.nodes.items (length t.nodes.items) ≡ node
      node_new = ap (λ l. node_at l (length t.nodes.items)) added.nodes ∙ ap (node_at (t'.nodes.items ++ node ∷ [])) (sym behind.count) ∙ get_or-append_seam t'.nodes.items node [] (node_at [] 0)

      low_id : (b : ℕ) (e : Entry) → Contains (queue.lists b) e → e.id < length t.nodes.items
      low_id b e m = let low = id_low (home_of geo) queue q holds.ties.represents b e m in let next = holds.ties.next in omega (arith, low, next)

      chain_of : (b : ℕ) (e : Entry) → Contains (queue.lists b) e → IsChain t.chains (node_at t.nodes.items e.id).waiters
      chain_of b e m = (holds.ties.node b e m).chain

      waiters_old : (b : ℕ) (e : Entry) → Contains (queue.lists b) e → waiters_of t'' e.id ≡ in_front (occurrences e.id (lasts geo t (cell_of u.change ∷ u.after))) (length t.nodes.items) (waiters_of t e.id)
      waiters_old b e m = ap₂ (λ (v : ChainLinks) (n : Node). numbers v n.waiters) added.chains (node_old e.id (low_id b e m)) ∙ behind.waiters e.id (chain_of b e m)

      waiters_new : waiters_of t'' queue.next ≡ []
      waiters_new = ap (waiters_of t'') holds.ties.next ∙ ap (λ (n : Node). numbers t''.chains n.waiters) node_new ∙ ap (numbers t''.chains) is_node.waiters

      old_node : (b : ℕ) (e : Entry) → Contains (queue.lists b) e → IsNodeOf geo t'' b e (due_after (home_of geo) after_it ws b e)
      old_node b e m =
          let n = holds.ties.node b e m in
          let now = node_old e.id (low_id b e m) in
          record {
            home = ap (λ (x : Node). x.home) now ∙ behind.home e.id ∙ n.home;
            on_volume = n.on_volume;
            change = subst (λ x. Shows x e.change) (sym (ap (λ (x : Node). x.update) now ∙ behind.change e.id)) n.change;
            cell = n.cell;
            fits = n.fits;
            waiting = ap (λ (x : Node). x.waiting) now ∙ behind.waiting e.id ∙ n.waiting ∙ sym (same_due b e m);
            few = n.few;
            chain = subst (λ (v : ChainLinks). IsChain v (node_at t''.nodes.items e.id).waiters) (sym added.chains) (subst (λ (x : Node). IsChain t'.chains x.waiters) (sym now) (behind.chain e.id n.chain));
          }

      new_node : IsNodeOf geo t'' home entry (due_after (home_of geo) after_it ws home entry)
      new_node =
          let now : node_at t''.nodes.items queue.next ≡ node = ap (node_at t''.nodes.items) holds.ties.next ∙ node_new in
          let low = is_node.on_volume in
          let at = is_node.home in
          let few = few_waits in
          record {
            home = ap (λ (x : Node). x.home) now ∙ is_node.home;
            on_volume = omega (arith, low, at);
            change = subst (λ (x : Node). Shows x.update u.change) (sym now) is_node.change;
            cell = cells.changed;
            fits = cells.fits;
            waiting = ap (λ (x : Node). x.waiting) now ∙ is_node.waiting ∙ ap (counted t home) waits_are ∙ sym new_due;
            few = few;
            chain = let none = ap (λ (x : Node). x.waiters) now ∙ is_node.waiters in omega (arith, none);
          }

      node_of : (b : ℕ) (e : Entry) → Contains (after_it.lists b) e → IsNodeOf geo t'' b e (due_after (home_of geo) after_it ws b e)
      node_of b e m = elim (listed_cases b e m) [
        | inl old ↦ old_node b e old
        | inr (d, h) ↦ subst (λ k. IsNodeOf geo t'' k e (due_after (home_of geo) after_it ws k e)) h (subst (λ (x : Entry). IsNodeOf geo t'' home x (due_after (home_of geo) after_it ws home x)) d new_node)
      ]

      -- those that wait
      old_waiters : (b c : ℕ) (e f : Entry) → Contains (queue.lists b) e → Contains (queue.lists c) f → occurrences f.id (waiters_of t'' e.id) ≡ occurrences e.id f.waits
      old_waiters b c e f m n =
          let low = low_id c f n in
          ap (occurrences f.id) (waiters_old b e m) ∙ front_other (occurrences e.id (lasts geo t (cell_of u.change ∷ u.after))) (length t.nodes.items) (waiters_of t e.id) f.id (λ d. omega (arith, low, d))
          ∙ holds.ties.waiters b c e f m n

      next_in_old : (b : ℕ) (e : Entry) → Contains (queue.lists b) e → occurrences (length t.nodes.items) (waiters_of t e.id) ≡ 0
      next_in_old b e m = occurs_not (length t.nodes.items) (waiters_of t e.id) (λ i o d.
          let low = pending_low i (holds.ties.alive b e i m o) in
          let next = holds.ties.next in
          omega (arith, low, next, d))

      new_waiter : (b : ℕ) (e : Entry) → Contains (queue.lists b) e → occurrences queue.next (waiters_of t'' e.id) ≡ occurrences e.id entry.waits
      new_waiter b e m =
          let none = next_in_old b e m in
          let own = front_own (occurrences e.id (lasts geo t (cell_of u.change ∷ u.after))) (length t.nodes.items) (waiters_of t e.id) in
          let waits = ap (occurrences e.id) waits_are in
          ap (λ k. occurrences k (waiters_of t'' e.id)) holds.ties.next ∙ ap (occurrences (length t.nodes.items)) (waiters_old b e m) ∙ omega (arith, none, own, waits)

      next_waited : (f : Entry) (c : ℕ) → Contains (after_it.lists c) f → occurrences queue.next f.waits ≡ 0
      next_waited f c m = elim (listed_cases c f m) [
        | inl old ↦ occurs_not queue.next f.waits (λ i o d.
            let low = id_low (home_of geo) queue q holds.ties.represents c f old in
            let before = waits_low (home_of geo) queue q holds.ties.represents c f i old o in
            omega (arith, low, before, d))
        | inr (d, h) ↦ ap (λ (x : Entry). occurrences queue.next x.waits) (sym d) ∙ occurs_not queue.next entry.waits (λ i o e. let low = pending_low i (waits_pending i o) in omega (arith, low, e))
      ]

      waiters : (b c : ℕ) (e f : Entry) → Contains (after_it.lists b) e → Contains (after_it.lists c) f → occurrences f.id (waiters_of t'' e.id) ≡ occurrences e.id f.waits
      waiters b c e f m n = elim (listed_cases b e m) [
        | inr (d, h) ↦ ap (λ (x : Entry). occurrences f.id (waiters_of t'' x.id)) (sym d) ∙ ap (occurrences f.id) waiters_new ∙ sym (next_waited f c n) ∙ ap (λ (x : Entry). occurrences x.id f.waits) d
        | inl old ↦ elim (listed_cases c f n) [
          | inl also ↦ old_waiters b c e f old also
          | inr (d, h) ↦ ap (λ (x : Entry). occurrences x.id (waiters_of t'' e.id)) (sym d) ∙ new_waiter b e old ∙ ap (λ (x : Entry). occurrences e.id x.waits) d
        ]
      ]

      alive : (b : ℕ) (e : Entry) (i : ℕ) → Contains (after_it.lists b) e → Contains (waiters_of t'' e.id) i → IsTrue (after_it.pending i)
      alive b e i m o = elim (listed_cases b e m) [
        | inl old ↦ elim (front_member (occurrences e.id (lasts geo t (cell_of u.change ∷ u.after))) (length t.nodes.items) (waiters_of t e.id) i (subst (λ l. Contains l i) (waiters_old b e old) o)) [
          | inl before ↦ still_pending i (holds.ties.alive b e i old before)
          | inr is ↦ or_left (eqb i queue.next) (queue.pending i) (eq-eqb i queue.next (is ∙ sym holds.ties.next))
        ]
        | inr (d, h) ↦ absurd (contains_none i (subst (λ l. Contains l i) (ap (λ (x : Entry). waiters_of t'' x.id) (sym d) ∙ waiters_new) o))
      ]

      -- those that are ready
      stack_before : (b i : ℕ) → Contains (stack_at t'.ready b) i → Contains (stack_at t.ready b) i
      stack_before b i m = subst (λ v. Contains (stack_at v b) i) behind.ready m

      stack_now : (b i : ℕ) → Contains (stack_at t.ready b) i → Contains (stack_at t''.ready b) i
      stack_now b i m = added.still b i (subst (λ v. Contains (stack_at v b) i) (sym behind.ready) m)

      taken_same : t''.taken ≡ t.taken
      taken_same = added.taken ∙ behind.taken

      taken_before : (i : ℕ) → Contains t''.taken.items i → Contains t.taken.items i
      taken_before i m = subst (λ v. Contains v.items i) taken_same m

      taken_now : (i : ℕ) → Contains t.taken.items i → Contains t''.taken.items i
      taken_now i m = subst (λ v. Contains v.items i) (sym taken_same) m

      not_taken : Contains t''.taken.items queue.next → ⊥
      not_taken m = next_not_taken (subst (Contains t.taken.items) holds.ties.next (taken_before queue.next m))

      new_ready : (Contains (stack_at t''.ready home) queue.next ⊎ Contains t''.taken.items queue.next) ↔ (due_after (home_of geo) after_it ws home entry ≡ 0)
      new_ready =
          let due : node.waiting ≡ due_after (home_of geo) after_it ws home entry = is_node.waiting ∙ ap (counted t home) waits_are ∙ sym new_due in (
            (λ x. elim x [
              | inl stack ↦ elim (added.more home queue.next stack) [
                | inl old ↦ absurd (next_not_stacked home (subst (λ i. Contains (stack_at t.ready home) i) holds.ties.next (stack_before home queue.next old)))
                | inr (z, at, is) ↦ sym due ∙ z
              ]
              | inr taken ↦ absurd (not_taken taken)
            ]),
            (λ z. inl (subst (λ b. Contains (stack_at t''.ready b) queue.next) is_node.home (subst (λ i. Contains (stack_at t''.ready node.home) i) (sym holds.ties.next) (added.pushed (due ∙ z))))),
          )

      old_ready : (b : ℕ) (e : Entry) → Contains (queue.lists b) e → (Contains (stack_at t''.ready b) e.id ⊎ Contains t''.taken.items e.id) ↔ (due_after (home_of geo) after_it ws b e ≡ 0)
      old_ready b e m =
          let r = holds.ties.ready b e m in
          let due = same_due b e m in
          let low = low_id b e m in (
            (λ x. due ∙ r.0 (elim x [
              | inl stack ↦ elim (added.more b e.id stack) [ inl old ↦ inl (stack_before b e.id old) | inr (z, at, is) ↦ absurd (omega (arith, low, is)) ]
              | inr taken ↦ inr (taken_before e.id taken)
            ])),
            (λ z. elim (r.1 (sym due ∙ z)) [ inl stack ↦ inl (stack_now b e.id stack) | inr taken ↦ inr (taken_now e.id taken) ]),
          )

      ready : (b : ℕ) (e : Entry) → Contains (after_it.lists b) e → (Contains (stack_at t''.ready b) e.id ⊎ Contains t''.taken.items e.id) ↔ (due_after (home_of geo) after_it ws b e ≡ 0)
      ready b e m = elim (listed_cases b e m) [
        | inl old ↦ old_ready b e old
        | inr (d, h) ↦ subst (λ k. (Contains (stack_at t''.ready k) e.id ⊎ Contains t''.taken.items e.id) ↔ (due_after (home_of geo) after_it ws k e ≡ 0)) h
            (subst (λ (x : Entry). (Contains (stack_at t''.ready home) x.id ⊎ Contains t''.taken.items x.id) ↔ (due_after (home_of geo) after_it ws home x ≡ 0)) d new_ready)
      ]

      flags : (b : ℕ) (e : Entry) → Contains (after_it.lists b) e → IsTrue (node_at t''.nodes.items e.id).taken ↔ Contains t''.taken.items e.id
      flags b e m = elim (listed_cases b e m) [
        | inl old ↦
            let f = holds.ties.flags b e old in
            let same = ap (λ (x : Node). x.taken) (node_old e.id (low_id b e old)) ∙ behind.flag e.id in
            ((λ x. taken_now e.id (f.0 (sym same ∙ x))), (λ x. same ∙ f.1 (taken_before e.id x)))
        | inr (d, h) ↦
            let id = ap (λ (x : Entry). x.id) (sym d) in
            let now = ap (λ i. (node_at t''.nodes.items i).taken) (id ∙ holds.ties.next) ∙ ap (λ (x : Node). x.taken) node_new ∙ is_node.flag in (
              (λ x. absurd (both_ways (node_at t''.nodes.items e.id).taken now x)),
              (λ x. absurd (not_taken (subst (Contains t''.taken.items) id x))),
            )
      ]

      stacked : (b i : ℕ) → Contains (stack_at t''.ready b) i → (e : Entry) × Contains (after_it.lists b) e × (e.id ≡ i) × (Contains t''.taken.items i → ⊥)
      stacked b i m = elim (added.more b i m) [
        | inl old ↦ let s = holds.ties.stacked b i (stack_before b i old) in (s.0, listed_still b s.0 s.1, s.2, λ x. s.3 (taken_before i x))
        | inr (z, at, is) ↦ (
          entry,
          subst (λ k. Contains (after_it.lists k) entry) (sym (at ∙ is_node.home)) listed_new,
          holds.ties.next ∙ sym is,
          λ x. not_taken (subst (Contains t''.taken.items) (is ∙ sym holds.ties.next) x),
        )
      ]

      -- the last of each cell
      latest : (c : Cell) → IsCell geo c → slice_index_or t''.latest.items (place_of geo c) 0 ≡ code (after_it.last c)
      latest c is = ap (λ l. slice_index_or l (place_of geo c) 0) (added.latest ∙ ap (λ v. slice_set v.items (place_of geo (cell_of u.change)) (length t.nodes.items + 1)) behind.latest) ∙ elim (cases_Bool (same_cell (cell_of u.change) c)) [
        | inl y ↦
            ap (λ d. slice_index_or (slice_set t.latest.items (place_of geo (cell_of u.change)) (length t.nodes.items + 1)) (place_of geo d) 0) (sym (same_cell_eq (cell_of u.change) c y))
            ∙ get_or-set_same t.latest.items (place_of geo (cell_of u.change)) (length t.nodes.items + 1) 0 (let low = own_place in let places = holds.ties.places in omega (arith, low, places))
            ∙ (let next = holds.ties.next in let e : length t.nodes.items + 1 ≡ suc queue.next = omega (arith, next) in e)
            ∙ ap code (sym (cond-true (same_cell (cell_of u.change) c) (Some queue.next) (queue.last c) y))
        | inr f ↦
            get_or-set_other t.latest.items (place_of geo (cell_of u.change)) (place_of geo c) (length t.nodes.items + 1) 0 (λ d. both_ways (same_cell (cell_of u.change) c) f (subst (λ x. IsTrue (same_cell (cell_of u.change) x)) (sym (apart geo c (cell_of u.change) is cells.changed d)) (same_cell_self (cell_of u.change))))
            ∙ holds.ties.latest c is ∙ ap code (sym (cond-false (same_cell (cell_of u.change) c) (Some queue.next) (queue.last c) f))
      ]

      shown : shown_by t''.nodes.items (length t''.nodes.items) ≡ u ∷ q
      shown =
          let nodes = ap length added.nodes in
          let one = length-append t'.nodes.items (node ∷ []) in
          let same = behind.count in
          ap (shown_by t''.nodes.items) (let long : length t''.nodes.items ≡ suc (length t.nodes.items) = omega (arith, nodes, one, same) in long)
          ∙ ap₂ (λ o l. cons_option o l) (ap (λ (x : Node). pending_in x.update) node_new ∙ is_node.update)
          (same_below t''.nodes.items t.nodes.items (length t.nodes.items) (λ i low. ap (λ (x : Node). x.update) (node_old i low) ∙ behind.change i) ∙ holds.ties.shown)

      pub added_takes : Takes geo t'' after_it (u ∷ q) ws
      added_takes =
          let nodes = ap length added.nodes in
          let one = length-append t'.nodes.items (node ∷ []) in
          let same = behind.count in
          let next = holds.ties.next in
          let r = has.ready in let cr = added.room in let br = ap room_of behind.ready in
          let k = has.taken in let ck = ap vec_capacity (added.taken ∙ behind.taken) in
          let p = holds.ties.pending in let bp = behind.pending in let cp = added.pending in
          record {
            ties = record {
              represents = issued_represents (home_of geo) u queue q holds.ties.represents;
              shown = shown;
              cells = λ v m. elim (contains_cases u v q m) [ inl d ↦ subst (AreCells geo) d cells | inr old ↦ holds.ties.cells v old ];
              next = omega (arith, nodes, one, same, next);
              node = node_of;
              waiters = waiters;
              alive = alive;
              ready = ready;
              flags = flags;
              stacked = stacked;
              latest = latest;
              places = ap length added.latest ∙ length-set t'.latest.items (place_of geo (cell_of u.change)) (length t.nodes.items + 1) ∙ ap (λ v. length v.items) behind.latest ∙ holds.ties.places;
              blocks = added.count ∙ ap count_of behind.ready ∙ holds.ties.blocks;
              pending = omega (arith, p, bp, cp);
              room = omega (arith, nodes, one, same, r, cr, br);
              spare = omega (arith, nodes, one, same, k, ck);
            };
            taken = ap (λ v. v.items) taken_same ∙ holds.taken;
            each = still_taken ws holds.each;
          }

      pub added_holds : (loose : List Bool) → marks (has_id ws) holds.ties.represents.entries ≡ loose → Holds geo t'' after_it (u ∷ q) (false ∷ loose)
      added_holds loose cut = record {
        written = ws;
        takes = added_takes;
        cut = marks_issued (home_of geo) queue (has_id ws) u q holds.ties.represents added_takes.ties.represents ∙ ap₂ (λ b l. b ∷ l) next_not_written cut;
      }
