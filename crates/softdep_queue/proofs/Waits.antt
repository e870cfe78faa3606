-- A number among the waiters of others.
use Rattle.std.proofs.Common.{◌≡◌, ℕ, zero, suc, ◌+◌, ◌-◌, ◌<◌, ◌≤◌, Bool, true, false, not, ◌&&◌, eqb, if◌then◌else◌, List, [], ◌∷◌, ◌++◌, ◌⊎◌, inl, inr, Option, Some, None, refl, sym, ap, ap₂, ◌∙◌, subst, Contains, length, arith, slice_index_or, filter, length-append, eq-eqb, ne_eqb, map, take, add-one}
use Rattle.std.proofs.lemmas.Bool.{cond-true, cond-false}
use Rattle.std.proofs.lemmas.List.{map-append, length-map, length-take, take_all, get_or-map}
use Rattle.std.proofs.Math.Seq.{take-suc}
use Rattle.std.proofs.lemmas.List.Elements.{filter-append, filter_map-append}
use Rattle.std.specs.List.{All, cons_option}
use Rattle.model.specs.Layout.{Geometry}
use Rattle.ordering.specs.Cuts.{Cell, Pending}
use Rattle.queue_model.specs.Blocks.{home_of}
use Rattle.queue_model.specs.Entries.{Entry, Queue}
use Rattle.queue_model.proofs.Lists.{contains_cases}
use Rattle.queue_model.proofs.Standing.{last_entry}
use Rattle.updates.specs.declared.cell.Cell.{Cell as OwnCell}
use Rattle.updates.specs.Values.{cell}
use Rattle.updates.specs.Places.{IsCell, place_of}
use Rattle.lists.specs.Chains.{IsChain}
use Rattle.softdep_queue.specs.declared.table.Table.{Table}
use Rattle.softdep_queue.specs.Counts.{occurrences, code}
use Rattle.softdep_queue.specs.Ties.{Takes, due_after, node_at, waiters_of}
use Rattle.softdep_queue.specs.Adding.{decode, last_in, lasts, is_own, counted, in_front, MayWait, IsBehind}
use Rattle.softdep_queue.proofs.Steps.{number_low}
use Rattle.softdep_queue.proofs.Counting.{count_same}

-- ---- a number in front of a list

pub occurrences_head : (i j : ℕ) (ns : List ℕ) → j ≡ i → occurrences i (j ∷ ns) ≡ suc (occurrences i ns)
occurrences_head i j ns d = ap length (cond-true (eqb j i) (j ∷ filter (λ k. eqb k i) ns) (filter (λ k. eqb k i) ns) (eq-eqb j i d))

pub occurrences_tail : (i j : ℕ) (ns : List ℕ) → (j ≡ i → ⊥) → occurrences i (j ∷ ns) ≡ occurrences i ns
occurrences_tail i j ns d = ap length (cond-false (eqb j i) (j ∷ filter (λ k. eqb k i) ns) (filter (λ k. eqb k i) ns) (ne_eqb j i d))

pub occurrences_append : (i : ℕ) (ns ms : List ℕ) → occurrences i (ns ++ ms) ≡ occurrences i ns + occurrences i ms
occurrences_append i ns ms = ap length (filter-append (λ k. eqb k i) ns ms) ∙ length-append (filter (λ k. eqb k i) ns) (filter (λ k. eqb k i) ms)

pub front_other : (times n : ℕ) (ns : List ℕ) (j : ℕ) → (j ≡ n → ⊥) → occurrences j (in_front times n ns) ≡ occurrences j ns
front_other zero n ns j d = refl
front_other (suc times) n ns j d = occurrences_tail j n (in_front times n ns) (λ e. d (sym e)) ∙ front_other times n ns j d

pub front_own : (times n : ℕ) (ns : List ℕ) → occurrences n (in_front times n ns) ≡ occurrences n ns + times
front_own zero n ns = omega arith
front_own (suc times) n ns = let h = occurrences_head n n (in_front times n ns) refl in let more = front_own times n ns in omega (arith, h, more)

pub front_member : (times n : ℕ) (ns : List ℕ) (j : ℕ) → Contains (in_front times n ns) j → Contains ns j ⊎ (j ≡ n)
front_member zero n ns j m = inl m
front_member (suc times) n ns j m = elim (contains_cases n j (in_front times n ns) m) [ inl d ↦ inr (sym d) | inr more ↦ front_member times n ns j more ]

front_front : (times more all n : ℕ) (ns : List ℕ) → all ≡ times + more → in_front times n (in_front more n ns) ≡ in_front all n ns
front_front zero more all n ns e = ap (λ k. in_front k n ns) (let d : more ≡ all = omega (arith, e) in d)
front_front (suc times) more all n ns e =
    ap (λ l. n ∷ l) (front_front times more (times + more) n ns refl) ∙ ap (λ k. in_front k n ns) (let d : suc (times + more) ≡ all = omega (arith, e) in d)

-- ---- nothing put, and one after the other

pub nothing_behind : (t : Table) (number : ℕ) → IsBehind t t number []
nothing_behind t number = record {
  latest = refl;
  taken = refl;
  ready = refl;
  pending = refl;
  count = refl;
  capacity = refl;
  home = λ i. refl;
  change = λ i. refl;
  waiting = λ i. refl;
  flag = λ i. refl;
  chain = λ i is. is;
  waiters = λ i is. refl;
  room = omega arith;
}

pub behind_more : (t t' t'' : Table) (number : ℕ) (is js : List ℕ) → IsBehind t t' number is → IsBehind t' t'' number js → IsBehind t t'' number (is ++ js)
behind_more t t' t'' number is js first next = record {
  latest = next.latest ∙ first.latest;
  taken = next.taken ∙ first.taken;
  ready = next.ready ∙ first.ready;
  pending = next.pending ∙ first.pending;
  count = next.count ∙ first.count;
  capacity = next.capacity ∙ first.capacity;
  home = λ i. next.home i ∙ first.home i;
  change = λ i. next.change i ∙ first.change i;
  waiting = λ i. next.waiting i ∙ first.waiting i;
  flag = λ i. next.flag i ∙ first.flag i;
  chain = λ i c. next.chain i (first.chain i c);
  waiters = λ i c. next.waiters i (first.chain i c) ∙ ap (in_front (occurrences i js) number) (first.waiters i c)
      ∙ front_front (occurrences i js) (occurrences i is) (occurrences i (is ++ js)) number (waiters_of t i) (let o = occurrences_append i is js in omega (arith, o));
  room = let r = first.room in let s = next.room in let l = length-append is js in omega (arith, r, s, l);
}

-- ---- for how many an update waits

pub own_same : (t t' : Table) (number home : ℕ) (ids : List ℕ) → IsBehind t t' number ids → (i : ℕ) → is_own t' home i ≡ is_own t home i
own_same t t' number home ids behind i = ap₂ (λ x y. x && eqb y home) (behind.flag i) (behind.home i)

pub counted_same : (t t' : Table) (number home : ℕ) (ids js : List ℕ) → IsBehind t t' number ids → counted t' home js ≡ counted t home js
counted_same t t' number home ids js behind = count_same (λ i. not (is_own t' home i)) (λ i. not (is_own t home i)) (λ i. ap not (own_same t t' number home ids behind i)) js

pub counted_append : (t : Table) (home : ℕ) (is js : List ℕ) → counted t home (is ++ js) ≡ counted t home is + counted t home js
counted_append t home is js =
    ap length (filter-append (λ i. not (is_own t home i)) is js) ∙ length-append (filter (λ i. not (is_own t home i)) is) (filter (λ i. not (is_own t home i)) js)

pub counted_one : (t : Table) (home i : ℕ) (own : Bool) → own ≡ is_own t home i → counted t home (i ∷ []) ≡ (if own then 0 else 1)
counted_one t home i own is = ap (λ x. length (if not x then i ∷ [] else [])) (sym is) ∙ step own
  where
    step : (x : Bool) → length (if not x then i ∷ [] else []) ≡ (if x then 0 else 1)
    step true = refl
    step false = refl

-- ---- the last pending update of a cell

decode_code : (o : Option ℕ) → decode (code o) ≡ o
decode_code None = refl
decode_code (Some i) = refl

pub last_is : (geo : Geometry) (t : Table) (queue : Queue) (q : List Pending) (ws : List Entry) → Takes geo t queue q ws → (c : Cell) → IsCell geo c → last_in geo t c ≡ queue.last c
last_is geo t queue q ws takes c is = ap decode (takes.ties.latest c is) ∙ decode_code (queue.last c)

pub last_none : (geo : Geometry) (t : Table) (c : Cell) (k : ℕ) → slice_index_or t.latest.items (place_of geo c) 0 ≡ k → k ≡ 0 → lasts geo t (c ∷ []) ≡ []
last_none geo t c k e z = ap (λ n. cons_option (decode n) []) (e ∙ z)

decode_some : (k : ℕ) → (k ≡ 0 → ⊥) → decode k ≡ Some (k - 1)
decode_some zero d = absurd (d refl)
decode_some (suc k) d = ap Some (let e : k ≡ suc k - 1 = omega arith in e)

pub last_some : (geo : Geometry) (t : Table) (c : Cell) (k : ℕ) → slice_index_or t.latest.items (place_of geo c) 0 ≡ k → (k ≡ 0 → ⊥) → last_in geo t c ≡ Some (k - 1)
last_some geo t c k e d = ap decode e ∙ decode_some k d

pub lasts_few : (geo : Geometry) (t : Table) (cells : List Cell) → length (lasts geo t cells) ≤ length cells
lasts_few geo t [] = omega arith
lasts_few geo t (c ∷ cells) = step (last_in geo t c) (lasts_few geo t cells)
  where
    step : (o : Option ℕ) → length (lasts geo t cells) ≤ length cells → length (cons_option o (lasts geo t cells)) ≤ suc (length cells)
    step None l = omega (arith, l)
    step (Some i) l = omega (arith, l)

pub may_wait : (geo : Geometry) (t : Table) (queue : Queue) (q : List Pending) (ws : List Entry) → Takes geo t queue q ws → (t' : Table) (number : ℕ) (ids : List ℕ) → IsBehind t t' number ids → length ids < t.chains.room
    → (c : Cell) → IsCell geo c → MayWait geo t' c
may_wait geo t queue q ws takes t' number ids behind few c is = record {
  places = ap (λ v. length v.items) behind.latest ∙ takes.ties.places;
  last = λ i l.
      let e = last_entry (home_of geo) queue q takes.ties.represents c i (sym (last_is geo t queue q ws takes c is) ∙ ap (λ v. decode (slice_index_or v.items (place_of geo c) 0)) (sym behind.latest) ∙ l) in
      let low = number_low geo t queue q (due_after (home_of geo) queue ws) (home_of geo c) e.0 i takes.ties e.1 e.2 in
      let count = behind.count in (
        omega (arith, low, count),
        behind.chain i (subst (λ j. IsChain t.chains (node_at t.nodes.items j).waiters) e.2 (takes.ties.node (home_of geo c) e.0 e.1).chain),
      );
  room = let r = behind.room in omega (arith, r, few);
}

-- ---- one cell after the other

pub lasts_more : (geo : Geometry) (t t' : Table) (own : OwnCell) (after : List OwnCell) (k : ℕ) (d : OwnCell) → t'.latest ≡ t.latest → k < length after
    → lasts geo t (cell own ∷ map cell (take k after)) ++ lasts geo t' (cell (slice_index_or after k d) ∷ []) ≡ lasts geo t (cell own ∷ map cell (take (k + 1) after))
lasts_more geo t t' own after k d same low =
    let now = cell (slice_index_or after k d) in
    let more : map cell (take k after) ++ now ∷ [] ≡ map cell (take (k + 1) after)
    = sym (ap (λ n. map cell (take n after)) (add-one k) ∙ ap (map cell) (take-suc after k d low) ∙ map-append cell (take k after) (slice_index_or after k d ∷ [])) in
    ap (λ v. lasts geo t (cell own ∷ map cell (take k after)) ++ cons_option (decode (slice_index_or v.items (place_of geo now) 0)) []) same
    ∙ sym (filter_map-append (last_in geo t) (cell own ∷ map cell (take k after)) (now ∷ []))
    ∙ ap (λ l. lasts geo t (cell own ∷ l)) more

pub lasts_low : (geo : Geometry) (t : Table) (own : OwnCell) (after : List OwnCell) (k : ℕ) → length (lasts geo t (cell own ∷ map cell (take k after))) ≤ 1 + k
lasts_low geo t own after k =
    let few = lasts_few geo t (cell own ∷ map cell (take k after)) in
    let mapped = length-map (take k after) cell in
    let taken = length-take k after in
    omega (arith, few, mapped, taken)

pub lasts_whole : (geo : Geometry) (t : Table) (own : OwnCell) (after : List OwnCell) (k : ℕ) → length after ≤ k → lasts geo t (cell own ∷ map cell (take k after)) ≡ lasts geo t (cell own ∷ map cell after)
lasts_whole geo t own after k all = ap (λ l. lasts geo t (cell own ∷ map cell l)) (take_all k after all)

pub is_cell : (geo : Geometry) (after : List OwnCell) (k : ℕ) (d : OwnCell) → All (IsCell geo) (map cell after) → k < length after → IsCell geo (cell (slice_index_or after k d))
is_cell geo after k d all low = let count = length-map after cell in subst (IsCell geo) (get_or-map cell after k d (cell d) low) (all k (cell d) (omega (arith, count, low)))
