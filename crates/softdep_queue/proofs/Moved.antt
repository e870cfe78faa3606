-- Pending updates that are added to a table anew.
use Rattle.std.proofs.Common.{◌≡◌, ℕ, zero, suc, ◌+◌, ◌-◌, ◌<◌, ◌≤◌, Bool, true, false, not, ◌&&◌, ◌||◌, eqb, List, [], ◌∷◌, ◌++◌, ◌⊎◌, ltb, inl, inr, Option, Some, None, refl, sym, ap, ap₂, ◌∙◌, subst, IsTrue, IsFalse, Contains, length, length-append, arith, eq-eqb, ne_eqb}
use Rattle.std.proofs.lemmas.Bool.{cases_eq, cases_Bool, cond-true, or_left, both_ways}
use borrow.Author.Tests.{ltb-true, ltb-false}
use Rattle.std.proofs.lemmas.List.{get_or_past}
use Rattle.std.proofs.lemmas.List.Elements.{Contains-append_right}
use Rattle.std.proofs.Math.Seq.{get_or-append_seam}
use Rattle.std.specs.List.{cons_option}
use Rattle.std.specs.Option.{MatchOption}
use Rattle.model.specs.Layout.{Geometry, block_count}
use Rattle.ordering.specs.Cuts.{Cell, Pending, IsClosed, AreIn, cell_of, fresh}
use Rattle.queue_model.specs.Entries.{Entry, Queue, Stand, has_id, marks, issued, new_entry}
use Rattle.queue_model.specs.Blocks.{home_of}
use Rattle.queue_model.proofs.EntryLemmas.{last_has, fresh_last}
use Rattle.queue_model.proofs.Lists.{bool_same, contains_head, contains_tail, contains_cases, contains_none, unmapped}
use Rattle.queue_model.proofs.Standing.{id_low, listed}
use Rattle.queue_model.proofs.TakenLemmas.{closed, marks_tell}
use Rattle.lists.specs.Stacks.{stack_at, count_of}
use Rattle.updates.specs.declared.change.Update.{Update}
use Rattle.updates.specs.Values.{written}
use Rattle.softdep_queue.specs.declared.table.Node.{Node}
use Rattle.softdep_queue.specs.declared.table.Table.{Table}
use Rattle.softdep_queue.specs.Adding.{MayStand}
use Rattle.softdep_queue.specs.Taking.{TakesNext}
use Rattle.softdep_queue.specs.Ties.{Takes, Holds, Shows, of_block, due_after, node_at, pending_in, shown_by}
use Rattle.softdep_queue.specs.Rooms.{HasRoom}
use Rattle.softdep_queue.specs.Moving.{cells_in, cells_by, cells_of, flag_if, taken_by, of_home, IsClosedByBlocks, AreUpdates, HoldsAlone}
use Rattle.softdep_queue.proofs.Additions.{next_not_stacked}
use Rattle.softdep_queue.proofs.Blocks.{by_block}
use Rattle.softdep_queue.proofs.Counting.{none_counted}
use Rattle.softdep_queue.proofs.Falling.{marks_issued}
use Rattle.softdep_queue.proofs.LooseCuts.{marks_same, own_marks}
use Rattle.softdep_queue.proofs.RoomLemmas.{less_room}
use Rattle.softdep_queue.proofs.Shown.{AreShown, taken_marks}
use Rattle.softdep_queue.proofs.Taken.{ids, has_to, has_from, reverse_to, reverse_from}

-- ---- of more nodes

more_shown : (ns : List Node) (m d n : ℕ) → n ≡ d + m → length (shown_by ns m) ≤ length (shown_by ns n)
more_shown ns m zero n e = let same = ap (λ k. length (shown_by ns k)) (let z : n ≡ m = omega (arith, e) in z) in omega (arith, same)
more_shown ns m (suc d) zero e = absurd (omega (arith, e))
more_shown ns m (suc d) (suc n) e = step (pending_in (node_at ns n).update) (more_shown ns m d n (omega (arith, e)))
  where
    step : (o : Option Pending) → length (shown_by ns m) ≤ length (shown_by ns n) → length (shown_by ns m) ≤ length (cons_option o (shown_by ns n))
    step None l = l
    step (Some u) l = omega (arith, l)

more_cells : (ns : List Node) (m d n : ℕ) → n ≡ d + m → cells_by ns m ≤ cells_by ns n
more_cells ns m zero n e = let same = ap (cells_by ns) (let z : n ≡ m = omega (arith, e) in z) in omega (arith, same)
more_cells ns m (suc d) zero e = absurd (omega (arith, e))
more_cells ns m (suc d) (suc n) e = let more = more_cells ns m d n (omega (arith, e)) in omega (arith, more)

-- ---- one node more

module _ (ns done : List Node) (x : Node) (rest : List Node) (split : ns ≡ done ++ x ∷ rest) where
  pub next_node : node_at ns (length done) ≡ x
  next_node = ap (λ l. node_at l (length done)) split ∙ get_or-append_seam done x rest (node_at [] 0)

  one_more : length (done ++ x ∷ []) ≡ suc (length done)
  one_more = let l = length-append done (x ∷ []) in omega (arith, l)

  pub next_shown : (o : Option Update) → x.update ≡ o → shown_by ns (length (done ++ x ∷ [])) ≡ cons_option (pending_in o) (shown_by ns (length done))
  next_shown o is = ap (shown_by ns) one_more ∙ ap (λ p. cons_option (pending_in p) (shown_by ns (length done))) (ap (λ (y : Node). y.update) next_node ∙ is)

  pub next_cells : (o : Option Update) → x.update ≡ o → cells_by ns (length (done ++ x ∷ [])) ≡ cells_by ns (length done) + cells_in o
  next_cells o is = ap (cells_by ns) one_more ∙ ap (λ p. cells_by ns (length done) + cells_in p) (ap (λ (y : Node). y.update) next_node ∙ is)

  all_of : length ns ≡ length rest + length (done ++ x ∷ [])
  all_of = let l = ap length split in let m = length-append done (x ∷ rest) in let n = one_more in omega (arith, l, m, n)

  shown_low : length (shown_by ns (length (done ++ x ∷ []))) ≤ length (shown_by ns (length ns))
  shown_low = more_shown ns (length (done ++ x ∷ [])) (length rest) (length ns) all_of

  cells_low : cells_by ns (length (done ++ x ∷ [])) ≤ cells_of ns
  cells_low = more_cells ns (length (done ++ x ∷ [])) (length rest) (length ns) all_of

  -- ---- with its update

  module _ (t : Table) (room : (updates cells : ℕ) → updates + length (shown_by ns (length done)) ≡ length (shown_by ns (length ns)) → cells + cells_by ns (length done) ≡ cells_of ns → HasRoom t updates cells)
      (u : Update) (is : x.update ≡ Some u) where
    pub room_for_it : HasRoom t 1 (1 + length u.after.items)
    room_for_it =
        let low = shown_low in
        let shown = ap length (next_shown (Some u) is) in
        let few = cells_low in
        let cells = next_cells (Some u) is in
        let left = length (shown_by ns (length ns)) - length (shown_by ns (length (done ++ x ∷ []))) in
        let others = cells_of ns - cells_by ns (length (done ++ x ∷ [])) in
        less_room t left others (1 + length u.after.items) (room (left + 1) (others + (1 + length u.after.items)) (omega (arith, low, shown)) (omega (arith, few, cells)))

    pub room_behind_it : (t' : Table) → ((updates cells : ℕ) → HasRoom t (updates + 1) (cells + (1 + length u.after.items)) → HasRoom t' updates cells)
        → (updates cells : ℕ) → updates + length (shown_by ns (length (done ++ x ∷ []))) ≡ length (shown_by ns (length ns)) → cells + cells_by ns (length (done ++ x ∷ [])) ≡ cells_of ns → HasRoom t' updates cells
    room_behind_it t' keeps updates cells e f =
        let shown = ap length (next_shown (Some u) is) in
        let more = next_cells (Some u) is in
        keeps updates cells (room (updates + 1) (cells + (1 + length u.after.items)) (omega (arith, shown, e)) (omega (arith, more, f)))

  pub room_without : (t : Table) → x.update ≡ None → ((updates cells : ℕ) → updates + length (shown_by ns (length done)) ≡ length (shown_by ns (length ns)) → cells + cells_by ns (length done) ≡ cells_of ns → HasRoom t updates cells)
      → (updates cells : ℕ) → updates + length (shown_by ns (length (done ++ x ∷ []))) ≡ length (shown_by ns (length ns)) → cells + cells_by ns (length (done ++ x ∷ [])) ≡ cells_of ns → HasRoom t updates cells
  room_without t is room updates cells e f =
      let shown = ap length (next_shown None is) in
      let more = next_cells None is in
      room updates cells (omega (arith, shown, e)) (omega (arith, more, f))

-- ---- what was taken

-- an update more, and whether it was taken
module _ (ns done : List Node) (x : Node) (rest : List Node) (split : ns ≡ done ++ x ∷ rest) where
  pub next_taken : (o : Option Update) → x.update ≡ o → taken_by ns (length (done ++ x ∷ [])) ≡ cons_option (flag_if o x.taken) (taken_by ns (length done))
  next_taken o is =
      let l = length-append done (x ∷ []) in
      let more : length (done ++ x ∷ []) ≡ suc (length done) = omega (arith, l) in
      ap (taken_by ns) more ∙ ap₂ (λ p b. cons_option (flag_if p b) (taken_by ns (length done))) (ap (λ (y : Node). y.update) (next_node ns done x rest split) ∙ is) (ap (λ (y : Node). y.taken) (next_node ns done x rest split))

closed_tail : (home : Cell → ℕ) (u : Pending) (q : List Pending) (d : Bool) (cut : List Bool) → IsClosedByBlocks home (u ∷ q) (d ∷ cut) → IsClosedByBlocks home q cut
closed_tail home u q d cut closed a = step (d && eqb (home (cell_of u.change)) a) (closed a)
  where
    step : (b : Bool) → IsClosed (u ∷ q) (b ∷ of_home home a q cut) → IsClosed q (of_home home a q cut)
    step true k = k.0
    step false k = k

-- what was taken of fewer nodes is closed by blocks, too
pub closed_before : (home : Cell → ℕ) (ns : List Node) (m d n : ℕ) → n ≡ d + m → IsClosedByBlocks home (shown_by ns n) (taken_by ns n) → IsClosedByBlocks home (shown_by ns m) (taken_by ns m)
closed_before home ns m zero n e closed = subst (λ k. IsClosedByBlocks home (shown_by ns k) (taken_by ns k)) (let z : n ≡ m = omega (arith, e) in z) closed
closed_before home ns m (suc d) zero e closed = absurd (omega (arith, e))
closed_before home ns m (suc d) (suc n) e closed = closed_before home ns m d n (omega (arith, e)) (step (node_at ns n).update closed)
  where
    step : (o : Option Update) → IsClosedByBlocks home (cons_option (pending_in o) (shown_by ns n)) (cons_option (flag_if o (node_at ns n).taken) (taken_by ns n)) → IsClosedByBlocks home (shown_by ns n) (taken_by ns n)
    step None closed = closed
    step (Some x) closed = closed_tail home (written x).update (shown_by ns n) (node_at ns n).taken (taken_by ns n) closed

pub closed_at : (home : Cell → ℕ) (ns done : List Node) (x : Node) (rest : List Node) → ns ≡ done ++ x ∷ rest → IsClosedByBlocks home (shown_by ns (length ns)) (taken_by ns (length ns))
    → IsClosedByBlocks home (shown_by ns (length (done ++ x ∷ []))) (taken_by ns (length (done ++ x ∷ [])))
closed_at home ns done x rest split closed = closed_before home ns (length (done ++ x ∷ [])) (length rest) (length ns)
    (let l = ap length split in let m = length-append done (x ∷ rest) in let n = length-append done (x ∷ []) in omega (arith, l, m, n)) closed

-- the update that was added waits for nothing, if it was taken: it stands on the top of its block's stack, and is taken again
module _ (geo : Geometry) (t t1 : Table) (queue : Queue) (q : List Pending) (loose : List Bool) (u : Pending) (held : Holds geo t queue q loose) (added : Holds geo t1 (issued (home_of geo) u queue) (u ∷ q) (false ∷ loose))
    (closed : IsClosedByBlocks (home_of geo) (u ∷ q) (true ∷ loose)) where
  abbrev home : ℕ
  home = home_of geo (cell_of u.change)

  abbrev entry : Entry
  entry = new_entry queue u

  abbrev set : ℕ → Bool
  set = has_id (of_block (home_of geo) (home_of geo (cell_of u.change)) held.written)

  abbrev entries : List Entry
  entries = held.takes.ties.represents.entries

  own_cut : of_home (home_of geo) home q loose ≡ marks set entries
  own_cut = ap (of_home (home_of geo) home q) (sym held.cut) ∙ sym (own_marks (home_of geo) queue q held.takes.ties.represents home held.written held.takes.each)

  closed_here : IsClosed q (marks set entries) × IsTrue (fresh q (marks set entries) (cell_of u.change)) × AreIn u.after (fresh q (marks set entries))
  closed_here = subst (λ cut. IsClosed q cut × IsTrue (fresh q cut (cell_of u.change)) × AreIn u.after (fresh q cut)) own_cut
      (subst (λ b. IsClosed (u ∷ q) (b ∷ of_home (home_of geo) home q loose)) (eq-eqb home home refl) (closed home))

  -- the marks of the older ones
  abbrev others : List Bool → List Bool
  others [] = []
  others (b ∷ l) = l

  older_marks : (f : ℕ → Bool) (l : List Bool) → marks f added.takes.ties.represents.entries ≡ l → marks f entries ≡ others l
  older_marks f l is = ap others (sym (marks_issued (home_of geo) queue f u q held.takes.ties.represents added.takes.ties.represents) ∙ is)

  same_set : (i : ℕ) → IsTrue (has_id entries i) → has_id (of_block (home_of geo) home added.written) i ≡ set i
  same_set i h = marks_tell (home_of geo) home queue q held.takes.ties.represents (has_id (of_block (home_of geo) home added.written)) set entries
      (older_marks (has_id (of_block (home_of geo) home added.written)) (of_home (home_of geo) home (u ∷ q) (false ∷ loose))
      (own_marks (home_of geo) (issued (home_of geo) u queue) (u ∷ q) added.takes.ties.represents home added.written added.takes.each ∙ ap (of_home (home_of geo) home (u ∷ q)) added.cut) ∙ own_cut) i h

  waits_taken : (i : ℕ) → Contains entry.waits i → IsTrue (has_id (of_block (home_of geo) home added.written) i)
  waits_taken i m =
      let o = unmapped queue.last (cell_of u.change ∷ u.after) i m in
      let last = sym (held.takes.ties.represents.last o.0) ∙ o.2 in
      let here = closed_here in
      same_set i (last_has entries o.0 i last) ∙ fresh_last queue.next entries q set held.takes.ties.represents.stand here.0 o.0 i
      (elim (contains_cases (cell_of u.change) o.0 u.after o.1) [ inl d ↦ subst (λ c. IsTrue (fresh q (marks set entries) c)) d here.1 | inr later ↦ here.2 o.0 later ]) last

  none_due : due_after (home_of geo) (issued (home_of geo) u queue) added.written home entry ≡ 0
  none_due = none_counted (λ i. (issued (home_of geo) u queue).pending i && not (has_id (of_block (home_of geo) home added.written) i)) entry.waits
      (λ i m. ap (λ b. (issued (home_of geo) u queue).pending i && not b) (waits_taken i m) ∙ never ((issued (home_of geo) u queue).pending i))
    where
      never : (x : Bool) → (x && false) ≡ false
      never true = refl
      never false = refl

  entry_listed : Contains ((issued (home_of geo) u queue).lists home) entry
  entry_listed = subst (λ l. Contains l entry) (sym (cond-true (eqb home home) (queue.lists home ++ entry ∷ []) (queue.lists home) (eq-eqb home home refl))) (Contains-append_right (queue.lists home) (entry ∷ []) entry (contains_head entry []))

  abbrev first : List Bool → Bool
  first [] = false
  first (b ∷ l) = b

  not_written : IsFalse (has_id added.written queue.next)
  not_written = ap first (sym (marks_issued (home_of geo) queue (has_id added.written) u q held.takes.ties.represents added.takes.ties.represents) ∙ added.cut)

  -- its number stands on the top
  on_top : MayStand t t1 home → (number : ℕ) (rest : List ℕ) → stack_at t1.ready home ≡ number ∷ rest → number ≡ queue.next
  on_top may number rest top = elim may [
    | inl old ↦ absurd (elim ((added.takes.ties.ready home entry entry_listed).1 none_due) [
      | inl stack ↦ next_not_stacked geo t queue q held.written held.takes home (subst (λ l. Contains l (length t.nodes.items)) old (subst (Contains (stack_at t1.ready home)) held.takes.ties.next stack))
      | inr taken ↦ both_ways (has_id added.written queue.next) not_written
          (has_from added.written queue.next (reverse_from (ids added.written) queue.next (subst (λ l. Contains l queue.next) added.takes.taken taken)))
    ])
    | inr new ↦ ap head (sym top ∙ new) ∙ sym held.takes.ties.next
  ]
    where
      head : List ℕ → ℕ
      head [] = 0
      head (x ∷ l) = x

  taken_again : (t2 : Table) (e : Entry) → e.id ≡ queue.next → Takes geo t2 (issued (home_of geo) u queue) (u ∷ q) (e ∷ added.written) → Holds geo t2 (issued (home_of geo) u queue) (u ∷ q) (true ∷ loose)
  taken_again t2 e id takes = record {
    written = e ∷ added.written;
    takes = takes;
    cut = marks_issued (home_of geo) queue (has_id (e ∷ added.written)) u q held.takes.ties.represents takes.ties.represents
        ∙ ap₂ (λ b l. b ∷ l) (or_left (eqb queue.next e.id) (has_id added.written queue.next) (eq-eqb queue.next e.id (sym id)))
        (marks_same (has_id (e ∷ added.written)) (has_id added.written) entries
        (λ x m. ap (λ b. b || has_id added.written x.id) (ne_eqb x.id e.id (λ d. let low = id_low (home_of geo) queue q held.takes.ties.represents (home_of geo (cell_of x.change)) x (listed (home_of geo) queue q held.takes.ties.represents x m) in omega (arith, low, d, id))))
        ∙ older_marks (has_id added.written) (false ∷ loose) added.cut);
  }

  -- what is taken next is this one
  pub retaken : (t2 : Table) (result : Option ℕ) → MayStand t t1 home → TakesNext geo (issued (home_of geo) u queue) (u ∷ q) home added.written t1 t2 result
      → MatchOption result (stack_at t1.ready home ≡ []) (λ number. (rest : List ℕ) × (stack_at t1.ready home ≡ number ∷ rest)) → Holds geo t2 (issued (home_of geo) u queue) (u ∷ q) (true ∷ loose)
  retaken t2 None stand next top = absurd (elim ((added.takes.ties.ready home entry entry_listed).1 none_due) [
    | inl stack ↦ contains_none entry.id (subst (λ l. Contains l entry.id) top stack)
    | inr taken ↦ both_ways (has_id added.written queue.next) not_written
        (has_from added.written queue.next (reverse_from (ids added.written) queue.next (subst (λ l. Contains l queue.next) added.takes.taken taken)))
  ])
  retaken t2 (Some i) stand next top = taken_again t2 next.0 (next.1 ∙ on_top stand i top.0 top.1) next.3

-- the table has a stack for each of the volume's blocks
pub on_volume_low : (geo : Geometry) (t : Table) (queue : Queue) (q : List Pending) (loose : List Bool) → Holds geo t queue q loose → (a : ℕ) → a < block_count geo → a < count_of t.ready
on_volume_low geo t queue q loose holds a low = let blocks = holds.takes.ties.blocks in omega (arith, blocks, low)

-- a table of whose places each is that of a pending update has one more with the next
pub alone_with : (geo : Geometry) (t t' : Table) (queue : Queue) (q : List Pending) (loose loose' : List Bool) (u : Pending) → Holds geo t queue q loose → length t.nodes.items ≡ length q → Holds geo t' (issued (home_of geo) u queue) (u ∷ q) loose'
    → HoldsAlone geo t' (u ∷ q) loose'
alone_with geo t t' queue q loose loose' u held alone now =
    let before = held.takes.ties.next in
    let next = now.takes.ties.next in
    record { queue = issued (home_of geo) u queue; holds = now; alone = omega (arith, alone, before, next) }

-- ---- each update that nodes show is pending

shown_at : (ns : List Node) (n i : ℕ) (u : Update) → i < n → (node_at ns i).update ≡ Some u → Contains (shown_by ns n) (written u).update
shown_at ns zero i u low is = absurd (omega (arith, low))
shown_at ns (suc n) i u low is = elim (cases_eq i n) [
  | inl d ↦ subst (λ o. Contains (cons_option (pending_in o) (shown_by ns n)) (written u).update) (sym (ap (λ k. (node_at ns k).update) (sym d) ∙ is)) (contains_head (written u).update (shown_by ns n))
  | inr d ↦ step (pending_in (node_at ns n).update) (shown_at ns n i u (omega (arith, low, d)) is)
]
  where
    step : (o : Option Pending) → Contains (shown_by ns n) (written u).update → Contains (cons_option o (shown_by ns n)) (written u).update
    step None m = m
    step (Some p) m = contains_tail p (written u).update (shown_by ns n) m

number_low : (ns : List Node) (i : ℕ) (u : Update) → (node_at ns i).update ≡ Some u → i < length ns
number_low ns i u is = elim (below_or_not i (length ns)) [
  | inl low ↦ low
  | inr past ↦ absurd (let bad : None ≡ Some u = sym (ap (λ (x : Node). x.update) (get_or_past ns i (node_at [] 0) past)) ∙ is in cc)
]
  where
    below_or_not : (i n : ℕ) → (i < n) ⊎ (n ≤ i)
    below_or_not i n = elim (cases_Bool (ltb i n)) [ inl t ↦ inl (ltb-true i n t) | inr f ↦ inr (ltb-false i n f) ]

pub are_updates : (geo : Geometry) (t : Table) (queue : Queue) (q : List Pending) (loose : List Bool) → Holds geo t queue q loose → AreUpdates geo t.nodes.items
are_updates geo t queue q loose holds i u is =
    holds.takes.ties.cells (written u).update (subst (λ l. Contains l (written u).update) holds.takes.ties.shown (shown_at t.nodes.items (length t.nodes.items) i u (number_low t.nodes.items i u is) is))

-- ---- the nodes of a table tell what was taken

module _ (geo : Geometry) (t : Table) (queue : Queue) (q : List Pending) (loose : List Bool) (holds : Holds geo t queue q loose) where
  abbrev ws : List Entry
  ws = holds.written

  some_shown : AreShown t.nodes.items holds.takes.ties.represents.entries
  some_shown e m z = subst (λ o. Shows o e.change) z (holds.takes.ties.node (home_of geo (cell_of e.change)) e (listed (home_of geo) queue q holds.takes.ties.represents e m)).change

  tell : (e : Entry) → Contains holds.takes.ties.represents.entries e → (node_at t.nodes.items e.id).taken ≡ has_id holds.written e.id
  tell e m =
      let f = holds.takes.ties.flags (home_of geo (cell_of e.change)) e (listed (home_of geo) queue q holds.takes.ties.represents e m) in
      bool_same (node_at t.nodes.items e.id).taken (has_id ws e.id)
      (λ x. has_from ws e.id (reverse_from (ids ws) e.id (subst (λ l. Contains l e.id) holds.takes.taken (f.0 x))))
      (λ x. f.1 (subst (λ l. Contains l e.id) (sym holds.takes.taken) (reverse_to (ids ws) e.id (has_to ws e.id x))))

  pub taken_is : taken_by t.nodes.items (length t.nodes.items) ≡ loose
  taken_is =
      taken_marks t.nodes.items (has_id ws) (length t.nodes.items) holds.takes.ties.represents.entries q (subst (λ n. Stand n holds.takes.ties.represents.entries q) holds.takes.ties.next holds.takes.ties.represents.stand)
      some_shown tell holds.takes.ties.shown
      ∙ holds.cut

  closed_blocks : IsClosedByBlocks (home_of geo) q loose
  closed_blocks a = subst (IsClosed q) (own_marks (home_of geo) queue q holds.takes.ties.represents a ws holds.takes.each ∙ ap (of_home (home_of geo) a q) holds.cut)
      (closed (home_of geo) a queue q holds.takes.ties.represents (of_block (home_of geo) a ws) (by_block (home_of geo) queue ws holds.takes.each a))

  pub closed_nodes : IsClosedByBlocks (home_of geo) (shown_by t.nodes.items (length t.nodes.items)) (taken_by t.nodes.items (length t.nodes.items))
  closed_nodes = subst (λ l. IsClosedByBlocks (home_of geo) l (taken_by t.nodes.items (length t.nodes.items))) (sym holds.takes.ties.shown) (subst (IsClosedByBlocks (home_of geo) q) (sym taken_is) closed_blocks)
