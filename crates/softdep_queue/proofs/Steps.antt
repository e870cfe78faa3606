-- One entry waits for one update less.
use Rattle.std.proofs.Common.{◌≡◌, ℕ, ◌+◌, ◌-◌, ◌<◌, ◌≤◌, Bool, true, false, not, ◌&&◌, eqb, if◌then◌else◌, List, [], ◌∷◌, ◌⊎◌, inl, inr, ◌↔◌, refl, sym, ap, ap₂, ◌∙◌, subst, IsTrue, IsFalse, Contains, length, arith, slice_set, slice_index_or, filter, ◌++◌, length-append, get_or-set_same, get_or-set_other, eq-eqb, ne_eqb}
use Rattle.std.proofs.lemmas.Bool.{cases_eq, cond-true, cond-false, and_from, not-true}
use mathlib.Core.Bool.{beq}
use Rattle.std.proofs.lemmas.List.{length-set, get_or_default}
use Rattle.std.proofs.lemmas.List.Elements.{filter-append, Contains-append_right}
use Rattle.std.specs.Vec.{vec_capacity}
use Rattle.model.specs.Layout.{Geometry}
use Rattle.ordering.specs.Cuts.{Pending, cell_of}
use Rattle.queue_model.specs.Blocks.{home_of}
use Rattle.queue_model.specs.Entries.{Entry, Queue}
use Rattle.queue_model.proofs.Lists.{contains_head}
use Rattle.queue_model.proofs.Standing.{same_entry, id_low, entry_of}
use Rattle.lists.specs.Chains.{Links as ChainLinks, numbers, IsChain}
use Rattle.lists.specs.Stacks.{stack_at, count_of, room_of}
use Rattle.softdep_queue.specs.declared.table.Node.{Node}
use Rattle.softdep_queue.specs.declared.table.Table.{Table}
use Rattle.updates.specs.Places.{place_of}
use Rattle.softdep_queue.specs.Counts.{occurrences}
use Rattle.softdep_queue.specs.Ties.{Ties, IsNodeOf, Shows, node_at, waiters_of}
use Rattle.softdep_queue.proofs.Shown.{same_shown}
use Rattle.softdep_queue.specs.Lowering.{is_chosen, less, released}

-- what is read at a place of the table is the node there
pub read : (nodes : List Node) (w : ℕ) (x : Node) → w < length nodes → x ≡ slice_index_or nodes w x → x ≡ node_at nodes w
read nodes w x low is = is ∙ get_or_default nodes w x (node_at [] 0) low

-- the test of the code
pub chosen_is : (a b : ℕ) (here : Bool) → beq (eqb b a) here ≡ is_chosen a here b
chosen_is a b true = step (eqb b a)
  where
    step : (x : Bool) → beq x true ≡ x
    step true = refl
    step false = refl
chosen_is a b false = step (eqb b a)
  where
    step : (x : Bool) → beq x false ≡ not x
    step true = refl
    step false = refl

pub is_not_chosen : (a b : ℕ) (here : Bool) → not (beq (eqb b a) here) ≡ true → IsFalse (is_chosen a here b)
is_not_chosen a b here t = sym (chosen_is a b here) ∙ not-true (beq (eqb b a) here) t

pub is_chosen_one : (a b : ℕ) (here : Bool) → not (beq (eqb b a) here) ≡ false → IsTrue (is_chosen a here b)
is_chosen_one a b here t = sym (chosen_is a b here) ∙ step (beq (eqb b a) here) t
  where
    step : (x : Bool) → not x ≡ false → x ≡ true
    step true t = refl
    step false t = absurd (let bad : true ≡ false = t in cc)

-- only what the listed entries still wait for counts
pub ties_due : (geo : Geometry) (t : Table) (queue : Queue) (q : List Pending) (due due' : ℕ → Entry → ℕ) → ((b : ℕ) (e : Entry) → Contains (queue.lists b) e → due b e ≡ due' b e)
    → Ties geo t queue q due → Ties geo t queue q due'
ties_due geo t queue q due due' same ties = record {
  represents = ties.represents;
  shown = ties.shown;
  cells = ties.cells;
  next = ties.next;
  node = λ b e m. let n = ties.node b e m in record { home = n.home; on_volume = n.on_volume; change = n.change; cell = n.cell; fits = n.fits; waiting = n.waiting ∙ same b e m; few = n.few; chain = n.chain };
  waiters = ties.waiters;
  alive = ties.alive;
  ready = λ b e m. let r = ties.ready b e m in ((λ s. sym (same b e m) ∙ r.0 s), (λ z. r.1 (same b e m ∙ z)));
  flags = ties.flags;
  stacked = ties.stacked;
  latest = ties.latest;
  places = ties.places;
  blocks = ties.blocks;
  pending = ties.pending;
  room = ties.room;
  spare = ties.spare;
}

-- where the block is not chosen nothing changes
less_not : (a : ℕ) (here : Bool) (w : ℕ) (due : ℕ → Entry → ℕ) (b : ℕ) (e : Entry) → IsFalse (is_chosen a here b) → less a here w due b e ≡ due b e
less_not a here w due b e f = ap (λ x. if x && eqb e.id w then due b e - 1 else due b e) f

less_other : (a : ℕ) (here : Bool) (w : ℕ) (due : ℕ → Entry → ℕ) (b : ℕ) (e : Entry) → (e.id ≡ w → ⊥) → less a here w due b e ≡ due b e
less_other a here w due b e d = cond-false (is_chosen a here b && eqb e.id w) (due b e - 1) (due b e) (nothing (is_chosen a here b) (eqb e.id w) (ne_eqb e.id w d))
  where
    nothing : (x y : Bool) → y ≡ false → (x && y) ≡ false
    nothing true y h = h
    nothing false y h = refl

less_here : (a : ℕ) (here : Bool) (w : ℕ) (due : ℕ → Entry → ℕ) (b : ℕ) (e : Entry) → IsTrue (is_chosen a here b) → e.id ≡ w → less a here w due b e ≡ due b e - 1
less_here a here w due b e t id = cond-true (is_chosen a here b && eqb e.id w) (due b e - 1) (due b e) (and_from (is_chosen a here b) (eqb e.id w) t (eq-eqb e.id w id))

-- the node of a number has so many to wait for now; if none, it is pushed
pub record IsStep (t t' : Table) (b w n : ℕ) : Type 0 where
  pub nodes : t'.nodes.items ≡ slice_set t.nodes.items w (record (node_at t.nodes.items w) { waiting = n })
  pub chains : t'.chains ≡ t.chains
  pub taken : t'.taken ≡ t.taken
  pub latest : t'.latest ≡ t.latest
  pub pending : t'.pending ≡ t.pending
  pub count : count_of t'.ready ≡ count_of t.ready
  pub room : room_of t'.ready ≡ room_of t.ready
  pub more : (k i : ℕ) → Contains (stack_at t'.ready k) i → Contains (stack_at t.ready k) i ⊎ ((n ≡ 0) × (k ≡ b) × (i ≡ w))
  pub still : (k i : ℕ) → Contains (stack_at t.ready k) i → Contains (stack_at t'.ready k) i
  pub pushed : n ≡ 0 → Contains (stack_at t'.ready b) w

module _ (t t' : Table) (b w n : ℕ) (step : IsStep t t' b w n) (low : w < length t.nodes.items) where
  pub node_there : node_at t'.nodes.items w ≡ record (node_at t.nodes.items w) { waiting = n }
  node_there = ap (λ l. node_at l w) step.nodes ∙ get_or-set_same t.nodes.items w (record (node_at t.nodes.items w) { waiting = n }) (node_at [] 0) low

  pub node_other : (i : ℕ) → (i ≡ w → ⊥) → node_at t'.nodes.items i ≡ node_at t.nodes.items i
  node_other i d = ap (λ l. node_at l i) step.nodes ∙ get_or-set_other t.nodes.items w i (record (node_at t.nodes.items w) { waiting = n }) (node_at [] 0) d

  pub same_waiters : (i : ℕ) → (node_at t'.nodes.items i).waiters ≡ (node_at t.nodes.items i).waiters
  same_waiters i = elim (cases_eq i w) [
    | inl e ↦ ap (λ j. (node_at t'.nodes.items j).waiters) e ∙ ap (λ (x : Node). x.waiters) node_there ∙ ap (λ j. (node_at t.nodes.items j).waiters) (sym e)
    | inr d ↦ ap (λ (x : Node). x.waiters) (node_other i d)
  ]

  pub same_update : (i : ℕ) → (node_at t'.nodes.items i).update ≡ (node_at t.nodes.items i).update
  same_update i = elim (cases_eq i w) [
    | inl e ↦ ap (λ j. (node_at t'.nodes.items j).update) e ∙ ap (λ (x : Node). x.update) node_there ∙ ap (λ j. (node_at t.nodes.items j).update) (sym e)
    | inr d ↦ ap (λ (x : Node). x.update) (node_other i d)
  ]

  same_home : (i : ℕ) → (node_at t'.nodes.items i).home ≡ (node_at t.nodes.items i).home
  same_home i = elim (cases_eq i w) [
    | inl e ↦ ap (λ j. (node_at t'.nodes.items j).home) e ∙ ap (λ (x : Node). x.home) node_there ∙ ap (λ j. (node_at t.nodes.items j).home) (sym e)
    | inr d ↦ ap (λ (x : Node). x.home) (node_other i d)
  ]

  pub same_flag : (i : ℕ) → (node_at t'.nodes.items i).taken ≡ (node_at t.nodes.items i).taken
  same_flag i = elim (cases_eq i w) [
    | inl e ↦ ap (λ j. (node_at t'.nodes.items j).taken) e ∙ ap (λ (x : Node). x.taken) node_there ∙ ap (λ j. (node_at t.nodes.items j).taken) (sym e)
    | inr d ↦ ap (λ (x : Node). x.taken) (node_other i d)
  ]

  pub waiters_same : (i : ℕ) → waiters_of t' i ≡ waiters_of t i
  waiters_same i = ap₂ (λ (c : ChainLinks) k. numbers c k) step.chains (same_waiters i)

  -- a node that shows an entry shows it still
  pub node_step : (geo : Geometry) (k : ℕ) (e : Entry) (due due' : ℕ) → IsNodeOf geo t k e due → (node_at t'.nodes.items e.id).waiting ≡ due' → IsNodeOf geo t' k e due'
  node_step geo k e due due' node waiting = record {
    home = same_home e.id ∙ node.home;
    on_volume = node.on_volume;
    change = subst (λ c. Shows c e.change) (sym (same_update e.id)) node.change;
    cell = node.cell;
    fits = node.fits;
    waiting = waiting;
    few = node.few;
    chain = subst (λ c. IsChain t'.chains c) (sym (same_waiters e.id)) (subst (λ (c : ChainLinks). IsChain c (node_at t.nodes.items e.id).waiters) (sym step.chains) node.chain);
  }

-- the block of an entry is one of the volume
pub home_low : (geo : Geometry) (t : Table) (queue : Queue) (q : List Pending) (due : ℕ → Entry → ℕ) (b : ℕ) (f : Entry) → Ties geo t queue q due → Contains (queue.lists b) f → b < count_of t.ready
home_low geo t queue q due b f ties listed = let l = (ties.node b f listed).on_volume in let c = ties.blocks in omega (arith, l, c)

module _ (geo : Geometry) (t : Table) (queue : Queue) (q : List Pending) (due : ℕ → Entry → ℕ) (b : ℕ) (f : Entry) (w : ℕ) (ties : Ties geo t queue q due) (listed : Contains (queue.lists b) f) (id : f.id ≡ w) where
  pub number_low : w < length t.nodes.items
  number_low = let l = id_low (home_of geo) queue q ties.represents b f listed in let n = ties.next in omega (arith, l, n, id)

  pub node_is : IsNodeOf geo t b f (due b f)
  node_is = ties.node b f listed

  -- a number that waits for something stands in no stack
  pub not_stacked : 0 < due b f → (k : ℕ) → Contains (stack_at t.ready k) w → ⊥
  not_stacked some k m =
      let s = ties.stacked k w m in
      let same = same_entry (home_of geo) queue q ties.represents k b s.0 f s.1 listed (s.2 ∙ sym id) in
      let z : due b f ≡ 0 = (ties.ready b f listed).0 (inl (subst (λ j. Contains (stack_at t.ready j) f.id) same.1 (subst (λ j. Contains (stack_at t.ready k) j) (sym id) m))) in
      omega (arith, some, z)

  pub not_taken : 0 < due b f → Contains t.taken.items w → ⊥
  not_taken some m =
      let z : due b f ≡ 0 = (ties.ready b f listed).0 (inr (subst (λ j. Contains t.taken.items j) (sym id) m)) in
      omega (arith, some, z)

  module _ (a : ℕ) (here : Bool) where
    pub kept : IsFalse (is_chosen a here b) → Ties geo t queue q (less a here w due)
    kept other = ties_due geo t queue q due (less a here w due) same ties
      where
        same : (k : ℕ) (e : Entry) → Contains (queue.lists k) e → due k e ≡ less a here w due k e
        same k e m = elim (cases_eq e.id w) [
          | inl d ↦ let s = same_entry (home_of geo) queue q ties.represents k b e f m listed (d ∙ sym id) in sym (less_not a here w due k e (subst (λ j. IsFalse (is_chosen a here j)) (sym s.1) other))
          | inr d ↦ sym (less_other a here w due k e d)
        ]

    module _ (t' : Table) (chosen : IsTrue (is_chosen a here b)) (some : 0 < due b f) (step : IsStep t t' b w (due b f - 1)) where
      pub lowered : Ties geo t' queue q (less a here w due)
      lowered = record {
        represents = ties.represents;
        shown = same_shown t'.nodes.items t.nodes.items (ap length step.nodes ∙ length-set t.nodes.items w (record (node_at t.nodes.items w) { waiting = due b f - 1 })) (same_update t t' b w (due b f - 1) step number_low) ∙ ties.shown;
        cells = ties.cells;
        next = ties.next ∙ sym (ap length step.nodes ∙ length-set t.nodes.items w (record (node_at t.nodes.items w) { waiting = due b f - 1 }));
        node = λ k e m. node_step t t' b w (due b f - 1) step number_low geo k e (due k e) (less a here w due k e) (ties.node k e m) (waiting k e m);
        waiters = λ k l e g m o. ap (occurrences g.id) (waiters_same t t' b w (due b f - 1) step number_low e.id) ∙ ties.waiters k l e g m o;
        alive = λ k e i m o. ties.alive k e i m (subst (λ l. Contains l i) (waiters_same t t' b w (due b f - 1) step number_low e.id) o);
        ready = ready;
        flags = λ k e m. let g = ties.flags k e m in let same = same_flag t t' b w (due b f - 1) step number_low e.id in (
          (λ x. subst (λ v. Contains v.items e.id) (sym step.taken) (g.0 (sym same ∙ x))),
          (λ x. same ∙ g.1 (subst (λ v. Contains v.items e.id) step.taken x)),
        );
        stacked = stacked;
        latest = λ c is. ap (λ l. slice_index_or l (place_of geo c) 0) (ap (λ v. v.items) step.latest) ∙ ties.latest c is;
        places = ap (λ v. length v.items) step.latest ∙ ties.places;
        blocks = step.count ∙ ties.blocks;
        pending = step.pending ∙ ties.pending;
        room = (let n = ap length step.nodes ∙ length-set t.nodes.items w (record (node_at t.nodes.items w) { waiting = due b f - 1 }) in let r = ties.room in let s = step.room in omega (arith, n, r, s));
        spare = (let n = ap length step.nodes ∙ length-set t.nodes.items w (record (node_at t.nodes.items w) { waiting = due b f - 1 }) in let r = ties.spare in let s = ap vec_capacity step.taken in omega (arith, n, r, s));
      }
        where
          same : (k : ℕ) (e : Entry) → Contains (queue.lists k) e → e.id ≡ w → (e ≡ f) × (k ≡ b)
          same k e m d = same_entry (home_of geo) queue q ties.represents k b e f m listed (d ∙ sym id)

          due_there : (k : ℕ) (e : Entry) → Contains (queue.lists k) e → e.id ≡ w → less a here w due k e ≡ due b f - 1
          due_there k e m d =
              let s = same k e m d in
              less_here a here w due k e (subst (λ j. IsTrue (is_chosen a here j)) (sym s.1) chosen) d ∙ ap₂ (λ j x. due j x - 1) s.1 s.0

          waiting : (k : ℕ) (e : Entry) → Contains (queue.lists k) e → (node_at t'.nodes.items e.id).waiting ≡ less a here w due k e
          waiting k e m = elim (cases_eq e.id w) [
            | inl d ↦ ap (λ i. (node_at t'.nodes.items i).waiting) d ∙ ap (λ (x : Node). x.waiting) (node_there t t' b w (due b f - 1) step number_low) ∙ sym (due_there k e m d)
            | inr d ↦ ap (λ (x : Node). x.waiting) (node_other t t' b w (due b f - 1) step number_low e.id d) ∙ (ties.node k e m).waiting ∙ sym (less_other a here w due k e d)
          ]

          ready : (k : ℕ) (e : Entry) → Contains (queue.lists k) e → (Contains (stack_at t'.ready k) e.id ⊎ Contains t'.taken.items e.id) ↔ (less a here w due k e ≡ 0)
          ready k e m = elim (cases_eq e.id w) [
            | inl d ↦ let s = same k e m d in (
              (λ x. elim x [
                | inl stack ↦ elim (step.more k e.id stack) [
                  | inl old ↦ absurd (not_stacked some k (subst (λ i. Contains (stack_at t.ready k) i) d old))
                  | inr (z, at, is) ↦ due_there k e m d ∙ z
                ]
                | inr taken ↦ absurd (not_taken some (subst (λ i. Contains t.taken.items i) d (subst (λ v. Contains v.items e.id) step.taken taken)))
              ]),
              (λ z. inl (subst (λ i. Contains (stack_at t'.ready k) i) (sym d) (subst (λ j. Contains (stack_at t'.ready j) w) (sym s.1) (step.pushed (sym (due_there k e m d) ∙ z))))),
            )
            | inr d ↦ let r = ties.ready k e m in (
              (λ x. less_other a here w due k e d ∙ r.0 (elim x [
                | inl stack ↦ elim (step.more k e.id stack) [ inl old ↦ inl old | inr (z, at, is) ↦ absurd (d is) ]
                | inr taken ↦ inr (subst (λ v. Contains v.items e.id) step.taken taken)
              ])),
              (λ z. elim (r.1 (sym (less_other a here w due k e d) ∙ z)) [ inl old ↦ inl (step.still k e.id old) | inr taken ↦ inr (subst (λ v. Contains v.items e.id) (sym step.taken) taken) ]),
            )
          ]

          stacked : (k i : ℕ) → Contains (stack_at t'.ready k) i → (e : Entry) × Contains (queue.lists k) e × (e.id ≡ i) × (Contains t'.taken.items i → ⊥)
          stacked k i m = elim (step.more k i m) [
            | inl old ↦ let s = ties.stacked k i old in (s.0, s.1, s.2, λ o. s.3 (subst (λ v. Contains v.items i) step.taken o))
            | inr (z, at, is) ↦ (f, subst (λ j. Contains (queue.lists j) f) (sym at) listed, id ∙ sym is, λ o. not_taken some (subst (λ j. Contains t.taken.items j) is (subst (λ v. Contains v.items i) step.taken o)))
          ]

-- ---- one after the other

-- with all of these lowered
abbrev pub less_all : ℕ → Bool → List ℕ → (ℕ → Entry → ℕ) → ℕ → Entry → ℕ
less_all a here ws due b e = if is_chosen a here b then due b e - occurrences e.id ws else due b e

pub occurrences_push : (i : ℕ) (ws : List ℕ) (w : ℕ) → occurrences i (ws ++ w ∷ []) ≡ occurrences i ws + (if eqb w i then 1 else 0)
occurrences_push i ws w = ap length (filter-append (λ j. eqb j i) ws (w ∷ [])) ∙ length-append (filter (λ j. eqb j i) ws) (filter (λ j. eqb j i) (w ∷ [])) ∙ ap (λ n. occurrences i ws + n) (step (eqb w i))
  where
    step : (b : Bool) → length (if b then w ∷ [] else []) ≡ (if b then 1 else 0)
    step true = refl
    step false = refl

pub less_more : (a : ℕ) (here : Bool) (ws : List ℕ) (w : ℕ) (due : ℕ → Entry → ℕ) (b : ℕ) (e : Entry) → less a here w (less_all a here ws due) b e ≡ less_all a here (ws ++ w ∷ []) due b e
less_more a here ws w due b e = step (is_chosen a here b) (cases_eq e.id w)
  where
    step : (x : Bool) → (e.id ≡ w) ⊎ (e.id ≡ w → ⊥)
        → (if x && eqb e.id w then (if x then due b e - occurrences e.id ws else due b e) - 1 else (if x then due b e - occurrences e.id ws else due b e)) ≡ (if x then due b e - occurrences e.id (ws ++ w ∷ []) else due b e)
    step false d = refl
    step true (inl d) =
        let o = occurrences_push e.id ws w in
        let one = ap {B = ℕ} (λ y. if y then 1 else 0) (eq-eqb w e.id (sym d)) in
        cond-true (eqb e.id w) ((due b e - occurrences e.id ws) - 1) (due b e - occurrences e.id ws) (eq-eqb e.id w d) ∙ omega (arith, o, one)
    step true (inr d) =
        let o = occurrences_push e.id ws w in
        let none = ap {B = ℕ} (λ y. if y then 1 else 0) (ne_eqb w e.id (λ x. d (sym x))) in
        cond-false (eqb e.id w) ((due b e - occurrences e.id ws) - 1) (due b e - occurrences e.id ws) (ne_eqb e.id w d) ∙ omega (arith, o, none)

pub less_nothing : (a : ℕ) (here : Bool) (due : ℕ → Entry → ℕ) (b : ℕ) (e : Entry) → due b e ≡ less_all a here [] due b e
less_nothing a here due b e = step (is_chosen a here b)
  where
    step : (x : Bool) → due b e ≡ (if x then due b e - 0 else due b e)
    step true = omega arith
    step false = refl

pub occurrences_head : (w : ℕ) (ws rest : List ℕ) → occurrences w ws < occurrences w (ws ++ w ∷ rest)
occurrences_head w ws rest =
    let o = ap length (filter-append (λ j. eqb j w) ws (w ∷ rest)) ∙ length-append (filter (λ j. eqb j w) ws) (filter (λ j. eqb j w) (w ∷ rest)) in
    let h : filter (λ j. eqb j w) (w ∷ rest) ≡ w ∷ filter (λ j. eqb j w) rest = cond-true (eqb w w) (w ∷ filter (λ j. eqb j w) rest) (filter (λ j. eqb j w) rest) (eq-eqb w w refl) in
    let l = ap length h in
    omega (arith, o, l)

-- the next one still waits for something
module _ (geo : Geometry) (t : Table) (queue : Queue) (q : List Pending) (due : ℕ → Entry → ℕ) (a : ℕ) (here : Bool) (block : ℕ) (e : Entry) (ties : Ties geo t queue q due) (listed : Contains (queue.lists block) e)
    (enough : (b : ℕ) (g : Entry) → Contains (queue.lists b) g → IsTrue (is_chosen a here b) → occurrences e.id g.waits ≤ due b g) (done : List ℕ) (w : ℕ) (rest : List ℕ) (all : waiters_of t e.id ≡ done ++ w ∷ rest) where
  pub next_entry : (g : Entry) × Contains (queue.lists (home_of geo (cell_of g.change))) g × (g.id ≡ w)
  next_entry = entry_of (home_of geo) queue q ties.represents w (ties.alive block e w listed (subst (λ l. Contains l w) (sym all) (Contains-append_right done (w ∷ rest) w (contains_head w rest))))

  pub next_waits : (b : ℕ) (g : Entry) → Contains (queue.lists b) g → g.id ≡ w → IsTrue (is_chosen a here b) → 0 < less_all a here done due b g
  next_waits b g m id chosen =
      let count = ties.waiters block b e g listed m in
      let more = occurrences_head w done rest in
      let same = ap (occurrences g.id) all ∙ ap (λ i. occurrences i (done ++ w ∷ rest)) id in
      let before = ap (λ i. occurrences i done) id in
      let room = enough b g m chosen in
      let now = cond-true (is_chosen a here b) (due b g - occurrences g.id done) (due b g) chosen in
      omega (arith, count, more, same, before, room, now)

-- all of those that waited are lowered
pub all_lowered : (geo : Geometry) (t : Table) (queue : Queue) (q : List Pending) (due : ℕ → Entry → ℕ) (a : ℕ) (here : Bool) (block : ℕ) (e : Entry) → Ties geo t queue q due → Contains (queue.lists block) e
    → (done : List ℕ) → waiters_of t e.id ≡ done → (b : ℕ) (g : Entry) → Contains (queue.lists b) g → less_all a here done due b g ≡ released a here e.id due b g
all_lowered geo t queue q due a here block e ties listed done all b g m =
    ap (λ n. if is_chosen a here b then due b g - n else due b g) (ap (occurrences g.id) (sym all) ∙ ties.waiters block b e g listed m)
