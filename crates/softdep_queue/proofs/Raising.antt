-- One entry waits for one update more.
use Rattle.std.proofs.Common.{◌≡◌, ℕ, ◌+◌, ◌<◌, Bool, true, false, ◌&&◌, eqb, if◌then◌else◌, List, [], ◌∷◌, ◌++◌, ◌⊎◌, inl, inr, refl, sym, ap, ap₂, ◌∙◌, subst, IsTrue, IsFalse, Contains, length, arith, slice_index_or, eq-eqb, ne_eqb}
use Rattle.std.proofs.lemmas.Bool.{cases_eq, cond-true, cond-false, and_from}
use Rattle.std.proofs.lemmas.List.{length-set}
use Rattle.std.proofs.lemmas.List.Elements.{Contains-append_right}
use Rattle.std.specs.Vec.{vec_capacity}
use Rattle.model.specs.Layout.{Geometry}
use Rattle.ordering.specs.Cuts.{Pending, cell_of}
use Rattle.queue_model.specs.Blocks.{home_of}
use Rattle.queue_model.specs.Entries.{Entry, Queue}
use Rattle.queue_model.proofs.Lists.{contains_head}
use Rattle.queue_model.proofs.Standing.{same_entry, id_low, entry_of}
use Rattle.softdep_queue.specs.declared.table.Node.{Node}
use Rattle.softdep_queue.specs.declared.table.Table.{Table}
use Rattle.updates.specs.Places.{place_of}
use Rattle.softdep_queue.specs.Counts.{occurrences}
use Rattle.softdep_queue.specs.Ties.{IsNodeOf, node_at, waiters_of}
use Rattle.softdep_queue.specs.Returning.{ShowsAll, more, held, AreFree}
use Rattle.softdep_queue.proofs.Shown.{same_shown}
use Rattle.softdep_queue.proofs.Steps.{IsStep, node_there, same_update, node_other, node_step, waiters_same, occurrences_push, occurrences_head}

-- only what the listed entries still wait for counts
pub shows_due : (geo : Geometry) (t : Table) (queue : Queue) (q : List Pending) (due due' : ℕ → Entry → ℕ) → ((b : ℕ) (e : Entry) → Contains (queue.lists b) e → due b e ≡ due' b e)
    → ShowsAll geo t queue q due → ShowsAll geo t queue q due'
shows_due geo t queue q due due' same shows = record {
  represents = shows.represents;
  shown = shows.shown;
  cells = shows.cells;
  next = shows.next;
  node = λ b e m. let n = shows.node b e m in record { home = n.home; on_volume = n.on_volume; change = n.change; cell = n.cell; fits = n.fits; waiting = n.waiting ∙ same b e m; few = n.few; chain = n.chain };
  waiters = shows.waiters;
  alive = shows.alive;
  latest = shows.latest;
  places = shows.places;
  blocks = shows.blocks;
  pending = shows.pending;
  room = shows.room;
  spare = shows.spare;
}

-- in another block nothing changes
more_not : (a w : ℕ) (due : ℕ → Entry → ℕ) (b : ℕ) (e : Entry) → IsFalse (eqb b a) → more a w due b e ≡ due b e
more_not a w due b e f = ap (λ x. if x && eqb e.id w then due b e + 1 else due b e) f

more_other : (a w : ℕ) (due : ℕ → Entry → ℕ) (b : ℕ) (e : Entry) → (e.id ≡ w → ⊥) → more a w due b e ≡ due b e
more_other a w due b e d = cond-false (eqb b a && eqb e.id w) (due b e + 1) (due b e) (nothing (eqb b a) (eqb e.id w) (ne_eqb e.id w d))
  where
    nothing : (x y : Bool) → y ≡ false → (x && y) ≡ false
    nothing true y h = h
    nothing false y h = refl

more_here : (a w : ℕ) (due : ℕ → Entry → ℕ) (b : ℕ) (e : Entry) → IsTrue (eqb b a) → e.id ≡ w → more a w due b e ≡ due b e + 1
more_here a w due b e t id = cond-true (eqb b a && eqb e.id w) (due b e + 1) (due b e) (and_from (eqb b a) (eqb e.id w) t (eq-eqb e.id w id))

module _ (geo : Geometry) (t : Table) (queue : Queue) (q : List Pending) (due : ℕ → Entry → ℕ) (b : ℕ) (f : Entry) (w : ℕ) (shows : ShowsAll geo t queue q due) (listed : Contains (queue.lists b) f) (id : f.id ≡ w) where
  pub shown_low : w < length t.nodes.items
  shown_low = let l = id_low (home_of geo) queue q shows.represents b f listed in let n = shows.next in omega (arith, l, n, id)

  pub shown_node : IsNodeOf geo t b f (due b f)
  shown_node = shows.node b f listed

  same : (k : ℕ) (e : Entry) → Contains (queue.lists k) e → e.id ≡ w → (e ≡ f) × (k ≡ b)
  same k e m d = same_entry (home_of geo) queue q shows.represents k b e f m listed (d ∙ sym id)

  module _ (a : ℕ) where
    pub left : IsFalse (eqb b a) → ShowsAll geo t queue q (more a w due)
    left other = shows_due geo t queue q due (more a w due) unchanged shows
      where
        unchanged : (k : ℕ) (e : Entry) → Contains (queue.lists k) e → due k e ≡ more a w due k e
        unchanged k e m = elim (cases_eq e.id w) [
          | inl d ↦ sym (more_not a w due k e (subst (λ j. IsFalse (eqb j a)) (sym (same k e m d).1) other))
          | inr d ↦ sym (more_other a w due k e d)
        ]

    pub raised : (t' : Table) → IsTrue (eqb b a) → IsStep t t' b w (due b f + 1) → ShowsAll geo t' queue q (more a w due)
    raised t' chosen step = record {
      represents = shows.represents;
      shown = same_shown t'.nodes.items t.nodes.items long (same_update t t' b w (due b f + 1) step shown_low) ∙ shows.shown;
      cells = shows.cells;
      next = shows.next ∙ sym long;
      node = λ k e m. node_step t t' b w (due b f + 1) step shown_low geo k e (due k e) (more a w due k e) (shows.node k e m) (waiting k e m);
      waiters = λ k l e g m o. ap (occurrences g.id) (waiters_same t t' b w (due b f + 1) step shown_low e.id) ∙ shows.waiters k l e g m o;
      alive = λ k e i m o. shows.alive k e i m (subst (λ l. Contains l i) (waiters_same t t' b w (due b f + 1) step shown_low e.id) o);
      latest = λ c is. ap (λ l. slice_index_or l (place_of geo c) 0) (ap (λ v. v.items) step.latest) ∙ shows.latest c is;
      places = ap (λ v. length v.items) step.latest ∙ shows.places;
      blocks = step.count ∙ shows.blocks;
      pending = step.pending ∙ shows.pending;
      room = (let r = shows.room in let s = step.room in let n = long in omega (arith, n, r, s));
      spare = (let r = shows.spare in let s = ap vec_capacity step.taken in let n = long in omega (arith, n, r, s));
    }
      where
        long : length t'.nodes.items ≡ length t.nodes.items
        long = ap length step.nodes ∙ length-set t.nodes.items w (record (node_at t.nodes.items w) { waiting = due b f + 1 })

        due_there : (k : ℕ) (e : Entry) → Contains (queue.lists k) e → e.id ≡ w → more a w due k e ≡ due b f + 1
        due_there k e m d =
            let s = same k e m d in
            more_here a w due k e (subst (λ j. IsTrue (eqb j a)) (sym s.1) chosen) d ∙ ap₂ (λ j x. due j x + 1) s.1 s.0

        waiting : (k : ℕ) (e : Entry) → Contains (queue.lists k) e → (node_at t'.nodes.items e.id).waiting ≡ more a w due k e
        waiting k e m = elim (cases_eq e.id w) [
          | inl d ↦ ap (λ i. (node_at t'.nodes.items i).waiting) d ∙ ap (λ (x : Node). x.waiting) (node_there t t' b w (due b f + 1) step shown_low) ∙ sym (due_there k e m d)
          | inr d ↦ ap (λ (x : Node). x.waiting) (node_other t t' b w (due b f + 1) step shown_low e.id d) ∙ (shows.node k e m).waiting ∙ sym (more_other a w due k e d)
        ]

-- ---- one after the other

-- with all of these raised
abbrev pub more_all : ℕ → List ℕ → (ℕ → Entry → ℕ) → ℕ → Entry → ℕ
more_all a ws due b e = if eqb b a then due b e + occurrences e.id ws else due b e

pub more_next : (a : ℕ) (ws : List ℕ) (w : ℕ) (due : ℕ → Entry → ℕ) (b : ℕ) (e : Entry) → more a w (more_all a ws due) b e ≡ more_all a (ws ++ w ∷ []) due b e
more_next a ws w due b e = step (eqb b a) (cases_eq e.id w)
  where
    step : (x : Bool) → (e.id ≡ w) ⊎ (e.id ≡ w → ⊥)
        → (if x && eqb e.id w then (if x then due b e + occurrences e.id ws else due b e) + 1 else (if x then due b e + occurrences e.id ws else due b e)) ≡ (if x then due b e + occurrences e.id (ws ++ w ∷ []) else due b e)
    step false d = refl
    step true (inl d) =
        let o = occurrences_push e.id ws w in
        let one = ap {B = ℕ} (λ y. if y then 1 else 0) (eq-eqb w e.id (sym d)) in
        cond-true (eqb e.id w) ((due b e + occurrences e.id ws) + 1) (due b e + occurrences e.id ws) (eq-eqb e.id w d) ∙ omega (arith, o, one)
    step true (inr d) =
        let o = occurrences_push e.id ws w in
        let none = ap {B = ℕ} (λ y. if y then 1 else 0) (ne_eqb w e.id (λ x. d (sym x))) in
        cond-false (eqb e.id w) ((due b e + occurrences e.id ws) + 1) (due b e + occurrences e.id ws) (ne_eqb e.id w d) ∙ omega (arith, o, none)

pub more_nothing : (a : ℕ) (due : ℕ → Entry → ℕ) (b : ℕ) (e : Entry) → due b e ≡ more_all a [] due b e
more_nothing a due b e = step (eqb b a)
  where
    step : (x : Bool) → due b e ≡ (if x then due b e + 0 else due b e)
    step true = omega arith
    step false = refl

-- the next one does not wait for all yet
module _ (geo : Geometry) (t : Table) (queue : Queue) (q : List Pending) (due : ℕ → Entry → ℕ) (a block : ℕ) (e : Entry) (shows : ShowsAll geo t queue q due) (listed : Contains (queue.lists block) e)
    (free : AreFree queue due a e.id) (done : List ℕ) (w : ℕ) (rest : List ℕ) (all : waiters_of t e.id ≡ done ++ w ∷ rest) where
  pub next_shown : (g : Entry) × Contains (queue.lists (home_of geo (cell_of g.change))) g × (g.id ≡ w)
  next_shown = entry_of (home_of geo) queue q shows.represents w (shows.alive block e w listed (subst (λ l. Contains l w) (sym all) (Contains-append_right done (w ∷ rest) w (contains_head w rest))))

  pub next_lacks : (b : ℕ) (g : Entry) → Contains (queue.lists b) g → g.id ≡ w → IsTrue (eqb b a) → more_all a done due b g < length g.waits
  next_lacks b g m id chosen =
      let count = shows.waiters block b e g listed m in
      let head = occurrences_head w done rest in
      let whole = ap (occurrences g.id) all ∙ ap (λ i. occurrences i (done ++ w ∷ rest)) id in
      let before = ap (λ i. occurrences i done) id in
      let room = free b g m chosen in
      let now = cond-true (eqb b a) (due b g + occurrences g.id done) (due b g) chosen in
      omega (arith, count, head, whole, before, room, now)

-- all of those that waited wait again
pub all_raised : (geo : Geometry) (t : Table) (queue : Queue) (q : List Pending) (due : ℕ → Entry → ℕ) (a block : ℕ) (e : Entry) → ShowsAll geo t queue q due → Contains (queue.lists block) e
    → (done : List ℕ) → waiters_of t e.id ≡ done → (b : ℕ) (g : Entry) → Contains (queue.lists b) g → more_all a done due b g ≡ held a e.id due b g
all_raised geo t queue q due a block e shows listed done all b g m =
    ap (λ n. if eqb b a then due b g + n else due b g) (ap (occurrences g.id) (sym all) ∙ shows.waiters block b e g listed m)
