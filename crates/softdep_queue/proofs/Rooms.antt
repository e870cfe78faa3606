-- A table that has got more room, and one in which nothing is pending, holds what it held.
use Rattle.std.proofs.Common.{◌≡◌, ℕ, ◌≤◌, Bool, List, [], ◌∷◌, inl, inr, refl, sym, ap, ap₂, ◌∙◌, subst, Contains, length, map, reverse, arith, slice_index_or}
use Rattle.std.specs.Vec.{vec_capacity}
use Rattle.model.specs.Layout.{Geometry, block_count}
use Rattle.ordering.specs.Cuts.{Pending, cell_of}
use Rattle.queue_model.specs.Blocks.{home_of}
use Rattle.queue_model.specs.Entries.{Entry, Queue, empty_queue, has_id}
use Rattle.queue_model.proofs.Lists.{contains_none}
use Rattle.queue_model.proofs.Represented.{none_listed_of_none, begun_anew, empty_represents}
use Rattle.updates.specs.Places.{place_of, place_count}
use Rattle.lists.specs.Chains.{walk}
use Rattle.lists.specs.Stacks.{stack_at, count_of, room_of}
use Rattle.softdep_queue.specs.declared.table.Node.{Node}
use Rattle.softdep_queue.specs.declared.table.Table.{Table}
use Rattle.softdep_queue.specs.Counts.{occurrences}
use Rattle.softdep_queue.specs.Ties.{Holds, Takes, WereTaken, IsNodeOf, Shows, due_after, node_at, shown_by, waiters_of}
use Rattle.softdep_queue.proofs.Falling.{marks_of, marks_nothing}

-- the same but for more room
pub record IsRoomier (t t' : Table) : Type 0 where
  pub nodes : t'.nodes.items ≡ t.nodes.items
  pub links : t'.chains.links ≡ t.chains.links
  pub stacks : (b : ℕ) → stack_at t'.ready b ≡ stack_at t.ready b
  pub count : count_of t'.ready ≡ count_of t.ready
  pub room : room_of t.ready ≤ room_of t'.ready
  pub taken : t'.taken.items ≡ t.taken.items
  pub spare : vec_capacity t.taken ≤ vec_capacity t'.taken
  pub latest : t'.latest ≡ t.latest
  pub pending : t'.pending ≡ t.pending

module _ (t t' : Table) (roomier : IsRoomier t t') where
  same_node : (i : ℕ) → node_at t'.nodes.items i ≡ node_at t.nodes.items i
  same_node i = ap (λ l. node_at l i) roomier.nodes

  same_waiters : (i : ℕ) → waiters_of t' i ≡ waiters_of t i
  same_waiters i = ap₂ (λ l (n : Node). walk l n.waiters n.waiters) roomier.links (same_node i)

  node_kept : (geo : Geometry) (b : ℕ) (e : Entry) (due : ℕ) → IsNodeOf geo t b e due → IsNodeOf geo t' b e due
  node_kept geo b e due node =
      let same = same_node e.id in
      let links = ap length roomier.links in
      let waiters = ap (λ (n : Node). n.waiters) same in
      let chain = node.chain in
      record {
        home = ap (λ (n : Node). n.home) same ∙ node.home;
        on_volume = node.on_volume;
        change = subst (λ (n : Node). Shows n.update e.change) (sym same) node.change;
        cell = node.cell;
        fits = node.fits;
        waiting = ap (λ (n : Node). n.waiting) same ∙ node.waiting;
        few = node.few;
        chain = omega (arith, links, waiters, chain);
      }

  pub still_takes : (geo : Geometry) (queue : Queue) (q : List Pending) (ws : List Entry) → Takes geo t queue q ws → Takes geo t' queue q ws
  still_takes geo queue q ws takes =
      let ties = takes.ties in
      let nodes = ap length roomier.nodes in
      let room = ties.room in
      let more = roomier.room in
      let spare = ties.spare in
      let grown = roomier.spare in
      record {
        ties = record {
          represents = ties.represents;
          shown = ap (λ l. shown_by l (length l)) roomier.nodes ∙ ties.shown;
          cells = ties.cells;
          next = ties.next ∙ sym nodes;
          node = λ b e m. node_kept geo b e (due_after (home_of geo) queue ws b e) (ties.node b e m);
          waiters = λ b c e f m n. ap (occurrences f.id) (same_waiters e.id) ∙ ties.waiters b c e f m n;
          alive = λ b e i m o. ties.alive b e i m (subst (λ l. Contains l i) (same_waiters e.id) o);
          ready = λ b e m. let r = ties.ready b e m in (
            (λ x. r.0 (elim x [ inl s ↦ inl (subst (λ l. Contains l e.id) (roomier.stacks b) s) | inr k ↦ inr (subst (λ l. Contains l e.id) roomier.taken k) ])),
            (λ z. elim (r.1 z) [ inl s ↦ inl (subst (λ l. Contains l e.id) (sym (roomier.stacks b)) s) | inr k ↦ inr (subst (λ l. Contains l e.id) (sym roomier.taken) k) ]),
          );
          flags = λ b e m. let f = ties.flags b e m in let same = ap (λ (n : Node). n.taken) (same_node e.id) in (
            (λ x. subst (λ l. Contains l e.id) (sym roomier.taken) (f.0 (sym same ∙ x))),
            (λ x. same ∙ f.1 (subst (λ l. Contains l e.id) roomier.taken x)),
          );
          stacked = λ b i m. let s = ties.stacked b i (subst (λ l. Contains l i) (roomier.stacks b) m) in (s.0, s.1, s.2, λ o. s.3 (subst (λ l. Contains l i) roomier.taken o));
          latest = λ c is. ap (λ v. slice_index_or v.items (place_of geo c) 0) roomier.latest ∙ ties.latest c is;
          places = ap (λ v. length v.items) roomier.latest ∙ ties.places;
          blocks = roomier.count ∙ ties.blocks;
          pending = roomier.pending ∙ ties.pending;
          room = omega (arith, nodes, room, more);
          spare = omega (arith, nodes, spare, grown);
        };
        taken = roomier.taken ∙ takes.taken;
        each = takes.each;
      }

  pub still_holds : (geo : Geometry) (queue : Queue) (q : List Pending) (loose : List Bool) → Holds geo t queue q loose → Holds geo t' queue q loose
  still_holds geo queue q loose holds =
      let now = still_takes geo queue q holds.written holds.takes in
      record { written = holds.written; takes = now; cut = marks_of (home_of geo) queue (has_id holds.written) q now.ties.represents holds.takes.ties.represents ∙ holds.cut }

-- ---- nothing is pending

-- the same but that all nodes and links are forgotten
pub record IsEmptied (t t' : Table) : Type 0 where
  pub nodes : t'.nodes.items ≡ []
  pub ready : t'.ready ≡ t.ready
  pub taken : t'.taken ≡ t.taken
  pub latest : t'.latest ≡ t.latest
  pub pending : t'.pending ≡ t.pending

none_of : (q : List Pending) → length q ≡ 0 → q ≡ []
none_of [] z = refl
none_of (u ∷ q) z = absurd (omega (arith, z))

module _ (t t' : Table) (emptied : IsEmptied t t') (none : t.pending ≡ 0) (geo : Geometry) (queue : Queue) where
  held_nothing : (q : List Pending) (loose : List Bool) → Holds geo t queue q loose → q ≡ []
  held_nothing q loose holds = none_of q (sym holds.takes.ties.pending ∙ none)

  holds_nothing : (loose : List Bool) → Holds geo t queue [] loose → Holds geo t' (record queue { next = 0 }) [] loose
  holds_nothing loose holds =
      let ties = holds.takes.ties in
      let length_none = ap length emptied.nodes in
      let anew = begun_anew (home_of geo) queue 0 ties.represents in
      record {
        written = [];
        takes = record {
          ties = record {
            represents = anew;
            shown = ap (λ l. shown_by l (length l)) emptied.nodes;
            cells = ties.cells;
            next = sym length_none;
            node = λ b e m. absurd (nobody b e m);
            waiters = λ b c e f m n. absurd (nobody b e m);
            alive = λ b e i m o. absurd (nobody b e m);
            ready = λ b e m. absurd (nobody b e m);
            flags = λ b e m. absurd (nobody b e m);
            stacked = λ b i m. let s = ties.stacked b i (subst (λ v. Contains (stack_at v b) i) emptied.ready m) in absurd (nobody b s.0 s.1);
            latest = λ c is. ap (λ v. slice_index_or v.items (place_of geo c) 0) emptied.latest ∙ ties.latest c is;
            places = ap (λ v. length v.items) emptied.latest ∙ ties.places;
            blocks = ap count_of emptied.ready ∙ ties.blocks;
            pending = emptied.pending ∙ ties.pending;
            room = omega (arith, length_none);
            spare = omega (arith, length_none);
          };
          taken = ap (λ v. v.items) emptied.taken ∙ holds.takes.taken ∙ ap (λ ws. reverse (map (λ (e : Entry). e.id) ws)) (none_written holds.written holds.takes.each);
          each = tt;
        };
        cut = marks_nothing (has_id []) (has_id holds.written) 0 queue.next anew.entries ties.represents.entries anew.stand ties.represents.stand ∙ holds.cut;
      }
    where
      nobody : (b : ℕ) (e : Entry) → Contains (queue.lists b) e → ⊥
      nobody b e m = contains_none e (subst (λ l. Contains l e) (none_listed_of_none (home_of geo) queue holds.takes.ties.represents b) m)

      none_written : (ws : List Entry) → WereTaken (home_of geo) queue ws → ws ≡ []
      none_written [] each = refl
      none_written (e ∷ ws) each = absurd (nobody (home_of geo (cell_of e.change)) e each.0)

  pub begins_anew : (q : List Pending) (loose : List Bool) → Holds geo t queue q loose → Holds geo t' (record queue { next = 0 }) q loose
  begins_anew q loose holds =
      let empty = held_nothing q loose holds in
      subst (λ l. Holds geo t' (record queue { next = 0 }) l loose) (sym empty) (holds_nothing loose (subst (λ l. Holds geo t queue l loose) empty holds))

-- ---- a table that was just made

pub holds_none : (geo : Geometry) (t : Table) → t.nodes.items ≡ [] → ((b : ℕ) → stack_at t.ready b ≡ []) → t.taken.items ≡ [] → t.pending ≡ 0 → count_of t.ready ≡ block_count geo → length t.latest.items ≡ place_count geo
    → ((k : ℕ) → slice_index_or t.latest.items k 0 ≡ 0) → Holds geo t empty_queue [] []
holds_none geo t nodes stacks taken pending blocks places latest =
    let empty = empty_represents (home_of geo) in
    let none = ap length nodes in
    record {
      written = [];
      takes = record {
        ties = record {
          represents = empty;
          shown = ap (λ l. shown_by l (length l)) nodes;
          cells = λ u m. absurd (contains_none u m);
          next = sym none;
          node = λ b e m. absurd (contains_none e m);
          waiters = λ b c e f m n. absurd (contains_none e m);
          alive = λ b e i m o. absurd (contains_none e m);
          ready = λ b e m. absurd (contains_none e m);
          flags = λ b e m. absurd (contains_none e m);
          stacked = λ b i m. absurd (contains_none i (subst (λ l. Contains l i) (stacks b) m));
          latest = λ c is. latest (place_of geo c);
          places = places;
          blocks = blocks;
          pending = pending;
          room = omega (arith, none);
          spare = omega (arith, none);
        };
        taken = taken;
        each = tt;
      };
      cut = marks_nothing (has_id []) (has_id []) 0 0 empty.entries [] empty.stand tt;
    }
