-- The bytes that the table has for a block are those of its last pending update, if that was not taken.
use Rattle.std.proofs.Common.{◌≡◌, ℕ, ◌-◌, ◌<◌, Bool, true, false, if◌then◌else◌, List, [], ◌∷◌, inl, inr, Option, Some, None, refl, sym, ap, ◌∙◌, subst, IsTrue, Contains, length, arith, slice_index_or, ◌↔◌}
use Rattle.std.proofs.lemmas.Bool.{cases_Bool, cond-true, cond-false}
use Rattle.std.proofs.lemmas.Option.{none-some, same_Some}
use Rattle.model.specs.Layout.{Geometry}
use Rattle.model.specs.Cells.{Update, SetInode, SetNumber, SetBlock, SetBytes}
use Rattle.ordering.specs.Cuts.{Cell, Record, NumberBit, BlockBit, Block, Pending, IsClosed, same_cell, cell_of, fresh, rest}
use Rattle.ordering.proofs.CutLemmas.{same_cell_eq, was_fresh, is_other}
use Rattle.queue_model.specs.Blocks.{home_of}
use Rattle.queue_model.specs.Entries.{Entry, Queue, Represents, Stand, has_id, marks, last_of}
use Rattle.queue_model.proofs.Lists.{bool_same, contains_head, contains_tail}
use Rattle.queue_model.proofs.Standing.{listed, id_low}
use Rattle.updates.specs.Places.{IsCell, place_of}
use Rattle.softdep_queue.specs.declared.table.Table.{Table}
use Rattle.softdep_queue.specs.Counts.{code}
use Rattle.softdep_queue.specs.Contents.{bytes_of, last_bytes}
use Rattle.softdep_queue.specs.Ties.{Holds, Shows, node_at}
use Rattle.softdep_queue.proofs.LooseCuts.{loose_closed}
use Rattle.softdep_queue.proofs.Taken.{ids, has_to, has_from, reverse_to, reverse_from}

none_last : (n : ℕ) (es : List Entry) (q : List Pending) (a : ℕ) → Stand n es q → last_of es (Block a) ≡ None → last_bytes q a ≡ None
none_last n [] [] a s l = refl
none_last n [] (u ∷ q) a s l = absurd s
none_last n (e ∷ es) [] a s l = absurd s
none_last n (e ∷ es) (u ∷ q) a s l = elim (cases_Bool (same_cell (cell_of e.change) (Block a))) [
  | inl t ↦ absurd (none-some e.id (sym l ∙ cond-true (same_cell (cell_of e.change) (Block a)) (Some e.id) (last_of es (Block a)) t))
  | inr f ↦ cond-false (same_cell (cell_of u.change) (Block a)) (bytes_of u.change) (last_bytes q a) (ap (λ x. same_cell (cell_of x) (Block a)) (sym s.2.change) ∙ f)
      ∙ none_last e.id es q a s.1 (sym (cond-false (same_cell (cell_of e.change) (Block a)) (Some e.id) (last_of es (Block a)) f) ∙ l)
]

some_last : (n : ℕ) (es : List Entry) (q : List Pending) (a i : ℕ) → Stand n es q → last_of es (Block a) ≡ Some i
    → (e : Entry) × Contains es e × (e.id ≡ i) × (cell_of e.change ≡ Block a) × (last_bytes q a ≡ bytes_of e.change)
some_last n [] [] a i s l = absurd (none-some i l)
some_last n [] (u ∷ q) a i s l = absurd s
some_last n (e ∷ es) [] a i s l = absurd s
some_last n (e ∷ es) (u ∷ q) a i s l = elim (cases_Bool (same_cell (cell_of e.change) (Block a))) [
  | inl t ↦ (
    e,
    contains_head e es,
    same_Some e.id i (sym (cond-true (same_cell (cell_of e.change) (Block a)) (Some e.id) (last_of es (Block a)) t) ∙ l),
    same_cell_eq (cell_of e.change) (Block a) t,
    cond-true (same_cell (cell_of u.change) (Block a)) (bytes_of u.change) (last_bytes q a) (ap (λ x. same_cell (cell_of x) (Block a)) (sym s.2.change) ∙ t) ∙ ap bytes_of (sym s.2.change),
  )
  | inr f ↦
      let h = some_last e.id es q a i s.1 (sym (cond-false (same_cell (cell_of e.change) (Block a)) (Some e.id) (last_of es (Block a)) f) ∙ l) in
      (h.0, contains_tail e h.0 es h.1, h.2, h.3, cond-false (same_cell (cell_of u.change) (Block a)) (bytes_of u.change) (last_bytes q a) (ap (λ x. same_cell (cell_of x) (Block a)) (sym s.2.change) ∙ f) ∙ h.4)
]

-- ---- what is left of the updates of a block

none_left : (n : ℕ) (es : List Entry) (q : List Pending) (cut : List Bool) (a : ℕ) → Stand n es q → last_of es (Block a) ≡ None → last_bytes (rest q cut) a ≡ None
none_left n [] [] cut a s l = refl
none_left n [] (u ∷ q) cut a s l = absurd s
none_left n (e ∷ es) [] cut a s l = absurd s
none_left n (e ∷ es) (u ∷ q) cut a s l = elim (cases_Bool (same_cell (cell_of e.change) (Block a))) [
  | inl t ↦ absurd (none-some e.id (sym l ∙ cond-true (same_cell (cell_of e.change) (Block a)) (Some e.id) (last_of es (Block a)) t))
  | inr f ↦
      let none = sym (cond-false (same_cell (cell_of e.change) (Block a)) (Some e.id) (last_of es (Block a)) f) ∙ l in
      step cut (ap (λ x. same_cell (cell_of x) (Block a)) (sym s.2.change) ∙ f) (none_last e.id es q a s.1 none) (λ more. none_left e.id es q more a s.1 none)
]
  where
    step : (cut : List Bool) → same_cell (cell_of u.change) (Block a) ≡ false → last_bytes q a ≡ None → ((more : List Bool) → last_bytes (rest q more) a ≡ None) → last_bytes (rest (u ∷ q) cut) a ≡ None
    step [] other none left = cond-false (same_cell (cell_of u.change) (Block a)) (bytes_of u.change) (last_bytes q a) other ∙ none
    step (true ∷ cut) other none left = left cut
    step (false ∷ cut) other none left = cond-false (same_cell (cell_of u.change) (Block a)) (bytes_of u.change) (last_bytes (rest q cut) a) other ∙ left cut

-- where a cut takes each update of a cell, none of it is left
none_fresh : (q : List Pending) (cut : List Bool) (a : ℕ) → IsClosed q cut → IsTrue (fresh q cut (Block a)) → last_bytes (rest q cut) a ≡ None
none_fresh [] cut a k f = refl
none_fresh (u ∷ q) [] a k f = absurd k
none_fresh (u ∷ q) (true ∷ cut) a k f = none_fresh q cut a k.0 f
none_fresh (u ∷ q) (false ∷ cut) a k f =
    cond-false (same_cell (cell_of u.change) (Block a)) (bytes_of u.change) (last_bytes (rest q cut) a) (apart (same_cell (cell_of u.change) (Block a)) refl)
    ∙ none_fresh q cut a k (was_fresh (fresh q cut) (cell_of u.change) (Block a) f)
  where
    apart : (b : Bool) → same_cell (cell_of u.change) (Block a) ≡ b → same_cell (cell_of u.change) (Block a) ≡ false
    apart true t = absurd (is_other (fresh q cut) (cell_of u.change) (Block a) f (sym (same_cell_eq (cell_of u.change) (Block a) t)))
    apart false t = t

-- the last update of a block was taken, or it is what is left last
some_left : (n : ℕ) (es : List Entry) (q : List Pending) (set : ℕ → Bool) (a i : ℕ) → Stand n es q → IsClosed q (marks set es) → last_of es (Block a) ≡ Some i
    → last_bytes (rest q (marks set es)) a ≡ (if set i then None else last_bytes q a)
some_left n [] [] set a i s k l = absurd (none-some i l)
some_left n [] (u ∷ q) set a i s k l = absurd s
some_left n (e ∷ es) [] set a i s k l = absurd s
some_left n (e ∷ es) (u ∷ q) set a i s k l = elim (cases_Bool (same_cell (cell_of e.change) (Block a))) [
  | inl t ↦
      let id = same_Some e.id i (sym (cond-true (same_cell (cell_of e.change) (Block a)) (Some e.id) (last_of es (Block a)) t) ∙ l) in
      here (set e.id) (ap set id) k (ap (λ x. same_cell (cell_of x) (Block a)) (sym s.2.change) ∙ t)
  | inr f ↦
      let below = sym (cond-false (same_cell (cell_of e.change) (Block a)) (Some e.id) (last_of es (Block a)) f) ∙ l in
      there (set e.id) k (ap (λ x. same_cell (cell_of x) (Block a)) (sym s.2.change) ∙ f) (λ closed. some_left e.id es q set a i s.1 closed below)
]
  where
    here : (b : Bool) → b ≡ set i → IsClosed (u ∷ q) (b ∷ marks set es) → same_cell (cell_of u.change) (Block a) ≡ true → last_bytes (rest (u ∷ q) (b ∷ marks set es)) a ≡ (if set i then None else last_bytes (u ∷ q) a)
    here true is k t =
        none_fresh q (marks set es) a k.0 (subst (λ c. IsTrue (fresh q (marks set es) c)) (same_cell_eq (cell_of u.change) (Block a) t) k.1)
        ∙ sym (cond-true (set i) None (last_bytes (u ∷ q) a) (sym is))
    here false is k t =
        cond-true (same_cell (cell_of u.change) (Block a)) (bytes_of u.change) (last_bytes (rest q (marks set es)) a) t
        ∙ sym (cond-true (same_cell (cell_of u.change) (Block a)) (bytes_of u.change) (last_bytes q a) t)
        ∙ sym (cond-false (set i) None (last_bytes (u ∷ q) a) (sym is))

    there : (b : Bool) → IsClosed (u ∷ q) (b ∷ marks set es) → same_cell (cell_of u.change) (Block a) ≡ false → (IsClosed q (marks set es) → last_bytes (rest q (marks set es)) a ≡ (if set i then None else last_bytes q a))
        → last_bytes (rest (u ∷ q) (b ∷ marks set es)) a ≡ (if set i then None else last_bytes (u ∷ q) a)
    there true k f below =
        below k.0
        ∙ ap (λ (o : Option (List ℕ)). if set i then None else o) (sym (cond-false (same_cell (cell_of u.change) (Block a)) (bytes_of u.change) (last_bytes q a) f))
    there false k f below =
        cond-false (same_cell (cell_of u.change) (Block a)) (bytes_of u.change) (last_bytes (rest q (marks set es)) a) f
        ∙ below k
        ∙ ap (λ (o : Option (List ℕ)). if set i then None else o) (sym (cond-false (same_cell (cell_of u.change) (Block a)) (bytes_of u.change) (last_bytes q a) f))

-- an update of a whole block gives its bytes
gives : (u : Update) (a : ℕ) → cell_of u ≡ Block a → (bytes : List ℕ) × (u ≡ SetBytes a bytes)
gives (SetInode n x) a e = absurd (subst (λ c. IsRecord c) e tt)
  where
    IsRecord : Cell → Type 0
    IsRecord (Record n) = Unit {0}
    IsRecord (NumberBit n) = ⊥
    IsRecord (BlockBit n) = ⊥
    IsRecord (Block n) = ⊥
gives (SetNumber n x) a e = absurd (subst (λ c. IsNumberBit c) e tt)
  where
    IsNumberBit : Cell → Type 0
    IsNumberBit (Record n) = ⊥
    IsNumberBit (NumberBit n) = Unit {0}
    IsNumberBit (BlockBit n) = ⊥
    IsNumberBit (Block n) = ⊥
gives (SetBlock n x) a e = absurd (subst (λ c. IsBlockBit c) e tt)
  where
    IsBlockBit : Cell → Type 0
    IsBlockBit (Record n) = ⊥
    IsBlockBit (NumberBit n) = ⊥
    IsBlockBit (BlockBit n) = Unit {0}
    IsBlockBit (Block n) = ⊥
gives (SetBytes n bytes) a e = (bytes, ap (λ m. SetBytes m bytes) (ap number e))
  where
    number : Cell → ℕ
    number (Record n) = n
    number (NumberBit n) = n
    number (BlockBit n) = n
    number (Block n) = n

module _ (geo : Geometry) (t : Table) (queue : Queue) (q : List Pending) (loose : List Bool) (holds : Holds geo t queue q loose) (a : ℕ) (is : IsCell geo (Block a)) where
  abbrev home : Cell → ℕ
  home = home_of geo

  abbrev r : Represents (home_of geo) queue q
  r = holds.takes.ties.represents

  value : slice_index_or t.latest.items (place_of geo (Block a)) 0 ≡ code (queue.last (Block a))
  value = holds.takes.ties.latest (Block a) is

  pub no_contents : slice_index_or t.latest.items (place_of geo (Block a)) 0 ≡ 0 → last_bytes (rest q loose) a ≡ None
  no_contents z = none_left queue.next r.entries q loose a r.stand (sym (r.last (Block a)) ∙ none (queue.last (Block a)) (sym value ∙ z))
    where
      none : (o : Option ℕ) → code o ≡ 0 → o ≡ None
      none None e = refl
      none (Some i) e = absurd (omega (arith, e))

  module _ (last : ℕ) (read : last ≡ slice_index_or t.latest.items (place_of geo (Block a)) 0) (some : last ≡ 0 → ⊥) where
    is_last : queue.last (Block a) ≡ Some (last - 1)
    is_last = step (queue.last (Block a)) (read ∙ value)
      where
        step : (o : Option ℕ) → last ≡ code o → o ≡ Some (last - 1)
        step None e = absurd (some e)
        step (Some i) e = ap Some (let d : i ≡ last - 1 = omega (arith, e) in d)

    found : (e : Entry) × Contains r.entries e × (e.id ≡ last - 1) × (cell_of e.change ≡ Block a) × (last_bytes q a ≡ bytes_of e.change)
    found = some_last queue.next r.entries q a (last - 1) r.stand (sym (r.last (Block a)) ∙ is_last)

    here : Contains (queue.lists (home_of geo (cell_of found.0.change))) found.0
    here = listed home queue q r found.0 found.1

    pub last_low : last - 1 < length t.nodes.items
    last_low = let l = id_low home queue q r (home (cell_of found.0.change)) found.0 here in let n = holds.takes.ties.next in let d = found.2 in omega (arith, l, n, d)

    -- the node says whether it was taken
    flag : (node_at t.nodes.items (last - 1)).taken ≡ has_id holds.written (last - 1)
    flag = subst (λ i. (node_at t.nodes.items i).taken ≡ has_id holds.written i) found.2 (bool_same (node_at t.nodes.items found.0.id).taken (has_id holds.written found.0.id)
        (λ t. has_from holds.written found.0.id (reverse_from (ids holds.written) found.0.id (subst (λ l. Contains l found.0.id) holds.takes.taken (both.0 t))))
        (λ t. both.1 (subst (λ l. Contains l found.0.id) (sym holds.takes.taken) (reverse_to (ids holds.written) found.0.id (has_to holds.written found.0.id t)))))
      where
        both : IsTrue (node_at t.nodes.items found.0.id).taken ↔ Contains t.taken.items found.0.id
        both = holds.takes.ties.flags (home (cell_of found.0.change)) found.0 here

    left : last_bytes (rest q loose) a ≡ (if has_id holds.written (last - 1) then None else last_bytes q a)
    left = subst (λ cut. last_bytes (rest q cut) a ≡ (if has_id holds.written (last - 1) then None else last_bytes q a)) holds.cut
        (some_left queue.next r.entries q (has_id holds.written) a (last - 1) r.stand (loose_closed home queue q r holds.written holds.takes.each) (sym (r.last (Block a)) ∙ is_last))

    pub taken_last : (node_at t.nodes.items (last - 1)).taken ≡ true → last_bytes (rest q loose) a ≡ None
    taken_last t = left ∙ cond-true (has_id holds.written (last - 1)) None (last_bytes q a) (sym flag ∙ t)

    -- the node has these very bytes
    pub last_shows : (node_at t.nodes.items (last - 1)).taken ≡ false → (bytes : List ℕ) × Shows (node_at t.nodes.items (last - 1)).update (SetBytes a bytes) × (last_bytes (rest q loose) a ≡ Some bytes)
    last_shows f =
        let g = gives found.0.change a found.3 in
        let node = holds.takes.ties.node (home (cell_of found.0.change)) found.0 here in (
          g.0,
          subst (λ i. Shows (node_at t.nodes.items i).update (SetBytes a g.0)) found.2 (subst (Shows (node_at t.nodes.items found.0.id).update) g.1 node.change),
          left ∙ cond-false (has_id holds.written (last - 1)) None (last_bytes q a) (sym flag ∙ f) ∙ found.4 ∙ ap bytes_of g.1,
        )
