-- No entry waits any more for what was taken.
use Rattle.std.proofs.Common.{◌≡◌, ℕ, ◌+◌, ◌-◌, ◌<◌, ◌≤◌, Bool, true, false, not, ◌&&◌, ◌||◌, eqb, List, [], ◌∷◌, ◌++◌, inl, inr, refl, sym, ap, ap₂, ◌∙◌, subst, IsTrue, IsFalse, Contains, length, reverse, arith, get_or, eqb-true, eq-eqb, ne_eqb, length-append, append-nil}
use Rattle.std.proofs.lemmas.Bool.{cases_eq, cond-true, cond-false, not-true, or_left, or_right, both_ways}
use Rattle.std.proofs.lemmas.List.{reverse-append, length-map, length-reverse, map-append, get_or_append_left, get_or_default}
use Rattle.std.proofs.Math.Seq.{get_or-append_seam}
use Rattle.model.specs.Layout.{Geometry}
use Rattle.ordering.specs.Cuts.{Cell, Pending, cell_of}
use Rattle.queue_model.specs.Blocks.{home_of}
use Rattle.queue_model.specs.Entries.{Entry, Queue, has_id}
use Rattle.queue_model.proofs.Standing.{is_pending}
use Rattle.softdep_queue.specs.declared.table.Table.{Table}
use Rattle.softdep_queue.specs.Counts.{occurrences, count_in}
use Rattle.softdep_queue.specs.Ties.{Ties, Takes, WereTaken, of_block, due_after}
use Rattle.softdep_queue.specs.Lowering.{released, AreWaiting}
use Rattle.softdep_queue.specs.Retiring.{due_without, due_partly}
use Rattle.softdep_queue.proofs.Counting.{count_same, taken_one}
use Rattle.softdep_queue.proofs.MoreCounts.{has_append}
use Rattle.softdep_queue.proofs.Blocks.{has_of, own_of, apart_of}
use Rattle.softdep_queue.proofs.Steps.{ties_due}
use Rattle.softdep_queue.proofs.Taken.{ids, reverse_cons}

-- the place of an id among what was taken
pub id_at : (done rest : List Entry) (e : Entry) → get_or (reverse (ids (done ++ e ∷ rest))) (length rest) 0 ≡ e.id
id_at done rest e =
    ap (λ l. get_or l (length rest) 0)
    (ap reverse (map-append (λ (x : Entry). x.id) done (e ∷ rest)) ∙ reverse-append (ids done) (e.id ∷ ids rest) ∙ ap (λ l. l ++ reverse (ids done)) (reverse_cons e.id (ids rest)))
    ∙ get_or_append_left (reverse (ids rest) ++ e.id ∷ []) (reverse (ids done)) 0 (length rest) (omega (arith, long, length-append (reverse (ids rest)) (e.id ∷ [])))
    ∙ ap (λ n. get_or (reverse (ids rest) ++ e.id ∷ []) n 0) (sym long) ∙ get_or-append_seam (reverse (ids rest)) e.id [] 0
  where
    long : length (reverse (ids rest)) ≡ length rest
    long = length-reverse (ids rest) ∙ length-map rest (λ (x : Entry). x.id)

pub id_found : (t : Table) (es done rest : List Entry) (e : Entry) → t.taken.items ≡ reverse (ids es) → es ≡ done ++ e ∷ rest → get_or t.taken.items (length rest) 0 ≡ e.id
id_found t es done rest e taken is = ap (λ l. get_or l (length rest) 0) (taken ∙ ap (λ l. reverse (ids l)) is) ∙ id_at done rest e

pub taken_back : (home : Cell → ℕ) (queue : Queue) (done rest : List Entry) → WereTaken home queue (done ++ rest) → WereTaken home queue rest
taken_back home queue [] rest each = each
taken_back home queue (x ∷ done) rest each = taken_back home queue done rest each.3

pub listed_at : (home : Cell → ℕ) (queue : Queue) (done rest : List Entry) (e : Entry) → WereTaken home queue (done ++ e ∷ rest) → Contains (queue.lists (home (cell_of e.change))) e
listed_at home queue done rest e each = (taken_back home queue done (e ∷ rest) each).0

has_among : (done rest : List Entry) (e : Entry) → IsTrue (has_id (done ++ e ∷ rest) e.id)
has_among [] rest e = or_left (eqb e.id e.id) (has_id rest e.id) (eq-eqb e.id e.id refl)
has_among (x ∷ done) rest e = or_right (eqb e.id x.id) (has_id (done ++ e ∷ rest) e.id) (has_among done rest e)

pub not_done : (home : Cell → ℕ) (queue : Queue) (done rest : List Entry) (e : Entry) → WereTaken home queue (done ++ e ∷ rest) → IsFalse (has_id done e.id)
not_done home queue [] rest e each = refl
not_done home queue (x ∷ done) rest e each = elim (cases_eq e.id x.id) [
  | inl d ↦ absurd (both_ways (has_id (done ++ e ∷ rest) x.id) each.1 (ap (has_id (done ++ e ∷ rest)) (sym d) ∙ has_among done rest e))
  | inr d ↦ ap (λ b. b || has_id done e.id) (ne_eqb e.id x.id d) ∙ not_done home queue done rest e each.3
]

pub has_push : (done : List Entry) (e : Entry) (i : ℕ) → has_id (done ++ e ∷ []) i ≡ has_id (e ∷ done) i
has_push [] e i = refl
has_push (x ∷ done) e i = ap (λ b. eqb i x.id || b) (has_push done e i) ∙ swap (eqb i x.id) (eqb i e.id) (has_id done i)
  where
    swap : (a b c : Bool) → (a || (b || c)) ≡ (b || (a || c))
    swap true true c = refl
    swap true false c = refl
    swap false b c = refl

-- ---- the loop

module _ (geo : Geometry) (t : Table) (queue : Queue) (q : List Pending) (ws : List Entry) where
  abbrev own : ℕ → List Entry
  own b = of_block (home_of geo) b ws

  pub begins : Takes geo t queue q ws → Ties geo t queue q (due_partly (home_of geo) queue ws [])
  begins takes = ties_due geo t queue q (due_after (home_of geo) queue ws) (due_partly (home_of geo) queue ws [])
      (λ b f m. ap (λ l. count_in (λ i. queue.pending i && not (has_id l i)) f.waits) (sym (append-nil (own b)))) takes.ties

  pub ends : (done : List Entry) → ws ≡ done → Ties geo t queue q (due_partly (home_of geo) queue ws done) → Ties geo t queue q (due_without queue ws)
  ends done is ties = ties_due geo t queue q (due_partly (home_of geo) queue ws done) (due_without queue ws) due ties
    where
      all : (b i : ℕ) → has_id (own b ++ done) i ≡ has_id ws i
      all b i = ap (λ l. has_id (own b ++ l) i) (sym is) ∙ has_append (own b) ws i ∙ step (has_id (own b) i) (has_id ws i) (has_of (home_of geo) b ws i)
        where
          step : (x y : Bool) → (IsTrue x → IsTrue y) → (x || y) ≡ y
          step true y h = sym (h refl)
          step false y h = refl

      due : (b : ℕ) (f : Entry) → Contains (queue.lists b) f → due_partly (home_of geo) queue ws done b f ≡ due_without queue ws b f
      due b f m = count_same (λ i. queue.pending i && not (has_id (own b ++ done) i)) (λ i. queue.pending i && not (has_id ws i)) (λ i. ap (λ h. queue.pending i && not h) (all b i)) f.waits

  module _ (done rest : List Entry) (e : Entry) (is : ws ≡ done ++ e ∷ rest) (each : WereTaken (home_of geo) queue ws) (ties : Ties geo t queue q (due_partly (home_of geo) queue ws done)) where
    abbrev block : ℕ
    block = home_of geo (cell_of e.change)

    each_at : WereTaken (home_of geo) queue (done ++ e ∷ rest)
    each_at = subst (WereTaken (home_of geo) queue) is each

    pub next_listed : Contains (queue.lists (home_of geo (cell_of e.change))) e
    next_listed = listed_at (home_of geo) queue done rest e each_at

    fresh : (b : ℕ) → (b ≡ block → ⊥) → IsFalse (has_id (own b ++ done) e.id)
    fresh b d = has_append (own b) done e.id ∙ ap₂ (λ x y. x || y) (apart_of (home_of geo) queue q ties.represents ws each block b e next_listed d) (not_done (home_of geo) queue done rest e each_at)

    count : (b : ℕ) → (b ≡ block → ⊥) → (xs : List ℕ) → count_in (λ i. queue.pending i && not (has_id (e ∷ own b ++ done) i)) xs + occurrences e.id xs ≡ count_in (λ i. queue.pending i && not (has_id (own b ++ done) i)) xs
    count b d xs = taken_one queue.pending (own b ++ done) e (is_pending (home_of geo) queue q ties.represents block e next_listed) (fresh b d) xs

    pub next_waits : AreWaiting queue (due_partly (home_of geo) queue ws done) (home_of geo (cell_of e.change)) false e.id
    next_waits b f m chosen = let c = count b (λ d. both_ways (eqb b block) (not-true (eqb b block) chosen) (eq-eqb b block d)) f.waits in omega (arith, c)

    module _ (t2 : Table) where
      pub next_ties : Ties geo t2 queue q (released (home_of geo (cell_of e.change)) false e.id (due_partly (home_of geo) queue ws done)) → Ties geo t2 queue q (due_partly (home_of geo) queue ws (done ++ e ∷ []))
      next_ties lowered = ties_due geo t2 queue q (released block false e.id (due_partly (home_of geo) queue ws done)) (due_partly (home_of geo) queue ws (done ++ e ∷ [])) due lowered
        where
          last : (b i : ℕ) → has_id (own b ++ (done ++ e ∷ [])) i ≡ (has_id (own b) i || (eqb i e.id || has_id done i))
          last b i = has_append (own b) (done ++ e ∷ []) i ∙ ap (λ x. has_id (own b) i || x) (has_push done e i)

          -- in its own block nothing waited for it
          here : (b : ℕ) (f : Entry) → b ≡ block → due_partly (home_of geo) queue ws done b f ≡ due_partly (home_of geo) queue ws (done ++ e ∷ []) b f
          here b f at = count_same (λ i. queue.pending i && not (has_id (own b ++ done) i)) (λ i. queue.pending i && not (has_id (own b ++ (done ++ e ∷ [])) i)) (λ i. ap (λ h. queue.pending i && not h)
              (has_append (own b) done i ∙ step (has_id (own b) i) (eqb i e.id) (has_id done i) (λ same. ap (has_id (own b)) (eqb-true i e.id same) ∙ mine) ∙ sym (last b i))) f.waits
            where
              mine : IsTrue (has_id (own b) e.id)
              mine = own_of (home_of geo) queue q ties.represents ws each b e (subst (λ k. Contains (queue.lists k) e) (sym at) next_listed) (ap (λ l. has_id l e.id) is ∙ has_among done rest e)

              step : (x y z : Bool) → (IsTrue y → IsTrue x) → (x || z) ≡ (x || (y || z))
              step true y z h = refl
              step false true z h = absurd (let bad : false ≡ true = h refl in cc)
              step false false z h = refl

          there : (b : ℕ) (f : Entry) → (b ≡ block → ⊥) → due_partly (home_of geo) queue ws done b f - occurrences e.id f.waits ≡ due_partly (home_of geo) queue ws (done ++ e ∷ []) b f
          there b f d =
              let c = count b d f.waits in
              let same = count_same (λ i. queue.pending i && not (has_id (e ∷ own b ++ done) i)) (λ i. queue.pending i && not (has_id (own b ++ (done ++ e ∷ [])) i)) (λ i. ap (λ h. queue.pending i && not h)
              (ap (λ x. eqb i e.id || x) (has_append (own b) done i) ∙ swap (eqb i e.id) (has_id (own b) i) (has_id done i) ∙ sym (last b i))) f.waits in
              omega (arith, c, same)
            where
              swap : (x y z : Bool) → (x || (y || z)) ≡ (y || (x || z))
              swap true true z = refl
              swap true false z = refl
              swap false y z = refl

          due : (b : ℕ) (f : Entry) → Contains (queue.lists b) f → released block false e.id (due_partly (home_of geo) queue ws done) b f ≡ due_partly (home_of geo) queue ws (done ++ e ∷ []) b f
          due b f m = elim (cases_eq b block) [
            | inl d ↦ cond-false (not (eqb b block)) (due_partly (home_of geo) queue ws done b f - occurrences e.id f.waits) (due_partly (home_of geo) queue ws done b f) (ap not (eq-eqb b block d)) ∙ here b f d
            | inr d ↦ cond-true (not (eqb b block)) (due_partly (home_of geo) queue ws done b f - occurrences e.id f.waits) (due_partly (home_of geo) queue ws done b f) (ap not (ne_eqb b block d)) ∙ there b f d
          ]

-- the next of what is left
pub next_of : (es done rest : List Entry) (left : ℕ) → es ≡ done ++ rest → length rest ≡ left → 0 < left → (e : Entry) × (others : List Entry) × (es ≡ done ++ e ∷ others) × (length others ≡ left - 1)
next_of es done [] left is count some = absurd (omega (arith, count, some))
next_of es done (e ∷ others) left is count some = (e, others, is, omega (arith, count))

-- its id stands at its place
pub number_is : (t : Table) (es done others : List Entry) (e : Entry) (place number : ℕ) → t.taken.items ≡ reverse (ids es) → es ≡ done ++ e ∷ others → length others ≡ place → number ≡ get_or t.taken.items place number → e.id ≡ number
number_is t es done others e place number taken is at read =
    sym (read ∙ get_or_default t.taken.items place number 0 low ∙ ap (λ n. get_or t.taken.items n 0) (sym at) ∙ id_found t es done others e taken is)
  where
    low : place < length t.taken.items
    low =
        let l = ap length taken in
        let r = length-reverse (ids es) in
        let m = length-map es (λ (x : Entry). x.id) in
        let n = ap length is in
        let k = length-append done (e ∷ others) in
        omega (arith, l, r, m, n, k, at)

pub no_more : (rest : List Entry) (left : ℕ) → length rest ≡ left → left ≤ 0 → rest ≡ []
no_more [] left count none = refl
no_more (e ∷ rest) left count none = absurd (omega (arith, count, none))
