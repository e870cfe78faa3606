-- What the writes of a block in one epoch take, one after another.
use Rattle.std.proofs.Common.{◌≡◌, ℕ, ◌<◌, ◌+◌, Bool, not, eqb, ◌||◌, List, [], ◌∷◌, ◌++◌, inl, inr, refl, sym, ap, ◌∙◌, subst, IsTrue, Contains, length, arith, eqb-true, eq-eqb, ne_eqb}
use Rattle.std.proofs.lemmas.Bool.{cases_Bool, cond-true, cond-false}
use Rattle.std.proofs.lemmas.List.Elements.{Contains-append_left}
use Rattle.model.specs.Layout.{Geometry}
use Rattle.model.specs.View.{View, view_of}
use Rattle.model.specs.Cells.{put_at, updated}
use Rattle.ordering.specs.Cuts.{Cell, Pending, SameAt, cell_of, seen}
use Rattle.ordering.proofs.CutLemmas.{same_take}
use Rattle.queue_model.specs.Blocks.{home_of}
use Rattle.queue_model.specs.Flush.{ready, taken}
use Rattle.queue_model.specs.Entries.{Entry, Queue, Represents, Stand, AreTaken, NoOtherMayGo, view_after, has_id, may_go, issued, new_entry}
use Rattle.queue_model.proofs.Lists.{all_at, all_from, contains_cases, contains_none}
use Rattle.queue_model.proofs.Listed.{at_within}
use Rattle.queue_model.proofs.TakenLemmas.{all_taken}
use Rattle.power_cut.specs.Epochs.{Shows}
use Rattle.power_cut.specs.Taking.{Turns}
use Rattle.queue_model.proofs.BlockLemmas.{read_from_home}
use Rattle.power_cut.proofs.Unions.{through}

-- ---- the view after more entries

after_more : (durable : View) (es ws : List Entry) → view_after (view_after durable ws) es ≡ view_after durable (es ++ ws)
after_more durable [] ws = refl
after_more durable (e ∷ es) ws = ap (λ v. updated v e.change) (after_more durable es ws)

after_same : (set : Cell → Bool) (v w : View) (es : List Entry) → ((c : Cell) → IsTrue (set c) → SameAt v w c) → (c : Cell) → IsTrue (set c) → SameAt (view_after v es) (view_after w es) c
after_same set v w [] h c t = h c t
after_same set v w (e ∷ es) h c t = same_take set (view_after v es) (view_after w es) e.change (after_same set v w es h) c t

count_more : (es ws : List Entry) → length (es ++ ws) ≡ length es + length ws
count_more [] ws = omega arith
count_more (e ∷ es) ws = let more = count_more es ws in omega (arith, more)

there : (blocks : ℕ → List ℕ) (a b : ℕ) (bytes : List ℕ) → b ≡ a → put_at blocks a bytes b ≡ bytes
there blocks a b bytes e = cond-true (eqb b a) bytes (blocks b) (eq-eqb b a e)

pub later_shows : (geo : Geometry) (durable : View) (queue : Queue) (q : List Pending) (a : ℕ) (ws es : List Entry) (old new : List ℕ) → Represents (home_of geo) queue q
    → AreTaken queue a (es ++ ws) → NoOtherMayGo queue a (es ++ ws) → Shows geo a old (view_after durable ws) → Turns geo a old new (λ v. view_after v es)
    → Shows geo a new (seen durable q (ready (home_of geo) a q)) × (length es + length ws ≡ taken (ready (home_of geo) a q))
later_shows geo durable queue q a ws es old new r taken_ones none shows turns = (
  (λ blocks c e.
      let was = put_at blocks a old in
      let all = all_taken (home_of geo) a queue q r durable (es ++ ws) taken_ones none in
      let at : SameAt (view_of geo (put_at was a new)) (view_after (view_after durable ws) es) c
      = subst (λ v. SameAt v (view_after (view_after durable ws) es) c) (sym (turns was (there blocks a a old refl)))
      (after_same (λ d. eqb (home_of geo d) a) (view_of geo was) (view_after durable ws) es (λ d t. shows blocks d (eqb-true (home_of geo d) a t)) c (eq-eqb (home_of geo c) a e)) in
      through (view_of geo (put_at blocks a new)) (view_of geo (put_at was a new)) (seen durable q (ready (home_of geo) a q)) c
      (read_from_home geo (put_at blocks a new) (put_at was a new) c (there blocks a (home_of geo c) new e ∙ sym (there was a (home_of geo c) new e)))
      (subst (λ v. SameAt (view_of geo (put_at was a new)) v c) (after_more durable es ws ∙ all.0) at)),
  (let all = all_taken (home_of geo) a queue q r durable (es ++ ws) taken_ones none in let count = all.1 in let more = count_more es ws in omega (arith, count, more)),
)

-- the first write of a block in an epoch is over what is durable
pub first_shows : (geo : Geometry) (durable : ℕ → List ℕ) (a : ℕ) → Shows geo a (durable a) (view_of geo durable)
first_shows geo durable a blocks c e = read_from_home geo (put_at blocks a (durable a)) durable c (there blocks a (home_of geo c) (durable a) e ∙ ap durable (sym e))

-- ---- entries that were taken stay so while others are issued

waits_below : (n : ℕ) (es : List Entry) (q : List Pending) (e : Entry) (i : ℕ) → Stand n es q → Contains es e → Contains e.waits i → i < n
waits_below n [] q e i s m w = absurd (contains_none e m)
waits_below n (x ∷ es) [] e i s m w = absurd s
waits_below n (x ∷ es) (u ∷ q) e i s m w = elim (contains_cases x e es m) [
  | inl d ↦ let low = s.0 in let b = subst (λ (y : Entry). Contains y.waits i → i < y.id) d (s.2.before i) w in let same : x.id ≡ e.id = ap (λ (y : Entry). y.id) d in omega (arith, low, b, same)
  | inr k ↦ let low = s.0 in let b = waits_below x.id es q e i s.1 k w in omega (arith, low, b)
]

still_may_go : (home : Cell → ℕ) (u : Pending) (queue : Queue) (q : List Pending) (r : Represents home queue q) (a : ℕ) (set : ℕ → Bool) (e : Entry) → Contains (queue.lists a) e
    → IsTrue (may_go queue.pending set e) → IsTrue (may_go (issued home u queue).pending set e)
still_may_go home u queue q r a set e m t = all_from (λ i. not (eqb i queue.next || queue.pending i) || set i) e.waits (λ i w.
    let b = waits_below queue.next r.entries q e i r.stand (at_within home a r.entries e (subst (λ y. Contains y e) (r.lists a) m)) w in
    subst (λ x. IsTrue (not (x || queue.pending i) || set i)) (sym (ne_eqb i queue.next (λ d. omega (arith, b, d)))) (all_at (λ i. not (queue.pending i) || set i) e.waits i t w))

still_listed : (home : Cell → ℕ) (u : Pending) (queue : Queue) (a : ℕ) (e : Entry) → Contains (queue.lists a) e → Contains ((issued home u queue).lists a) e
still_listed home u queue a e m = elim (cases_Bool (eqb (home (cell_of u.change)) a)) [
  | inl t ↦ subst (λ y. Contains y e) (sym (cond-true (eqb (home (cell_of u.change)) a) (queue.lists a ++ new_entry queue u ∷ []) (queue.lists a) t)) (Contains-append_left (queue.lists a) (new_entry queue u ∷ []) e m)
  | inr f ↦ subst (λ y. Contains y e) (sym (cond-false (eqb (home (cell_of u.change)) a) (queue.lists a ++ new_entry queue u ∷ []) (queue.lists a) f)) m
]

pub still_taken : (home : Cell → ℕ) (u : Pending) (queue : Queue) (q : List Pending) → Represents home queue q → (a : ℕ) (ws : List Entry) → AreTaken queue a ws → AreTaken (issued home u queue) a ws
still_taken home u queue q r a [] t = tt
still_taken home u queue q r a (e ∷ es) t = (still_listed home u queue a e t.0, t.1, still_may_go home u queue q r a (has_id es) e t.0 t.2, still_taken home u queue q r a es t.3)
