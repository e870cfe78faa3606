-- What all workers have done, once all are back.
use Rattle.std.proofs.Common.{◌≡◌, ℕ, suc, ◌+◌, ◌<◌, ◌≤◌, true, List, [], ◌∷◌, length, Some, slice_get, refl, sym, ap, ap₂, ◌∙◌, subst, arith, All, Global}
use Rattle.std.specs.declared.collections.VecDeque.{VecDeque}
use Rattle.std.proofs.lemmas.Option.{slice_get_within, slice_get-get_or}
use Rattle.claims.specs.Counting.{one_if, times, total, once_below}
use Rattle.claims.specs.Seats.{Claimed, Seated, AreBack, all_ended}
use Rattle.workers.specs.Turns.{Runs, units_in, IsRising, HasDone, AreDealt, AreDone}
use Rattle.workers.proofs.ListLemmas.{slice_get-is}
use Rattle.workers.proofs.MergeLemmas.{total-at}

-- sums over two lists that agree place by place
total-pairs : {A B : Type 0} (f : A → ℕ) (g : B → ℕ) (xs : List A) (ys : List B) → length xs ≡ length ys
    → ((i : ℕ) (a : A) (b : B) → slice_get xs i ≡ Some a → slice_get ys i ≡ Some b → f a ≡ g b) → total f xs ≡ total g ys
total-pairs f g [] [] same agree = refl
total-pairs f g [] (y ∷ ys) same agree = absurd (omega arith)
total-pairs f g (x ∷ xs) [] same agree = absurd (omega arith)
total-pairs f g (x ∷ xs) (y ∷ ys) same agree = ap₂ (λ a b. a + b) (agree 0 x y refl refl) (total-pairs f g xs ys (omega arith) (λ i a b h k. agree (suc i) a b h k))

module _ {W P : Type 0} (gives : W → ℕ → P → W → Type 0) (claimed : Claimed) (befores : List W) (lists : List (VecDeque (ℕ × P) Global)) (seats : List Seated) (afters : List W)
    (m : length lists ≡ length befores) (n : length seats ≡ length befores) (o : length afters ≡ length befores)
    (done : (w : ℕ) (before : W) (list : VecDeque (ℕ × P) Global) (seat : Seated) (after : W) → slice_get befores w ≡ Some before → slice_get lists w ≡ Some list → slice_get seats w ≡ Some seat
    → slice_get afters w ≡ Some after → HasDone gives claimed before list.items after seat) where
  -- what is known of a list and of its seat
  of_list : (w : ℕ) (list : VecDeque (ℕ × P) Global) (seat : Seated) → slice_get lists w ≡ Some list → slice_get seats w ≡ Some seat
      → (seat.of ≡ claimed.id) × (seat.drawn ≡ units_in list.items) × IsRising (units_in list.items) × (seat.ended ≡ true)
  of_list w list seat h k =
      let below = subst (λ (i : ℕ). w < i) m (slice_get_within lists w list h) in
      let before = slice_get-is befores w below in
      let after = slice_get-is afters w (subst (λ (i : ℕ). w < i) (sym o) below) in
      let d = done w before.0 list seat after.0 before.1 h k after.1 in
      (d.own, d.drawn, d.rising, d.ended)

  list_at : (w : ℕ) → w < length seats → (list : VecDeque (ℕ × P) Global) × (slice_get lists w ≡ Some list)
  list_at w below = slice_get-is lists w (subst (λ (i : ℕ). w < i) (n ∙ sym m) below)

  seat_at : (w : ℕ) (list : VecDeque (ℕ × P) Global) → slice_get lists w ≡ Some list → (seat : Seated) × (slice_get seats w ≡ Some seat)
  seat_at w list h = slice_get-is seats w (subst (λ (i : ℕ). w < i) (m ∙ sym n) (slice_get_within lists w list h))

  pub all_own : All (λ (s : Seated). s.of ≡ claimed.id) seats
  all_own k d within =
      let list = list_at k within in
      (of_list k list.0 _ list.1 (slice_get-get_or seats k d within)).0

  pub all_rising : (w : ℕ) (list : VecDeque (ℕ × P) Global) → slice_get lists w ≡ Some list → IsRising (units_in list.items)
  all_rising w list h = let seat = seat_at w list h in (of_list w list seat.0 h seat.1).2

  some_ended : 0 < length befores → 0 < all_ended seats
  some_ended someone =
      let seat = slice_get-is seats 0 (subst (λ (i : ℕ). 0 < i) (sym n) someone) in
      let list = list_at 0 (subst (λ (i : ℕ). 0 < i) (sym n) someone) in
      let ended = ap one_if (of_list 0 list.0 seat.0 list.1 seat.1).3 in
      let all = total-at (λ (s : Seated). one_if s.ended) seats 0 seat.0 seat.1 in
      one_of (one_if seat.0.ended) (all_ended seats) ended all
    where
      one_of : (a t : ℕ) → a ≡ 1 → a ≤ t → 0 < t
      one_of a t e less = omega arith

  pub each_once : (units : ℕ) → 0 < length befores → AreBack claimed seats → claimed.units ≡ units → (unit : ℕ) → total (λ (q : VecDeque (ℕ × P) Global). times unit (units_in q.items)) lists ≡ once_below units unit
  each_once units someone back same unit =
      total-pairs (λ (q : VecDeque (ℕ × P) Global). times unit (units_in q.items)) (λ (s : Seated). times unit s.drawn) lists seats (m ∙ sym n) (λ i list seat h k. ap (times unit) (sym (of_list i list seat h k).1))
      ∙ back.every_unit (some_ended someone) unit ∙ ap (λ (u : ℕ). once_below u unit) same

  pub all_done : (units : ℕ) (parts : List P) → 0 < length befores → length parts ≡ units → AreDealt (λ (q : VecDeque (ℕ × P) Global). q.items) lists parts → AreDone gives units befores parts afters
  all_done units parts someone count deal = record {
    count = count;
    workers = o;
    someone = someone;
    dealt = deal.dealt;
    to_one = λ unit below. subst (λ (i : ℕ). deal.dealt unit < i) m (deal.to_one unit (subst (λ (i : ℕ). unit < i) (sym count) below));
    each = λ w before after h k.
        let list = slice_get-is lists w (subst (λ (i : ℕ). w < i) (sym m) (slice_get_within befores w before h)) in
        let seat = seat_at w list.0 list.1 in
        subst (λ (cs : List (ℕ × P)). Runs gives before cs after) (deal.each w list.0 list.1) (done w before list.0 seat.0 after h list.1 seat.1 k).runs;
  }
