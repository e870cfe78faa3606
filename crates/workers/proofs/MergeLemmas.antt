-- Parts that are merged, unit by unit, from one list of calls for each worker.
use Rattle.std.proofs.Common.{◌≡◌, ℕ, zero, suc, ◌+◌, ◌<◌, ◌≤◌, Bool, true, false, cond, eqb, List, [], ◌∷◌, ◌++◌, length, Some, slice_get, slice_set, slice_index_or, refl, sym, ap, ap₂, ◌∙◌, subst, arith, append_assoc, inl, inr, length-set}
use Rattle.std.proofs.lemmas.Bool.{cases_eq, cases_lt, eq-eqb, ne_eqb, false≢true}
use Rattle.std.proofs.lemmas.List.{append-nil, length_push, map-append}
use Rattle.std.proofs.lemmas.Option.{slice_get_within, get_or_from_slice_get}
use Rattle.std.proofs.lemmas.List.Elements.{filter-append}
use Rattle.std.specs.List.{filter, enumerate_from, position_or_len}
use Rattle.std.proofs.lemmas.List.Sums.{fails_before_first, position_or_len_is}
use Rattle.claims.specs.Counting.{times, total, once_below}
use Rattle.claims.proofs.CountLemmas.{times-append, one_where_not, below_once, past_none}
use Rattle.workers.specs.Turns.{calls_of, units_in, IsRising, begins_with}
use Rattle.workers.proofs.ListLemmas.{enumerate_from-push, slice_get-is, slice_get-set_same, slice_get-set_other}
use Rattle.workers.proofs.RisingLemmas.{times-here, rising-rest}

-- sums over lists that are read by place
total-has : {X : Type 0} (f : X → ℕ) (xs : List X) → 0 < total f xs → (i : ℕ) × (x : X) × (slice_get xs i ≡ Some x) × (0 < f x)
total-has f [] some_there = absurd (omega arith)
total-has f (x ∷ xs) some_there = elim (cases_lt 0 (f x)) [
  | inl here ↦ (0, x, refl, here)
  | inr lacks ↦ (let rest = total-has f xs (omega arith) in (suc rest.0, rest.1, rest.2, rest.3))
]

pub total-at : {X : Type 0} (f : X → ℕ) (xs : List X) (i : ℕ) (x : X) → slice_get xs i ≡ Some x → f x ≤ total f xs
total-at f [] i x h = cc
total-at f (z ∷ xs) zero x h = let e : z ≡ x = cc in let g = ap f e in omega arith
total-at f (z ∷ xs) (suc i) x h = omega (arith, total-at f xs i x h)

total-two : {X : Type 0} (f : X → ℕ) (xs : List X) (i j : ℕ) (x y : X) → (i ≡ j → ⊥) → slice_get xs i ≡ Some x → slice_get xs j ≡ Some y → f x + f y ≤ total f xs
total-two f [] i j x y apart h k = cc
total-two f (z ∷ xs) zero zero x y apart h k = absurd (apart refl)
total-two f (z ∷ xs) zero (suc j) x y apart h k = let e : z ≡ x = cc in let g = ap f e in omega (arith, total-at f xs j y k)
total-two f (z ∷ xs) (suc i) zero x y apart h k = let e : z ≡ y = cc in let g = ap f e in omega (arith, total-at f xs i x h)
total-two f (z ∷ xs) (suc i) (suc j) x y apart h k = omega (arith, total-two f xs i j x y (λ e. apart (ap suc e)) h k)

-- calls that are dealt alike
filter-same : {P : Type 0} (f g : ℕ → ℕ) (w a : ℕ) (parts : List P) → ((u : ℕ) → a ≤ u → u < a + length parts → f u ≡ g u)
    → filter (λ call. eqb (f call.0) w) (enumerate_from a parts) ≡ filter (λ call. eqb (g call.0) w) (enumerate_from a parts)
filter-same f g w a [] same = refl
filter-same {P} f g w a (part ∷ parts) same =
    let rest = filter-same f g w (a + 1) parts (λ u from below. same u (omega arith) (omega arith)) in
    let here = same a (omega arith) (omega arith) in
    ap₂ (λ (b : Bool) (cs : List (ℕ × P)). cond b ((a, part) ∷ cs) cs) (ap (λ k. eqb k w) here) rest

-- the units of calls among the first parts
units-low : {P : Type 0} (f : ℕ → ℕ) (w a : ℕ) (parts : List P) (u : ℕ) → a + length parts ≤ u → times u (units_in (filter (λ call. eqb (f call.0) w) (enumerate_from a parts))) ≡ 0
units-low f w a [] u past = refl
units-low f w a (part ∷ parts) u past = elim (eqb (f a) w) as (λ b. times u (units_in (cond b ((a, part) ∷ filter (λ call. eqb (f call.0) w) (enumerate_from (a + 1) parts)) (filter (λ call. eqb (f call.0) w) (enumerate_from (a + 1) parts)))) ≡ 0) [
  | true ↦ (let rest = units-low f w (a + 1) parts u (omega arith) in let lacks = one_where_not a u (λ e. omega arith) in omega arith)
  | false ↦ units-low f w (a + 1) parts u (omega arith)
]

-- no calls have no units
no_units : {P : Type 0} (calls : List (ℕ × P)) → ((u : ℕ) → times u (units_in calls) ≡ 0) → calls ≡ []
no_units [] none_there = refl
no_units (call ∷ calls) none_there = let here = times-here call.0 (units_in calls) in let lacks = none_there call.0 in absurd (omega arith)

-- whose a unit is, once it is known
abbrev dealing : (ℕ → ℕ) → ℕ → ℕ → ℕ → ℕ
dealing dealt unit w u = cond (eqb u unit) w (dealt u)

calls_of-push : {P : Type 0} (dealt : ℕ → ℕ) (v w : ℕ) (parts : List P) (part : P) → calls_of (dealing dealt (length parts) w) v (parts ++ part ∷ []) ≡ calls_of dealt v parts ++ cond (eqb w v) ((length parts, part) ∷ []) []
calls_of-push {P} dealt v w parts part =
    let f : ℕ → ℕ = dealing dealt (length parts) w in
    let k : 0 + length parts ≡ length parts = omega arith in
    ap (filter (λ call. eqb (f call.0) v)) (enumerate_from-push 0 parts part ∙ ap (λ (i : ℕ). enumerate_from 0 parts ++ (i, part) ∷ []) k)
    ∙ filter-append (λ call. eqb (f call.0) v) (enumerate_from 0 parts) ((length parts, part) ∷ [])
    ∙ ap₂ (λ (cs : List (ℕ × P)) (b : Bool). cs ++ cond b ((length parts, part) ∷ []) [])
    (filter-same f dealt v 0 parts (λ u from below. ap (λ b. cond b w (dealt u)) (ne_eqb u (length parts) (λ e. omega arith))))
    (ap (λ b. eqb (cond b w (dealt (length parts))) v) (eq-eqb (length parts) (length parts) refl))

module _ {Q P : Type 0} (calls_in : Q → List (ℕ × P)) where
  -- Of each worker's list, the calls of the units below the number of parts are merged, and the rest is left.
  pub record IsMerging (lists rests : List Q) (parts : List P) : Type 0 where
    pub count : length rests ≡ length lists
    pub dealt : ℕ → ℕ
    pub to_one : (u : ℕ) → u < length parts → dealt u < length lists
    pub each : (w : ℕ) (list rest : Q) → slice_get lists w ≡ Some list → slice_get rests w ≡ Some rest → calls_in list ≡ calls_of dealt w parts ++ calls_in rest
    pub late : (w : ℕ) (rest : Q) → slice_get rests w ≡ Some rest → (u : ℕ) → 0 < times u (units_in (calls_in rest)) → length parts ≤ u

  -- how often a unit stands in a list
  abbrev pub in_list : ℕ → Q → ℕ
  in_list u list = times u (units_in (calls_in list))

  -- at first nothing is merged
  pub nothing_merged : (lists : List Q) → IsMerging lists lists []
  nothing_merged lists = record {
    count = refl;
    dealt = λ u. 0;
    to_one = λ u below. absurd (omega arith);
    each = λ w list rest h k. ap calls_in (let e = sym h ∙ k in cc);
    late = λ w rest h u stands. omega arith;
  }

  -- what a list has of a unit, its rest has, once the calls before it are merged
  module _ (lists rests : List Q) (parts : List P) (merging : IsMerging lists rests parts) (w : ℕ) (list rest : Q) (h : slice_get lists w ≡ Some list) (k : slice_get rests w ≡ Some rest) where
    units_are : units_in (calls_in list) ≡ units_in (calls_of merging.dealt w parts) ++ units_in (calls_in rest)
    units_are = ap units_in (merging.each w list rest h k) ∙ map-append (λ (call : ℕ × P). call.0) (calls_of merging.dealt w parts) (calls_in rest)

    left_in_rest : (u : ℕ) → length parts ≤ u → in_list u list ≡ in_list u rest
    left_in_rest u past =
        let low = units-low merging.dealt w 0 parts u (omega arith) in
        ap (times u) units_are ∙ times-append u (units_in (calls_of merging.dealt w parts)) (units_in (calls_in rest)) ∙ (omega arith)

    rest_rises : IsRising (units_in (calls_in list)) → IsRising (units_in (calls_in rest))
    rest_rises rising = rising-rest (units_in (calls_of merging.dealt w parts)) (units_in (calls_in rest)) (subst IsRising units_are rising)

  -- a list that has the next unit, rises, and has none below it, begins with it
  pub next_first : (calls : List (ℕ × P)) (unit : ℕ) → IsRising (units_in calls) → ((u : ℕ) → 0 < times u (units_in calls) → unit ≤ u) → 0 < times unit (units_in calls) → begins_with unit calls ≡ true
  next_first [] unit rising late stands = absurd (omega arith)
  next_first (call ∷ calls) unit rising late stands = elim (cases_eq call.0 unit) [
    | inl same ↦ eq-eqb call.0 unit same
    | inr differs ↦ (
        let lacks = one_where_not call.0 unit differs in
        let up = rising.0 unit (omega arith) in
        let from = late call.0 (times-here call.0 (units_in calls)) in
        absurd (omega arith)
        )
  ]

  module _ (lists rests : List Q) (parts : List P) (merging : IsMerging lists rests parts) (bound : ℕ) (once : (u : ℕ) → total (in_list u) lists ≡ once_below bound u)
      (rising : (w : ℕ) (list : Q) → slice_get lists w ≡ Some list → IsRising (units_in (calls_in list))) where
    -- the place of a list is one of its rest
    list_of : (w : ℕ) (rest : Q) → slice_get rests w ≡ Some rest → (list : Q) × (slice_get lists w ≡ Some list)
    list_of w rest k = slice_get-is lists w (subst (λ (m : ℕ). w < m) merging.count (slice_get_within rests w rest k))

    -- some rest begins with the next unit
    pub someone_next : length parts < bound → (w : ℕ) × (rest : Q) × (slice_get rests w ≡ Some rest) × (begins_with (length parts) (calls_in rest) ≡ true)
    someone_next below =
        let unit = length parts in
        let has = total-has (in_list unit) lists (let one = below_once bound unit below in let all = once unit in omega arith) in
        let w = has.0 in
        let list = has.1 in
        let rest = slice_get-is rests w (subst (λ (m : ℕ). w < m) (sym merging.count) (slice_get_within lists w list has.2)) in
        let stands : 0 < times unit (units_in (calls_in rest.0)) = subst (λ (k : ℕ). 0 < k) (left_in_rest lists rests parts merging w list rest.0 has.2 rest.1 unit (omega arith)) has.3 in
        (w, rest.0, rest.1, next_first (calls_in rest.0) unit (rest_rises lists rests parts merging w list rest.0 has.2 rest.1 (rising w list has.2)) (merging.late w rest.0 rest.1) stands)

    -- the rest of the holder, without its first call
    pub one_merged : (h : ℕ) (first after : Q) (part : P) → slice_get rests h ≡ Some first → calls_in first ≡ (length parts, part) ∷ calls_in after → length parts < bound
        → IsMerging lists (slice_set rests h after) (parts ++ part ∷ [])
    one_merged h first after part here begins below =
        let unit = length parts in
        let f : ℕ → ℕ = dealing merging.dealt unit h in
        let long : length (parts ++ part ∷ []) ≡ unit + 1 = length_push parts part in
        let own = list_of h first here in
        let rises = subst IsRising (ap units_in begins) (rest_rises lists rests parts merging h own.0 first own.1 here (rising h own.0 own.1)) in
        record {
          count = length-set rests h after ∙ merging.count;
          dealt = f;
          to_one = λ u less. elim (cases_eq u unit) [
            | inl same ↦ subst (λ (k : ℕ). k < length lists) (sym (ap (λ b. cond b h (merging.dealt u)) (eq-eqb u unit same))) (slice_get_within lists h own.0 own.1)
            | inr differs ↦ subst (λ (k : ℕ). k < length lists) (sym (ap (λ b. cond b h (merging.dealt u)) (ne_eqb u unit differs))) (merging.to_one u (omega arith))
          ];
          each = λ w list rest a k. elim (cases_eq h w) [
            | inl same ↦ (
                let popped : after ≡ rest = slice_get-set_same rests h after rest (slice_get_within rests h first here) (subst (λ (m : ℕ). slice_get (slice_set rests h after) m ≡ Some rest) (sym same) k) in
                let old = merging.each w list first a (subst (λ (m : ℕ). slice_get rests m ≡ Some first) same here) in
                old ∙ ap (λ (cs : List (ℕ × P)). calls_of merging.dealt w parts ++ cs) (begins ∙ ap (λ (q : Q). (unit, part) ∷ calls_in q) popped)
                ∙ sym (append_assoc (calls_of merging.dealt w parts) ((unit, part) ∷ []) (calls_in rest))
                ∙ ap (λ (cs : List (ℕ × P)). cs ++ calls_in rest) (sym (calls_of-push merging.dealt w h parts part ∙ ap (λ b. calls_of merging.dealt w parts ++ cond b ((unit, part) ∷ []) []) (eq-eqb h w same)))
                )
            | inr differs ↦ (
                let stays = merging.each w list rest a (sym (slice_get-set_other rests h w after differs) ∙ k) in
                stays ∙ ap (λ (cs : List (ℕ × P)). cs ++ calls_in rest)
                (sym (calls_of-push merging.dealt w h parts part ∙ ap (λ b. calls_of merging.dealt w parts ++ cond b ((unit, part) ∷ []) []) (ne_eqb h w differs) ∙ append-nil (calls_of merging.dealt w parts)))
                )
          ];
          late = λ w rest k u stands. elim (cases_eq h w) [
            | inl same ↦ (
                let popped : after ≡ rest = slice_get-set_same rests h after rest (slice_get_within rests h first here) (subst (λ (m : ℕ). slice_get (slice_set rests h after) m ≡ Some rest) (sym same) k) in
                let up = rises.0 u (subst (λ (q : Q). 0 < times u (units_in (calls_in q))) (sym popped) stands) in
                omega arith
                )
            | inr differs ↦ (
                let was = sym (slice_get-set_other rests h w after differs) ∙ k in
                let from = merging.late w rest was u stands in
                let list = list_of w rest was in
                let apart : u ≡ unit → ⊥ = λ e. (
                let mine : 0 < in_list unit own.0 = subst (λ (m : ℕ). 0 < m) (sym (left_in_rest lists rests parts merging h own.0 first own.1 here unit (omega arith) ∙ ap (λ (cs : List (ℕ × P)). times unit (units_in cs)) begins)) (times-here unit (units_in (calls_in after))) in
                let theirs : 0 < in_list unit list.0 = subst (λ (m : ℕ). 0 < m) (sym (left_in_rest lists rests parts merging w list.0 rest list.1 was unit (omega arith))) (subst (λ (m : ℕ). 0 < times m (units_in (calls_in rest))) e stands) in
                twice (in_list unit own.0) (in_list unit list.0) (total (in_list unit) lists) mine theirs (total-two (in_list unit) lists h w own.0 list.0 differs own.1 list.1) (once unit ∙ below_once bound unit below)
                ) in
                omega arith
                )
          ];
        }
      where
        twice : (a b t : ℕ) → 0 < a → 0 < b → a + b ≤ t → t ≡ 1 → ⊥
        twice a b t mine theirs both one = omega arith

    -- in the end all is merged
    pub all_merged : bound ≤ length parts → (w : ℕ) (list : Q) → slice_get lists w ≡ Some list → calls_in list ≡ calls_of merging.dealt w parts
    all_merged past w list a =
        let rest = slice_get-is rests w (subst (λ (m : ℕ). w < m) (sym merging.count) (slice_get_within lists w list a)) in
        let none_left : calls_in rest.0 ≡ [] = no_units (calls_in rest.0) (λ u. elim (cases_lt 0 (times u (units_in (calls_in rest.0)))) [
          | inl stands ↦ (
              let from = merging.late w rest.0 rest.1 u stands in
              let same = left_in_rest lists rests parts merging w list rest.0 a rest.1 u from in
              let all = total-at (in_list u) lists w list a in
              let lacks = past_none bound u (omega arith) in
              absurd (nowhere (in_list u rest.0) (in_list u list) (total (in_list u) lists) stands same all (once u ∙ lacks))
              )
          | inr lacks ↦ omega arith
        ]) in
        merging.each w list rest.0 a rest.1 ∙ ap (λ (cs : List (ℕ × P)). calls_of merging.dealt w parts ++ cs) none_left ∙ append-nil (calls_of merging.dealt w parts)
      where
        nowhere : (r l t : ℕ) → 0 < r → l ≡ r → l ≤ t → t ≡ 0 → ⊥
        nowhere r l t stands same all lacks = omega arith

-- the first list that passes a test stands in its place, where one does
pub holder_within : {Q : Type 0} (p : Q → Bool) (lists : List Q) (w : ℕ) (q : Q) → slice_get lists w ≡ Some q → p q ≡ true → position_or_len p lists < length lists
holder_within p lists w q h passes = elim (cases_lt (position_or_len p lists) (length lists)) [
  | inl within ↦ within
  | inr past ↦ (
      let below = slice_get_within lists w q h in
      let fails = fails_before_first p lists w q (omega arith) in
      absurd (false≢true (sym fails ∙ ap p (get_or_from_slice_get lists w q q h) ∙ passes))
      )
]

pub no_holder : {Q : Type 0} (p : Q → Bool) (lists : List Q) → ((k : ℕ) (d : Q) → k < length lists → p (slice_index_or lists k d) ≡ false) → position_or_len p lists ≡ length lists
no_holder p [] fails = refl
no_holder p (q ∷ lists) fails =
    let all : length (q ∷ lists) ≤ length (q ∷ lists) = omega arith in
    position_or_len_is p (q ∷ lists) (length (q ∷ lists)) q all (λ k. fails k q) (λ within. let none_left : ⊥ = omega arith in absurd none_left)
