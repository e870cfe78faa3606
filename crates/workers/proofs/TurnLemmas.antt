-- What a worker has done when it has done one unit more.
use Rattle.std.proofs.Common.{◌≡◌, ℕ, ◌+◌, ◌<◌, ◌≤◌, List, [], ◌∷◌, ◌++◌, length, refl, sym, ap, ◌∙◌, subst, arith, inl, inr, zero-le, zero, suc, eqb, slice_get, Some}
use Rattle.std.proofs.lemmas.Bool.{cases_eq}
use Rattle.std.proofs.lemmas.List.{map-append, length_push, length-map}
use Rattle.claims.specs.Counting.{times}
use Rattle.claims.proofs.CountLemmas.{one_where_not, times-push}
use Rattle.workers.specs.Turns.{units_in, IsRising, Runs, AreDone, calls_of}
use Rattle.std.specs.List.{enumerate_from, filter}
use Rattle.workers.proofs.RisingLemmas.{rising-push, rising-length}

module _ {P : Type 0} (calls : List (ℕ × P)) (unit : ℕ) (part : P) (units : ℕ) (rising : IsRising (units_in calls)) (low : (u : ℕ) → 0 < times u (units_in calls) → u < units)
    (below : unit < units) (above : (u : ℕ) → 0 < times u (units_in calls) → u < unit) where
  pub units_push : units_in (calls ++ (unit, part) ∷ []) ≡ units_in calls ++ unit ∷ []
  units_push = map-append (λ (call : ℕ × P). call.0) calls ((unit, part) ∷ [])

  pub more_rising : IsRising (units_in (calls ++ (unit, part) ∷ []))
  more_rising = subst IsRising (sym units_push) (rising-push (units_in calls) unit rising above)

  pub more_low : (u : ℕ) → 0 < times u (units_in (calls ++ (unit, part) ∷ [])) → u < units
  more_low u stands = elim (cases_eq unit u) [
    | inl same ↦ subst (λ (k : ℕ). k < units) same below
    | inr differs ↦ low u (let push = ap (times u) units_push ∙ times-push u (units_in calls) unit in let lacks = one_where_not unit u differs in omega arith)
  ]

  pub more_fit : length calls + 1 ≤ units
  more_fit =
      let fits = rising-length 0 units (units_in (calls ++ (unit, part) ∷ [])) more_rising (λ u stands. (zero-le, more_low u stands)) zero-le in
      let long = length-map (calls ++ (unit, part) ∷ []) (λ (call : ℕ × P). call.0) in
      let push = length_push calls (unit, part) in
      omega arith

-- one worker alone, to which every unit was dealt
filter_all : {P : Type 0} (a : ℕ) (parts : List P) → filter (λ call. eqb 0 0) (enumerate_from a parts) ≡ enumerate_from a parts
filter_all a [] = refl
filter_all {P} a (part ∷ parts) = ap (λ (cs : List (ℕ × P)). (a, part) ∷ cs) (filter_all (a + 1) parts)

pub alone_done : {W P : Type 0} (gives : W → ℕ → P → W → Type 0) (units : ℕ) (before after : W) (parts : List P) → length parts ≡ units → Runs gives before (enumerate_from 0 parts) after
    → AreDone gives units (before ∷ []) parts (after ∷ [])
alone_done {W} {P} gives units before after parts count runs = record {
  count = count;
  workers = refl;
  someone = omega arith;
  dealt = λ unit. 0;
  to_one = λ unit below. omega arith;
  each = alone;
}
  where
    alone : (number : ℕ) (b a : W) → slice_get (before ∷ []) number ≡ Some b → slice_get (after ∷ []) number ≡ Some a → Runs gives b (calls_of (λ unit. 0) number parts) a
    alone zero b a h k =
        let p : before ≡ b = cc in
        let q : after ≡ a = cc in
        subst (λ (x : W). Runs gives x (calls_of (λ unit. 0) 0 parts) a) p (subst (λ (x : W). Runs gives before (calls_of (λ unit. 0) 0 parts) x) q
        (subst (λ (cs : List (ℕ × P)). Runs gives before cs after) (sym (filter_all 0 parts)) runs))
    alone (suc number) b a h k = cc
