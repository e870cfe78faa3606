-- One seat asks for what all directories of a round name.
use Rattle.std.proofs.Common.{◌≡◌, ℕ, zero, suc, ◌+◌, ◌<◌, List, [], ◌∷◌, ◌++◌, length, Contains, refl, ap, subst, arith, inl, inr, length-append}
use Rattle.std.proofs.lemmas.Bool.{cases_lt, cases_eq}
use Rattle.std.proofs.lemmas.List.Elements.{Contains-append_left, Contains-append_right, Contains-append_cases}
use Rattle.findings.proofs.Sorted.{Contains-none}
use Rattle.claims.specs.Counting.{times, total}
use Rattle.claims.specs.Seats.{Seated}
use Rattle.model.specs.Layout.{Geometry}
use Rattle.model.specs.View.{View}
use Rattle.model.specs.Named.{named_from}
use Rattle.connectivity.specs.Asked.{Asks, HaveAsked, Round, asked_of, told}
use Rattle.connectivity.proofs.RunLemmas.{asked_from}

-- ---- sums over a list with one element more
total-push : {X : Type 0} (f : X → ℕ) (xs : List X) (x : X) → total f (xs ++ x ∷ []) ≡ total f xs + f x
total-push f [] x = omega arith
total-push f (y ∷ ys) x = let rest = total-push f ys x in omega arith

module _ (geo : Geometry) (view : View) (round : Round) where
  -- what the directories of a round name that are of the pieces of the units below this one
  abbrev pub asked_below : ℕ → List ℕ
  asked_below zero = []
  asked_below (suc units) = asked_below units ++ asked_of geo view round units

  pub asked_more : (units : ℕ) → asked_below (units + 1) ≡ asked_below units ++ asked_of geo view round units
  asked_more units = let e : units + 1 ≡ suc units = omega arith in ap asked_below e

  below_from : (units i : ℕ) → Contains (asked_below units) i → (d : ℕ) × Contains round.0 d × Contains (named_from geo view 2 d) i
  below_from zero i c = absurd (Contains-none i c)
  below_from (suc units) i c = elim (Contains-append_cases (asked_below units) (asked_of geo view round units) i c) [
    | inl old ↦ below_from units i old
    | inr new ↦ asked_from geo view round units i new
  ]

  below_has : (units unit i : ℕ) → unit < units → Contains (asked_of geo view round unit) i → Contains (asked_below units) i
  below_has zero unit i low c = absurd (omega (arith, low))
  below_has (suc units) unit i low c = elim (cases_eq unit units) [
    | inl here ↦ Contains-append_right (asked_below units) (asked_of geo view round units) i (subst (λ u. Contains (asked_of geo view round u) i) here c)
    | inr apart ↦ Contains-append_left (asked_below units) (asked_of geo view round units) i (below_has units unit i (omega (arith, low, apart)) c)
  ]

  -- one seat alone
  pub asked_alone : (units : ℕ) (before : Seated) (after : Seated) (found : List ℕ)
      → ((d i : ℕ) → Contains round.0 d → Contains (named_from geo view 2 d) i → (unit : ℕ) × (unit < units) × Contains (asked_of geo view round unit) i)
      → Asks geo view (asked_below units) before [] after found → HaveAsked geo view round.0 (before ∷ []) (after ∷ []) found
  asked_alone units before after found has_unit asks = record {
    seats = refl;
    told_before = λ i stands. (let all = asks.told_before i (omega arith) in omega arith);
    told_now = λ d i c n t. (let unit = has_unit d i c n in let all = asks.told_now i (below_has units unit.0 i unit.1 unit.2) t in omega arith);
    taken_now = λ i stands. elim (asks.taken_now i (omega arith)) [
      | inl old ↦ inl (omega arith)
      | inr v ↦ (let d = below_from units i v.0 in inr (d.0, d.1, d.2, v.1))
    ];
    found_now = λ d c. elim (asks.found_now d c) [
      | inl none ↦ absurd (Contains-none d none)
      | inr v ↦ (v.0, (let given = v.1 in omega arith))
    ];
    directories = λ d stands t. elim (asks.directories d (omega arith) t) [
      | inl old ↦ inl (omega arith)
      | inr c ↦ inr c
    ];
    count = (let all = asks.count in omega arith);
  }

  -- and beside others, which ask for nothing
  pub asked_last : (others : List Seated) (before after : Seated) (found : List ℕ) → HaveAsked geo view round.0 (before ∷ []) (after ∷ []) found
      → HaveAsked geo view round.0 (others ++ before ∷ []) (others ++ after ∷ []) found
  asked_last others before after found asked = record {
    seats = (let x = length-append others (before ∷ []) in let y = length-append others (after ∷ []) in omega arith);
    told_before = λ i stands. more (told i) (λ s. (let all = asked.told_before i (omega arith) in omega arith)) stands;
    told_now = λ d i c n t. (let all = asked.told_now d i c n t in let y = total-push (told i) others after in omega arith);
    taken_now = λ i stands. elim (cases_lt 0 (total (λ s. times i s.taken) others)) [
      | inl old ↦ inl (let x = total-push (λ s. times i s.taken) others before in omega arith)
      | inr lacks ↦ elim (asked.taken_now i (let y = total-push (λ s. times i s.taken) others after in omega arith)) [
        | inl old ↦ inl (let x = total-push (λ s. times i s.taken) others before in omega arith)
        | inr v ↦ inr v
      ]
    ];
    found_now = λ d c. (let f = asked.found_now d c in (f.0, (let given = f.1 in let y = total-push (λ s. times d s.taken) others after in omega arith)));
    directories = λ d stands t. elim (cases_lt 0 (total (λ s. times d s.taken) others)) [
      | inl old ↦ inl (let x = total-push (λ s. times d s.taken) others before in omega arith)
      | inr lacks ↦ elim (asked.directories d (let y = total-push (λ s. times d s.taken) others after in omega arith) t) [
        | inl old ↦ inl (let x = total-push (λ s. times d s.taken) others before in omega arith)
        | inr c ↦ inr c
      ]
    ];
    count = (
        let x = total-push (λ (s : Seated). length s.taken) others before in
        let y = total-push (λ (s : Seated). length s.taken) others after in
        let all = asked.count in
        omega arith
        );
  }
    where
      more : (f : Seated → ℕ) → (0 < f before → 0 < f after) → 0 < total f (others ++ before ∷ []) → 0 < total f (others ++ after ∷ [])
      more f each stands =
          let x = total-push f others before in
          let y = total-push f others after in
          elim (cases_lt 0 (f before)) [
            | inl here ↦ (let now = each here in omega arith)
            | inr lacks ↦ omega arith
          ]
