-- One question, and questions one after another.
use Rattle.std.proofs.Common.{◌≡◌, ℕ, ◌<◌, true, false, List, [], ◌∷◌, ◌++◌, Contains, ◌⊎◌, inl, inr, refl, sym, ◌∙◌, subst, arith, IsTrue, IsFalse}
use Rattle.std.proofs.lemmas.Bool.{cases_eq, both_ways}
use Rattle.std.proofs.lemmas.List.{length_push}
use Rattle.std.proofs.lemmas.List.Elements.{Contains-append_left, Contains-append_right, Contains-append_cases, Contains-push, Contains-push_cases}
use Rattle.findings.proofs.Sorted.{Contains-here, Contains-cases, Contains-none}
use Rattle.claims.specs.Counting.{times}
use Rattle.claims.specs.Seats.{Seated, after_claim}
use Rattle.claims.proofs.CountLemmas.{one_where, one_where_not, times-push}
use Rattle.model.specs.Layout.{Geometry}
use Rattle.model.specs.View.{View}
use Rattle.model.specs.Uses.{is_sound_at, is_directory_at}
use Rattle.connectivity.specs.Asked.{told, Asks}

-- ---- what stands in a list with one number more
stands_push : (i n : ℕ) (xs : List ℕ) → 0 < times i (xs ++ n ∷ []) → (0 < times i xs) ⊎ (n ≡ i)
stands_push i n xs stands = elim (cases_eq n i) [
  | inl same ↦ inr same
  | inr differs ↦ inl (let push = times-push i xs n in let lacks = one_where_not n i differs in omega arith)
]

stands_old : (i n : ℕ) (xs : List ℕ) → 0 < times i xs → 0 < times i (xs ++ n ∷ [])
stands_old i n xs stands = let push = times-push i xs n in omega arith

stands_new : (n : ℕ) (xs : List ℕ) → 0 < times n (xs ++ n ∷ [])
stands_new n xs = let push = times-push n xs n in let one = one_where n n refl in omega arith

only_one : (n i : ℕ) → Contains (n ∷ []) i → n ≡ i
only_one n i c = elim (Contains-cases n [] i c) [ inl e ↦ e | inr none ↦ absurd (Contains-none i none) ]

module _ (geo : Geometry) (view : View) where
  -- nothing is asked for where no number is sound
  pub asks_same : (numbers : List ℕ) (s : Seated) (found : List ℕ) → ((i : ℕ) → Contains numbers i → IsTrue (is_sound_at geo view i) → ⊥) → Asks geo view numbers s found s found
  asks_same numbers s found none = record {
    own = refl;
    told_before = λ i stands. stands;
    told_now = λ i c t. absurd (none i c t);
    taken_before = λ i stands. stands;
    taken_now = λ i stands. inl stands;
    found_before = λ d c. c;
    found_now = λ d c. inl c;
    directories = λ d stands t. inl stands;
    count = omega arith;
  }

  pub asks_none : (s : Seated) (found : List ℕ) → Asks geo view [] s found s found
  asks_none s found = asks_same [] s found (λ i c t. Contains-none i c)

  pub asks_unsound : (n : ℕ) (s : Seated) (found : List ℕ) → IsFalse (is_sound_at geo view n) → Asks geo view (n ∷ []) s found s found
  asks_unsound n s found f =
      asks_same (n ∷ []) s found (λ i c t. both_ways (is_sound_at geo view n) f (subst (λ z. IsTrue (is_sound_at geo view z)) (sym (only_one n i c)) t))

  module _ (n : ℕ) (s : Seated) (found : List ℕ) where
    -- a number that is refused
    pub asks_refused : Asks geo view (n ∷ []) s found (after_claim s n false) found
    asks_refused = record {
      own = refl;
      told_before = λ i stands. (let push = times-push i s.met n in omega arith);
      told_now = λ i c t. subst (λ z. 0 < told z (after_claim s n false)) (only_one n i c) (let new = stands_new n s.met in omega arith);
      taken_before = λ i stands. stands;
      taken_now = λ i stands. inl stands;
      found_before = λ d c. c;
      found_now = λ d c. inl c;
      directories = λ d stands t. inl stands;
      count = omega arith;
    }

    -- and one that is given: a directory is found
    module _ (sound : IsTrue (is_sound_at geo view n)) where
      pub asks_directory : IsTrue (is_directory_at geo view n) → Asks geo view (n ∷ []) s found (after_claim s n true) (found ++ n ∷ [])
      asks_directory dir = record {
        own = refl;
        told_before = λ i stands. (let push = times-push i s.taken n in omega arith);
        told_now = λ i c t. subst (λ z. 0 < told z (after_claim s n true)) (only_one n i c) (let new = stands_new n s.taken in omega arith);
        taken_before = λ i stands. stands_old i n s.taken stands;
        taken_now = λ i stands. elim (stands_push i n s.taken stands) [
          | inl old ↦ inl old
          | inr e ↦ inr (subst (λ z. Contains (n ∷ []) z) e (Contains-here n []), subst (λ z. IsTrue (is_sound_at geo view z)) e sound)
        ];
        found_before = λ d c. Contains-append_left found (n ∷ []) d c;
        found_now = λ d c. elim (Contains-push_cases found n d c) [
          | inl old ↦ inl old
          | inr e ↦ inr (subst (λ z. IsTrue (is_directory_at geo view z)) e dir, subst (λ z. 0 < times z (s.taken ++ n ∷ [])) e (stands_new n s.taken))
        ];
        directories = λ d stands t. elim (stands_push d n s.taken stands) [
          | inl old ↦ inl old
          | inr e ↦ inr (subst (λ z. Contains (found ++ n ∷ []) z) e (Contains-push found n))
        ];
        count = omega (arith, length_push s.taken n, length_push found n);
      }

      pub asks_file : IsFalse (is_directory_at geo view n) → Asks geo view (n ∷ []) s found (after_claim s n true) found
      asks_file file = record {
        own = refl;
        told_before = λ i stands. (let push = times-push i s.taken n in omega arith);
        told_now = λ i c t. subst (λ z. 0 < told z (after_claim s n true)) (only_one n i c) (let new = stands_new n s.taken in omega arith);
        taken_before = λ i stands. stands_old i n s.taken stands;
        taken_now = λ i stands. elim (stands_push i n s.taken stands) [
          | inl old ↦ inl old
          | inr e ↦ inr (subst (λ z. Contains (n ∷ []) z) e (Contains-here n []), subst (λ z. IsTrue (is_sound_at geo view z)) e sound)
        ];
        found_before = λ d c. c;
        found_now = λ d c. inl c;
        directories = λ d stands t. elim (stands_push d n s.taken stands) [
          | inl old ↦ inl old
          | inr e ↦ absurd (both_ways (is_directory_at geo view n) file (subst (λ z. IsTrue (is_directory_at geo view z)) (sym e) t))
        ];
        count = omega (arith, length_push s.taken n);
      }

  -- questions after questions
  pub asks_append : (first second : List ℕ) (a : Seated) (f : List ℕ) (b : Seated) (g : List ℕ) (c : Seated) (h : List ℕ) → Asks geo view first a f b g → Asks geo view second b g c h
      → Asks geo view (first ++ second) a f c h
  asks_append first second a f b g c h x y = record {
    own = y.own ∙ x.own;
    told_before = λ i stands. y.told_before i (x.told_before i stands);
    told_now = λ i k t. elim (Contains-append_cases first second i k) [
      | inl l ↦ y.told_before i (x.told_now i l t)
      | inr r ↦ y.told_now i r t
    ];
    taken_before = λ i stands. y.taken_before i (x.taken_before i stands);
    taken_now = λ i stands. elim (y.taken_now i stands) [
      | inl old ↦ elim (x.taken_now i old) [
        | inl older ↦ inl older
        | inr v ↦ inr (Contains-append_left first second i v.0, v.1)
      ]
      | inr v ↦ inr (Contains-append_right first second i v.0, v.1)
    ];
    found_before = λ d k. y.found_before d (x.found_before d k);
    found_now = λ d k. elim (y.found_now d k) [
      | inl old ↦ elim (x.found_now d old) [
        | inl older ↦ inl older
        | inr v ↦ inr (v.0, y.taken_before d v.1)
      ]
      | inr v ↦ inr v
    ];
    directories = λ d stands t. elim (y.directories d stands t) [
      | inl old ↦ elim (x.directories d old t) [
        | inl older ↦ inl older
        | inr k ↦ inr (y.found_before d k)
      ]
      | inr k ↦ inr k
    ];
    count = omega (arith, x.count, y.count);
  }
