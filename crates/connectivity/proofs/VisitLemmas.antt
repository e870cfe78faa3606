-- One visit, and visits one after another.
use Rattle.std.proofs.Common.{◌≡◌, ◌+◌, ℕ, true, List, [], ◌∷◌, ◌++◌, length, Contains, ◌⊎◌, inl, inr, ◌↔◌, sym, ◌∙◌, subst, arith, IsTrue, IsFalse}
use Rattle.std.specs.BTreeSet.{BTreeSet, Updates, contains}
use Rattle.std.specs.List.Sorted.{IsStrictlySortedBy}
use Rattle.std.specs.Ordering.{nat_cmp}
use Rattle.std.proofs.lemmas.Bool.{cases_Bool, cases_eq, both_ways}
use Rattle.std.proofs.lemmas.Cmp.{nat_cmp_total}
use Rattle.std.proofs.lemmas.List.{length_push}
use Rattle.std.proofs.lemmas.List.Elements.{Contains-append_left, Contains-append_right, Contains-append_cases, Contains-push, Contains-push_cases}
use Rattle.std.proofs.lemmas.Map.Lookups.{exact_unsigned}
use Rattle.std.proofs.lemmas.Map.Views.{btree_set_contains_iff}
use Rattle.findings.proofs.Sorted.{Contains-here, Contains-cases, Contains-none}
use Rattle.model.specs.Layout.{Geometry}
use Rattle.model.specs.View.{View}
use Rattle.model.specs.Uses.{is_sound_at, is_directory_at}
use Rattle.model.proofs.Tables.{finds_no_other}
use Rattle.connectivity.specs.Walk.{Visits}

-- ---- ordered sets of numbers
pub is_member : (s : BTreeSet ℕ) (x : ℕ) → IsTrue (contains nat_cmp s x) ↔ Contains s.keys x
is_member s x = btree_set_contains_iff nat_cmp_total exact_unsigned s x

pub not_member : (s : BTreeSet ℕ) (x : ℕ) → IsFalse (contains nat_cmp s x) → Contains s.keys x → ⊥
not_member s x f c = both_ways (contains nat_cmp s x) f ((is_member s x).1 c)

pub member_or_not : (xs : List ℕ) (x : ℕ) → Contains xs x ⊎ (Contains xs x → ⊥)
member_or_not xs x = elim (cases_Bool (contains nat_cmp (record { keys = xs }) x)) [
  | inl t ↦ inl ((is_member (record { keys = xs }) x).0 t)
  | inr f ↦ inr (not_member (record { keys = xs }) x f)
]

pub inserted : (s n : BTreeSet ℕ) (i : ℕ) → Updates nat_cmp s n i true → (x : ℕ) → Contains n.keys x ↔ (Contains s.keys x ⊎ (i ≡ x))
inserted s n i updates x = (
  (λ c. elim (cases_eq x i) [
    | inl e ↦ inr (sym e)
    | inr apart ↦ inl ((is_member s x).0 (sym (updates.2 x (finds_no_other i x apart)) ∙ (is_member n x).1 c))
  ]),
  (λ h. elim (cases_eq x i) [
    | inl e ↦ subst (λ z. Contains n.keys z) (sym e) ((is_member n i).0 updates.1)
    | inr apart ↦ elim h [
      | inl k ↦ (is_member n x).0 (updates.2 x (finds_no_other i x apart) ∙ (is_member s x).1 k)
      | inr e ↦ absurd (apart (sym e))
    ]
  ]),
)

module _ (geo : Geometry) (view : View) where
  -- visits of what is not sound or is reached already
  pub visits_same : (numbers reached next : List ℕ) → ((i : ℕ) → Contains numbers i → IsTrue (is_sound_at geo view i) → Contains reached i) → Visits geo view numbers reached next reached next
  visits_same numbers reached next known = record {
    in_order = λ s. s;
    members = λ i. ((λ c. inl c), (λ h. elim h [ inl c ↦ c | inr v ↦ known i v.0 v.1 ]));
    directories = λ d. ((λ c. inl c), (λ h. elim h [ inl c ↦ c | inr v ↦ absurd (v.1 v.0) ]));
    count = omega arith;
  }

  pub visits_none : (reached next : List ℕ) → Visits geo view [] reached next reached next
  visits_none reached next = visits_same [] reached next (λ i c t. absurd (Contains-none i c))

  only_one : (number i : ℕ) → Contains (number ∷ []) i → number ≡ i
  only_one number i c = elim (Contains-cases number [] i c) [ inl e ↦ e | inr none ↦ absurd (Contains-none i none) ]

  pub visit_unsound : (number : ℕ) (reached next : List ℕ) → IsFalse (is_sound_at geo view number) → Visits geo view (number ∷ []) reached next reached next
  visit_unsound number reached next f =
      visits_same (number ∷ []) reached next (λ i c t. absurd (both_ways (is_sound_at geo view number) f (subst (λ z. IsTrue (is_sound_at geo view z)) (sym (only_one number i c)) t)))

  pub visit_known : (number : ℕ) (reached next : List ℕ) → Contains reached number → Visits geo view (number ∷ []) reached next reached next
  visit_known number reached next c = visits_same (number ∷ []) reached next (λ i k t. subst (λ z. Contains reached z) (only_one number i k) c)

  -- the visit of a sound inode that is new
  module _ (number : ℕ) (reached after next : List ℕ) (sound : IsTrue (is_sound_at geo view number)) (new : Contains reached number → ⊥)
      (in_order : IsStrictlySortedBy nat_cmp after) (more : (x : ℕ) → Contains after x ↔ (Contains reached x ⊎ (number ≡ x))) (longer : length after ≡ length reached + 1) where
    has_number : (i : ℕ) → Contains after i ↔ (Contains reached i ⊎ (Contains (number ∷ []) i × IsTrue (is_sound_at geo view i)))
    has_number i = (
      (λ c. elim ((more i).0 c) [
        | inl k ↦ inl k
        | inr e ↦ inr (subst (λ z. Contains (number ∷ []) z) e (Contains-here number []), subst (λ z. IsTrue (is_sound_at geo view z)) e sound)
      ]),
      (λ h. (more i).1 (elim h [ inl k ↦ inl k | inr v ↦ inr (only_one number i v.0) ])),
    )

    pub visit_directory : IsTrue (is_directory_at geo view number) → Visits geo view (number ∷ []) reached next after (next ++ number ∷ [])
    visit_directory dir = record {
      in_order = λ s. in_order;
      members = has_number;
      directories = λ d. (
        (λ c. elim (Contains-push_cases next number d c) [
          | inl k ↦ inl k
          | inr e ↦ inr ((more d).1 (inr e), (λ k. new (subst (λ z. Contains reached z) (sym e) k)), subst (λ z. IsTrue (is_directory_at geo view z)) e dir)
        ]),
        (λ h. elim h [
          | inl k ↦ Contains-append_left next (number ∷ []) d k
          | inr v ↦ elim ((more d).0 v.0) [
            | inl k ↦ absurd (v.1 k)
            | inr e ↦ subst (λ z. Contains (next ++ number ∷ []) z) e (Contains-push next number)
          ]
        ]),
      );
      count = omega (arith, length_push next number, longer);
    }

    pub visit_file : IsFalse (is_directory_at geo view number) → Visits geo view (number ∷ []) reached next after next
    visit_file file = record {
      in_order = λ s. in_order;
      members = has_number;
      directories = λ d. (
        (λ c. inl c),
        (λ h. elim h [
          | inl k ↦ k
          | inr v ↦ elim ((more d).0 v.0) [
            | inl k ↦ absurd (v.1 k)
            | inr e ↦ absurd (both_ways (is_directory_at geo view number) file (subst (λ z. IsTrue (is_directory_at geo view z)) (sym e) v.2))
          ]
        ]),
      );
      count = omega (arith, longer);
    }

  -- visits after visits
  pub visits_append : (first second reached next middle between after last : List ℕ) → Visits geo view first reached next middle between → Visits geo view second middle between after last
      → Visits geo view (first ++ second) reached next after last
  visits_append first second reached next middle between after last h k = record {
    in_order = λ s. k.in_order (h.in_order s);
    members = λ i. (
      (λ c. elim ((k.members i).0 c) [
        | inl m ↦ elim ((h.members i).0 m) [
          | inl r ↦ inl r
          | inr v ↦ inr (Contains-append_left first second i v.0, v.1)
        ]
        | inr v ↦ inr (Contains-append_right first second i v.0, v.1)
      ]),
      (λ x. (k.members i).1 (elim x [
        | inl r ↦ inl ((h.members i).1 (inl r))
        | inr v ↦ elim (Contains-append_cases first second i v.0) [
          | inl a ↦ inl ((h.members i).1 (inr (a, v.1)))
          | inr b ↦ inr (b, v.1)
        ]
      ])),
    );
    directories = λ d. (
      (λ c. elim ((k.directories d).0 c) [
        | inl b ↦ elim ((h.directories d).0 b) [
          | inl n ↦ inl n
          | inr v ↦ inr ((k.members d).1 (inl v.0), v.1, v.2)
        ]
        | inr v ↦ inr (v.0, (λ r. v.1 ((h.members d).1 (inl r))), v.2)
      ]),
      (λ x. (k.directories d).1 (elim x [
        | inl n ↦ inl ((h.directories d).1 (inl n))
        | inr v ↦ elim (member_or_not middle d) [
          | inl m ↦ inl ((h.directories d).1 (inr (m, v.1, v.2)))
          | inr apart ↦ inr (v.0, apart, v.2)
        ]
      ])),
    );
    count = omega (arith, h.count, k.count);
  }
