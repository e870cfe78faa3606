-- What one more mark makes of the marks of a list of numbers, and what a mark tells.
use Rattle.std.proofs.Common.{◌≡◌, ℕ, ◌<◌, ◌+◌, ◌==◌, ◌↔◌, inl, inr, Bool, true, false, List, [], ◌∷◌, ◌++◌, Contains, length, take, slice_index_or, if◌then◌else◌, ap, ◌∙◌, sym, subst, refl, arith, get_or, zero, suc}
use Rattle.std.proofs.Math.Seq.{take-suc}
use Rattle.std.proofs.lemmas.Bool.{false≢true}
use Rattle.std.proofs.lemmas.Bool.Decides.{eqb_tells}
use Rattle.std.proofs.lemmas.Cmp.{nat_cmp_total}
use Rattle.std.proofs.lemmas.List.Elements.{Contains-append_left, Contains-append_right, Contains-append_cases}
use Rattle.std.proofs.lemmas.Map.Lookups.{exact_unsigned}
use Rattle.std.proofs.lemmas.Map.Views.{btree_set_contains_iff}
use Rattle.sets.specs.Members.{AreMarks, is_among}

-- whether a number is one of these, by its place
pub among_iff : (numbers : List ℕ) (n : ℕ) → (is_among numbers n ≡ true) ↔ Contains numbers n
among_iff numbers n = btree_set_contains_iff nat_cmp_total exact_unsigned (record { keys = numbers }) n

same_truth : (a b : Bool) → (a ≡ true → b ≡ true) → (b ≡ true → a ≡ true) → a ≡ b
same_truth true b f g = sym (f refl)
same_truth false true f g = g refl
same_truth false false f g = refl

-- a mark tells whether the number is one of these
pub mark_tells : (numbers : List ℕ) (marks : List Bool) (n : ℕ) → AreMarks numbers marks → slice_index_or marks n false ≡ is_among numbers n
mark_tells numbers marks n h =
    let iff = among_iff numbers n in
    same_truth (slice_index_or marks n false) (is_among numbers n) (λ t. iff.1 ((h n).0 t)) (λ t. (h n).1 (iff.0 t))

-- nothing is marked
pub no_marks : AreMarks [] []
no_marks n = ((λ t. absurd (false≢true t)), (λ c. absurd (omega (arith, c.1))))

the_one : (n x : ℕ) → Contains (x ∷ []) n → n ≡ x
the_one n x (zero, low, e) = sym e
the_one n x (suc k, low, e) = absurd (omega (arith, low))

-- the marks of some numbers, and of one more
pub one_more : (numbers : List ℕ) (x : ℕ) (old new : List Bool) → AreMarks numbers old → ((n : ℕ) → slice_index_or new n false ≡ (if n == x then true else slice_index_or old n false))
    → AreMarks (numbers ++ x ∷ []) new
one_more numbers x old new before marked n =
    let e = marked n in
    elim (eqb_tells n x) [
      | inl h ↦ (
        (λ t. subst (λ k. Contains (numbers ++ x ∷ []) k) (sym h.1) (Contains-append_right numbers (x ∷ []) x (zero, omega arith, refl))),
        (λ c. e ∙ ap (λ b. if b then true else slice_index_or old n false) h.0),
      )
      | inr h ↦ (
        (λ t. Contains-append_left numbers (x ∷ []) n ((before n).0 (sym (ap (λ b. if b then true else slice_index_or old n false) h.0) ∙ sym e ∙ t))),
        (λ c. e ∙ ap (λ b. if b then true else slice_index_or old n false) h.0 ∙ (before n).1 (elim (Contains-append_cases numbers (x ∷ []) n c) [
          | inl there ↦ there
          | inr here ↦ absurd (h.1 (the_one n x here))
        ])),
      )
    ]

-- the marks of the first numbers of a list, and of the next
pub next_marks : (numbers : List ℕ) (k : ℕ) (old new : List Bool) → k < length numbers → AreMarks (take k numbers) old
    → ((n : ℕ) → slice_index_or new n false ≡ (if n == get_or numbers k 0 then true else slice_index_or old n false))
    → AreMarks (take (k + 1) numbers) new
next_marks numbers k old new low before marked =
    let next : suc k ≡ k + 1 = omega arith in
    subst (λ m. AreMarks (take m numbers) new) next
    (subst (λ xs. AreMarks xs new) (sym (take-suc numbers k 0 low)) (one_more (take k numbers) (get_or numbers k 0) old new before marked))
