-- The parts of a path, from its bytes.
use Rattle.std.proofs.Common.{◌≡◌, ◌<◌, ◌≤◌, ◌+◌, ℕ, Bool, true, false, ◌&&◌, eqb, leb, List, [], ◌∷◌, ◌++◌, length, take, drop, get_or, All, take-append-drop, inl, inr, refl, sym, ap, ◌∙◌, subst, arith, IsTrue, Some, None, unwrap_or, eqb-true, eq-eqb}
use Rattle.std.specs.Bool.{then_some}
use Rattle.std.specs.List.{last_or, list_all, onto_first}
use Rattle.std.proofs.lemmas.Bool.{and_from, and_parts, both_ways, cases_Bool, cond-true, cond-false, le-leb}
use Rattle.std.proofs.lemmas.Bool.Decides.{nat_tests}
use Rattle.std.proofs.lemmas.List.{drop_more}
use Rattle.std.proofs.lemmas.List.Sums.{AllPass-from_list_all, list_all-from_AllPass}
use Rattle.std.proofs.lemmas.List.Splits.{slice_split_at, slice_split_none}
use Rattle.machine.specs.Paths.{parts_of, is_part, last_part}
use Rattle.machine.proofs.Tests.{and_false, and_true}
use Rattle.live_paths.specs.Parts.{pieces, parts_behind}

-- there is a first piece
pub a_piece : (bytes : List ℕ) → (first : List ℕ) × (rest : List (List ℕ)) × (pieces bytes ≡ first ∷ rest)
a_piece [] = ([], [], refl)
a_piece (b ∷ bytes) =
    let more = a_piece bytes in
    elim (cases_Bool (eqb b 47)) [
      | inl t ↦ ([], pieces bytes, cond-true (eqb b 47) _ _ t)
      | inr f ↦ (b ∷ more.0, more.1, cond-false (eqb b 47) _ _ f ∙ ap (onto_first b) more.2)
    ]

-- so what stands behind the first '/' of a path has a last piece
pub last_more : (bytes : List ℕ) (piece : List ℕ) → last_or None (piece ∷ pieces bytes) ≡ last_or None (pieces bytes)
last_more bytes piece = let first = a_piece bytes in ap (last_or (Some piece)) first.2 ∙ sym (ap (last_or None) first.2)

pub last_behind : (tail name : List ℕ) → last_or None (pieces tail) ≡ Some name → name ≡ last_part (parts_behind tail)
last_behind [] name e = cc
last_behind (b ∷ bytes) name e = sym (ap (λ o. unwrap_or o []) e)

pub not_slash : (x : ℕ) → (x ≡ 47 → ⊥) → eqb x 47 ≡ false
not_slash x h = elim (cases_Bool (eqb x 47)) [ inl t ↦ absurd (h (eqb-true x 47 t)) | inr f ↦ f ]

-- the first piece ends where the first '/' stands
pub piece_at : (xs : List ℕ) (i : ℕ) → i < length xs → get_or xs i 0 ≡ 47 → All (λ x. eqb x 47 ≡ false) (take i xs) → pieces xs ≡ take i xs ∷ pieces (drop (i + 1) xs)
piece_at xs i within here before =
    let cut : xs ≡ take i xs ++ 47 ∷ drop (i + 1) xs =
    sym (take-append-drop i xs) ∙ ap (λ zs. take i xs ++ zs) (drop_more xs i 0 within ∙ ap (λ z. z ∷ drop (i + 1) xs) here) in
    ap pieces cut ∙ slice_split_at (λ x. eqb x 47) (take i xs) 47 (drop (i + 1) xs) before refl

-- and there is one piece where none stands
pub one_piece : (xs : List ℕ) → All (λ x. eqb x 47 ≡ false) xs → pieces xs ≡ xs ∷ []
one_piece xs none = slice_split_none (λ x. eqb x 47) xs none

-- ---- what bytes are a path

-- whether these bytes, of which there are some, are a path
abbrev test : List ℕ → Bool
test xs = eqb (get_or xs 0 0) 47 && leb (length xs) 4096 && list_all is_part (parts_behind (drop 1 xs))

pub no_bytes : (xs : List ℕ) → length xs ≡ 0 → parts_of xs ≡ None
unfolding parts_of
no_bytes [] e = refl
no_bytes (c ∷ xs) e = absurd (omega (arith, e))

pub some_bytes : (xs : List ℕ) → eqb (length xs) 0 ≡ false → 0 < length xs
some_bytes [] f = absurd (both_ways true f refl)
some_bytes (c ∷ xs) f = omega arith

tested : (xs : List ℕ) → 0 < length xs → parts_of xs ≡ then_some (test xs) (parts_behind (drop 1 xs))
unfolding parts_of
tested [] some = absurd (omega (arith, some))
tested (c ∷ []) some = ap (λ b. then_some b []) (sym (and_true (eqb c 47)) ∙ sym (and_true (eqb c 47 && true)))
tested (c ∷ d ∷ bytes) some =
    let size : 2 + length bytes ≡ length (c ∷ d ∷ bytes) = omega arith in
    ap (λ n. then_some (eqb c 47 && leb n 4096 && list_all is_part (pieces (d ∷ bytes))) (pieces (d ∷ bytes))) size

module _ (xs : List ℕ) (some : 0 < length xs) where
  refused : test xs ≡ false → parts_of xs ≡ None
  refused f = tested xs some ∙ ap (λ b. then_some b (parts_behind (drop 1 xs))) f

  pub no_slash : (get_or xs 0 0 ≡ 47 → ⊥) → parts_of xs ≡ None
  no_slash h = refused (ap (λ b. b && leb (length xs) 4096 && list_all is_part (parts_behind (drop 1 xs))) (not_slash (get_or xs 0 0) h))

  pub too_long : 4096 < length xs → parts_of xs ≡ None
  too_long h =
      let long : leb (length xs) 4096 ≡ false = grind (arith, nat_tests) in
      refused (ap (λ b. (eqb (get_or xs 0 0) 47 && b) && list_all is_part (parts_behind (drop 1 xs))) long ∙ ap (λ b. b && list_all is_part (parts_behind (drop 1 xs))) (and_false (eqb (get_or xs 0 0) 47)))

  pub bad_part : list_all is_part (parts_behind (drop 1 xs)) ≡ false → parts_of xs ≡ None
  bad_part h =
      refused (ap (λ b. (eqb (get_or xs 0 0) 47 && leb (length xs) 4096) && b) h ∙ and_false (eqb (get_or xs 0 0) 47 && leb (length xs) 4096))

  pub a_path : get_or xs 0 0 ≡ 47 → length xs ≤ 4096 → list_all is_part (parts_behind (drop 1 xs)) ≡ true → parts_of xs ≡ Some (parts_behind (drop 1 xs))
  a_path first short good =
      tested xs some
      ∙ ap (λ b. then_some b (parts_behind (drop 1 xs)))
      (and_from (eqb (get_or xs 0 0) 47 && leb (length xs) 4096) (list_all is_part (parts_behind (drop 1 xs)))
      (and_from (eqb (get_or xs 0 0) 47) (leb (length xs) 4096) (eq-eqb (get_or xs 0 0) 47 first) (le-leb (length xs) 4096 short)) good)

last_good_part : (part : List ℕ) (ps : List (List ℕ)) → IsTrue (list_all is_part (part ∷ ps)) → IsTrue (is_part (last_part (part ∷ ps)))
last_good_part part [] good = (and_parts (is_part part) true good).0
last_good_part part (next ∷ ps) good = last_good_part next ps (and_parts (is_part part) (list_all is_part (next ∷ ps)) good).1

-- the last part of a path that has some is a part
pub last_is_part : (tail name : List ℕ) → All (λ part. IsTrue (is_part part)) (parts_behind tail) → (parts_behind tail ≡ [] → ⊥) → last_or None (pieces tail) ≡ Some name → IsTrue (is_part name)
last_is_part [] name good some e = absurd (some refl)
last_is_part (b ∷ bytes) name good some e =
    let first = a_piece (b ∷ bytes) in
    subst (λ n. IsTrue (is_part n)) (ap last_part (sym first.2) ∙ sym (last_behind (b ∷ bytes) name e))
    (last_good_part first.0 first.1 (subst (λ ps. IsTrue (list_all is_part ps)) first.2 (list_all-from_AllPass is_part (parts_behind (b ∷ bytes)) good)))

-- and its parts are the pieces of what stands behind the first '/'
pub same_parts : (tail : List ℕ) (parts : List (List ℕ)) → parts_behind tail ≡ parts → (parts ≡ [] → ⊥) → pieces tail ≡ parts
same_parts [] parts e some = absurd (some (sym e))
same_parts (b ∷ bytes) parts e some = e

-- ---- a path without its first part
module _ (tail first : List ℕ) (rest : List (List ℕ)) (some : eqb (length tail) 0 ≡ false) (cut : pieces tail ≡ first ∷ rest) where
  whole_parts : (xs : List ℕ) → eqb (length xs) 0 ≡ false → parts_behind xs ≡ pieces xs
  whole_parts [] f = absurd (both_ways true f refl)
  whole_parts (x ∷ xs) f = refl

  pub split_parts : parts_behind tail ≡ first ∷ rest
  split_parts = whole_parts tail some ∙ cut

  module _ (good : All (λ part. IsTrue (is_part part)) (parts_behind tail)) where
    good_split : IsTrue (list_all is_part (first ∷ rest))
    good_split = subst (λ ps. IsTrue (list_all is_part ps)) split_parts (list_all-from_AllPass is_part (parts_behind tail) good)

    pub first_part : IsTrue (is_part first)
    first_part = (and_parts (is_part first) (list_all is_part rest) good_split).0

    good_rest : IsTrue (list_all is_part rest)
    good_rest = (and_parts (is_part first) (list_all is_part rest) good_split).1

    behind_is : (behind : List ℕ) → IsTrue (list_all is_part (pieces behind)) → pieces behind ≡ parts_behind behind
    behind_is [] all = absurd (both_ways false refl all)
    behind_is (x ∷ xs) all = refl

    module _ (behind : List ℕ) (is : rest ≡ pieces behind) where
      pub rest_is : rest ≡ parts_behind behind
      rest_is = is ∙ behind_is behind (subst (λ ps. IsTrue (list_all is_part ps)) is good_rest)

      pub rest_good : All (λ part. IsTrue (is_part part)) (parts_behind behind)
      rest_good = AllPass-from_list_all is_part (parts_behind behind) (subst (λ ps. IsTrue (list_all is_part ps)) rest_is good_rest)
