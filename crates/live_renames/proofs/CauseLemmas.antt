-- The first cause that refuses a rename, by the parts of its paths.
use Rattle.std.proofs.Common.{◌≡◌, ◌≤◌, ◌&&◌, IsTrue, ℕ, true, false, not, eqb, leb, List, [], ◌∷◌, ◌++◌, length, inl, refl, sym, ap, ap₂, ◌∙◌, arith, Option, Some, None, Ok, Err}
use Rattle.std.specs.Prelude.{unwrap_or, is_none}
use Rattle.std.specs.Option.{option_or, option_map_or}
use Rattle.std.specs.Result.{result_err, result_unwrap_or}
use Rattle.std.proofs.lemmas.Bool.{and_parts, leb-true}
use Rattle.std.proofs.lemmas.Bool.Decides.{nat_tests}
use Rattle.model.specs.Slots.{is_dot, is_dot_dot, is_name}
use Rattle.model.specs.Layout.{Geometry, root}
use Rattle.model.specs.View.{View}
use Rattle.layout.specs.declared.refusal.Refusal.{Refusal}
use Rattle.layout.specs.declared.refusal.Refusal.TheVariants.{BadName, IsRoot}
use Rattle.machine.specs.Below.{first_of, when}
use Rattle.machine.specs.Causes.{Accepts, FirstRefusal, causes, refusal_of}
use Rattle.machine.specs.Command.{Rename}
use Rattle.machine.specs.Paths.{is_part, parts_of, target, walk}
use Rattle.machine.specs.State.{State}
use Rattle.machine.proofs.Walks.{Quiet, not_some}
use Rattle.live_renames.specs.declared.renaming.Ends.{Ends}
use Rattle.live_renames.specs.Refused.{AreEnds, early, late, taken}

-- ---- lists of causes
pub first_before : (xs ys : List (Option Refusal)) (r : Refusal) → first_of xs ≡ Some r → first_of (xs ++ ys) ≡ Some r
first_before [] ys r e = not_some r (sym e)
first_before (None ∷ xs) ys r e = first_before xs ys r e
first_before (Some x ∷ xs) ys r e = e

pub first_behind : (xs ys : List (Option Refusal)) → first_of xs ≡ None → first_of (xs ++ ys) ≡ first_of ys
first_behind [] ys e = refl
first_behind (None ∷ xs) ys e = first_behind xs ys e
first_behind (Some x ∷ xs) ys e = not_some x e

pub none_first : (xs : List (Option Refusal)) → Quiet xs → first_of xs ≡ None
none_first [] q = refl
none_first (x ∷ xs) q = ap (λ o. option_or o (first_of xs)) q.0 ∙ none_first xs q.1

pub or_none : (o : Option Refusal) → option_or o None ≡ o
or_none None = refl
or_none (Some x) = refl

not_ok : {P : Type 0} (r : Refusal) (x : ℕ) → Err r ≡ Ok x → P
not_ok r x e = absurd cc

-- a part of a path fits in an entry
pub part_short : (name : List ℕ) → IsTrue (is_part name) → length name ≤ 56
part_short name part =
    let a_name : IsTrue (is_name name) = (and_parts (is_name name) (not (is_dot name)) (and_parts (is_name name && not (is_dot name)) (not (is_dot_dot name)) part).0).0 in
    leb-true (length name) 56 (and_parts _ (leb (length name) 56) (and_parts _ _ a_name).0).1

-- a path with parts is none of "/"
pub some_parts : (ps : List (List ℕ)) → (ps ≡ [] → ⊥) → when (leb (length ps) 0) IsRoot ≡ None
some_parts [] some = absurd (some refl)
some_parts (part ∷ ps) some = let no : leb (length (part ∷ ps)) 0 ≡ false = grind (arith, nat_tests) in ap (λ b. when b IsRoot) no

module _ (geo : Geometry) (v : View) where
  pub walked_parts : (qs : List (List ℕ)) (d : ℕ) → walk geo v root qs ≡ Ok d → qs ≡ [] → ⊥
  unfolding walk
  walked_parts [] d e none = not_ok IsRoot d e
  walked_parts (part ∷ qs) d e none = cc

  -- the causes by what the paths are
  abbrev listed : Option (List (List ℕ)) → Option (List (List ℕ)) → List (Option Refusal)
  listed op oq =
      when (is_none op) BadName ∷ when (is_none oq) BadName
      ∷ when (option_map_or (λ ps. leb (length ps) 0) op false) IsRoot ∷ when (option_map_or (λ ps. leb (length ps) 0) oq false) IsRoot
      ∷ result_err (target geo v (unwrap_or op [])) ∷ result_err (walk geo v root (unwrap_or oq []))
      ∷ late geo v (unwrap_or oq []) (result_unwrap_or (target geo v (unwrap_or op [])) 0) (result_unwrap_or (walk geo v root (unwrap_or oq [])) 0)
      (not (eqb (result_unwrap_or (walk geo v root (unwrap_or op [])) 0) (result_unwrap_or (walk geo v root (unwrap_or oq [])) 0)))

  abbrev ending : List (List ℕ) → ℕ → ℕ → ℕ → List (Option Refusal)
  ending qs i from d = late geo v qs i d (not (eqb from d))

  -- none of the causes holds up to where the ends are found
  pub none_before : (ps qs : List (List ℕ)) (ends : Ends) → AreEnds geo v ps qs ends → first_of (early geo v ps qs) ≡ None
  none_before ps qs ends are =
      none_first (early geo v ps qs)
      (some_parts ps are.some, (some_parts qs (walked_parts qs ends.directory are.directory), (ap result_err are.found.number, (ap result_err are.directory, tt))))

module _ (geo : Geometry) (old : State) (p q : List ℕ) where
  is_listed : causes geo old (Rename p q) ≡ listed geo old.view (parts_of p) (parts_of q)
  unfolding causes
  is_listed = refl

  pub bad_path : parts_of p ≡ None → FirstRefusal geo old (Rename p q) BadName
  bad_path e = inl (ap first_of is_listed ∙ ap (λ o. first_of (listed geo old.view o (parts_of q))) e)

  module _ (ps : List (List ℕ)) (e : parts_of p ≡ Some ps) where
    pub bad_other : parts_of q ≡ None → FirstRefusal geo old (Rename p q) BadName
    bad_other f = inl (ap first_of is_listed ∙ ap₂ (λ o u. first_of (listed geo old.view o u)) e f)

    module _ (qs : List (List ℕ)) (f : parts_of q ≡ Some qs) where
      abbrev rest : List (Option Refusal)
      rest = ending geo old.view qs (result_unwrap_or (target geo old.view ps) 0) (result_unwrap_or (walk geo old.view root ps) 0) (result_unwrap_or (walk geo old.view root qs) 0)

      of_parts : refusal_of geo old (Rename p q) ≡ first_of (early geo old.view ps qs ++ rest)
      of_parts = ap first_of is_listed ∙ ap₂ (λ o u. first_of (listed geo old.view o u)) e f

      pub refused_early : (r : Refusal) → first_of (early geo old.view ps qs) ≡ Some r → FirstRefusal geo old (Rename p q) r
      refused_early r h = inl (of_parts ∙ first_before (early geo old.view ps qs) rest r h)

      module _ (ends : Ends) (are : AreEnds geo old.view ps qs ends) where
        pub of_ends : refusal_of geo old (Rename p q) ≡ first_of (ending geo old.view qs ends.found.number ends.found.directory ends.directory)
        of_ends =
            of_parts ∙ first_behind (early geo old.view ps qs) rest (none_before geo old.view ps qs ends are)
            ∙ ap (λ r. first_of (ending geo old.view qs (result_unwrap_or r 0) (result_unwrap_or (walk geo old.view root ps) 0) (result_unwrap_or (walk geo old.view root qs) 0))) are.found.number
            ∙ ap₂ (λ r t. first_of (ending geo old.view qs ends.found.number (result_unwrap_or r 0) (result_unwrap_or t 0))) are.found.directory are.directory

        -- in one directory
        module _ (same : eqb ends.found.directory ends.directory ≡ true) where
          of_taken : refusal_of geo old (Rename p q) ≡ taken geo old.view qs
          of_taken = of_ends ∙ ap (λ b. first_of (late geo old.view qs ends.found.number ends.directory (not b))) same ∙ or_none (taken geo old.view qs)

          pub refused_within : (r : Refusal) → taken geo old.view qs ≡ Some r → FirstRefusal geo old (Rename p q) r
          refused_within r h = inl (of_taken ∙ h)

          pub accepted_within : taken geo old.view qs ≡ None → Accepts geo old (Rename p q)
          accepted_within h = (of_taken ∙ h, tt)

        -- between two
        module _ (apart : eqb ends.found.directory ends.directory ≡ false) where
          of_late : refusal_of geo old (Rename p q) ≡ first_of (late geo old.view qs ends.found.number ends.directory true)
          of_late = of_ends ∙ ap (λ b. first_of (late geo old.view qs ends.found.number ends.directory (not b))) apart

          pub refused_across : (r : Refusal) → first_of (late geo old.view qs ends.found.number ends.directory true) ≡ Some r → FirstRefusal geo old (Rename p q) r
          refused_across r h = inl (of_late ∙ h)

          pub accepted_across : first_of (late geo old.view qs ends.found.number ends.directory true) ≡ None → Accepts geo old (Rename p q)
          accepted_across h = (of_late ∙ h, tt)
