-- What a table has at a directory, and at any other number.
use Rattle.std.proofs.Common.{◌≡◌, ℕ, List, [], Option, Some, None, IsSome, unwrap_or, refl, ap, ◌∙◌, subst, IsTrue, IsFalse}
use Rattle.std.proofs.lemmas.Bool.{and_from, and_parts, both_ways, false≢true}
use Rattle.model.specs.Layout.{Geometry}
use Rattle.model.specs.View.{View}
use Rattle.model.specs.Named.{named_from}
use Rattle.model.specs.Tables.{value_in}
use Rattle.model.specs.Uses.{is_directory_at}
use Rattle.model.proofs.SlotLemmas.{directory_number}
use Rattle.directories.specs.Named.{IsNamed, numbers_in}
use Rattle.directories.specs.Pieces.{HasEveryNumber, Numbers}

module _ (geo : Geometry) (view : View) (first : ℕ) (numbers : Numbers) (table : List (ℕ × List ℕ)) (named : IsNamed geo view first numbers table) where
  pub at_directory : HasEveryNumber geo numbers → (d : ℕ) → IsTrue (is_directory_at geo view d) → numbers_in table d ≡ named_from geo view first d
  at_directory every d t =
      of_value (value_in table d) refl (named.all d (and_from (is_directory_at geo view d) (numbers d) t (every d (directory_number geo view d t))))
    where
      of_value : (o : Option (List ℕ)) → value_in table d ≡ o → IsSome (value_in table d) → numbers_in table d ≡ named_from geo view first d
      of_value None e s = absurd (false≢true (subst (λ o. IsSome o) e s))
      of_value (Some found) e s = ap (λ o. unwrap_or o []) e ∙ (named.each d found e).1

  pub at_other : (d : ℕ) → IsFalse (is_directory_at geo view d) → numbers_in table d ≡ []
  at_other d f = of_value (value_in table d) refl
    where
      of_value : (o : Option (List ℕ)) → value_in table d ≡ o → numbers_in table d ≡ []
      of_value None e = ap (λ o. unwrap_or o []) e
      of_value (Some found) e = absurd (both_ways (is_directory_at geo view d) f (and_parts (is_directory_at geo view d) (numbers d) (named.each d found e).0).0)
