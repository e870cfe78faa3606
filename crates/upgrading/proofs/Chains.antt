-- One more image that is held.
use Rattle.std.proofs.Common.{◌≡◌, ℕ, List, [], ◌∷◌, ◌++◌, refl}
use Rattle.upgrading.specs.Upgraded.{ChangesABlock, EachChangesABlock, last_held}

pub last_of_more : (now : List (List ℕ)) (more : List (List (List ℕ))) (next : List (List ℕ)) → last_held now (more ++ next ∷ []) ≡ next
last_of_more now [] next = refl
last_of_more now (image ∷ more) next = last_of_more image more next

pub changes_more : (start now : List (List ℕ)) (more : List (List (List ℕ))) (next : List (List ℕ)) → EachChangesABlock start now more → ChangesABlock start (last_held now more) next
    → EachChangesABlock start now (more ++ next ∷ [])
changes_more start now [] next each change = (change, tt)
changes_more start now (image ∷ more) next each change = (each.0, changes_more start image more next each.1 change)
