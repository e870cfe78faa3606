-- A path is the path of the directory, a slash and the name.
use Rattle.std.proofs.Common.{◌≡◌, ℕ, suc, cond, List, [], ◌∷◌, ◌++◌, Option, Some, None, slice_get, option_map, option_and_then, sym, ap, subst, ◌∙◌, append_assoc}
use Rattle.std.specs.Prelude.{IfSome}
use Rattle.std.proofs.lemmas.Bool.{ne_eqb}
use Rattle.fuse_nodes.specs.Known.{Named}
use Rattle.fuse_nodes.specs.Table.{Table, known, path_of}

behind_front : (out mid new text : List ℕ) (front : Option (List ℕ)) → IfSome front (λ path. mid ≡ out ++ path) → new ≡ (mid ++ 47 ∷ []) ++ text
    → IfSome (option_map (λ (path : List ℕ). path ++ 47 ∷ text) front) (λ path. new ≡ out ++ path)
behind_front out mid new text None h e = tt
behind_front out mid new text (Some path) h e =
    e ∙ ap (λ m. (m ++ 47 ∷ []) ++ text) h ∙ append_assoc (out ++ path) (47 ∷ []) text ∙ append_assoc out path (47 ∷ text)

pub path_goes_on : (k : ℕ) (t : Table) (number : ℕ) (name : Named) (out mid new : List ℕ) → (number ≡ 2 → ⊥) → slice_get (known t number).names 0 ≡ Some name
    → IfSome (path_of k t name.directory) (λ path. mid ≡ out ++ path) → new ≡ (mid ++ 47 ∷ []) ++ name.name → IfSome (path_of (suc k) t number) (λ path. new ≡ out ++ path)
path_goes_on k t number name out mid new no_root first h e =
    let step : Named → Option (List ℕ) = λ (n : Named). option_map (λ (path : List ℕ). path ++ 47 ∷ n.name) (path_of k t n.directory) in
    let root : Option (List ℕ) = Some [] in
    let one : path_of (suc k) t number ≡ step name =
    ap (λ b. cond b root (option_and_then step (slice_get (known t number).names 0))) (ne_eqb number 2 no_root) ∙ ap (option_and_then step) first in
    subst (λ o. IfSome o (λ path. new ≡ out ++ path)) (sym one) (behind_front out mid new name.name (path_of k t name.directory) h e)
