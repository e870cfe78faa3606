-- The derived order of claims is that of their keys, and claims of one block are in order of their inodes and positions.
use Rattle.std.proofs.Common.{◌≡◌, ◌<◌, ℕ, ◌⊎◌, inl, inr, refl, sym, subst, rules, true, List, [], ◌∷◌, ap, ◌∙◌, Ordering, Less, Equal, Greater}
use mathlib.Core.Path.{fun_ext}
use Rattle.std.specs.Cmp.{IsTotalOrder, on_total}
use Rattle.std.specs.Cmp.Lexicographic.{slice_cmp}
use Rattle.std.specs.Ordering.{MatchOrdering, eq_by_cmp, is_eq, nat_cmp, ordering_then}
use Rattle.std.specs.List.Sorted.{IsStrictlySortedBy}
use Rattle.std.proofs.lemmas.Cmp.{nat_list_cmp_total, ranked}
use Rattle.sets.specs.Ordered.{IsExact}
use Rattle.model.specs.Uses.{Before}
use Rattle.phase_blocks.specs.declared.parts.Claim.{Claim}
use Rattle.phase_blocks.specs.Parts.{claim_cmp, claim_key}
use Rattle.phase_blocks.specs.contracts.parts.ClaimOrd.TheImpl as derived
use Rattle.phase_blocks.specs.contracts.parts.ClaimPartialEq.TheImpl as derived_eq

pub claim_total : IsTotalOrder claim_cmp
claim_total = on_total claim_key nat_list_cmp_total

cmp_at : (x y : Claim) → derived.ghosts.cmp x y ≡ claim_cmp x y
cmp_at x y = search rules

eq_at : (x y : Claim) → derived_eq.ghosts.eq x y ≡ eq_by_cmp claim_cmp x y
eq_at x y = search rules

eq_same : (x y : Claim) → derived_eq.ghosts.eq x y ≡ true → x ≡ y
eq_same x y h = search rules

same_cmp : derived.ghosts.cmp ≡ claim_cmp
same_cmp = fun_ext (λ x. fun_ext (λ y. cmp_at x y))

-- claims that compare as equal are the same
pub claim_exact : IsExact derived.ghosts.cmp
claim_exact x y h = eq_same x y (eq_at x y ∙ ap is_eq (sym (cmp_at x y) ∙ h))

-- a list in the derived order
pub by_key : (xs : List Claim) → IsStrictlySortedBy derived.ghosts.cmp xs → IsStrictlySortedBy claim_cmp xs
by_key xs s = subst (λ c. IsStrictlySortedBy c xs) same_cmp s

pub by_derived : (xs : List Claim) → IsStrictlySortedBy claim_cmp xs → IsStrictlySortedBy derived.ghosts.cmp xs
by_derived xs s = subst (λ c. IsStrictlySortedBy c xs) (sym same_cmp) s

-- the first numbers of two keys decide, or they are equal and the others decide
first_less : (x y : ℕ) (o : Ordering) → ordering_then (nat_cmp x y) o ≡ Less → (x < y) ⊎ ((x ≡ y) × (o ≡ Less))
first_less x y o h = go (nat_cmp x y) (ranked x y (nat_cmp x y) refl) h
  where
    go : (r : Ordering) → MatchOrdering r (x < y) (x ≡ y) (y < x) → ordering_then r o ≡ Less → (x < y) ⊎ ((x ≡ y) × (o ≡ Less))
    go Less m h = inl m
    go Equal m h = inr (m, h)
    go Greater m h = absurd cc

key_less : (a i k b j l : ℕ) → slice_cmp nat_cmp (a ∷ i ∷ k ∷ []) (b ∷ j ∷ l ∷ []) ≡ Less → (a < b) ⊎ ((a ≡ b) × Before i k j l)
key_less a i k b j l h = elim (first_less a b (slice_cmp nat_cmp (i ∷ k ∷ []) (j ∷ l ∷ [])) h) [
  | inl x ↦ inl x
  | inr x ↦ inr (
    x.0,
    elim (first_less i j (slice_cmp nat_cmp (k ∷ []) (l ∷ [])) x.1) [
      | inl y ↦ inl y
      | inr y ↦ inr (y.0, elim (first_less k l Equal y.1) [ inl z ↦ z | inr z ↦ absurd (let e = z.1 in cc) ])
    ],
  )
]

-- a claim that comes first is of a lower block, or of the same block by an earlier use
pub claim_less : (c d : Claim) → claim_cmp c d ≡ Less → (c.block < d.block) ⊎ ((c.block ≡ d.block) × Before c.inode c.position d.inode d.position)
claim_less c d h = key_less c.block c.inode c.position d.block d.inode d.position h
