-- Writes of which nothing is known after a sync that failed, once each of their blocks is written again.
use Rattle.std.proofs.Common.{◌≡◌, ℕ, Bool, true, false, List, [], ◌∷◌, ◌⊎◌, inl, inr, refl, sym, ap, ◌∙◌, Contains, eqb, eq-eqb}
use Rattle.std.proofs.lemmas.Bool.{cases_eq, cond-true}
use mathlib.Core.Path.{fun_ext}
use Rattle.model.proofs.Places.{put_there}
use Rattle.queue_model.proofs.Lists.{contains_head, contains_tail, contains_cases, contains_none}
use Rattle.device.specs.Media.{chosen}
use Rattle.power_cut.specs.Epochs.{Put, blocks_with}

-- what stands at an address that is not among the writes
at_address : (blocks : ℕ → List ℕ) (old : List Put) (picks : List Bool) (b : ℕ) → (blocks_with blocks (chosen old picks) b ≡ blocks_with blocks old b) ⊎ ((p : Put) × Contains old p × (p.address ≡ b))
at_address blocks [] picks b = inl refl
at_address blocks (p ∷ ps) [] b = elim (cases_eq b p.address) [
  | inl e ↦ inr (p, contains_head p ps, sym e)
  | inr d ↦ elim (at_address blocks ps [] b) [
    | inl same ↦ inl (nothing ps ∙ same ∙ sym (put_there (blocks_with blocks ps) p.address b p.bytes d))
    | inr r ↦ inr (r.0, contains_tail p r.0 ps r.1, r.2)
  ]
]
  where
    nothing : (ps : List Put) → blocks b ≡ blocks_with blocks (chosen ps []) b
    nothing [] = refl
    nothing (e ∷ es) = refl
at_address blocks (p ∷ ps) (true ∷ picks) b = elim (cases_eq b p.address) [
  | inl e ↦ inr (p, contains_head p ps, sym e)
  | inr d ↦ elim (at_address blocks ps picks b) [
    | inl same ↦ inl (put_there (blocks_with blocks (chosen ps picks)) p.address b p.bytes d ∙ same ∙ sym (put_there (blocks_with blocks ps) p.address b p.bytes d))
    | inr r ↦ inr (r.0, contains_tail p r.0 ps r.1, r.2)
  ]
]
at_address blocks (p ∷ ps) (false ∷ picks) b = elim (cases_eq b p.address) [
  | inl e ↦ inr (p, contains_head p ps, sym e)
  | inr d ↦ elim (at_address blocks ps picks b) [
    | inl same ↦ inl (same ∙ sym (put_there (blocks_with blocks ps) p.address b p.bytes d))
    | inr r ↦ inr (r.0, contains_tail p r.0 ps r.1, r.2)
  ]
]

-- what is written over two lists of blocks is the same where they are, or where it is written
over_both : (f g : ℕ → List ℕ) (new : List Put) (b : ℕ) → (f b ≡ g b) ⊎ ((p : Put) × Contains new p × (p.address ≡ b)) → blocks_with f new b ≡ blocks_with g new b
over_both f g [] b (inl e) = e
over_both f g [] b (inr r) = absurd (contains_none r.0 r.1)
over_both f g (p ∷ new) b h = elim (cases_eq b p.address) [
  | inl e ↦ cond-true (eqb b p.address) p.bytes (blocks_with f new b) (eq-eqb b p.address e) ∙ sym (cond-true (eqb b p.address) p.bytes (blocks_with g new b) (eq-eqb b p.address e))
  | inr d ↦ put_there (blocks_with f new) p.address b p.bytes d ∙ over_both f g new b (less d h) ∙ sym (put_there (blocks_with g new) p.address b p.bytes d)
]
  where
    less : (b ≡ p.address → ⊥) → (f b ≡ g b) ⊎ ((e : Put) × Contains (p ∷ new) e × (e.address ≡ b)) → (f b ≡ g b) ⊎ ((e : Put) × Contains new e × (e.address ≡ b))
    less d (inl e) = inl e
    less d (inr r) = elim (contains_cases p r.0 new r.1) [
      | inl same ↦ absurd (d (sym r.2 ∙ ap (λ (x : Put). x.address) (sym same)))
      | inr n ↦ inr (r.0, n, r.2)
    ]

pub written_again : (blocks : ℕ → List ℕ) (old new : List Put) (picks : List Bool) → ((p : Put) → Contains old p → (e : Put) × Contains new e × (e.address ≡ p.address))
    → blocks_with (blocks_with blocks (chosen old picks)) new ≡ blocks_with (blocks_with blocks old) new
written_again blocks old new picks again = fun_ext (λ b. over_both (blocks_with blocks (chosen old picks)) (blocks_with blocks old) new b (elim (at_address blocks old picks b) [
  | inl same ↦ inl same
  | inr r ↦ let e = again r.0 r.1 in inr (e.0, e.1, e.2 ∙ r.2)
]))
