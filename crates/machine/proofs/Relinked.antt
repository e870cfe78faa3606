-- What a change of the links of an inode leaves as it is.
use Rattle.std.proofs.Common.{◌≡◌, ℕ, false, not, ◌&&◌, eqb, [], ◌∷◌, inl, inr, refl, ap, ◌∙◌, ne_eqb}
use Rattle.std.proofs.lemmas.Bool.{cases_Bool, cond-true, cond-false}
use Rattle.model.specs.Layout.{Geometry}
use Rattle.model.specs.View.{free_inode}
use Rattle.model.specs.Cells.{SetInode, SetNumber, updated_all}
use Rattle.machine.specs.State.{State, is_open}
use Rattle.machine.specs.Effects.{lets_go, with_links, relinked}
use Rattle.machine.proofs.OtherLinks.{other_links}

module _ (geo : Geometry) (s : State) (i n : ℕ) where
  abbrev mid : State
  mid = record s { view = other_links geo s.view i n }

  -- whatever the freed and the other state share
  shared : {A : Type 0} (f : State → A) (x : A) → f (lets_go geo mid i (updated_all mid.view (SetInode i free_inode ∷ SetNumber i false ∷ []))) ≡ x → f mid ≡ x → f (relinked geo s i n) ≡ x
  shared f x p q = elim (cases_Bool (eqb (mid.view.inode i).links 0 && not (is_open mid i))) [
    | inl t ↦ ap f (cond-true (eqb (mid.view.inode i).links 0 && not (is_open mid i)) _ mid t) ∙ p
    | inr g ↦ ap f (cond-false (eqb (mid.view.inode i).links 0 && not (is_open mid i)) _ mid g) ∙ q
  ]

  pub relinked_plan : (relinked geo s i n).plan ≡ s.plan
  relinked_plan = shared (λ t. t.plan) s.plan refl refl

  pub relinked_snapshots : (relinked geo s i n).snapshots ≡ s.snapshots
  relinked_snapshots = shared (λ t. t.snapshots) s.snapshots refl refl

  pub relinked_opened : (relinked geo s i n).opened ≡ s.opened
  relinked_opened = shared (λ t. t.opened) s.opened refl refl

  pub relinked_other : (j : ℕ) → (j ≡ i → ⊥) → (relinked geo s i n).view.inode j ≡ s.view.inode j
  relinked_other j differs = shared (λ t. t.view.inode j) (s.view.inode j)
      (cond-false (eqb j i) free_inode (mid.view.inode j) (ne_eqb j i differs) ∙ there) there
    where
      there : mid.view.inode j ≡ s.view.inode j
      there = cond-false (eqb j i) (with_links (s.view.inode i) n) (s.view.inode j) (ne_eqb j i differs)
