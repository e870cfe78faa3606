use Rattle.std.proofs.Common.{rules, ◌≡◌, ℕ, zero, suc, ◌<◌, [], ◌∷◌, slice_index_or, subst, arith}
use Rattle.updates.specs.declared.change.Update.{Update}
use Rattle.updates.specs.Places.{IsUpdate}
use Rattle.metadata.proofs.tests.changes_of_one_block_add_up.Goals as goal

of_two : (P : Update → Type 0) (a b : Update) → P a → P b → (k : ℕ) (d : Update) → k < 2 → P (slice_index_or (a ∷ b ∷ []) k d)
of_two P a b p q zero d h = p
of_two P a b p q (suc zero) d h = q
of_two P a b p q (suc (suc k)) d h = absurd (omega arith)

pub stage-requires : goal.stage-requires
stage-requires g c k d h =
    let same : c.geometry-geometry.result ≡ c.in_ok-metadata.metadata.geometry = search rules in
    of_two (IsUpdate c.in_ok-metadata.metadata.geometry) c.in_ok-marked.field-0 c.in_ok-marked-2.field-0
    (subst (λ geo. IsUpdate geo c.in_ok-marked.field-0) same c.in_ok-marked.ensures) (subst (λ geo. IsUpdate geo c.in_ok-marked-2.field-0) same c.in_ok-marked-2.ensures) k d h
