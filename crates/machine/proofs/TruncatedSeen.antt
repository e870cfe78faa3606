-- What is seen after a truncation.
use Rattle.std.proofs.Common.{◌≡◌, ◌<◌, ◌≤◌, ◌-◌, ◌*◌, ℕ, List, take, ◌⊎◌, inl, inr, refl, sym, ap, ◌∙◌, subst, arith, IsTrue, Some, Ok}
use Rattle.std.specs.Prelude.{unwrap_or}
use Rattle.std.proofs.lemmas.Bool.{cases_lt, and_from}
use Rattle.std.proofs.lemmas.List.{take-take}
use Rattle.model.specs.Layout.{Geometry, IsGeometry, is_number}
use Rattle.model.specs.View.{View, Inode}
use Rattle.model.specs.Uses.{is_sound, is_sound_at, blocks_of, record_use, IsUse}
use Rattle.model.proofs.UseLemmas.{claim_from}
use Rattle.model.proofs.Uses.{use_number, number_use, record_uses_agree}
use Rattle.model.proofs.Places.{put_here, put_there}
use Rattle.machine.specs.State.{State}
use Rattle.machine.specs.Command.{Truncate, Done}
use Rattle.machine.specs.Cells.{seen, block_of}
use Rattle.machine.specs.Causes.{file_of}
use Rattle.machine.specs.Effects.{truncated}
use Rattle.machine.specs.Balance.{Balance}
use Rattle.machine.specs.Step.{Step}
use Rattle.machine.proofs.Decisions.{sound_mode, sound_parts}
use Rattle.machine.proofs.Reading.{claimed}
use Rattle.machine.proofs.SameFiles.{SameFile, record_file}
use Rattle.machine.proofs.Truncating.{shorter_uses, truncate_allows}
use Rattle.machine.proofs.AllSteps.{step_keeps}

-- other inodes show what they showed
pub truncated_others : (geo : Geometry) (old : State) (i n j : ℕ) → (j ≡ i → ⊥) → SameFile geo old.view (truncated geo old i n).view j
truncated_others geo old i n j apart = record_file geo old.view (truncated geo old i n).view j (sym (put_there old.view.inode i j (record (old.view.inode i) { size = n }) apart)) refl

module _ (geo : Geometry) (g : IsGeometry geo) (old new : State) (h n : ℕ) (b : Balance geo old) (s : Step geo old (Truncate h n) (Ok Done) new) where
  abbrev i : ℕ
  i = file_of old h

  abbrev v : View
  v = old.view

  abbrev w : View
  w = new.view

  -- the new state is in balance
  after : Balance geo new
  after = step_keeps geo g old new (Truncate h n) (Ok Done) b s

  -- a fact of the truncated state
  here : (P : State → Type 0) → P (truncated geo old i n) → P new
  here P p = subst P (sym s.1) p

  -- its record has the new size and is else the same
  pub truncated_size : (w.inode i).size ≡ n
  truncated_size = here (λ t. (t.view.inode i).size ≡ n) (ap (λ (r : Inode). r.size) (put_here v.inode i (record (v.inode i) { size = n })))

  same_bytes : w.bytes ≡ v.bytes
  same_bytes = here (λ t. t.view.bytes ≡ v.bytes) refl

  same_record : w.inode i ≡ record (v.inode i) { size = n }
  same_record = here (λ t. t.view.inode i ≡ record (v.inode i) { size = n }) (put_here v.inode i (record (v.inode i) { size = n }))

  same_mode : (w.inode i).mode ≡ (v.inode i).mode
  same_mode = here (λ t. (t.view.inode i).mode ≡ (v.inode i).mode) (ap (λ (r : Inode). r.mode) (put_here v.inode i (record (v.inode i) { size = n })))

  module _ (sound : IsTrue (is_sound_at geo v i)) (less : n ≤ (v.inode i).size) where
    still : IsTrue (is_sound_at geo w i)
    still =
        let p = sound_parts geo v i sound in
        elim (after.rules.rule2 i p.0) [ inl none ↦ absurd (sound_mode geo (v.inode i) p.1 (sym same_mode ∙ none)) | inr t ↦ and_from (is_number geo i) (is_sound geo (w.inode i)) p.0 t ]

    -- what is used was used
    was_used : (q a : ℕ) → IsUse geo w i q a → IsUse geo v i q a
    was_used q a u =
        let p = use_number geo w i q a u in
        number_use geo v i q a p.0 (shorter_uses geo (v.inode i) n less v (sound_parts geo v i sound).1 q a
        (sym (record_uses_agree geo w v (record (v.inode i) { size = n }) q (λ m t above e d. ap (λ (bytes : ℕ → List ℕ). bytes t) same_bytes))
        ∙ subst (λ (y : Inode). record_use geo w y q ≡ Some a) same_record p.1))

    -- a block below the new size is the old one
    within : (q : ℕ) → q < blocks_of n → block_of geo w i q ≡ block_of geo v i q
    within q low =
        let c = claimed geo w after.rules after.whole i q still (omega (arith, low, truncated_size)) in
        ap (λ o. unwrap_or o 0) (claim_from geo w i q c.0 c.1 ∙ sym (claim_from geo v i q c.0 (was_used q c.0 c.1.0, c.1.1)))

    -- and past it nothing is seen
    cut : (q : ℕ) → seen geo w i q ≡ take (n - 1024 * q) (seen geo v i q)
    cut q =
        ap (λ m. take (m - 1024 * q) (w.bytes (block_of geo w i q))) truncated_size
        ∙ ap (λ (bytes : ℕ → List ℕ). take (n - 1024 * q) (bytes (block_of geo w i q))) same_bytes
        ∙ by (cases_lt q (blocks_of n))
      where
        by : (q < blocks_of n) ⊎ (blocks_of n ≤ q) → take (n - 1024 * q) (v.bytes (block_of geo w i q)) ≡ take (n - 1024 * q) (seen geo v i q)
        by (inl low) =
            ap (λ a. take (n - 1024 * q) (v.bytes a)) (within q low)
            ∙ sym (take-take (n - 1024 * q) ((v.inode i).size - 1024 * q) (v.bytes (block_of geo v i q)) (omega (arith, less)))
        by (inr past) =
            let none : n - 1024 * q ≡ 0 = omega (arith, past) in
            ap (λ m. take m (v.bytes (block_of geo w i q))) none ∙ sym (ap (λ m. take m (seen geo v i q)) none)

  -- what is seen is cut at the new size
  pub truncated_seen : (q : ℕ) → seen geo w i q ≡ take (n - 1024 * q) (seen geo v i q)
  truncated_seen = truncate_allows geo old new b h n s.0.0 (λ sound file less. cut sound less)
