-- A view in which one slot of a directory changed.
use Rattle.std.proofs.Common.{◌≡◌, ℕ, ◌<◌, ◌/◌, List, ◌⊎◌, inl, inr, sym, ap, ◌∙◌, subst, IsTrue, arith, Some}
use Rattle.std.proofs.lemmas.Bool.{cases_eq, leb-true}
use Rattle.model.specs.Layout.{Geometry}
use Rattle.model.specs.View.{View}
use Rattle.model.specs.Cells.{SetBytes, updated}
use Rattle.model.specs.Shape.{most_blocks, is_table}
use Rattle.model.specs.Uses.{use_at, is_directory_at, IsUse, IsClaim}
use Rattle.model.specs.Slots.{Slot, Good, slot, slot_in, Names}
use Rattle.model.specs.Rules.{UsesAreClaims}
use Rattle.model.proofs.CellLemmas.{use_stays, slot_stays}
use Rattle.model.proofs.Slots.{slot_claimed}
use Rattle.model.proofs.Places.{put_here}

-- at the slot or elsewhere
pub at_or_not : (d s e t : ℕ) → ((e ≡ d) × (t ≡ s)) ⊎ ((e ≡ d) × (t ≡ s) → ⊥)
at_or_not d s e t = elim (cases_eq e d) [
  | inr differs ↦ inr (λ q. differs q.0)
  | inl same ↦ elim (cases_eq t s) [ inl at ↦ inl (same, at) | inr differs ↦ inr (λ q. differs q.1) ]
]

-- new bytes of a directory's block, by which one slot changes
pub record SlotChange (geo : Geometry) (view : View) (block : ℕ) (bytes : List ℕ) (d s : ℕ) (old new : Slot) : Type 0 where
  pub claim : IsClaim geo view d (s / 16) block
  pub directory : IsTrue (is_directory_at geo view d)
  pub below : s / 16 < most_blocks geo
  pub others : (t : ℕ) → t / 16 ≡ s / 16 → (t ≡ s → ⊥) → slot_in geo (view.bytes block) t ≡ slot_in geo bytes t
  pub before : slot_in geo (view.bytes block) s ≡ old
  pub now : slot_in geo bytes s ≡ new

module _ (geo : Geometry) (v : View) (block : ℕ) (bytes : List ℕ) (d s : ℕ) (old new : Slot) (h : SlotChange geo v block bytes d s old new) (u : UsesAreClaims geo v) where
  abbrev pub after : View
  after = updated v (SetBytes block bytes)

  no_table : (i m : ℕ) → IsTrue (is_table geo m) → IsClaim geo v i m block → ⊥
  no_table i m table c =
      let e : m ≡ s / 16 = (u.once i m d (s / 16) block c h.claim).1 in
      let high = leb-true (most_blocks geo) m table in omega (arith, e, high, h.below)

  pub slot_uses : (n k : ℕ) → use_at geo v n k ≡ use_at geo after n k
  slot_uses = use_stays geo v block bytes no_table

  pub slot_before : slot geo v d s ≡ old
  slot_before = slot_claimed geo v d s block h.directory h.below h.claim ∙ h.before

  pub slot_now : slot geo after d s ≡ new
  slot_now =
      slot_claimed geo after d s block h.directory h.below (sym (slot_uses d (s / 16)) ∙ h.claim.0, h.claim.1)
      ∙ ap (λ b. slot_in geo b s) (put_here v.bytes block bytes) ∙ h.now

  pub slot_others : (e t : ℕ) → ((e ≡ d) × (t ≡ s) → ⊥) → slot geo v e t ≡ slot geo after e t
  slot_others e t other = elim (cases_eq e d) [
    | inr differs ↦ slot_stays geo v block bytes no_table e t (λ c. differs (u.once e (t / 16) d (s / 16) block c h.claim).0)
    | inl same ↦ elim (cases_eq (t / 16) (s / 16)) [
      | inr differs ↦ slot_stays geo v block bytes no_table e t (λ c. differs (u.once e (t / 16) d (s / 16) block c h.claim).1)
      | inl at ↦
          let claim : IsClaim geo v e (t / 16) block = subst (λ k. IsClaim geo v k (t / 16) block) (sym same) (subst (λ k. IsClaim geo v d k block) (sym at) h.claim) in
          let dir : IsTrue (is_directory_at geo v e) = subst (λ k. IsTrue (is_directory_at geo v k)) (sym same) h.directory in
          let low : t / 16 < most_blocks geo = subst (λ k. k < most_blocks geo) (sym at) h.below in
          slot_claimed geo v e t block dir low claim
          ∙ h.others t at (λ q. other (same, q))
          ∙ sym (slot_claimed geo after e t block dir low (sym (slot_uses e (t / 16)) ∙ claim.0, claim.1) ∙ ap (λ b. slot_in geo b t) (put_here v.bytes block bytes))
    ]
  ]

  pub names_there : (e t j : ℕ) → ((e ≡ d) × (t ≡ s) → ⊥) → Names geo v e t j → Names geo after e t j
  names_there e t j other n = (n.0, sym (slot_others e t other) ∙ n.1)

  pub names_then : (e t j : ℕ) → ((e ≡ d) × (t ≡ s) → ⊥) → Names geo after e t j → Names geo v e t j
  names_then e t j other n = (n.0, slot_others e t other ∙ n.1)

  -- a block elsewhere, and the block of the slot
  pub block_there : (e t b : ℕ) → IsClaim geo v e (t / 16) b → IsClaim geo after e (t / 16) b
  block_there e t b c = (sym (slot_uses e (t / 16)) ∙ c.0, c.1)

  pub block_then : (e t b : ℕ) → IsClaim geo after e (t / 16) b → IsClaim geo v e (t / 16) b
  block_then e t b c = (slot_uses e (t / 16) ∙ c.0, c.1)

  pub the_block : (e t b : ℕ) → (e ≡ d) × (t ≡ s) → IsClaim geo v e (t / 16) b → b ≡ block
  the_block e t b at c =
      let mine : use_at geo v d (s / 16) ≡ Some b = subst (λ k. IsUse geo v k (s / 16) b) at.0 (subst (λ k. IsUse geo v e (k / 16) b) at.1 c.0) in
      let here : use_at geo v d (s / 16) ≡ Some block = h.claim.0 in cc

  pub names_at_slot : (e t j : ℕ) → (e ≡ d) × (t ≡ s) → Names geo v e t j → (name : List ℕ) × (old ≡ Good j name)
  names_at_slot e t j at n = (n.0, sym slot_before ∙ subst (λ k. slot geo v k s ≡ Good j n.0) at.0 (subst (λ k. slot geo v e k ≡ Good j n.0) at.1 n.1))

  pub names_at_slot_now : (e t j : ℕ) → (e ≡ d) × (t ≡ s) → Names geo after e t j → (name : List ℕ) × (new ≡ Good j name)
  names_at_slot_now e t j at n = (n.0, sym slot_now ∙ subst (λ k. slot geo after k s ≡ Good j n.0) at.0 (subst (λ k. slot geo after e k ≡ Good j n.0) at.1 n.1))
