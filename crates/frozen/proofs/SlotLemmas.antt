-- The slots of a frozen directory stand in the block that it claims for them.
use Rattle.std.proofs.Common.{◌≡◌, ◌<◌, ◌≤◌, ◌/◌, ℕ, ◌&&◌, ltb, cond, Bool, true, false, List, [], Option, Some, None, IsSome, unwrap_or, IsTrue, IsFalse, ap, ◌∙◌}
use Rattle.std.specs.Option.{option_map_or}
use Rattle.std.proofs.lemmas.Bool.{and_from, cond-true, cond-false, le-ltb, lt-ltb}
use Rattle.std.proofs.Math.Bool.{and-false}
use Rattle.model.specs.Layout.{Geometry, is_data_address}
use Rattle.model.specs.View.{View}
use Rattle.model.specs.Shape.{most_blocks}
use Rattle.model.specs.Uses.{is_directory_at, claim_at}
use Rattle.model.specs.Slots.{Absent, slot, slot_in}
use Rattle.model.proofs.UseLemmas.{claim_parts}
use Rattle.frozen.specs.Kept.{Kept, KeepsMetadata, frozen_view, kept_at}

module _ (geo : Geometry) (view : View) (d s : ℕ) where
  -- a directory has no slots from the position of its first table on
  pub no_slot_past : most_blocks geo ≤ s / 16 → slot geo view d s ≡ Absent
  unfolding slot
  no_slot_past past =
      cond-false (is_directory_at geo view d && ltb (s / 16) (most_blocks geo)) (option_map_or (λ a. slot_in geo (view.bytes a) s) (claim_at geo view d (s / 16)) Absent) Absent
      (ap (λ b. is_directory_at geo view d && b) (le-ltb (s / 16) (most_blocks geo) past) ∙ and-false (is_directory_at geo view d))

  -- what is no sound directory has none
  pub no_slot_of : IsFalse (is_directory_at geo view d) → slot geo view d s ≡ Absent
  unfolding slot
  no_slot_of none =
      cond-false (is_directory_at geo view d && ltb (s / 16) (most_blocks geo)) (option_map_or (λ a. slot_in geo (view.bytes a) s) (claim_at geo view d (s / 16)) Absent) Absent
      (ap (λ b. b && ltb (s / 16) (most_blocks geo)) none)

  -- else they stand in the block that it claims, and are left out where it claims none
  pub slot_of_claim : IsTrue (is_directory_at geo view d) → s / 16 < most_blocks geo
      → slot geo view d s ≡ option_map_or (λ a. slot_in geo (view.bytes a) s) (claim_at geo view d (s / 16)) Absent
  unfolding slot
  slot_of_claim is low =
      cond-true (is_directory_at geo view d && ltb (s / 16) (most_blocks geo)) (option_map_or (λ a. slot_in geo (view.bytes a) s) (claim_at geo view d (s / 16)) Absent) Absent
      (and_from (is_directory_at geo view d) (ltb (s / 16) (most_blocks geo)) is (lt-ltb (s / 16) (most_blocks geo) low))

-- the bytes of a block that is kept
kept_slot : (geo : Geometry) (s : ℕ) (is_data : Bool) (o : Option (List ℕ)) → is_data ≡ true → IsSome o
    → slot_in geo (cond is_data (unwrap_or o []) []) s ≡ option_map_or (λ block. slot_in geo block s) o Absent
kept_slot geo s is_data None is some = let bad : false ≡ true = some in cc
kept_slot geo s is_data (Some block) is some = ap (λ b. slot_in geo (cond b block []) s) is

module _ (kept : Kept) (metadata : KeepsMetadata kept) (d k s : ℕ) (at : s / 16 ≡ k) where
  pub slot_kept : (a : ℕ) → IsTrue (is_directory_at kept.geometry (frozen_view kept) d) → k < most_blocks kept.geometry → claim_at kept.geometry (frozen_view kept) d k ≡ Some a
      → slot kept.geometry (frozen_view kept) d s ≡ option_map_or (λ block. slot_in kept.geometry block s) (kept_at kept.blocks a) Absent
  slot_kept a is low claimed =
      let claim = claim_parts kept.geometry (frozen_view kept) d k a claimed in
      slot_of_claim kept.geometry (frozen_view kept) d s is (rw at low)
      ∙ ap (λ o. option_map_or (λ b. slot_in kept.geometry ((frozen_view kept).bytes b) s) o Absent) (ap (claim_at kept.geometry (frozen_view kept) d) at ∙ claimed)
      ∙ kept_slot kept.geometry s (is_data_address kept.geometry a) (kept_at kept.blocks a) claim.1 (metadata.directory_blocks d is k a claim)

  pub slot_left_out : IsTrue (is_directory_at kept.geometry (frozen_view kept) d) → k < most_blocks kept.geometry → claim_at kept.geometry (frozen_view kept) d k ≡ None
      → slot kept.geometry (frozen_view kept) d s ≡ Absent
  slot_left_out is low none =
      slot_of_claim kept.geometry (frozen_view kept) d s is (rw at low)
      ∙ ap (λ o. option_map_or (λ b. slot_in kept.geometry ((frozen_view kept).bytes b) s) o Absent) (ap (claim_at kept.geometry (frozen_view kept) d) at ∙ none)
