-- The slots of a directory, by the value that its record uses at their position.
use Rattle.std.proofs.Common.{◌≡◌, ◌<◌, ◌/◌, ℕ, cond, List, [], Some, None, unwrap_or, IsTrue, IsFalse, ap, ap₂, ◌∙◌}
use Rattle.std.specs.Option.{option_map_or}
use Rattle.std.proofs.lemmas.Bool.{and_parts}
use Rattle.model.specs.Layout.{is_data_address, is_number}
use Rattle.model.specs.Shape.{most_blocks}
use Rattle.model.specs.Uses.{claim_at, is_directory, is_directory_at, is_sound, is_sound_at, record_use, use_at}
use Rattle.model.specs.Slots.{Absent, slot, slot_in}
use Rattle.model.proofs.UseLemmas.{claim_from, no_claim_of_use, no_use_no_claim, use_of_record}
use Rattle.frozen.specs.Kept.{Kept, frozen_view, kept_at}
use Rattle.frozen.proofs.SlotLemmas.{slot_of_claim}

module _ (kept : Kept) (d k s : ℕ) (at : s / 16 ≡ k) (is : IsTrue (is_directory_at kept.geometry (frozen_view kept) d)) (low : k < most_blocks kept.geometry) where
  number : IsTrue (is_number kept.geometry d)
  number =
      let sound = and_parts (is_sound_at kept.geometry (frozen_view kept) d) (is_directory ((frozen_view kept).inode d)) is in
      (and_parts (is_number kept.geometry d) (is_sound kept.geometry ((frozen_view kept).inode d)) sound.0).0

  uses : use_at kept.geometry (frozen_view kept) d k ≡ record_use kept.geometry (frozen_view kept) ((frozen_view kept).inode d) k
  uses = use_of_record kept.geometry (frozen_view kept) d k number

  by_claim : slot kept.geometry (frozen_view kept) d s ≡ option_map_or (λ a. slot_in kept.geometry ((frozen_view kept).bytes a) s) (claim_at kept.geometry (frozen_view kept) d k) Absent
  by_claim =
      slot_of_claim kept.geometry (frozen_view kept) d s is (rw at low)
      ∙ ap (λ p. option_map_or (λ a. slot_in kept.geometry ((frozen_view kept).bytes a) s) (claim_at kept.geometry (frozen_view kept) d p) Absent) at

  -- they are left out where it uses none
  pub unused_no_slot : record_use kept.geometry (frozen_view kept) ((frozen_view kept).inode d) k ≡ None → slot kept.geometry (frozen_view kept) d s ≡ Absent
  unused_no_slot e =
      by_claim ∙ ap (λ o. option_map_or (λ a. slot_in kept.geometry ((frozen_view kept).bytes a) s) o Absent) (no_use_no_claim kept.geometry (frozen_view kept) d k (uses ∙ e))

  -- or no data block's address
  pub no_data_no_slot : (a : ℕ) → record_use kept.geometry (frozen_view kept) ((frozen_view kept).inode d) k ≡ Some a → IsFalse (is_data_address kept.geometry a)
      → slot kept.geometry (frozen_view kept) d s ≡ Absent
  no_data_no_slot a e f =
      by_claim ∙ ap (λ o. option_map_or (λ b. slot_in kept.geometry ((frozen_view kept).bytes b) s) o Absent) (no_claim_of_use kept.geometry (frozen_view kept) d k a (uses ∙ e) f)

  -- else they stand in the block of this address
  pub slot_stands : (a : ℕ) (block : List ℕ) → record_use kept.geometry (frozen_view kept) ((frozen_view kept).inode d) k ≡ Some a → IsTrue (is_data_address kept.geometry a)
      → kept_at kept.blocks a ≡ Some block → slot kept.geometry (frozen_view kept) d s ≡ slot_in kept.geometry block s
  slot_stands a block e t here =
      let claim = claim_from kept.geometry (frozen_view kept) d k a (uses ∙ e, t) in
      let bytes : (frozen_view kept).bytes a ≡ block = ap₂ (λ b o. cond b (unwrap_or o []) []) t here in
      by_claim ∙ ap (λ o. option_map_or (λ b. slot_in kept.geometry ((frozen_view kept).bytes b) s) o Absent) claim ∙ ap (λ b. slot_in kept.geometry b s) bytes
