-- The bytes of a file, block by block.
use Rattle.std.proofs.Common.{◌≡◌, ◌<◌, ◌+◌, ◌-◌, ◌*◌, ◌&&◌, leb, ltb, ℕ, zero, suc, min, List, [], ◌++◌, length, take, Some, None, IsTrue, inl, inr, refl, sym, ap, ap₂, ◌∙◌, arith}
use Rattle.std.specs.Prelude.{unwrap_or}
use Rattle.std.specs.Option.{option_and_then}
use Rattle.std.specs.Bool.{then_some}
use Rattle.std.proofs.lemmas.Bool.{and_parts, cases_Bool, cond-false, cond-true, ltb-true}
use Rattle.std.proofs.lemmas.List.{take_min}
use Rattle.frozen.specs.Kept.{IsKeptOf, Kept, frozen_view}
use Rattle.model.specs.Image.{block_at, image_view}
use Rattle.model.specs.Layout.{Geometry, block_count, header_blocks, is_data_address, is_number, place_in_group}
use Rattle.model.specs.Metadata.{SameMetadata}
use Rattle.model.specs.Uses.{claim_at, is_directory_at}
use Rattle.model.specs.View.{Inode, View, free_inode}
use Rattle.model.proofs.Same.{same_facts}
use Rattle.model.proofs.UseLemmas.{claim_parts}
use Rattle.machine.specs.Cells.{seen}
use Rattle.reading.specs.Bytes.{seen_below}

pub seen_next : (geo : Geometry) (view : View) (i k : ℕ) → seen_below geo view i (k + 1) ≡ seen_below geo view i k ++ seen geo view i k
unfolding seen_below
seen_next geo view i k = let e : k + 1 ≡ suc k = omega arith in ap (seen_below geo view i) e

pub seen_none : (geo : Geometry) (view : View) (i : ℕ) → seen_below geo view i 0 ≡ []
unfolding seen_below
seen_none geo view i = refl

pub address_below : (geo : Geometry) (a : ℕ) → IsTrue (is_data_address geo a) → a < block_count geo
address_below geo a t =
    ltb-true a (block_count geo) (and_parts (ltb 0 a) (ltb a (block_count geo)) (and_parts (ltb 0 a && ltb a (block_count geo)) (leb (header_blocks geo) (place_in_group geo a)) t).0).1

module _ (geo : Geometry) (v w : View) (same : SameMetadata geo v w) where
  pub same_claim : (i k : ℕ) → claim_at geo v i k ≡ claim_at geo w i k
  unfolding claim_at
  same_claim i k = ap (option_and_then (λ a. then_some (is_data_address geo a) a)) ((same_facts geo v w same).uses i k)

  pub same_directory : (i : ℕ) → is_directory_at geo v i ≡ is_directory_at geo w i
  same_directory i = (same_facts geo v w same).directory_at i

-- a view of an image has nothing at number 0
nothing_at_zero : (geo : Geometry) (image : List (List ℕ)) (n : ℕ) → take n ((image_view geo image).bytes 0) ≡ []
nothing_at_zero geo image zero = refl
nothing_at_zero geo image (suc n) = refl

-- the records are those of the image, also of numbers that are not looked at
pub same_inode : (kept : Kept) (image : List (List ℕ)) → IsKeptOf kept image → (i : ℕ) → (frozen_view kept).inode i ≡ (image_view kept.geometry image).inode i
same_inode kept image is i = elim (cases_Bool (is_number kept.geometry i)) [
  | inl t ↦ is.metadata.inode i t
  | inr f ↦ cond-false (is_number kept.geometry i) _ free_inode f ∙ sym (cond-false (is_number kept.geometry i) _ free_inode f)
]

module _ (kept : Kept) (image : List (List ℕ)) (is : IsKeptOf kept image) (i k : ℕ) where
  pub seen_nothing : claim_at kept.geometry (frozen_view kept) i k ≡ None → seen kept.geometry (image_view kept.geometry image) i k ≡ []
  seen_nothing none =
      ap (λ o. take (((image_view kept.geometry image).inode i).size - 1024 * k) ((image_view kept.geometry image).bytes (unwrap_or o 0)))
      (sym (same_claim kept.geometry (frozen_view kept) (image_view kept.geometry image) is.metadata i k) ∙ none)
      ∙ nothing_at_zero kept.geometry image (((image_view kept.geometry image).inode i).size - 1024 * k)

  pub seen_block : (a : ℕ) (block : List ℕ) (n : ℕ) → claim_at kept.geometry (frozen_view kept) i k ≡ Some a → block ≡ block_at image a → length block ≡ 1024
      → n ≡ min (((frozen_view kept).inode i).size - 1024 * k) 1024 → take n block ≡ seen kept.geometry (image_view kept.geometry image) i k
  seen_block a block n claim same whole count =
      let view = image_view kept.geometry image in
      let size = ((frozen_view kept).inode i).size in
      let address : IsTrue (is_data_address kept.geometry a) = (claim_parts kept.geometry (frozen_view kept) i k a claim).1 in
      let there : view.bytes a ≡ block = cond-true (is_data_address kept.geometry a) (block_at image a) [] address ∙ sym same in
      let shown : seen kept.geometry view i k ≡ take (size - 1024 * k) block =
      ap₂ (λ (r : Inode) b. take (r.size - 1024 * k) b) (sym (same_inode kept image is i))
      (ap (λ o. view.bytes (unwrap_or o 0)) (sym (same_claim kept.geometry (frozen_view kept) view is.metadata i k) ∙ claim) ∙ there) in
      let bounded : n ≡ min (size - 1024 * k) (length block) = count ∙ ap (min (size - 1024 * k)) (sym whole) in
      ap (λ m. take m block) bounded ∙ take_min (size - 1024 * k) block ∙ sym shown
