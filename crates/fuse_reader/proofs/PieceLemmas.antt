-- The bytes of a file, block by block.
use Rattle.std.proofs.Common.{◌≡◌, ◌<◌, ◌+◌, ◌-◌, ◌*◌, ◌&&◌, ◌||◌, leb, ltb, ℕ, suc, true, false, min, List, [], ◌++◌, length, take, Some, None, Result, Err, IsTrue, inl, inr, refl, sym, ap, ap₂, ◌∙◌, arith}
use Rattle.std.specs.Prelude.{is_some, not, unwrap_or}
use Rattle.std.specs.Option.{option_and_then}
use Rattle.std.specs.Bool.{then_some}
use Rattle.std.proofs.lemmas.Bool.{and_parts, cases_Bool, cond-false, cond-true, ltb-true}
use Rattle.std.proofs.lemmas.List.{take_min}
use Rattle.layout.specs.declared.refusal.Refusal.{Refusal}
use Rattle.frozen.specs.Kept.{IsKeptOf, Kept, frozen_view}
use Rattle.model.specs.Below.{any_below}
use Rattle.model.specs.Image.{block_at, image_view}
use Rattle.model.specs.Layout.{Geometry, block_count, header_blocks, is_data_address, is_number, place_in_group}
use Rattle.model.specs.Metadata.{SameMetadata}
use Rattle.model.specs.Uses.{claim_at}
use Rattle.model.specs.View.{Inode, View, free_inode}
use Rattle.model.proofs.Same.{same_facts}
use Rattle.model.proofs.UseLemmas.{claim_parts}
use Rattle.machine.proofs.Decisions.{any_here}
use Rattle.machine.specs.Cells.{seen}
use Rattle.fuse_reader.specs.Pieces.{lacks_block, seen_from}

module _ (geo : Geometry) (view : View) (i k : ℕ) where
  pub seen_next : (n : ℕ) → seen_from geo view i k (n + 1) ≡ seen_from geo view i k n ++ seen geo view i (k + n)
  unfolding seen_from
  seen_next n = let e : n + 1 ≡ suc n = omega arith in ap (seen_from geo view i k) e

  pub seen_none : seen_from geo view i k 0 ≡ []
  unfolding seen_from
  seen_none = refl

  pub lacks_none : lacks_block geo view i k 0 ≡ false
  unfolding any_below
  lacks_none = refl

  pub lacks_more : (n : ℕ) → lacks_block geo view i k n ≡ false → is_some (claim_at geo view i (k + n)) ≡ true → lacks_block geo view i k (n + 1) ≡ false
  unfolding any_below
  lacks_more n e h = let next : n + 1 ≡ suc n = omega arith in ap (lacks_block geo view i k) next ∙ ap₂ (λ a b. a || not b) e h

  pub lacks_here : (n j : ℕ) → j < n → claim_at geo view i (k + j) ≡ None → lacks_block geo view i k n ≡ true
  lacks_here n j below e = any_here n (λ j. not (is_some (claim_at geo view i (k + j)))) j below (ap (λ o. not (is_some o)) e)

pub address_below : (geo : Geometry) (a : ℕ) → IsTrue (is_data_address geo a) → a < block_count geo
address_below geo a t =
    ltb-true a (block_count geo) (and_parts (ltb 0 a) (ltb a (block_count geo)) (and_parts (ltb 0 a && ltb a (block_count geo)) (leb (header_blocks geo) (place_in_group geo a)) t).0).1

-- the records are those of the image, also of numbers that are not looked at
pub same_inode : (kept : Kept) (image : List (List ℕ)) → IsKeptOf kept image → (i : ℕ) → (frozen_view kept).inode i ≡ (image_view kept.geometry image).inode i
same_inode kept image is i = elim (cases_Bool (is_number kept.geometry i)) [
  | inl t ↦ is.metadata.inode i t
  | inr f ↦ cond-false (is_number kept.geometry i) _ free_inode f ∙ sym (cond-false (is_number kept.geometry i) _ free_inode f)
]

pub same_claim : (geo : Geometry) (v w : View) → SameMetadata geo v w → (i k : ℕ) → claim_at geo v i k ≡ claim_at geo w i k
unfolding claim_at
same_claim geo v w same i k = ap (option_and_then (λ a. then_some (is_data_address geo a) a)) ((same_facts geo v w same).uses i k)

-- a block that is there shows what the image has there
pub seen_block : (kept : Kept) (image : List (List ℕ)) → IsKeptOf kept image → (i k a : ℕ) (block : List ℕ) (n : ℕ) → claim_at kept.geometry (frozen_view kept) i k ≡ Some a
    → block ≡ block_at image a → length block ≡ 1024 → n ≡ min (((frozen_view kept).inode i).size - 1024 * k) 1024
    → take n block ≡ seen kept.geometry (image_view kept.geometry image) i k
seen_block kept image is i k a block n claim same whole count =
    let view = image_view kept.geometry image in
    let size = ((frozen_view kept).inode i).size in
    let address : IsTrue (is_data_address kept.geometry a) = (claim_parts kept.geometry (frozen_view kept) i k a claim).1 in
    let there : view.bytes a ≡ block = cond-true (is_data_address kept.geometry a) (block_at image a) [] address ∙ sym same in
    let shown : seen kept.geometry view i k ≡ take (size - 1024 * k) block =
    ap₂ (λ (r : Inode) b. take (r.size - 1024 * k) b) (sym (same_inode kept image is i))
    (ap (λ o. view.bytes (unwrap_or o 0)) (sym (same_claim kept.geometry (frozen_view kept) view is.metadata i k) ∙ claim) ∙ there) in
    let bounded : n ≡ min (size - 1024 * k) (length block) = count ∙ ap (min (size - 1024 * k)) (sym whole) in
    ap (λ m. take m block) bounded ∙ take_min (size - 1024 * k) block ∙ sym shown

abbrev failed : {T : Type 0} → Refusal → Result T Refusal
failed r = Err r

-- a refusal is the same whatever else there might be
pub err_other : {T U : Type 0} (r s : Refusal) → failed {T = T} r ≡ failed s → failed {T = U} r ≡ failed s
err_other r s e = let same : r ≡ s = cc in ap (λ q. Err q) same
