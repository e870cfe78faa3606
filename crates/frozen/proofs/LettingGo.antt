-- What is kept without a block of data: the frame all the same, and all metadata where none stands in that block.
use Rattle.std.proofs.Common.{◌≡◌, ◌<◌, ℕ, ◌&&◌, not, ltb, [], length, Some, None, IsSome, unwrap_or, IsTrue, false, true, sym, ap, ◌∙◌, subst, arith, inl, inr, get_or-set_same, get_or-set_other}
use mathlib.Core.Path.{fun_ext}
use Rattle.std.proofs.lemmas.Bool.{and_parts, cases_eq}
use Rattle.std.proofs.lemmas.List.{length-set}
use Rattle.model.specs.Image.{IsGroupBlock, IsSuper}
use Rattle.model.specs.Layout.{Geometry, block_count, group_block, is_data_address, is_number}
use Rattle.model.specs.View.{Inode, View, view_of}
use Rattle.model.specs.Cells.{SetBytes, put_at, updated}
use Rattle.model.specs.Uses.{IsClaim, is_directory, is_directory_at, is_sound, use_at}
use Rattle.model.proofs.Addresses.{data_range}
use Rattle.model.proofs.Places.{data_write, maps_are_no_data, put_here, put_there}
use Rattle.model.proofs.Uses.{bytes_leave_uses}
use Rattle.frozen.specs.Installed.{IsPlain, without_block}
use Rattle.frozen.specs.Kept.{Kept, KeepsFrame, KeepsMetadata, frozen_view, is_frame, kept_at, kept_bytes}

no_frame : (geo : Geometry) (a b : ℕ) → b ≡ a → IsTrue (is_data_address geo a) → IsTrue (is_frame geo b) → ⊥
no_frame geo a b same of_data t =
    let no : IsTrue (not (is_data_address geo b)) = (and_parts (ltb b (block_count geo)) (not (is_data_address geo b)) t).1 in
    let bad : false ≡ true = ap not (sym (ap (is_data_address geo) same ∙ of_data)) ∙ no in cc

module _ (kept : Kept) (frame : KeepsFrame kept) (a : ℕ) (of_data : IsTrue (is_data_address kept.geometry a)) where
  abbrev kept' : Kept
  kept' = without_block kept a

  low : a < length kept.blocks
  low = let range = data_range kept.geometry frame.geometry a of_data in omega (arith, range.1, frame.count)

  here : kept_at kept'.blocks a ≡ None
  here = get_or-set_same kept.blocks a None None low

  other : (b : ℕ) → (b ≡ a → ⊥) → kept_at kept'.blocks b ≡ kept_at kept.blocks b
  other b differs = get_or-set_other kept.blocks a b None None differs

  pub frame_without : KeepsFrame kept'
  frame_without = record {
    geometry = frame.geometry;
    count = length-set kept.blocks a None ∙ frame.count;
    whole = λ b bytes e. elim (cases_eq b a) [
      | inl same ↦ let bad : None ≡ Some bytes = sym here ∙ ap (kept_at kept'.blocks) (sym same) ∙ e in cc
      | inr differs ↦ frame.whole b bytes (sym (other b differs) ∙ e)
    ];
    frame = λ b t. subst IsSome (sym (other b (λ same. no_frame kept.geometry a b same of_data t))) (frame.frame b t);
    first = subst (λ o. IsSuper kept.geometry (unwrap_or o [])) (sym (other 0 (λ e. let range = data_range kept.geometry frame.geometry a of_data in omega (arith, range.0, e)))) frame.first;
    group_blocks = λ g b. subst (λ o. IsGroupBlock g (unwrap_or o [])) (sym (other (group_block kept.geometry g) (λ e. maps_are_no_data kept.geometry frame.geometry g a of_data e))) (frame.group_blocks g b);
  }

  bytes : kept_bytes kept'.blocks ≡ put_at (kept_bytes kept.blocks) a []
  bytes = fun_ext (λ b. elim (cases_eq b a) [
    | inl same ↦ ap (λ c. kept_bytes kept'.blocks c) same ∙ ap (λ o. unwrap_or o []) here ∙ sym (put_here (kept_bytes kept.blocks) a []) ∙ ap (put_at (kept_bytes kept.blocks) a []) (sym same)
    | inr differs ↦ ap (λ o. unwrap_or o []) (other b differs) ∙ sym (put_there (kept_bytes kept.blocks) a b [] differs)
  ])

  pub view_without : frozen_view kept' ≡ updated (frozen_view kept) (SetBytes a [])
  view_without = ap (view_of kept.geometry) bytes ∙ data_write kept.geometry frame.geometry (kept_bytes kept.blocks) a [] of_data

  inode : (i : ℕ) → (frozen_view kept').inode i ≡ (frozen_view kept).inode i
  inode i = ap (λ (v : View). v.inode i) view_without

  pub bytes_without : (b : ℕ) → (b ≡ a → ⊥) → (frozen_view kept').bytes b ≡ (frozen_view kept).bytes b
  bytes_without b differs = ap (λ (v : View). v.bytes b) view_without ∙ put_there (frozen_view kept).bytes a b [] differs

  module _ (keeps : KeepsMetadata kept) (plain : IsPlain kept a) where
    abbrev geo : Geometry
    geo = kept.geometry

    same_uses : (i k : ℕ) → use_at geo (frozen_view kept) i k ≡ use_at geo (frozen_view kept') i k
    same_uses i k = bytes_leave_uses geo (frozen_view kept) a [] i (plain.no_table i) k ∙ ap (λ v. use_at geo v i k) (sym view_without)

    claim_before : (i k b : ℕ) → IsClaim geo (frozen_view kept') i k b → IsClaim geo (frozen_view kept) i k b
    claim_before i k b claim = (same_uses i k ∙ claim.0, claim.1)

    pub keeps_without : KeepsMetadata kept'
    keeps_without = record {
      frame = frame_without;
      tables = λ i m is b claim.
          let before = claim_before i m b claim in
          subst IsSome (sym (other b (λ same. plain.no_table i m is (subst (λ c. IsClaim geo (frozen_view kept) i m c) same before)))) (keeps.tables i m is b before);
      directory_blocks = λ d t k b claim.
          let before = claim_before d k b claim in
          let is : IsTrue (is_directory_at geo (frozen_view kept) d) = subst (λ r. IsTrue ((is_number geo d && is_sound geo r) && is_directory r)) (inode d) t in
          subst IsSome (sym (other b (λ same. plain.no_directory d k is (subst (λ c. IsClaim geo (frozen_view kept) d k c) same before)))) (keeps.directory_blocks d is k b before);
    }
