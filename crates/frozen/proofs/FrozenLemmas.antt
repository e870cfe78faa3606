-- Kept blocks that are those of an image hold its records and bits.
use Rattle.std.proofs.Common.{◌≡◌, ◌<◌, ◌/◌, ◌%◌, ℕ, not, ltb, List, [], length, All, Option, Some, None, IsSome, unwrap_or, IsTrue, false, true, refl, sym, ap, ◌∙◌, subst, arith, inl, inr, set as slice_set, get_or-set_same, get_or-set_other}
use Rattle.std.proofs.lemmas.Bool.{and_from, cases_eq, false_from_ne_true, lt-ltb, not_from_false}
use Rattle.std.proofs.lemmas.List.{length-set}
use Rattle.std.proofs.lemmas.Option.{same_Some}
use Rattle.model.specs.Layout.{Geometry, block_count, group_block, group_of_address, inode_block, inode_byte, is_data_address, is_number, data_bit}
use Rattle.model.specs.Shape.{is_table}
use Rattle.model.specs.Uses.{is_directory_at, IsClaim}
use Rattle.model.specs.View.{inode_at, map_bit, free_inode}
use Rattle.model.specs.Image.{IsBlock, IsSuper, IsGroupBlock, block_at, image_view}
use Rattle.model.proofs.Alike.{same_and, same_cond}
use Rattle.model.proofs.Places.{maps_are_no_data, inodes_are_no_data}
use Rattle.model.proofs.Addresses.{maps_below, inode_below, number_in_group, address_in_group, data_range}
use Rattle.frozen.specs.Kept.{Kept, KeepsFrame, IsKeptOf, frozen_view, kept_at, kept_bytes, is_frame}
use Rattle.frozen.specs.Loading.{AreBlocksOf}

some_bytes : (o : Option (List ℕ)) (x : List ℕ) → IsSome o → ((b : List ℕ) → o ≡ Some b → b ≡ x) → unwrap_or o [] ≡ x
some_bytes None x some is = let bad : false ≡ true = some in cc
some_bytes (Some b) x some is = is b refl

pub frame_from : (geo : Geometry) (a : ℕ) → a < block_count geo → (IsTrue (is_data_address geo a) → ⊥) → IsTrue (is_frame geo a)
frame_from geo a low no_data =
    and_from (ltb a (block_count geo)) (not (is_data_address geo a)) (lt-ltb a (block_count geo) low)
    (not_from_false (is_data_address geo a) (false_from_ne_true (is_data_address geo a) no_data))

module _ (kept : Kept) (frame : KeepsFrame kept) where
  pub first_is_frame : IsTrue (is_frame kept.geometry 0)
  first_is_frame = frame_from kept.geometry 0 (omega arith) (λ t. let bad : false ≡ true = t in cc)

  pub maps_are_frame : (g : ℕ) → g < kept.geometry.groups → IsTrue (is_frame kept.geometry (group_block kept.geometry g))
  maps_are_frame g b =
      frame_from kept.geometry (group_block kept.geometry g) (maps_below kept.geometry frame.geometry g b) (λ t. maps_are_no_data kept.geometry frame.geometry g (group_block kept.geometry g) t refl)

  pub records_are_frame : (n : ℕ) → n / kept.geometry.inodes < kept.geometry.groups → IsTrue (is_frame kept.geometry (inode_block kept.geometry n))
  records_are_frame n b =
      frame_from kept.geometry (inode_block kept.geometry n) (inode_below kept.geometry frame.geometry n b) (λ t. inodes_are_no_data kept.geometry frame.geometry n (inode_block kept.geometry n) t refl)

  module _ (image : List (List ℕ)) (are : AreBlocksOf kept.blocks image) where
    same_block : (a : ℕ) → IsTrue (is_frame kept.geometry a) → kept_bytes kept.blocks a ≡ block_at image a
    same_block a t = some_bytes (kept_at kept.blocks a) (block_at image a) (frame.frame a t) (are a)

    same_maps : (g : ℕ) → g < kept.geometry.groups → kept_bytes kept.blocks (group_block kept.geometry g) ≡ block_at image (group_block kept.geometry g)
    same_maps g b = same_block (group_block kept.geometry g) (maps_are_frame g b)

    same_inode : (n : ℕ) → (frozen_view kept).inode n ≡ (image_view kept.geometry image).inode n
    same_inode n =
        same_cond (is_number kept.geometry n) (inode_at kept.geometry.version (kept_bytes kept.blocks (inode_block kept.geometry n)) (inode_byte n)) (inode_at kept.geometry.version (block_at image (inode_block kept.geometry n)) (inode_byte n)) free_inode
        (λ t. ap (λ b. inode_at kept.geometry.version b (inode_byte n)) (same_block (inode_block kept.geometry n) (records_are_frame n (number_in_group kept.geometry frame.geometry n t))))

    -- with the bytes of the claimed tables and of the directories' blocks, they have its metadata
    pub kept_of : length image ≡ block_count kept.geometry → All IsBlock image
        → ((i m a : ℕ) → IsTrue (is_table kept.geometry m) → IsClaim kept.geometry (frozen_view kept) i m a → (frozen_view kept).bytes a ≡ (image_view kept.geometry image).bytes a)
        → ((d k a : ℕ) → IsTrue (is_directory_at kept.geometry (frozen_view kept) d) → IsClaim kept.geometry (frozen_view kept) d k a → (frozen_view kept).bytes a ≡ (image_view kept.geometry image).bytes a)
        → IsKeptOf kept image
    kept_of count whole tables directories = record {
      is_image = record {
        geometry = frame.geometry;
        count = count;
        blocks = whole;
        first = subst (IsSuper kept.geometry) (same_block 0 first_is_frame) frame.first;
        group_blocks = λ g b. subst (IsGroupBlock g) (same_maps g b) (frame.group_blocks g b);
      };
      blocks = are;
      metadata = record {
        inode = λ n _. same_inode n;
        number_marked = λ n _. same_and (is_number kept.geometry n) (map_bit (kept_bytes kept.blocks (group_block kept.geometry (n / kept.geometry.inodes))) 32 (n % kept.geometry.inodes))
            (map_bit (block_at image (group_block kept.geometry (n / kept.geometry.inodes))) 32 (n % kept.geometry.inodes))
            (λ t. ap (λ b. map_bit b 32 (n % kept.geometry.inodes)) (same_maps (n / kept.geometry.inodes) (number_in_group kept.geometry frame.geometry n t)));
        block_marked = λ a _. same_and (is_data_address kept.geometry a) (map_bit (kept_bytes kept.blocks (group_block kept.geometry (group_of_address kept.geometry a))) 160 (data_bit kept.geometry a))
            (map_bit (block_at image (group_block kept.geometry (group_of_address kept.geometry a))) 160 (data_bit kept.geometry a))
            (λ t. ap (λ b. map_bit b 160 (data_bit kept.geometry a)) (same_maps (group_of_address kept.geometry a) (address_in_group kept.geometry frame.geometry a (data_range kept.geometry frame.geometry a t).1)));
        tables = tables;
        directory_blocks = directories;
      };
    }

-- one more data block leaves the frame as it is
-- a block behind the superblock may stand in the place of another, if it has a group's magic and number where it is that group's block of maps
pub frame_with : (kept : Kept) (a : ℕ) (block : List ℕ) → KeepsFrame kept → 0 < a → a < block_count kept.geometry → IsBlock block → ((g : ℕ) → group_block kept.geometry g ≡ a → IsGroupBlock g block)
    → KeepsFrame (record { geometry = kept.geometry; blocks = slice_set kept.blocks a (Some block) })
frame_with kept a block frame behind on_volume is maps = record {
  geometry = frame.geometry;
  count = length-set kept.blocks a (Some block) ∙ frame.count;
  whole = λ b bytes e. elim (cases_eq b a) [
    | inl same ↦ subst IsBlock (same_Some block bytes (sym (here b same) ∙ e)) is
    | inr differs ↦ frame.whole b bytes (sym (other b differs) ∙ e)
  ];
  frame = λ b t. elim (cases_eq b a) [
    | inl same ↦ subst IsSome (sym (here b same)) refl
    | inr differs ↦ subst IsSome (sym (other b differs)) (frame.frame b t)
  ];
  first = subst (λ o. IsSuper kept.geometry (unwrap_or o [])) (sym (other 0 (λ e. omega (arith, behind, e)))) frame.first;
  group_blocks = λ g b. elim (cases_eq (group_block kept.geometry g) a) [
    | inl same ↦ subst (λ o. IsGroupBlock g (unwrap_or o [])) (sym (here (group_block kept.geometry g) same)) (maps g same)
    | inr differs ↦ subst (λ o. IsGroupBlock g (unwrap_or o [])) (sym (other (group_block kept.geometry g) differs)) (frame.group_blocks g b)
  ];
}
  where
    low : a < length kept.blocks
    low = omega (arith, on_volume, frame.count)

    here : (b : ℕ) → b ≡ a → kept_at (slice_set kept.blocks a (Some block)) b ≡ Some block
    here b same = ap (kept_at (slice_set kept.blocks a (Some block))) same ∙ get_or-set_same kept.blocks a (Some block) None low

    other : (b : ℕ) → (b ≡ a → ⊥) → kept_at (slice_set kept.blocks a (Some block)) b ≡ kept_at kept.blocks b
    other b differs = get_or-set_other kept.blocks a b (Some block) None differs

-- so may any block in the place of a data block
pub frame_stays : (kept : Kept) (a : ℕ) (block : List ℕ) → KeepsFrame kept → IsTrue (is_data_address kept.geometry a) → IsBlock block
    → KeepsFrame (record { geometry = kept.geometry; blocks = slice_set kept.blocks a (Some block) })
frame_stays kept a block frame at is =
    let range = data_range kept.geometry frame.geometry a at in
    frame_with kept a block frame (omega (arith, range.0)) (omega (arith, range.1)) is (λ g e. absurd (maps_are_no_data kept.geometry frame.geometry g a at e))
