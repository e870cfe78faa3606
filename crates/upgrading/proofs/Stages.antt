-- An image some of whose blocks of records are cleared is of the same volume, and so is one all of whose are and that then tells version 2.
use Rattle.std.proofs.Common.{◌≡◌, ◌<◌, ◌≤◌, ◌+◌, ◌*◌, ◌/◌, ◌%◌, ℕ, ◌&&◌, ltb, leb, List, [], length, slice_index, slice_set, All, inl, inr, ◌⊎◌, refl, sym, ap, ◌∙◌, subst, arith, IsTrue, get_or-set_same, get_or-set_other}
use mathlib.Core.Path.{fun_ext}
use Rattle.std.proofs.lemmas.Bool.{cases_lt, cases_eq, and_from, lt-ltb, le-leb}
use Rattle.std.proofs.lemmas.List.{length-set}
use Rattle.std.proofs.lemmas.List.Elements.{All-get_or, All-from_get_or, All-set}
use Rattle.model.specs.Layout.{Geometry, IsGeometry, data_bit, group_block, group_of_address, inode_block, inode_byte, inode_count, is_data_address, is_number}
use Rattle.model.specs.View.{free_inode, inode_at, map_bit, view_of}
use Rattle.model.specs.Image.{IsBlock, IsGroupBlock, IsImage, IsSuper, block_at, image_view}
use Rattle.model.specs.Rules.{ObeysRules}
use Rattle.model.proofs.Alike.{same_cond}
use Rattle.model.proofs.Addresses.{count_in_group, data_range, inode_below}
use Rattle.model.proofs.Decide.{decide_below}
use Rattle.model.proofs.Places.{inodes_are_no_data, inodes_are_no_maps, same_view}
use Rattle.model.proofs.SlotLemmas.{number_below}
use Rattle.versions.specs.Shown.{ShowsTheSame, of_version}
use Rattle.versions.proofs.Same.{same_version, shows_itself, shows_the_same}
use Rattle.upgrading.specs.Upgraded.{ChangesABlock, HasClearBytes, IsSameVolume, MayChange, OfRecord, OfVersion, byte_at}
use Rattle.upgrading.specs.Steps.{IsClearedAt, IsPartlyCleared, IsStage, cleared, doubled}
use Rattle.upgrading.proofs.Cleared.{cleared_block, cleared_other, cleared_record, cleared_zero, doubled_block, doubled_differs, doubled_other, doubled_super}

module _ (geo : Geometry) (start : List (List ℕ)) (was : IsImage geo start) (single : geo.version ≡ 1) (obeys : ObeysRules geo (image_view geo start)) where
  ok : IsGeometry geo
  ok = was.geometry

  block_long : (a : ℕ) → a < length start → IsBlock (block_at start a)
  block_long a low = All-get_or IsBlock start a [] low was.blocks

  record_inside : (m : ℕ) → m < inode_count geo → inode_block geo m < length start
  record_inside m low = let inside = inode_below geo ok m (count_in_group geo ok m low) in omega (arith, inside, was.count)

  records_long : (m : ℕ) → m < inode_count geo → IsBlock (block_at start (inode_block geo m))
  records_long m low = block_long (inode_block geo m) (record_inside m low)

  -- what an image shows that has the same maps and data blocks, and whose records say the same in its version
  same_holds : (version : ℕ) (block : ℕ → List ℕ)
      → ((n : ℕ) → IsTrue (is_number geo n) → inode_at version (block (inode_block geo n)) (inode_byte n) ≡ inode_at 1 (block_at start (inode_block geo n)) (inode_byte n))
      → ((g : ℕ) → block (group_block geo g) ≡ block_at start (group_block geo g))
      → ((a : ℕ) → IsTrue (is_data_address geo a) → block a ≡ block_at start a)
      → view_of (of_version version geo) block ≡ image_view geo start
  same_holds version block records maps plain =
      same_view
      (fun_ext (λ n. same_cond (is_number geo n) (inode_at version (block (inode_block geo n)) (inode_byte n)) (inode_at geo.version (block_at start (inode_block geo n)) (inode_byte n)) free_inode (λ number.
      records n number ∙ ap (λ v. inode_at v (block_at start (inode_block geo n)) (inode_byte n)) (sym single))))
      (fun_ext (λ n. ap (λ b. is_number geo n && map_bit b 32 (n % geo.inodes)) (maps (n / geo.inodes))))
      (fun_ext (λ a. ap (λ b. is_data_address geo a && map_bit b 160 (data_bit geo a)) (maps (group_of_address geo a))))
      (fun_ext (λ a. same_cond (is_data_address geo a) (block a) (block_at start a) [] (plain a)))

  -- the blocks up to one are cleared
  pub stage_partly : (n : ℕ) (image : List (List ℕ)) → IsStage geo start n image → IsPartlyCleared geo start image
  stage_partly n image stage = record {
    count = stage.count;
    each = λ a. elim (decide_below (λ m. a ≡ inode_block geo m) (λ m. cases_eq a (inode_block geo m)) (8 * n)) [
      | inl is ↦ inl (is.0, omega (arith, is.1, stage.few), is.2, ap (block_at image) is.2 ∙ stage.done is.0 is.1 ∙ ap (λ x. cleared (block_at start x)) (sym is.2))
      | inr none ↦ inr (stage.others a (λ m low e. none (m, low, e)))
    ];
  }

  -- ---- whichever blocks are cleared
  module _ (image : List (List ℕ)) (partly : IsPartlyCleared geo start image) where
    cleared_whole : (a : ℕ) → IsClearedAt geo start image a → IsBlock (block_at start a)
    cleared_whole a is = subst (λ x. IsBlock (block_at start x)) (sym is.2) (records_long is.0 is.1)

    -- no record: the block stays
    no_record : (a : ℕ) → ((m : ℕ) → inode_block geo m ≡ a → ⊥) → block_at image a ≡ block_at start a
    no_record a none = elim (partly.each a) [
      | inl is ↦ absurd (none is.0 (sym is.2))
      | inr same ↦ same
    ]

    maps_stay : (g : ℕ) → block_at image (group_block geo g) ≡ block_at start (group_block geo g)
    maps_stay g = no_record (group_block geo g) (λ m e. inodes_are_no_maps geo ok m g (sym e))

    data_stays : (a : ℕ) → IsTrue (is_data_address geo a) → block_at image a ≡ block_at start a
    data_stays a is = no_record a (λ m e. inodes_are_no_data geo ok m a is e)

    first_stays : block_at image 0 ≡ block_at start 0
    first_stays = no_record 0 (λ m e. omega (arith, e))

    record_stays : (m : ℕ) → IsTrue (is_number geo m) → inode_at 1 (block_at image (inode_block geo m)) (inode_byte m) ≡ inode_at 1 (block_at start (inode_block geo m)) (inode_byte m)
    record_stays m number = elim (partly.each (inode_block geo m)) [
      | inl is ↦
          ap (λ b. inode_at 1 b (inode_byte m)) is.3
          ∙ cleared_record (block_at start (inode_block geo m)) (cleared_whole (inode_block geo m) is).length (m % 8) (omega arith) 1
      | inr same ↦ ap (λ b. inode_at 1 b (inode_byte m)) same
    ]

    whole_block : (a : ℕ) → a < length image → IsBlock (block_at image a)
    whole_block a low = elim (partly.each a) [
      | inl is ↦ subst IsBlock (sym is.3) (cleared_block (block_at start a) (cleared_whole a is))
      | inr same ↦ subst IsBlock (sym same) (block_long a (omega (arith, low, partly.count)))
    ]

    whole_blocks : All IsBlock image
    whole_blocks = All-from_get_or IsBlock image [] whole_block

    single_image : IsImage geo image
    single_image = record {
      geometry = ok;
      count = partly.count ∙ was.count;
      blocks = whole_blocks;
      first = subst (λ b. IsSuper geo b) (sym first_stays) was.first;
      group_blocks = λ g low. subst (λ b. IsGroupBlock g b) (sym (maps_stay g)) (was.group_blocks g low);
    }

    other_bytes : (a b : ℕ) → (MayChange geo a b → ⊥) → byte_at image a b ≡ byte_at start a b
    other_bytes a b none = elim (partly.each a) [
      | inl is ↦ ap (λ block. slice_index block b) is.3 ∙ cleared_other (block_at start a) (cleared_whole a is).length b (side is)
      | inr same ↦ ap (λ block. slice_index block b) same
    ]
      where
        side : IsClearedAt geo start image a → (b % 128 < 60) ⊎ (64 ≤ b % 128)
        side is = elim (cases_lt (b % 128) 60) [
          | inl low ↦ inl low
          | inr from ↦ elim (cases_lt (b % 128) 64) [
            | inl until ↦ absurd (none (OfRecord is.0 is.1 is.2 (and_from (leb 60 (b % 128)) (ltb (b % 128) 64) (le-leb 60 (b % 128) from) (lt-ltb (b % 128) 64 until))))
            | inr past ↦ inr past
          ]
        ]

    single_holds : image_view (of_version 1 geo) image ≡ image_view geo start
    single_holds = same_holds 1 (block_at image) record_stays maps_stay data_stays

    -- still of version 1
    pub single_same : IsSameVolume geo start image
    single_same = record {
      version = 1;
      is_image = subst (λ g. IsImage g image) (sym (same_version geo 1 single)) single_image;
      holds = single_holds;
      shows =
          subst (ShowsTheSame geo (image_view geo start) (of_version 1 geo)) (sym single_holds)
          (subst (λ g. ShowsTheSame geo (image_view geo start) g (image_view geo start)) (sym (same_version geo 1 single)) (shows_itself geo (image_view geo start) obeys));
      others = other_bytes;
      clear = λ two. absurd (omega (arith, two));
    }

    -- ---- and then of version 2, if all records are cleared
    module _ (n : ℕ) (stage : IsStage geo start n image) (all : 8 * n ≡ inode_count geo) where
      abbrev pub told : List (List ℕ)
      told = slice_set image 0 (doubled (block_at start 0))

      some_block : 0 < length image
      some_block = omega (arith, stage.count, was.count)

      first_told : block_at told 0 ≡ doubled (block_at start 0)
      first_told = get_or-set_same image 0 (doubled (block_at start 0)) [] some_block

      others_told : (a : ℕ) → (a ≡ 0 → ⊥) → block_at told a ≡ block_at image a
      others_told a behind = get_or-set_other image 0 a (doubled (block_at start 0)) [] behind

      first_whole : IsBlock (block_at start 0)
      first_whole = block_long 0 (omega (arith, some_block, stage.count))

      record_block : (m : ℕ) → m < inode_count geo → block_at told (inode_block geo m) ≡ cleared (block_at start (inode_block geo m))
      record_block m low = others_told (inode_block geo m) (λ e. omega (arith, e)) ∙ stage.done m (omega (arith, low, all))

      double_record : (m : ℕ) → IsTrue (is_number geo m) → inode_at 2 (block_at told (inode_block geo m)) (inode_byte m) ≡ inode_at 1 (block_at start (inode_block geo m)) (inode_byte m)
      double_record m number =
          let low = number_below geo m number in
          ap (λ b. inode_at 2 b (inode_byte m)) (record_block m low)
          ∙ cleared_record (block_at start (inode_block geo m)) (records_long m low).length (m % 8) (omega arith) 2

      maps_told : (g : ℕ) → block_at told (group_block geo g) ≡ block_at start (group_block geo g)
      maps_told g = others_told (group_block geo g) (λ e. omega (arith, e)) ∙ maps_stay g

      data_told : (a : ℕ) → IsTrue (is_data_address geo a) → block_at told a ≡ block_at start a
      data_told a is = others_told a (λ e. omega (arith, e, (data_range geo ok a is).0)) ∙ data_stays a is

      double_holds : image_view (of_version 2 geo) told ≡ image_view geo start
      double_holds = same_holds 2 (block_at told) double_record maps_told data_told

      pub double_image : IsImage (of_version 2 geo) told
      double_image = record {
        geometry = record {
          some_group = ok.some_group;
          few_groups = ok.few_groups;
          enough_blocks = ok.enough_blocks;
          few_blocks = ok.few_blocks;
          enough_inodes = ok.enough_inodes;
          few_inodes = ok.few_inodes;
          whole_blocks = ok.whole_blocks;
          room_for_data = ok.room_for_data;
          known_version = inr refl;
        };
        count = length-set image 0 (doubled (block_at start 0)) ∙ stage.count ∙ was.count;
        blocks = All-set IsBlock image 0 (doubled (block_at start 0)) (doubled_block (block_at start 0) first_whole) whole_blocks;
        first = subst (λ b. IsSuper (of_version 2 geo) b) (sym first_told) (doubled_super geo (block_at start 0) first_whole was.first);
        group_blocks = λ g low. subst (λ b. IsGroupBlock g b) (sym (maps_told g)) (was.group_blocks g low);
      }

      told_bytes : (a b : ℕ) → (MayChange geo a b → ⊥) → byte_at told a b ≡ byte_at start a b
      told_bytes a b none = elim (cases_eq a 0) [
        | inl e ↦
            ap (λ x. byte_at told x b) e ∙ ap (λ block. slice_index block b) first_told
            ∙ doubled_other geo (block_at start 0) first_whole was.first b (elim (cases_lt b 4) [
              | inl low ↦ inl low
              | inr from ↦ elim (cases_lt b 8) [ inl until ↦ absurd (none (OfVersion e from until)) | inr past ↦ inr past ]
            ])
            ∙ ap (λ x. byte_at start x b) (sym e)
        | inr behind ↦ ap (λ block. slice_index block b) (others_told a behind) ∙ other_bytes a b none
      ]

      pub double_clear : HasClearBytes geo told
      double_clear m b low from until =
          ap (λ block. slice_index block (inode_byte m + b)) (record_block m low)
          ∙ cleared_zero (block_at start (inode_block geo m)) (records_long m low).length (inode_byte m + b) (omega arith) (omega arith) (omega arith)

      pub double_same : IsSameVolume geo start told
      double_same = record {
        version = 2;
        is_image = double_image;
        holds = double_holds;
        shows = subst (ShowsTheSame geo (image_view geo start) (of_version 2 geo)) (sym double_holds) (shows_the_same geo (image_view geo start) single obeys);
        others = told_bytes;
        clear = λ two. double_clear;
      }

      pub double_changes : ChangesABlock start image told
      double_changes = record {
        address = 0;
        on_volume = omega (arith, some_block, stage.count);
        was = first_stays;
        differs = λ same. doubled_differs geo (block_at start 0) first_whole was.first single (sym first_told ∙ same);
        others = others_told;
      }
