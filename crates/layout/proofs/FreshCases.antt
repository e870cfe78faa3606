-- Which bytes a block of the fresh image has, by its address.
use Rattle.std.proofs.Common.{◌≡◌, ℕ, cond, eqb, List, ◌∙◌, eq-eqb, ne_eqb}
use Rattle.std.proofs.lemmas.Bool.{cond-true, cond-false}
use Rattle.model.specs.Layout.{Geometry, group_of_address, place_in_group, inode_block, root}
use Rattle.model.specs.Fresh.{first_data, root_bytes}
use Rattle.layout.specs.Fresh.{fresh_bytes, super_bytes, group_bytes, first_group_bytes, root_record_bytes, zero_block}

module _ (geo : Geometry) (a : ℕ) where
  -- a group's block of maps
  abbrev maps : List ℕ
  maps = cond (eqb (group_of_address geo a) 0) first_group_bytes (group_bytes (group_of_address geo a))

  -- a data block
  abbrev contents : List ℕ
  contents = cond (eqb a (first_data geo)) root_bytes zero_block

  -- a block of a group, and not its first
  abbrev inside : List ℕ
  inside = cond (eqb a (inode_block geo root)) (root_record_bytes geo) contents

  abbrev of_group : List ℕ
  of_group = cond (eqb (place_in_group geo a) 0) maps inside

  pub fresh_super : a ≡ 0 → fresh_bytes geo a ≡ super_bytes geo
  unfolding fresh_bytes
  fresh_super e = cond-true (eqb a 0) (super_bytes geo) of_group (eq-eqb a 0 e)

  module _ (some : a ≡ 0 → ⊥) where
    grouped : fresh_bytes geo a ≡ of_group
    unfolding fresh_bytes
    grouped = cond-false (eqb a 0) (super_bytes geo) of_group (ne_eqb a 0 some)

    module _ (first : place_in_group geo a ≡ 0) where
      mapped : fresh_bytes geo a ≡ maps
      mapped = grouped ∙ cond-true (eqb (place_in_group geo a) 0) maps inside (eq-eqb (place_in_group geo a) 0 first)

      pub fresh_first_maps : group_of_address geo a ≡ 0 → fresh_bytes geo a ≡ first_group_bytes
      fresh_first_maps e = mapped ∙ cond-true (eqb (group_of_address geo a) 0) first_group_bytes (group_bytes (group_of_address geo a)) (eq-eqb (group_of_address geo a) 0 e)

      pub fresh_maps : (group_of_address geo a ≡ 0 → ⊥) → fresh_bytes geo a ≡ group_bytes (group_of_address geo a)
      fresh_maps n = mapped ∙ cond-false (eqb (group_of_address geo a) 0) first_group_bytes (group_bytes (group_of_address geo a)) (ne_eqb (group_of_address geo a) 0 n)

    module _ (later : place_in_group geo a ≡ 0 → ⊥) where
      entered : fresh_bytes geo a ≡ inside
      entered = grouped ∙ cond-false (eqb (place_in_group geo a) 0) maps inside (ne_eqb (place_in_group geo a) 0 later)

      pub fresh_record : a ≡ inode_block geo root → fresh_bytes geo a ≡ root_record_bytes geo
      fresh_record e = entered ∙ cond-true (eqb a (inode_block geo root)) (root_record_bytes geo) contents (eq-eqb a (inode_block geo root) e)

      module _ (no_record : a ≡ inode_block geo root → ⊥) where
        held : fresh_bytes geo a ≡ contents
        held = entered ∙ cond-false (eqb a (inode_block geo root)) (root_record_bytes geo) contents (ne_eqb a (inode_block geo root) no_record)

        pub fresh_slots : a ≡ first_data geo → fresh_bytes geo a ≡ root_bytes
        fresh_slots e = held ∙ cond-true (eqb a (first_data geo)) root_bytes zero_block (eq-eqb a (first_data geo) e)

        pub fresh_zeroes : (a ≡ first_data geo → ⊥) → fresh_bytes geo a ≡ zero_block
        fresh_zeroes n = held ∙ cond-false (eqb a (first_data geo)) root_bytes zero_block (ne_eqb a (first_data geo) n)
