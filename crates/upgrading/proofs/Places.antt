-- Eight numbers have their records in one block, and no others.
use Rattle.std.proofs.Common.{◌≡◌, ◌<◌, ◌+◌, ◌*◌, ◌/◌, ◌%◌, ℕ, sym, ap, ap₂, ◌∙◌, arith}
use Rattle.std.proofs.Math.Nat.{mul_assoc, mul_comm}
use Rattle.std.proofs.Math.Arith.{digits_mod, digits_div}
use Rattle.model.specs.Layout.{Geometry, IsGeometry, inode_block, inode_byte, inode_count}
use Rattle.model.proofs.Addresses.{inode_places}

module _ (geo : Geometry) (ok : IsGeometry geo) where
  -- eight numbers stand in a block of records, so many of these in a group
  abbrev per_group : ℕ
  per_group = geo.inodes / 8

  whole : geo.inodes ≡ 8 * per_group
  whole = omega (arith, ok.whole_blocks)

  some : 0 < per_group
  some = omega (arith, ok.enough_inodes)

  -- number 8 h + r, by its group and its block there
  module _ (h r : ℕ) (low : r < 8) where
    place_low : 8 * (h % per_group) + r < geo.inodes
    place_low = let inside : h % per_group < per_group = omega (arith, some) in omega (arith, whole)

    by_digits : 8 * h + r ≡ h / per_group * geo.inodes + (8 * (h % per_group) + r)
    by_digits =
        let parts : per_group * (h / per_group) + h % per_group ≡ h = omega (arith, some) in
        let grouped : h / per_group * geo.inodes ≡ 8 * (per_group * (h / per_group)) = mul_comm (h / per_group) geo.inodes ∙ ap (λ k. k * (h / per_group)) whole ∙ mul_assoc 8 per_group (h / per_group) in
        omega (arith, parts, grouped)

    group_is : (8 * h + r) / geo.inodes ≡ h / per_group
    group_is = ap (λ n. n / geo.inodes) by_digits ∙ digits_div (h / per_group) place_low

    place_is : (8 * h + r) % geo.inodes / 8 ≡ h % per_group
    place_is = let e = ap (λ n. n % geo.inodes) by_digits ∙ digits_mod (h / per_group) place_low in omega (arith, e, low)

    -- stands in the block of number 8 h
    pub stands : inode_block geo (8 * h + r) ≡ 1 + h / per_group * geo.blocks + 1 + h % per_group
    stands = ap₂ (λ g p. 1 + g * geo.blocks + 1 + p) group_is place_is

  pub one_block : (h r : ℕ) → r < 8 → inode_block geo (8 * h + r) ≡ inode_block geo (8 * h + 0)
  one_block h r low = stands h r low ∙ sym (stands h 0 (omega arith))

  pub first_of_block : (m : ℕ) → inode_block geo m ≡ inode_block geo (8 * (m / 8))
  first_of_block m =
      let e : m ≡ 8 * (m / 8) + m % 8 = omega arith in
      let f : 8 * (m / 8) + 0 ≡ 8 * (m / 8) = omega arith in
      ap (inode_block geo) e ∙ one_block (m / 8) (m % 8) (omega arith) ∙ ap (inode_block geo) f

  -- numbers whose records stand in one block are of one eight
  pub same_eight : (m n : ℕ) → inode_block geo m ≡ inode_block geo n → m / 8 ≡ n / 8
  same_eight m n same =
      let block = sym (first_of_block m) ∙ same ∙ first_of_block n in
      let byte : inode_byte (8 * (m / 8)) ≡ inode_byte (8 * (n / 8)) = omega arith in
      let e = inode_places geo ok (8 * (m / 8)) (8 * (n / 8)) block byte in
      omega (arith, e)

  -- and all numbers are in eights
  pub all_eights : 8 * (inode_count geo / 8) ≡ inode_count geo
  all_eights =
      let e : inode_count geo ≡ 8 * (geo.groups * per_group) = ap (λ k. geo.groups * k) whole ∙ mul_comm geo.groups (8 * per_group) ∙ mul_assoc 8 per_group geo.groups ∙ ap (λ k. 8 * k) (mul_comm per_group geo.groups) in
      omega (arith, e)
