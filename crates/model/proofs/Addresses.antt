-- Where blocks of maps, records and data blocks stand: on the volume, and in places of their own.
use Rattle.std.proofs.Common.{◌≡◌, ◌<◌, ◌≤◌, ◌+◌, ◌-◌, ◌*◌, ◌/◌, ◌%◌, ℕ, sym, ap, ap₂, ◌∙◌, arith, IsTrue, mul-le-mul_left, mul-le-mul_right, le-leb, lt-ltb, ltb, leb, ◌&&◌}
use Rattle.std.proofs.Math.Nat.{mul_assoc}
use Rattle.std.proofs.Math.Arith.{digits_mod, digits_div}
use Rattle.std.proofs.lemmas.Nat.{div_below}
use Rattle.std.proofs.lemmas.Bool.{and_parts, and_from, ltb-true}
use Rattle.model.specs.Layout.{Geometry, IsGeometry, block_count, group_block, data_address, header_blocks, place_in_group, group_of_address, is_data_address, inode_block, inode_byte, inode_count, is_number, root}
use Rattle.model.proofs.Places.{inode_place_low, place_of_inode}

module _ (geo : Geometry) (ok : IsGeometry geo) (g bit : ℕ) (b : header_blocks geo + bit < geo.blocks) where
  pub address_place : place_in_group geo (data_address geo g bit) ≡ header_blocks geo + bit
  address_place =
      let e : data_address geo g bit - 1 ≡ g * geo.blocks + (header_blocks geo + bit) = omega arith in
      ap (λ n. n % geo.blocks) e ∙ digits_mod g b

  pub address_group : group_of_address geo (data_address geo g bit) ≡ g
  address_group =
      let e : data_address geo g bit - 1 ≡ g * geo.blocks + (header_blocks geo + bit) = omega arith in
      ap (λ n. n / geo.blocks) e ∙ digits_div g b

  pub address_is_data : g < geo.groups → IsTrue (is_data_address geo (data_address geo g bit))
  address_is_data in_volume =
      let group : geo.blocks * (g + 1) ≤ geo.blocks * geo.groups = mul-le-mul_left geo.blocks (omega arith) in
      and_from (ltb 0 (data_address geo g bit) && ltb (data_address geo g bit) (block_count geo)) (leb (header_blocks geo) (place_in_group geo (data_address geo g bit)))
      (and_from (ltb 0 (data_address geo g bit)) (ltb (data_address geo g bit) (block_count geo)) (lt-ltb 0 (data_address geo g bit) (omega arith)) (lt-ltb (data_address geo g bit) (block_count geo) (omega (arith, group, b))))
      (le-leb (header_blocks geo) (place_in_group geo (data_address geo g bit)) (omega (arith, address_place)))

-- data blocks of one address are one
pub data_places : (geo : Geometry) → IsGeometry geo → (g bit h other : ℕ) → header_blocks geo + bit < geo.blocks → header_blocks geo + other < geo.blocks
    → data_address geo g bit ≡ data_address geo h other → (g ≡ h) × (bit ≡ other)
data_places geo ok g bit h other b c e =
    let place : header_blocks geo + bit ≡ header_blocks geo + other = sym (address_place geo ok g bit b) ∙ ap (place_in_group geo) e ∙ address_place geo ok h other c in (
      sym (address_group geo ok g bit b) ∙ ap (group_of_address geo) e ∙ address_group geo ok h other c,
      omega (arith, place),
    )

module _ (geo : Geometry) (ok : IsGeometry geo) where
  pub inode_group : (n : ℕ) → group_of_address geo (inode_block geo n) ≡ n / geo.inodes
  inode_group n =
      let e : inode_block geo n - 1 ≡ n / geo.inodes * geo.blocks + (1 + n % geo.inodes / 8) = omega arith in
      let low : 1 + n % geo.inodes / 8 < geo.blocks = omega (arith, inode_place_low geo ok n, ok.room_for_data) in
      ap (λ k. k / geo.blocks) e ∙ digits_div (n / geo.inodes) low

  -- the place in a block of records is that in the group
  place_in_block : (n : ℕ) → n % geo.inodes % 8 ≡ n % 8
  place_in_block n =
      let some : 0 < geo.inodes = omega (arith, ok.enough_inodes) in
      let parts : geo.inodes * (n / geo.inodes) + n % geo.inodes ≡ n = omega (arith, some) in
      let whole : geo.inodes ≡ 8 * (geo.inodes / 8) = omega (arith, ok.whole_blocks) in
      let regrouped : geo.inodes * (n / geo.inodes) ≡ 8 * (geo.inodes / 8 * (n / geo.inodes)) = ap (λ k. k * (n / geo.inodes)) whole ∙ mul_assoc 8 (geo.inodes / 8) (n / geo.inodes) in
      omega (arith, parts, regrouped)

  -- inodes of one place are one
  pub inode_places : (m n : ℕ) → inode_block geo m ≡ inode_block geo n → inode_byte m ≡ inode_byte n → m ≡ n
  inode_places m n e f =
      let group : m / geo.inodes ≡ n / geo.inodes = sym (inode_group m) ∙ ap (group_of_address geo) e ∙ inode_group n in
      let block : 1 + m % geo.inodes / 8 ≡ 1 + n % geo.inodes / 8 = sym (place_of_inode geo ok m) ∙ ap (place_in_group geo) e ∙ place_of_inode geo ok n in
      let some : 0 < geo.inodes = omega (arith, ok.enough_inodes) in
      let place : m % geo.inodes ≡ n % geo.inodes = omega (arith, block, f, place_in_block m, place_in_block n) in
      let here : geo.inodes * (m / geo.inodes) + m % geo.inodes ≡ m = omega (arith, some) in
      let there : geo.inodes * (n / geo.inodes) + n % geo.inodes ≡ n = omega (arith, some) in
      sym here ∙ ap₂ (λ g p. geo.inodes * g + p) group place ∙ there

  pub maps_group : (g : ℕ) → group_of_address geo (group_block geo g) ≡ g
  maps_group g =
      let e : group_block geo g - 1 ≡ g * geo.blocks + 0 = omega arith in
      ap (λ n. n / geo.blocks) e ∙ digits_div g (omega (arith, ok.enough_blocks))

  next_group : (g : ℕ) → g < geo.groups → g * geo.blocks + geo.blocks ≤ geo.groups * geo.blocks
  next_group g b = let h : (g + 1) * geo.blocks ≤ geo.groups * geo.blocks = mul-le-mul_right geo.blocks (omega arith) in omega arith

  pub maps_below : (g : ℕ) → g < geo.groups → group_block geo g < block_count geo
  maps_below g b = omega (arith, next_group g b, ok.enough_blocks)

  pub inode_below : (n : ℕ) → n / geo.inodes < geo.groups → inode_block geo n < block_count geo
  inode_below n b = omega (arith, next_group (n / geo.inodes) b, inode_place_low geo ok n, ok.room_for_data)

  pub address_in_group : (a : ℕ) → a < block_count geo → group_of_address geo a < geo.groups
  address_in_group a b = div_below (a - 1) geo.blocks geo.groups (omega (arith, ok.enough_blocks)) (omega (arith, next_group 0 (omega (arith, ok.some_group)), ok.enough_blocks))

  pub count_in_group : (n : ℕ) → n < inode_count geo → n / geo.inodes < geo.groups
  count_in_group n b = div_below n geo.inodes geo.groups (omega (arith, ok.enough_inodes)) b

  pub number_in_group : (n : ℕ) → IsTrue (is_number geo n) → n / geo.inodes < geo.groups
  number_in_group n t = count_in_group n (ltb-true n (inode_count geo) (and_parts (leb root n) (ltb n (inode_count geo)) t).1)

  pub data_range : (a : ℕ) → IsTrue (is_data_address geo a) → (0 < a) × (a < block_count geo)
  data_range a t =
      let h = and_parts (ltb 0 a) (ltb a (block_count geo)) (and_parts (ltb 0 a && ltb a (block_count geo)) (leb (header_blocks geo) (place_in_group geo a)) t).0 in
      (ltb-true 0 a h.0, ltb-true a (block_count geo) h.1)
