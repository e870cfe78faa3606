-- Which addresses of the fresh image hold zeroes.
use Rattle.std.proofs.Common.{◌≡◌, ◌<◌, ◌≤◌, ◌+◌, ◌-◌, ◌*◌, ◌/◌, ◌%◌, ℕ, ap, ◌∙◌, arith, mul-le-mul_right}
use Rattle.std.proofs.Math.Arith.{digits_mod, digits_div}
use Rattle.model.specs.Layout.{Geometry, IsGeometry, block_count, place_in_group, inode_block, root}
use Rattle.model.specs.Fresh.{first_data}
use Rattle.model.proofs.Addresses.{address_in_group}
use Rattle.layout.specs.Fresh.{fresh_bytes, zero_block}
use Rattle.layout.proofs.FreshCases.{fresh_zeroes}

module _ (geo : Geometry) (ok : IsGeometry geo) where
  -- the address behind the group of this one
  abbrev pub behind : ℕ → ℕ
  behind a = 1 + ((a - 1) / geo.blocks + 1) * geo.blocks

  pub behind_on_volume : (a : ℕ) → a < block_count geo → behind a ≤ block_count geo
  behind_on_volume a b =
      let group : ((a - 1) / geo.blocks + 1) * geo.blocks ≤ geo.groups * geo.blocks = mul-le-mul_right geo.blocks (omega (arith, address_in_group geo ok a b)) in
      omega (arith, group)

  parts : (a : ℕ) → (a - 1) / geo.blocks * geo.blocks + (a - 1) % geo.blocks ≡ a - 1
  parts a = let some : 0 < geo.blocks = omega (arith, ok.enough_blocks) in omega (arith, some)

  pub behind_later : (a : ℕ) → a < behind a
  behind_later a =
      let some : (a - 1) % geo.blocks < geo.blocks = omega (arith, ok.enough_blocks) in
      omega (arith, parts a, some)

  -- between an address and the next group none begins a group
  inside_group : (a k : ℕ) → 0 < a → a < k → k < behind a → place_in_group geo k ≡ 0 → ⊥
  inside_group a k some low high first =
      let g = (a - 1) / geo.blocks in
      let place = k - 1 - g * geo.blocks in
      let here : k - 1 ≡ g * geo.blocks + place = omega (arith, parts a) in
      let within : place < geo.blocks = omega (arith, here, high) in
      let is : (k - 1) % geo.blocks ≡ place = ap (λ n. n % geo.blocks) here ∙ digits_mod g within in
      omega (arith, is, first, parts a, here)

  -- the root's record stands before the first data block
  root_is_low : inode_block geo root < first_data geo
  root_is_low =
      let low : 2 < geo.inodes = omega (arith, ok.enough_inodes) in
      let two : 2 ≡ 0 * geo.inodes + 2 = omega arith in
      let group : 2 / geo.inodes ≡ 0 = ap (λ n. n / geo.inodes) two ∙ digits_div 0 low in
      let place : 2 % geo.inodes ≡ 2 = ap (λ n. n % geo.inodes) two ∙ digits_mod 0 low in
      omega (arith, ap (λ g. g * geo.blocks) group, ap (λ n. n / 8) place, ok.enough_inodes)

  pub zeroes_behind : (a : ℕ) → first_data geo ≤ a → (k : ℕ) → a < k → k < behind a → fresh_bytes geo k ≡ zero_block
  zeroes_behind a from k low high =
      fresh_zeroes geo k (λ e. omega (arith, low, e)) (inside_group a k (omega (arith, from)) low high)
      (λ e. omega (arith, root_is_low, from, low, e)) (λ e. omega (arith, from, low, e))
