-- A write of a group's block that changes one bit of its maps updates the cell of that bit alone.
use Rattle.std.proofs.Common.{◌≡◌, ◌<◌, ◌≤◌, ◌+◌, ◌-◌, ◌*◌, ◌/◌, ◌%◌, ℕ, Bool, cond, ◌&&◌, eqb, ltb, leb, List, [], refl, sym, ap, ap₂, ◌∙◌, arith, IsTrue, inl, inr, get_or}
use mathlib.Core.Path.{fun_ext}
use Rattle.std.specs.Int.{bit_at}
use Rattle.std.proofs.Math.Nat.{div-add-mod, mul-div_cancel}
use Rattle.std.proofs.lemmas.Bool.{and_parts, cases_eq, leb-true, ltb-true, cond-true, eq-eqb}
use Rattle.model.specs.Layout.{Geometry, IsGeometry, is_number, is_data_address, block_count, group_block, group_of_address, place_in_group, header_blocks, inode_block, inode_byte, data_bit}
use Rattle.model.specs.View.{View, view_of, inode_at, map_bit, free_inode}
use Rattle.model.specs.Cells.{SetNumber, SetBlock, updated, put_at}
use Rattle.model.proofs.Places.{maps_are_no_data, inodes_are_no_maps, put_here, put_there}
use Rattle.model.proofs.Alike.{same_and, same_cond}
use Rattle.cgmaps.specs.Maps.{ChangesBit}

-- a number with its group and its place there is the number with that group and that place
same_from_parts : (m n w : ℕ) → m / w ≡ n / w → m % w ≡ n % w → m ≡ n
same_from_parts m n w p q = sym (div-add-mod m w) ∙ ap₂ (λ x y. w * x + y) p q ∙ div-add-mod n w

-- bit k of the map that begins at this byte is a bit of the block
bit_of_block : (block : List ℕ) (start k : ℕ) → map_bit block 0 (8 * start + k) ≡ map_bit block start k
bit_of_block block start k =
    let place : 0 + (8 * start + k) / 8 ≡ start + k / 8 = omega arith in
    let bit : (8 * start + k) % 8 ≡ k % 8 = omega arith in
    ap₂ (λ b i. eqb (bit_at (get_or block b 0) i) 1) place bit

module _ (geo : Geometry) (ok : IsGeometry geo) (block : ℕ → List ℕ) (g : ℕ) (bytes : List ℕ) where
  -- the blocks after the write
  abbrev after : ℕ → List ℕ
  after = put_at block (group_block geo g) bytes

  same_group : (h : ℕ) → group_block geo h ≡ group_block geo g → h ≡ g
  same_group h e =
      let scaled : h * geo.blocks ≡ g * geo.blocks = omega arith in
      let some : 0 < geo.blocks = omega (arith, ok.enough_blocks) in
      sym (mul-div_cancel h some) ∙ ap (λ n. n / geo.blocks) scaled ∙ mul-div_cancel g some

  -- what a write of a group's block changes of a view
  views_agree : (after_view : View)
      → ((n : ℕ) → after_view.inode n ≡ (view_of geo block).inode n)
      → ((n : ℕ) → (view_of geo after).number_marked n ≡ after_view.number_marked n)
      → ((a : ℕ) → (view_of geo after).block_marked a ≡ after_view.block_marked a)
      → ((a : ℕ) → after_view.bytes a ≡ (view_of geo block).bytes a)
      → view_of geo after ≡ after_view
  views_agree after_view inodes numbers blocks contents = λ i. record {
    inode = fun_ext (λ n. ap (λ b. cond (is_number geo n) (inode_at geo.version b (inode_byte n)) free_inode) (put_there block (group_block geo g) (inode_block geo n) bytes (λ e. inodes_are_no_maps geo ok n g (sym e))) ∙ sym (inodes n)) i;
    number_marked = fun_ext numbers i;
    block_marked = fun_ext blocks i;
    bytes = fun_ext (λ a. same_cond (is_data_address geo a) (after a) (block a) [] (λ t. put_there block (group_block geo g) a bytes (λ e. maps_are_no_data geo ok g a t (sym e))) ∙ sym (contents a)) i;
  }

  module _ (start bit : ℕ) (value : Bool) (change : ChangesBit (block (group_block geo g)) bytes start bit value) where
    bit_here : map_bit (after (group_block geo g)) start bit ≡ value
    bit_here = ap (λ b. map_bit b start bit) (put_here block (group_block geo g) bytes) ∙ change.changed

    bit_there : (h s k : ℕ) → (h ≡ g → 8 * s + k ≡ 8 * start + bit → ⊥) → map_bit (after (group_block geo h)) s k ≡ map_bit (block (group_block geo h)) s k
    bit_there h s k elsewhere = elim (cases_eq h g) [
      | inl e ↦ ap (λ q. map_bit (after (group_block geo q)) s k) e
          ∙ ap (λ b. map_bit b s k) (put_here block (group_block geo g) bytes)
          ∙ sym (bit_of_block bytes s k) ∙ change.other_bits (8 * s + k) (elsewhere e) ∙ bit_of_block (block (group_block geo g)) s k
          ∙ ap (λ q. map_bit (block (group_block geo q)) s k) (sym e)
      | inr differs ↦ ap (λ b. map_bit b s k) (put_there block (group_block geo g) (group_block geo h) bytes (λ e. differs (same_group h e)))
    ]

module _ (geo : Geometry) (ok : IsGeometry geo) where
  number_place : (n : ℕ) → n % geo.inodes < 1024
  number_place n = let low : n % geo.inodes < geo.inodes = omega (arith, ok.enough_inodes) in omega (arith, ok.few_inodes)

  module _ (block : ℕ → List ℕ) (n : ℕ) (bytes : List ℕ) (value : Bool) (t : IsTrue (is_number geo n))
      (change : ChangesBit (block (group_block geo (n / geo.inodes))) bytes 32 (n % geo.inodes) value) where
    abbrev group_after : ℕ → List ℕ
    group_after = put_at block (group_block geo (n / geo.inodes)) bytes

    other_bit : (g s k : ℕ) → (g ≡ n / geo.inodes → 8 * s + k ≡ 8 * 32 + n % geo.inodes → ⊥) → map_bit (group_after (group_block geo g)) s k ≡ map_bit (block (group_block geo g)) s k
    other_bit = bit_there geo ok block (n / geo.inodes) bytes 32 (n % geo.inodes) value change

    number_here : (view_of geo group_after).number_marked n ≡ value
    number_here =
        ap (λ b. b && map_bit (group_after (group_block geo (n / geo.inodes))) 32 (n % geo.inodes)) t
        ∙ bit_here geo ok block (n / geo.inodes) bytes 32 (n % geo.inodes) value change

    numbers_agree : (m : ℕ) → (view_of geo group_after).number_marked m ≡ put_at (view_of geo block).number_marked n value m
    numbers_agree m = elim (cases_eq m n) [
      | inl e ↦ ap (view_of geo group_after).number_marked e ∙ number_here ∙ sym (cond-true (eqb m n) value ((view_of geo block).number_marked m) (eq-eqb m n e))
      | inr differs ↦ ap (λ b. is_number geo m && b) (other_bit (m / geo.inodes) 32 (m % geo.inodes) (λ p q. differs (same_from_parts m n geo.inodes p (omega arith))))
          ∙ sym (put_there (view_of geo block).number_marked n m value differs)
    ]

    blocks_stay : (a : ℕ) → (view_of geo group_after).block_marked a ≡ (view_of geo block).block_marked a
    blocks_stay a =
        ap (λ b. is_data_address geo a && b) (other_bit (group_of_address geo a) 160 (data_bit geo a)
        (λ _ e. let low : n % geo.inodes < 1024 = number_place n in omega arith))

    pub number_write : view_of geo group_after ≡ updated (view_of geo block) (SetNumber n value)
    number_write = views_agree geo ok block (n / geo.inodes) bytes (updated (view_of geo block) (SetNumber n value)) (λ m. refl) numbers_agree blocks_stay (λ a. refl)

  data_parts : (a : ℕ) → IsTrue (is_data_address geo a) → (0 < a) × (header_blocks geo ≤ place_in_group geo a)
  data_parts a t =
      let parts = and_parts (ltb 0 a && ltb a (block_count geo)) (leb (header_blocks geo) (place_in_group geo a)) t in
      (ltb-true 0 a (and_parts (ltb 0 a) (ltb a (block_count geo)) parts.0).0, leb-true (header_blocks geo) (place_in_group geo a) parts.1)

  same_address : (a b : ℕ) → IsTrue (is_data_address geo a) → IsTrue (is_data_address geo b) → group_of_address geo a ≡ group_of_address geo b → data_bit geo a ≡ data_bit geo b → a ≡ b
  same_address a b s t group bit =
      let p = data_parts a s in let q = data_parts b t in
      let place : place_in_group geo a ≡ place_in_group geo b = omega (arith, p.1, q.1) in
      let e : a - 1 ≡ b - 1 = same_from_parts (a - 1) (b - 1) geo.blocks group place in
      omega (arith, p.0, q.0)

  module _ (block : ℕ → List ℕ) (a : ℕ) (bytes : List ℕ) (value : Bool) (t : IsTrue (is_data_address geo a))
      (change : ChangesBit (block (group_block geo (group_of_address geo a))) bytes 160 (data_bit geo a) value) where
    abbrev address_after : ℕ → List ℕ
    address_after = put_at block (group_block geo (group_of_address geo a)) bytes

    other_place : (g s k : ℕ) → (g ≡ group_of_address geo a → 8 * s + k ≡ 8 * 160 + data_bit geo a → ⊥) → map_bit (address_after (group_block geo g)) s k ≡ map_bit (block (group_block geo g)) s k
    other_place = bit_there geo ok block (group_of_address geo a) bytes 160 (data_bit geo a) value change

    block_here : (view_of geo address_after).block_marked a ≡ value
    block_here =
        ap (λ b. b && map_bit (address_after (group_block geo (group_of_address geo a))) 160 (data_bit geo a)) t
        ∙ bit_here geo ok block (group_of_address geo a) bytes 160 (data_bit geo a) value change

    blocks_agree : (b : ℕ) → (view_of geo address_after).block_marked b ≡ put_at (view_of geo block).block_marked a value b
    blocks_agree b = elim (cases_eq b a) [
      | inl e ↦ ap (view_of geo address_after).block_marked e ∙ block_here ∙ sym (cond-true (eqb b a) value ((view_of geo block).block_marked b) (eq-eqb b a e))
      | inr differs ↦ same_and (is_data_address geo b) _ _ (λ s. other_place (group_of_address geo b) 160 (data_bit geo b) (λ p q. differs (same_address b a s t p (omega arith))))
          ∙ sym (put_there (view_of geo block).block_marked a b value differs)
    ]

    numbers_stay : (n : ℕ) → (view_of geo address_after).number_marked n ≡ (view_of geo block).number_marked n
    numbers_stay n =
        ap (λ b. is_number geo n && b) (other_place (n / geo.inodes) 32 (n % geo.inodes)
        (λ _ e. let low : n % geo.inodes < 1024 = number_place n in omega arith))

    pub block_write : view_of geo address_after ≡ updated (view_of geo block) (SetBlock a value)
    block_write = views_agree geo ok block (group_of_address geo a) bytes (updated (view_of geo block) (SetBlock a value)) (λ m. refl) numbers_stay blocks_agree (λ b. refl)
