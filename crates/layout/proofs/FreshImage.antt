-- The fresh image is an image, holds the fresh view and obeys the rules.
use Rattle.std.proofs.Common.{◌≡◌, ◌<◌, ◌≤◌, ◌+◌, ◌-◌, ◌*◌, ◌/◌, ◌%◌, ℕ, List, length, [], false, cond, ◌&&◌, eqb, ltb, leb, IsTrue, inl, inr, refl, sym, ap, ◌∙◌, subst, arith, div-add-mod', mod-lt}
use mathlib.Core.Path.{fun_ext}
use Rattle.std.proofs.lemmas.Nat.{div_below}
use Rattle.std.proofs.lemmas.Bool.{and_parts, cases_Bool, cases_eq, cond-true, cond-false, cond_both, eq-eqb, eqb-true, ne_eqb, leb-true, both_ways}
use Rattle.std.proofs.lemmas.List.Elements.{All-from_get_or}
use Rattle.std.proofs.lemmas.List.FromFn.{get_or-map-range_with_len, length-map-range_with_len}
use Rattle.model.specs.Layout.{Geometry, IsGeometry, is_number, is_data_address, root, inode_count, block_count, header_blocks, group_block, group_of_address, place_in_group, inode_block, inode_byte, data_bit}
use Rattle.model.specs.View.{inode_at, free_inode, map_bit}
use Rattle.model.specs.Image.{IsBlock, IsSuper, IsGroupBlock, IsImage, block_at, image_view}
use Rattle.model.specs.Fresh.{fresh_view, first_data, root_inode, root_bytes}
use Rattle.model.specs.Rules.{ObeysRules}
use Rattle.model.proofs.Places.{same_view, place_of_maps, place_of_inode, place_of_data, inodes_are_no_data}
use Rattle.model.proofs.Addresses.{inode_group, maps_group, maps_below, inode_below, address_in_group, number_in_group, data_range}
use Rattle.model.proofs.FreshLemmas.{root_number, first_is_data, fresh_obeys}
use Rattle.layout.specs.Fresh.{fresh_image, fresh_bytes, zero_block, super_bytes, group_bytes, first_group_bytes, root_record_bytes}
use Rattle.layout.proofs.PutLemmas.{IsWhole, block_of, zeroes_zero, zero_within, zero_inode}
use Rattle.layout.proofs.FreshBlocks.{zero_whole, super_whole, super_is, group_whole, group_is, group_unmarked, first_whole, first_is_group, first_number_bit, first_block_bit}
use Rattle.layout.proofs.RootBlocks.{root_record_whole, root_record_is, root_record_rest, root_bytes_whole}

-- ---- quotients

-- where the quotient is 0 the remainder is all
all_remains : (x m : ℕ) → x / m ≡ 0 → x % m ≡ x
all_remains x m e = let whole : 0 * m + x % m ≡ x = ap (λ q. q * m + x % m) (sym e) ∙ div-add-mod' x m in omega arith

no_quotient : (x m : ℕ) → x < m → x / m ≡ 0
no_quotient x m b = omega (arith, div_below x m 1 (omega arith) (omega arith))

-- two tests of equality that hold together
same_test : (a b c d : ℕ) → (a ≡ b → c ≡ d) → (c ≡ d → a ≡ b) → eqb a b ≡ eqb c d
same_test a b c d there back = elim (cases_eq a b) [
  | inl e ↦ eq-eqb a b e ∙ sym (eq-eqb c d (there e))
  | inr differs ↦ ne_eqb a b differs ∙ sym (ne_eqb c d (λ e. differs (back e)))
]

module _ (geo : Geometry) (ok : IsGeometry geo) where
  number_from_root : (n : ℕ) → IsTrue (is_number geo n) → 2 ≤ n
  number_from_root n t = leb-true root n (and_parts (leb root n) (ltb n (inode_count geo)) t).0

  root_group : 2 / geo.inodes ≡ 0
  root_group = no_quotient 2 geo.inodes (omega (arith, ok.enough_inodes))

  -- ---- what stands on them

  rest : ℕ → List ℕ
  rest a = cond (eqb a (inode_block geo root)) (root_record_bytes geo) (cond (eqb a (first_data geo)) root_bytes zero_block)

  maps : ℕ → List ℕ
  maps g = cond (eqb g 0) first_group_bytes (group_bytes g)

  at_super : fresh_bytes geo 0 ≡ super_bytes geo
  unfolding fresh_bytes
  at_super = refl

  behind_super : (a : ℕ) → (a ≡ 0 → ⊥) → fresh_bytes geo a ≡ cond (eqb (place_in_group geo a) 0) (maps (group_of_address geo a)) (rest a)
  unfolding fresh_bytes maps rest
  behind_super a differs = cond-false (eqb a 0) (super_bytes geo) (cond (eqb (place_in_group geo a) 0) (maps (group_of_address geo a)) (rest a)) (ne_eqb a 0 differs)

  at_maps : (g : ℕ) → fresh_bytes geo (group_block geo g) ≡ maps g
  at_maps g =
      behind_super (group_block geo g) (λ e. omega arith)
      ∙ cond-true (eqb (place_in_group geo (group_block geo g)) 0) (maps (group_of_address geo (group_block geo g))) (rest (group_block geo g)) (eq-eqb (place_in_group geo (group_block geo g)) 0 (place_of_maps geo ok g))
      ∙ ap maps (maps_group geo ok g)

  at_rest : (a : ℕ) → (a ≡ 0 → ⊥) → (place_in_group geo a ≡ 0 → ⊥) → fresh_bytes geo a ≡ rest a
  at_rest a some differs = behind_super a some ∙ cond-false (eqb (place_in_group geo a) 0) (maps (group_of_address geo a)) (rest a) (ne_eqb (place_in_group geo a) 0 differs)

  at_inode : (n : ℕ) → fresh_bytes geo (inode_block geo n) ≡ cond (eqb (inode_block geo n) (inode_block geo root)) (root_record_bytes geo) zero_block
  unfolding rest
  at_inode n =
      at_rest (inode_block geo n) (λ e. omega arith) (λ e. omega (arith, e, place_of_inode geo ok n))
      ∙ ap (cond (eqb (inode_block geo n) (inode_block geo root)) (root_record_bytes geo))
      (cond-false (eqb (inode_block geo n) (first_data geo)) root_bytes zero_block (ne_eqb (inode_block geo n) (first_data geo) (inodes_are_no_data geo ok n (first_data geo) (first_is_data geo ok))))

  at_data : (a : ℕ) → IsTrue (is_data_address geo a) → fresh_bytes geo a ≡ cond (eqb a (first_data geo)) root_bytes zero_block
  unfolding rest
  at_data a t =
      at_rest a (λ e. omega (arith, e, (data_range geo ok a t).0)) (λ e. omega (arith, e, place_of_data geo ok a t))
      ∙ cond-false (eqb a (inode_block geo root)) (root_record_bytes geo) (cond (eqb a (first_data geo)) root_bytes zero_block)
      (ne_eqb a (inode_block geo root) (λ e. inodes_are_no_data geo ok root a t (sym e)))

  at_image : (a : ℕ) → a < block_count geo → block_at (fresh_image geo) a ≡ fresh_bytes geo a
  unfolding fresh_image
  at_image a b = get_or-map-range_with_len (fresh_bytes geo) 0 (block_count geo) a a [] b (omega arith)

  -- ---- an image

  maps_whole : (g : ℕ) → g < 64 → IsWhole (maps g)
  unfolding maps
  maps_whole g b = cond_both (eqb g 0) first_group_bytes (group_bytes g) IsWhole (λ t. first_whole) (λ f. group_whole g b)

  maps_are : (g : ℕ) → g < 64 → IsGroupBlock g (maps g)
  unfolding maps
  maps_are g b = cond_both (eqb g 0) first_group_bytes (group_bytes g) (IsGroupBlock g) (λ t. subst (λ k. IsGroupBlock k first_group_bytes) (sym (eqb-true g 0 t)) first_is_group) (λ f. group_is g b)

  rest_whole : (a : ℕ) → IsWhole (rest a)
  unfolding rest
  rest_whole a =
      cond_both (eqb a (inode_block geo root)) (root_record_bytes geo) (cond (eqb a (first_data geo)) root_bytes zero_block) IsWhole
      (λ t. root_record_whole geo ok) (λ f. cond_both (eqb a (first_data geo)) root_bytes zero_block IsWhole (λ t. root_bytes_whole) (λ g. zero_whole))

  fresh_whole : (a : ℕ) → a < block_count geo → IsWhole (fresh_bytes geo a)
  fresh_whole a b = elim (cases_eq a 0) [
    | inl e ↦ subst IsWhole (sym (ap (fresh_bytes geo) e ∙ at_super)) (super_whole geo ok)
    | inr differs ↦ subst IsWhole (sym (behind_super a differs))
        (cond_both (eqb (place_in_group geo a) 0) (maps (group_of_address geo a)) (rest a) IsWhole
        (λ t. maps_whole (group_of_address geo a) (omega (arith, address_in_group geo ok a b, ok.few_groups))) (λ f. rest_whole a))
  ]

  image_count : length (fresh_image geo) ≡ block_count geo
  unfolding fresh_image
  image_count = length-map-range_with_len (fresh_bytes geo) 0 (block_count geo)

  pub fresh_is_image : IsImage geo (fresh_image geo)
  fresh_is_image = record {
    geometry = ok;
    count = image_count;
    blocks = All-from_get_or IsBlock (fresh_image geo) [] (λ k b.
        let below : k < block_count geo = omega (arith, image_count) in
        subst IsBlock (sym (at_image k below)) (block_of (fresh_bytes geo k) (fresh_whole k below)));
    first = subst (IsSuper geo) (sym (at_image 0 (omega arith) ∙ at_super)) (super_is geo ok);
    group_blocks = λ g b. subst (IsGroupBlock g) (sym (at_image (group_block geo g) (maps_below geo ok g b) ∙ at_maps g)) (maps_are g (omega (arith, ok.few_groups)));
  }

  -- ---- the view

  number_bit : (n g : ℕ) → n / geo.inodes ≡ g → g < 64 → map_bit (maps g) 32 (n % geo.inodes) ≡ eqb n 2
  unfolding maps
  number_bit n g is few =
      let low : n % geo.inodes < geo.inodes = mod-lt n (omega (arith, ok.enough_inodes)) in
      let bound : n % geo.inodes < 1024 = omega (arith, ok.few_inodes) in
      elim (cases_eq g 0) [
        | inl e ↦ ap (λ b. map_bit b 32 (n % geo.inodes)) (cond-true (eqb g 0) first_group_bytes (group_bytes g) (eq-eqb g 0 e))
            ∙ first_number_bit (n % geo.inodes) bound ∙ ap (λ k. eqb k 2) (all_remains n geo.inodes (is ∙ e))
        | inr differs ↦ ap (λ b. map_bit b 32 (n % geo.inodes)) (cond-false (eqb g 0) first_group_bytes (group_bytes g) (ne_eqb g 0 differs))
            ∙ group_unmarked g 32 (n % geo.inodes) few (omega arith) (omega arith)
            ∙ sym (ne_eqb n 2 (λ e. differs (sym is ∙ ap (λ k. k / geo.inodes) e ∙ root_group)))
      ]

  data_bit_is : (a g : ℕ) → IsTrue (is_data_address geo a) → group_of_address geo a ≡ g → g < 64 → map_bit (maps g) 160 (data_bit geo a) ≡ eqb a (first_data geo)
  unfolding maps
  data_bit_is a g t is few =
      let low : place_in_group geo a < geo.blocks = mod-lt (a - 1) (omega (arith, ok.enough_blocks)) in
      let bound : data_bit geo a < 4096 = omega (arith, ok.few_blocks) in
      elim (cases_eq g 0) [
        | inl e ↦ ap (λ b. map_bit b 160 (data_bit geo a)) (cond-true (eqb g 0) first_group_bytes (group_bytes g) (eq-eqb g 0 e))
            ∙ first_block_bit (data_bit geo a) bound
            ∙ (let place : place_in_group geo a ≡ a - 1 = all_remains (a - 1) geo.blocks (is ∙ e) in
            let header : header_blocks geo ≤ place_in_group geo a = place_of_data geo ok a t in
            let some : 0 < a = (data_range geo ok a t).0 in
            same_test (data_bit geo a) 0 a (first_data geo) (λ z. omega arith) (λ z. omega arith))
        | inr differs ↦ ap (λ b. map_bit b 160 (data_bit geo a)) (cond-false (eqb g 0) first_group_bytes (group_bytes g) (ne_eqb g 0 differs))
            ∙ group_unmarked g 160 (data_bit geo a) few (omega arith) (omega arith)
            ∙ sym (ne_eqb a (first_data geo) (λ e. differs (sym is ∙ no_quotient (a - 1) geo.blocks (omega (arith, ok.room_for_data)))))
      ]

  -- the record of a number
  other_record : (n : ℕ) → 2 ≤ n → (n ≡ 2 → ⊥) → n < 8 → inode_at geo.version (root_record_bytes geo) (inode_byte n) ≡ free_inode
  other_record n low differs high =
      zero_inode geo.version (inode_byte n) (root_record_bytes geo)
      (zero_within (root_record_bytes geo) 268 1024 (inode_byte n) (inode_byte n + 128) (omega arith) (omega arith) (root_record_rest geo ok))

  record_is : (n : ℕ) → IsTrue (is_number geo n)
      → inode_at geo.version (cond (eqb (inode_block geo n) (inode_block geo root)) (root_record_bytes geo) zero_block) (inode_byte n) ≡ cond (eqb n 2) (root_inode geo) free_inode
  record_is n t = elim (cases_eq (inode_block geo n) (inode_block geo root)) [
    | inl e ↦
        let group : n / geo.inodes ≡ 0 = sym (inode_group geo ok n) ∙ ap (group_of_address geo) e ∙ inode_group geo ok 2 ∙ root_group in
        let place : 1 + n % geo.inodes / 8 ≡ 1 + 2 % geo.inodes / 8 = sym (place_of_inode geo ok n) ∙ ap (place_in_group geo) e ∙ place_of_inode geo ok 2 in
        let of_root : 2 % geo.inodes ≡ 2 = all_remains 2 geo.inodes root_group in
        let all : n % geo.inodes ≡ n = all_remains n geo.inodes group in
        ap (λ b. inode_at geo.version b (inode_byte n)) (cond-true (eqb (inode_block geo n) (inode_block geo root)) (root_record_bytes geo) zero_block (eq-eqb (inode_block geo n) (inode_block geo root) e))
        ∙ here n (number_from_root n t) (omega arith)
    | inr differs ↦
        ap (λ b. inode_at geo.version b (inode_byte n)) (cond-false (eqb (inode_block geo n) (inode_block geo root)) (root_record_bytes geo) zero_block (ne_eqb (inode_block geo n) (inode_block geo root) differs))
        ∙ zero_inode geo.version (inode_byte n) zero_block (zeroes_zero 1024 (inode_byte n) (inode_byte n + 128))
        ∙ sym (cond-false (eqb n 2) (root_inode geo) free_inode (ne_eqb n 2 (λ e. differs (ap (inode_block geo) e))))
  ]
    where
      here : (n : ℕ) → 2 ≤ n → n < 8 → inode_at geo.version (root_record_bytes geo) (inode_byte n) ≡ cond (eqb n 2) (root_inode geo) free_inode
      here n low high = elim (cases_eq n 2) [
        | inl e ↦ ap (λ k. inode_at geo.version (root_record_bytes geo) (inode_byte k)) e ∙ root_record_is geo ok ∙ sym (cond-true (eqb n 2) (root_inode geo) free_inode (eq-eqb n 2 e))
        | inr differs ↦ other_record n low differs high ∙ sym (cond-false (eqb n 2) (root_inode geo) free_inode (ne_eqb n 2 differs))
      ]

  no_root : (n : ℕ) → is_number geo n ≡ false → eqb n 2 ≡ false
  no_root n f = ne_eqb n 2 (λ e. both_ways (is_number geo n) f (subst (λ k. IsTrue (is_number geo k)) (sym e) (root_number geo ok)))

  no_first : (a : ℕ) → is_data_address geo a ≡ false → eqb a (first_data geo) ≡ false
  no_first a f = ne_eqb a (first_data geo) (λ e. both_ways (is_data_address geo a) f (subst (λ k. IsTrue (is_data_address geo k)) (sym e) (first_is_data geo ok)))

  view_inode : (n : ℕ) → cond (is_number geo n) (inode_at geo.version (block_at (fresh_image geo) (inode_block geo n)) (inode_byte n)) free_inode ≡ cond (eqb n 2) (root_inode geo) free_inode
  view_inode n = elim (cases_Bool (is_number geo n)) [
    | inl t ↦ cond-true (is_number geo n) (inode_at geo.version (block_at (fresh_image geo) (inode_block geo n)) (inode_byte n)) free_inode t
        ∙ ap (λ b. inode_at geo.version b (inode_byte n)) (at_image (inode_block geo n) (inode_below geo ok n (number_in_group geo ok n t)) ∙ at_inode n)
        ∙ record_is n t
    | inr f ↦ cond-false (is_number geo n) (inode_at geo.version (block_at (fresh_image geo) (inode_block geo n)) (inode_byte n)) free_inode f
        ∙ sym (cond-false (eqb n 2) (root_inode geo) free_inode (no_root n f))
  ]

  view_number : (n : ℕ) → (is_number geo n && map_bit (block_at (fresh_image geo) (group_block geo (n / geo.inodes))) 32 (n % geo.inodes)) ≡ eqb n 2
  view_number n = elim (cases_Bool (is_number geo n)) [
    | inl t ↦ ap (λ b. b && map_bit (block_at (fresh_image geo) (group_block geo (n / geo.inodes))) 32 (n % geo.inodes)) t
        ∙ ap (λ b. map_bit b 32 (n % geo.inodes)) (at_image (group_block geo (n / geo.inodes)) (maps_below geo ok (n / geo.inodes) (number_in_group geo ok n t)) ∙ at_maps (n / geo.inodes))
        ∙ number_bit n (n / geo.inodes) refl (omega (arith, number_in_group geo ok n t, ok.few_groups))
    | inr f ↦ ap (λ b. b && map_bit (block_at (fresh_image geo) (group_block geo (n / geo.inodes))) 32 (n % geo.inodes)) f ∙ sym (no_root n f)
  ]

  view_block : (a : ℕ) → (is_data_address geo a && map_bit (block_at (fresh_image geo) (group_block geo (group_of_address geo a))) 160 (data_bit geo a)) ≡ eqb a (first_data geo)
  view_block a = elim (cases_Bool (is_data_address geo a)) [
    | inl t ↦
        let group : group_of_address geo a < geo.groups = address_in_group geo ok a (data_range geo ok a t).1 in
        ap (λ b. b && map_bit (block_at (fresh_image geo) (group_block geo (group_of_address geo a))) 160 (data_bit geo a)) t
        ∙ ap (λ b. map_bit b 160 (data_bit geo a)) (at_image (group_block geo (group_of_address geo a)) (maps_below geo ok (group_of_address geo a) group) ∙ at_maps (group_of_address geo a))
        ∙ data_bit_is a (group_of_address geo a) t refl (omega (arith, group, ok.few_groups))
    | inr f ↦ ap (λ b. b && map_bit (block_at (fresh_image geo) (group_block geo (group_of_address geo a))) 160 (data_bit geo a)) f ∙ sym (no_first a f)
  ]

  view_bytes : (a : ℕ) → cond (is_data_address geo a) (block_at (fresh_image geo) a) [] ≡ cond (eqb a (first_data geo)) root_bytes (cond (is_data_address geo a) zero_block [])
  view_bytes a = elim (cases_Bool (is_data_address geo a)) [
    | inl t ↦ cond-true (is_data_address geo a) (block_at (fresh_image geo) a) [] t
        ∙ at_image a (data_range geo ok a t).1 ∙ at_data a t
        ∙ sym (ap (cond (eqb a (first_data geo)) root_bytes) (cond-true (is_data_address geo a) zero_block [] t))
    | inr f ↦ cond-false (is_data_address geo a) (block_at (fresh_image geo) a) [] f
        ∙ sym (cond-false (is_data_address geo a) zero_block [] f)
        ∙ sym (cond-false (eqb a (first_data geo)) root_bytes (cond (is_data_address geo a) zero_block []) (no_first a f))
  ]

  pub fresh_holds : image_view geo (fresh_image geo) ≡ fresh_view geo
  fresh_holds = same_view (fun_ext view_inode) (fun_ext view_number) (fun_ext view_block) (fun_ext view_bytes)

  pub fresh_image_obeys : ObeysRules geo (image_view geo (fresh_image geo))
  fresh_image_obeys = subst (ObeysRules geo) (sym fresh_holds) (fresh_obeys geo ok)
