-- What a block is used for, as its claims tell it: the same claims, and one claim more.
use Rattle.std.proofs.Common.{◌≡◌, ℕ, ◌<◌, Bool, true, false, not, cond, ◌&&◌, ◌||◌, eqb, ltb, leb, ◌⊎◌, inl, inr, ◌↔◌, refl, arith, IsTrue}
use Rattle.std.proofs.lemmas.Bool.{or_cases, and_parts, eqb-true, ltb-true, leb-true}
use Rattle.model.specs.Layout.{Geometry, block_count, header_blocks, is_data_address, place_in_group}
use Rattle.model.specs.Shape.{is_table}
use Rattle.model.specs.View.{View}
use Rattle.model.specs.Uses.{Before, is_directory_at}
use Rattle.pictures.specs.Uses.{AreNoClaims, AreTwoClaims, IsOneClaim, IsUsedBy, is_inodes, is_maps, purpose}
use Rattle.pictures.specs.Walk.{claimed_again}
use Rattle.pictures.specs.declared.uses.Use.{Use}
use Rattle.pictures.specs.declared.uses.Use.TheVariants.{Maps, Inodes, Directory, Indirect, File, Free, Lost, Duplicate}

-- ---- blocks that are no data blocks
maps_apart : (a place header count : ℕ) → 0 < header → (eqb a 0 || eqb place 0) ≡ true → ((ltb 0 a && ltb a count) && leb header place) ≡ true → ⊥
maps_apart a place header count some maps is_data =
    let parts = and_parts (ltb 0 a && ltb a count) (leb header place) is_data in
    let low = and_parts (ltb 0 a) (ltb a count) parts.0 in
    elim (or_cases (eqb a 0) (eqb place 0) maps) [
      | inl e ↦ absurd (omega (arith, eqb-true a 0 e, ltb-true 0 a low.0))
      | inr e ↦ absurd (omega (arith, eqb-true place 0 e, leb-true header place parts.1, some))
    ]

pub data_low : (geo : Geometry) (a : ℕ) → IsTrue (is_data_address geo a) → a < block_count geo
data_low geo a is_data =
    let parts = and_parts (ltb 0 a && ltb a (block_count geo)) (leb (header_blocks geo) (place_in_group geo a)) is_data in
    ltb-true a (block_count geo) (and_parts (ltb 0 a) (ltb a (block_count geo)) parts.0).1

pub no_maps : (geo : Geometry) (a : ℕ) → IsTrue (is_data_address geo a) → IsTrue (is_maps geo a) → ⊥
no_maps geo a is_data maps = maps_apart a (place_in_group geo a) (header_blocks geo) (block_count geo) (omega arith) maps is_data

pub no_inodes : (geo : Geometry) (a : ℕ) → IsTrue (is_data_address geo a) → IsTrue (is_inodes geo a) → ⊥
no_inodes geo a is_data inodes =
    let place = (and_parts (not (is_maps geo a)) (ltb (place_in_group geo a) (header_blocks geo)) inodes).1 in
    let far = (and_parts (ltb 0 a && ltb a (block_count geo)) (leb (header_blocks geo) (place_in_group geo a)) is_data).1 in
    absurd (omega (arith, ltb-true (place_in_group geo a) (header_blocks geo) place, leb-true (header_blocks geo) (place_in_group geo a) far))

-- ---- the same claims
module _ (geo : Geometry) (view : View) (p q : ℕ → ℕ → Type 0) (same : (j l : ℕ) → p j l ↔ q j l) where
  same_one : (cell : Use) → IsOneClaim geo view p cell → IsOneClaim geo view q cell
  same_one cell h = record {
    inode = h.inode;
    position = h.position;
    claim = (same h.inode h.position).0 h.claim;
    alone = λ j l c. h.alone j l ((same j l).1 c);
    purpose = h.purpose;
  }

  same_none : AreNoClaims p → AreNoClaims q
  same_none h j l c = h j l ((same j l).1 c)

  same_two : AreTwoClaims p → AreTwoClaims q
  same_two h = (h.0, h.1, h.2, h.3, (same h.0 h.1).0 h.4, (same h.2 h.3).0 h.5, h.6)

  pub same_use : (a : ℕ) (cell : Use) → IsUsedBy geo view p a cell → IsUsedBy geo view q a cell
  same_use a Maps h = h
  same_use a Inodes h = h
  same_use a Directory h = (h.0, same_one Directory h.1)
  same_use a Indirect h = (h.0, same_one Indirect h.1)
  same_use a File h = (h.0, same_one File h.1)
  same_use a Free h = (h.0, same_none h.1, h.2)
  same_use a Lost h = (h.0, same_none h.1, h.2)
  same_use a Duplicate h = (h.0, same_two h.1)

-- ---- one claim more, of inode i at position k, behind the others
pub record AddsClaim (p q : ℕ → ℕ → Type 0) (i k : ℕ) : Type 0 where
  pub new : q i k
  pub keeps : (j l : ℕ) → p j l → q j l
  pub before : (j l : ℕ) → p j l → Before j l i k
  pub only : (j l : ℕ) → q j l → p j l ⊎ ((j ≡ i) × (l ≡ k))

module _ (geo : Geometry) (view : View) (p q : ℕ → ℕ → Type 0) (a i k : ℕ) (is_data : IsTrue (is_data_address geo a)) (adds : AddsClaim p q i k) where
  now_two : (cell : Use) → IsOneClaim geo view p cell → AreTwoClaims q
  now_two cell h = (h.inode, h.position, i, k, adds.keeps h.inode h.position h.claim, adds.new, adds.before h.inode h.position h.claim)

  still_two : AreTwoClaims p → AreTwoClaims q
  still_two h = (h.0, h.1, h.2, h.3, adds.keeps h.0 h.1 h.4, adds.keeps h.2 h.3 h.5, h.6)

  now_one : AreNoClaims p → IsOneClaim geo view q (purpose geo view i k)
  now_one none = record {
    inode = i;
    position = k;
    claim = adds.new;
    alone = λ j l c. elim (adds.only j l c) [ inl old ↦ absurd (none j l old) | inr e ↦ e ];
    purpose = refl;
  }

  used_once : (b c : Bool) → IsOneClaim geo view q (cond b Indirect (cond c Directory File)) → IsUsedBy geo view q a (cond b Indirect (cond c Directory File))
  used_once true c h = (is_data, h)
  used_once false true h = (is_data, h)
  used_once false false h = (is_data, h)

  first_use : AreNoClaims p → IsUsedBy geo view q a (purpose geo view i k)
  first_use none = used_once (is_table geo k) (is_directory_at geo view i) (now_one none)

  pub used_again : (cell : Use) → IsUsedBy geo view p a cell → IsUsedBy geo view q a (claimed_again cell (purpose geo view i k))
  used_again Maps h = absurd (no_maps geo a is_data h)
  used_again Inodes h = absurd (no_inodes geo a is_data h)
  used_again Directory h = (is_data, now_two Directory h.1)
  used_again Indirect h = (is_data, now_two Indirect h.1)
  used_again File h = (is_data, now_two File h.1)
  used_again Free h = first_use h.1
  used_again Lost h = first_use h.1
  used_again Duplicate h = (is_data, still_two h.1)
