-- No block has two uses.
use Rattle.std.proofs.Common.{◌≡◌, ℕ, not, cond, ltb, inl, inr, refl, sym, ap, ap₂, ◌∙◌, arith, IsTrue}
use Rattle.std.proofs.lemmas.Bool.{and_parts, not-true}
use Rattle.model.specs.Layout.{Geometry, header_blocks, is_data_address, place_in_group}
use Rattle.model.specs.View.{View}
use Rattle.pictures.specs.Uses.{AreNoClaims, AreTwoClaims, IsOneClaim, IsUsedBy, is_maps, purpose}
use Rattle.pictures.specs.declared.uses.Use.{Use}
use Rattle.pictures.specs.declared.uses.Use.TheVariants.{Maps, Inodes, Directory, Indirect, File, Free, Lost, Duplicate}
use Rattle.pictures.proofs.SetLemmas.{no_inodes, no_maps}

-- a block is no data block, or so many claims of it tell its use
data Tale (geo : Geometry) (view : View) (claims : ℕ → ℕ → Type 0) (a : ℕ) (cell : Use) : Type 0 where
  Frame : (IsTrue (is_data_address geo a) → ⊥) → cell ≡ cond (is_maps geo a) Maps Inodes → Tale geo view claims a cell
  None : IsTrue (is_data_address geo a) → AreNoClaims claims → cell ≡ cond (view.block_marked a) Lost Free → Tale geo view claims a cell
  One : IsTrue (is_data_address geo a) → IsOneClaim geo view claims cell → Tale geo view claims a cell
  Two : IsTrue (is_data_address geo a) → AreTwoClaims claims → cell ≡ Duplicate → Tale geo view claims a cell

module _ (geo : Geometry) (view : View) (claims : ℕ → ℕ → Type 0) (a : ℕ) where
  tale : (cell : Use) → IsUsedBy geo view claims a cell → Tale geo view claims a cell
  tale Maps h = Frame (λ is_data. no_maps geo a is_data h) (sym (ap (λ b. cond b Maps Inodes) h))
  tale Inodes h =
      let no_map = not-true (is_maps geo a) (and_parts (not (is_maps geo a)) (ltb (place_in_group geo a) (header_blocks geo)) h).0 in
      Frame (λ is_data. no_inodes geo a is_data h) (sym (ap (λ b. cond b Maps Inodes) no_map))
  tale Directory h = One h.0 h.1
  tale Indirect h = One h.0 h.1
  tale File h = One h.0 h.1
  tale Free h = None h.0 h.1 (sym (ap (λ b. cond b Lost Free) h.2))
  tale Lost h = None h.0 h.1 (sym (ap (λ b. cond b Lost Free) h.2))
  tale Duplicate h = Two h.0 h.1 refl

  both_one : (cell other : Use) → IsOneClaim geo view claims cell → IsOneClaim geo view claims other → cell ≡ other
  both_one cell other x y =
      let e = y.alone x.inode x.position x.claim in
      sym x.purpose ∙ ap₂ (purpose geo view) e.0 e.1 ∙ y.purpose

  one_or_two : (cell : Use) → IsOneClaim geo view claims cell → AreTwoClaims claims → ⊥
  one_or_two cell x h =
      let e = x.alone h.0 h.1 h.4 in
      let f = x.alone h.2 h.3 h.5 in
      elim h.6 [
        | inl less ↦ omega (arith, less, e.0, f.0)
        | inr less ↦ omega (arith, less.1, e.1, f.1)
      ]

  agree : (cell other : Use) → Tale geo view claims a cell → Tale geo view claims a other → cell ≡ other
  agree cell other (Frame n e) (Frame m f) = e ∙ sym f
  agree cell other (Frame n e) (None d h f) = absurd (n d)
  agree cell other (Frame n e) (One d h) = absurd (n d)
  agree cell other (Frame n e) (Two d h f) = absurd (n d)
  agree cell other (None d h e) (Frame m f) = absurd (m d)
  agree cell other (None d h e) (None b g f) = e ∙ sym f
  agree cell other (None d h e) (One b g) = absurd (h g.inode g.position g.claim)
  agree cell other (None d h e) (Two b g f) = absurd (h g.0 g.1 g.4)
  agree cell other (One d h) (Frame m f) = absurd (m d)
  agree cell other (One d h) (None b g f) = absurd (g h.inode h.position h.claim)
  agree cell other (One d h) (One b g) = both_one cell other h g
  agree cell other (One d h) (Two b g f) = absurd (one_or_two cell h g)
  agree cell other (Two d h e) (Frame m f) = absurd (m d)
  agree cell other (Two d h e) (None b g f) = absurd (g h.0 h.1 h.4)
  agree cell other (Two d h e) (One b g) = absurd (one_or_two other g h)
  agree cell other (Two d h e) (Two b g f) = e ∙ sym f

  pub one_use : (cell other : Use) → IsUsedBy geo view claims a cell → IsUsedBy geo view claims a other → cell ≡ other
  one_use cell other h g = agree cell other (tale cell h) (tale other g)
