-- What a flush leaves of the bytes of a record that stand for nothing.
use Rattle.std.proofs.Common.{◌≡◌, ℕ, suc, Bool, ◌<◌, ◌≤◌, ◌+◌, ◌*◌, ◌%◌, ◌/◌, ◌⊎◌, inl, inr, List, [], ◌∷◌, refl, sym, ap, ap₂, ◌∙◌, subst, Contains, slice_index, arith}
use Rattle.std.specs.List.{All}
use Rattle.std.proofs.lemmas.Bool.{cases_eq, cases_lt}
use Rattle.std.proofs.lemmas.List.Elements.{All-contains}
use Rattle.model.specs.Layout.{Geometry, IsGeometry, group_of_address, inode_block, inode_byte}
use Rattle.model.specs.View.{IsSpare, free_inode}
use Rattle.model.specs.Cells.{Update, SetInode, SetNumber, SetBlock, SetBytes}
use Rattle.model.proofs.Addresses.{inode_places}
use Rattle.model.proofs.Places.{inodes_are_no_data, inodes_are_no_maps}
use Rattle.ordering.specs.Cuts.{Pending, cell_of}
use Rattle.queue_model.specs.Blocks.{home_of}
use Rattle.queue_model.specs.Flush.{TakesChange}
use Rattle.queue_model.proofs.Lists.{contains_head, contains_tail, contains_cases, contains_none}
use Rattle.updates.specs.Alone.{IsPutInto, IsPutAll}
use Rattle.updates.specs.Places.{IsCell}
use Rattle.softdep.specs.Writing.{WritesTaken}

module _ (geo : Geometry) (ok : IsGeometry geo) (n k : ℕ) (spare : IsSpare geo.version k) where
  low : k < 128
  low = omega (arith, spare.below)

  abbrev at : ℕ
  at = inode_byte n + k

  -- another record of the block is elsewhere
  apart : (m : ℕ) → (m ≡ n → ⊥) → inode_block geo m ≡ inode_block geo n → (at < inode_byte m) ⊎ (inode_byte m + 128 ≤ at)
  apart m differs same = side (m % 8) (n % 8) (λ place. differs (inode_places geo ok m n same (ap (λ j. 128 * j) place)))
    where
      side : (i j : ℕ) → (i ≡ j → ⊥) → (128 * j + k < 128 * i) ⊎ (128 * i + 128 ≤ 128 * j + k)
      side i j other = elim (cases_lt j i) [
        | inl before ↦ inl (omega (arith, before, low))
        | inr behind ↦ inr (omega (arith, behind, other))
      ]

  -- a change that does not free the record leaves the byte
  left : (old new : List ℕ) (u : Update) → IsCell geo (cell_of u) → home_of geo (cell_of u) ≡ inode_block geo n → IsPutInto geo u old new → (u ≡ SetInode n free_inode → ⊥)
      → slice_index new at ≡ slice_index old at
  left old new (SetInode m inode) t home put other = elim (cases_eq m n) [
    | inl same ↦ subst (λ j. slice_index new (inode_byte j + k) ≡ slice_index old (inode_byte j + k)) same (put.alone.kept (λ free. other (ap₂ SetInode same free)) k spare)
    | inr differs ↦ put.alone.outside at (apart m differs home)
  ]
  left old new (SetNumber m marked) t home put other = absurd (inodes_are_no_maps geo ok n (m / geo.inodes) home)
  left old new (SetBlock b marked) t home put other = absurd (inodes_are_no_maps geo ok n (group_of_address geo b) home)
  left old new (SetBytes b bytes) t home put other = absurd (inodes_are_no_data geo ok n b t (sym home))

  freed : (old new : List ℕ) (u : Update) → u ≡ SetInode n free_inode → IsPutInto geo u old new → slice_index new at ≡ 0
  freed old new u same put = (subst (λ v. IsPutInto geo v old new) same put).alone.freed refl k low

  -- a zero stays
  stays : (old new : List ℕ) (u : Update) → IsCell geo (cell_of u) → home_of geo (cell_of u) ≡ inode_block geo n → IsPutInto geo u old new → slice_index old at ≡ 0 → slice_index new at ≡ 0
  stays old new u cell home put none = elim (cases_eq (slice_index new at) 0) [
    | inl is ↦ is
    | inr not ↦ absurd (not (left old new u cell home put (λ same. not (freed old new u same put)) ∙ none))
  ]

  all_freed : (us : List Update) (old new : List ℕ) → All (λ u. IsCell geo (cell_of u)) us → ((u : Update) → Contains us u → home_of geo (cell_of u) ≡ inode_block geo n) → IsPutAll geo us old new
      → Contains us (SetInode n free_inode) → slice_index new at ≡ 0
  all_freed [] old new cells homes put m = absurd (contains_none (SetInode n free_inode) m)
  all_freed (u ∷ us) old new cells homes put m =
      let here = contains_head u us in
      elim (contains_cases u (SetInode n free_inode) us m) [
        | inl same ↦ freed put.0 new u same put.2
        | inr older ↦ stays put.0 new u (All-contains (λ (v : Update). IsCell geo (cell_of v)) (u ∷ us) u cells here) (homes u here) put.2
            (all_freed us old put.0 (λ j d b. cells (suc j) d (omega (arith, b))) (λ v i. homes v (contains_tail u v us i)) put.1 older)
      ]

  all_left : (us : List Update) (old new : List ℕ) → All (λ u. IsCell geo (cell_of u)) us → ((u : Update) → Contains us u → home_of geo (cell_of u) ≡ inode_block geo n) → IsPutAll geo us old new
      → (Contains us (SetInode n free_inode) → ⊥) → slice_index new at ≡ slice_index old at
  all_left [] old new cells homes put none = ap (λ b. slice_index b at) put
  all_left (u ∷ us) old new cells homes put none =
      let here = contains_head u us in
      left put.0 new u (All-contains (λ (v : Update). IsCell geo (cell_of v)) (u ∷ us) u cells here) (homes u here) put.2 (λ same. none (subst (Contains (u ∷ us)) same here))
      ∙ all_left us old put.0 (λ j d b. cells (suc j) d (omega (arith, b))) (λ v i. homes v (contains_tail u v us i)) put.1 (λ m. none (contains_tail u (SetInode n free_inode) us m))

  module _ (q : List Pending) (cut : List Bool) (old new : List ℕ) (writes : WritesTaken geo (inode_block geo n) q cut old new) where
    home : (u : Update) → Contains writes.changes u → home_of geo (cell_of u) ≡ inode_block geo n
    home u m = let t = (writes.taken u).0 m in ap (λ v. home_of geo (cell_of v)) (sym t.2) ∙ writes.own t.0 t.1

    pub tail_freed : TakesChange q cut (SetInode n free_inode) → slice_index new (inode_byte n + k) ≡ 0
    tail_freed t = all_freed writes.changes old new writes.cells home writes.put ((writes.taken (SetInode n free_inode)).1 t)

    pub tail_left : (TakesChange q cut (SetInode n free_inode) → ⊥) → slice_index new (inode_byte n + k) ≡ slice_index old (inode_byte n + k)
    tail_left none = all_left writes.changes old new writes.cells home writes.put (λ m. none ((writes.taken (SetInode n free_inode)).0 m))
