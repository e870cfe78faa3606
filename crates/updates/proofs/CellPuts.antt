-- A block in which one cell was changed updates that cell of the view, whatever the other blocks are.
use Rattle.std.proofs.Common.{◌≡◌, ◌*◌, ◌%◌, ℕ, Bool, List, IsTrue, ◌≤◌, refl, sym, ap, subst, ◌∙◌, arith}
use Rattle.model.specs.Layout.{Geometry, IsGeometry, is_number, is_data_address, inode_byte, data_bit, group_block}
use Rattle.model.specs.View.{Inode, inode_at, view_of}
use Rattle.model.specs.Cells.{Update, SetInode, SetNumber, SetBlock, SetBytes, put_at, updated}
use Rattle.ordering.specs.Cuts.{cell_of}
use Rattle.queue_model.specs.Blocks.{home_of}
use Rattle.model.specs.Image.{IsGroupBlock}
use Rattle.layout.proofs.PutLemmas.{same_number}
use Rattle.updates.specs.Places.{IsCell}
use Rattle.updates.specs.Alone.{ChangesAlone, IsPutInto}
use Rattle.cgmaps.specs.Maps.{ChangesBit}
use Rattle.cgmaps.proofs.BitWrites.{number_write, block_write}
use Rattle.model.proofs.Addresses.{inode_places}
use Rattle.model.proofs.Places.{data_write, inode_write, inodes_are_no_maps, maps_are_no_data}

abbrev pub PutsCell : Geometry → List ℕ → List ℕ → Update → Type 0
PutsCell geo old new u = (blocks : ℕ → List ℕ) → blocks (home_of geo (cell_of u)) ≡ old
    → view_of geo (put_at blocks (home_of geo (cell_of u)) new) ≡ updated (view_of geo blocks) u

module _ (geo : Geometry) (ok : IsGeometry geo) (old new : List ℕ) where
  pub number_put : (n : ℕ) (marked : Bool) → IsTrue (is_number geo n) → ChangesBit old new 32 (n % geo.inodes) marked → PutsCell geo old new (SetNumber n marked)
  number_put n marked t change blocks e =
      number_write geo ok blocks n new marked t (subst (λ xs. ChangesBit xs new 32 (n % geo.inodes) marked) (sym e) change)

  pub block_put : (a : ℕ) (marked : Bool) → IsTrue (is_data_address geo a) → ChangesBit old new 160 (data_bit geo a) marked → PutsCell geo old new (SetBlock a marked)
  block_put a marked t change blocks e =
      block_write geo ok blocks a new marked t (subst (λ xs. ChangesBit xs new 160 (data_bit geo a) marked) (sym e) change)

  pub record_put : (n : ℕ) (inode : Inode) → IsTrue (is_number geo n) → inode_at geo.version new (inode_byte n) ≡ inode
      → ((k : ℕ) → (k ≡ n % 8 → ⊥) → inode_at geo.version new (128 * k) ≡ inode_at geo.version old (128 * k)) → PutsCell geo old new (SetInode n inode)
  record_put n inode t written others blocks e =
      inode_write geo ok blocks n new inode t written (λ m differs same.
      others (m % 8) (λ place. differs (inode_places geo ok m n same (ap (λ k. 128 * k) place))) ∙ ap (λ xs. inode_at geo.version xs (inode_byte m)) (sym e))

  pub bytes_put : (a : ℕ) → IsTrue (is_data_address geo a) → PutsCell geo old new (SetBytes a new)
  bytes_put a t blocks e = data_write geo ok blocks a new t

  kept_bytes : (start bit g : ℕ) (marked : Bool) → 8 ≤ start → ChangesBit old new start bit marked → IsGroupBlock g old → IsGroupBlock g new
  kept_bytes start bit g marked after change b = record {
    magic = same_number 4 0 new old (λ k low high. change.other_bytes k (omega arith)) ∙ b.magic;
    number = same_number 4 4 new old (λ k low high. change.other_bytes k (omega arith)) ∙ b.number;
  }

  -- what a change leaves of its block, it leaves of the group's magic and number
  pub group_block_kept : (u : Update) → IsCell geo (cell_of u) → ChangesAlone geo u old new
      → (g : ℕ) → home_of geo (cell_of u) ≡ group_block geo g → IsGroupBlock g old → IsGroupBlock g new
  group_block_kept (SetInode n inode) t alone g e b = absurd (inodes_are_no_maps geo ok n g (sym e))
  group_block_kept (SetNumber n marked) t alone g e b = kept_bytes 32 (n % geo.inodes) g marked (omega arith) alone b
  group_block_kept (SetBlock a marked) t alone g e b = kept_bytes 160 (data_bit geo a) g marked (omega arith) alone b
  group_block_kept (SetBytes a bytes) t alone g e b = absurd (maps_are_no_data geo ok g a t (sym e))

  -- bytes that are given are put into any block
  pub given_put : (a : ℕ) → IsTrue (is_data_address geo a) → IsPutInto geo (SetBytes a new) old new
  given_put a t = record { view = bytes_put a t; alone = refl; group_block = group_block_kept (SetBytes a new) t refl }
