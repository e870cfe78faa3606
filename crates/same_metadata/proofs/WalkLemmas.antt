-- What the walks over all inodes and blocks say together.
use Rattle.std.proofs.Common.{◌≡◌, ◌<◌, ◌≤◌, ◌+◌, ◌↔◌, ℕ, Bool, ltb, leb, IsTrue, IsFalse, sym, ◌∙◌, subst, arith, inl, inr}
use Rattle.std.proofs.lemmas.Bool.{and_parts, and_from, le-leb, leb-true, lt-ltb, ltb-true, false≢true}
use Rattle.model.specs.Layout.{Geometry, inode_count, is_data_address, is_number}
use Rattle.model.specs.View.{View}
use Rattle.model.specs.Shape.{is_table, most_blocks, tables}
use Rattle.model.specs.Uses.{is_sound_at, blocks_of}
use Rattle.model.specs.Metadata.{SameMetadata}
use Rattle.model.proofs.SlotLemmas.{directory_number}
use Rattle.model.proofs.Ranges.{table_below, use_places}
use Rattle.model.proofs.Uses.{use_number, use_parts}
use Rattle.same_metadata.specs.Same.{HasSameClaim, HasSameDirectory, HasSameInode, HasSameTables}

-- the numbers that are looked at are those from 2 on, below the count
pub number_range : (geo : Geometry) (i : ℕ) → IsTrue (is_number geo i) → (2 ≤ i) × (i < inode_count geo)
number_range geo i n =
    let parts = and_parts (leb 2 i) (ltb i (inode_count geo)) n in (leb-true 2 i parts.0, ltb-true i (inode_count geo) parts.1)

pub number_from : (geo : Geometry) (i : ℕ) → 2 ≤ i → i < inode_count geo → IsTrue (is_number geo i)
number_from geo i from low = and_from (leb 2 i) (ltb i (inode_count geo)) (le-leb 2 i from) (lt-ltb i (inode_count geo) low)

module _ (geo : Geometry) (view other : View) where
  -- all inodes and all bits of blocks are all metadata
  all_metadata : ((a : ℕ) → IsTrue (is_data_address geo a) → view.block_marked a ≡ other.block_marked a) → ((i : ℕ) → IsTrue (is_number geo i) → HasSameInode geo view other i)
      → SameMetadata geo view other
  all_metadata bits inodes = record {
    inode = λ i n. (inodes i n).inode;
    number_marked = λ i n. (inodes i n).marked;
    block_marked = bits;
    tables = λ i m a is c. (inodes i (use_number geo view i m a c.0).0).tables m is a c;
    directory_blocks = λ d k a t c.
        let here = inodes d (directory_number geo view d t) in
        elim (use_places geo view d k a c.0) [
          | inl low ↦ here.directory_blocks t k low a c
          | inr table ↦ here.tables k table.0 a c
        ];
  }

  inode_of : SameMetadata geo view other → (i : ℕ) → IsTrue (is_number geo i) → HasSameInode geo view other i
  inode_of m i n = record {
    inode = m.inode i n;
    marked = m.number_marked i n;
    tables = λ k is a. m.tables i k a is;
    directory_blocks = λ t k _ a c. m.directory_blocks i k a t c;
  }

  -- with those below the end of its tables all of a sound inode are the same, and one that is not sound has none
  pub all_tables : (i n : ℕ) → n ≡ most_blocks geo + tables (blocks_of (view.inode i).size) → ((m : ℕ) → m < n → IsTrue (is_table geo m) → HasSameClaim geo view other i m) → HasSameTables geo view other i
  all_tables i n end below m is a c = below m (subst (λ x. m < x) (sym end) (table_below geo view i m a is c.0)) is a c

  pub no_tables : (i : ℕ) → IsFalse (is_sound_at geo view i) → HasSameTables geo view other i
  no_tables i unsound m is a c = absurd (false≢true (sym unsound ∙ (use_parts geo view i m a c.0).sound))

  -- where the rest of an inode is the same, its directory's blocks decide
  pub by_directory : (i : ℕ) (told : Bool) → view.inode i ≡ other.inode i → view.number_marked i ≡ other.number_marked i → HasSameTables geo view other i
      → (IsTrue told ↔ HasSameDirectory geo view other i) → IsTrue told ↔ HasSameInode geo view other i
  by_directory i told inode marked tables means = (
    (λ yes. record { inode = inode; marked = marked; tables = tables; directory_blocks = means.0 yes }),
    (λ h. means.1 h.directory_blocks),
  )

  -- where the bits of the blocks are the same, the inodes decide
  pub by_inodes : (told : Bool) → ((a : ℕ) → IsTrue (is_data_address geo a) → view.block_marked a ≡ other.block_marked a)
      → (IsTrue told ↔ ((i : ℕ) → IsTrue (is_number geo i) → HasSameInode geo view other i)) → IsTrue told ↔ SameMetadata geo view other
  by_inodes told bits means = ((λ yes. all_metadata bits (means.0 yes)), (λ h. means.1 (inode_of h)))
