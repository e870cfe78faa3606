-- A view in which block a is marked, has its bytes and is no metadata, while a command goes on.
use Rattle.std.proofs.Common.{◌≡◌, ℕ, true, List, inl, inr, refl, ◌∙◌, subst, IsTrue, IsFalse, ◌⊎◌}
use Rattle.std.proofs.lemmas.Bool.{both_ways}
use Rattle.model.specs.Layout.{Geometry, is_data_address}
use Rattle.model.specs.View.{View, Inode}
use Rattle.model.specs.Cells.{SetInode, SetNumber, SetBlock, SetBytes, updated}
use Rattle.model.specs.Shape.{is_table}
use Rattle.model.specs.Rules.{ObeysRules}
use Rattle.model.proofs.Places.{put_there}
use Rattle.machine.specs.Effects.{with_links}
use Rattle.machine.proofs.Pointing.{still_marked}
use Rattle.frozen_files.proofs.Metadata.{IsMetadata, Within, MetadataOf, marks_within, links_within, record_within, bytes_within}

pub record Good (geo : Geometry) (a : ℕ) (content : List ℕ) (w : View) : Type 0 where
  pub bytes : w.bytes a ≡ content
  pub mark : IsTrue (w.block_marked a)
  pub address : IsTrue (is_data_address geo a)
  pub other : (i k : ℕ) → IsMetadata geo w i k a → ⊥
  -- each block of metadata is marked, and claimed once
  pub marked : (i k c : ℕ) → IsMetadata geo w i k c → IsTrue (w.block_marked c)
  pub once : (i k j l c : ℕ) → IsMetadata geo w i k c → IsMetadata geo w j l c → (i ≡ j) × (k ≡ l)

module _ (geo : Geometry) (a : ℕ) (content : List ℕ) where
  -- where the rules are obeyed
  pub obeyed : (v : View) → ObeysRules geo v → v.bytes a ≡ content → IsTrue (v.block_marked a) → IsTrue (is_data_address geo a) → ((i k : ℕ) → IsMetadata geo v i k a → ⊥) → Good geo a content v
  obeyed v o bytes mark address other = record {
    bytes = bytes;
    mark = mark;
    address = address;
    other = other;
    marked = λ i k c m. o.rule3.marked i k c m.0;
    once = λ i k j l c m n. o.rule3.once i k j l c m.0 n.0;
  }

  module _ (v : View) (g : Good geo a content v) where
    -- an unmarked block is another one, and no metadata
    pub free_other : (b : ℕ) → IsFalse (v.block_marked b) → a ≡ b → ⊥
    free_other b f e = both_ways (v.block_marked b) f (subst (λ c. IsTrue (v.block_marked c)) e g.mark)

    pub free_none : (b i k : ℕ) → IsFalse (v.block_marked b) → IsMetadata geo v i k b → ⊥
    free_none b i k f m = both_ways (v.block_marked b) f (g.marked i k b m)

    -- a view that claims what v claims, and unmarked blocks once each
    pub gains : (w : View) (New : ℕ → ℕ → ℕ → Type 0) → ((i k c : ℕ) → IsMetadata geo w i k c → IsMetadata geo v i k c ⊎ New i k c)
        → ((i k c : ℕ) → New i k c → IsFalse (v.block_marked c) × IsTrue (w.block_marked c))
        → ((i k j l c : ℕ) → New i k c → New j l c → (i ≡ j) × (k ≡ l))
        → ((c : ℕ) → IsTrue (v.block_marked c) → IsTrue (w.block_marked c)) → w.bytes a ≡ v.bytes a → Good geo a content w
    gains w New claims fresh one marks bytes = record {
      bytes = bytes ∙ g.bytes;
      mark = marks a g.mark;
      address = g.address;
      other = λ i k m. elim (claims i k a m) [ inl old ↦ g.other i k old | inr n ↦ both_ways (v.block_marked a) (fresh i k a n).0 g.mark ];
      marked = λ i k c m. elim (claims i k c m) [ inl old ↦ marks c (g.marked i k c old) | inr n ↦ (fresh i k c n).1 ];
      once = λ i k j l c m n. elim (claims i k c m) [
        | inl old ↦ elim (claims j l c n) [ inl old' ↦ g.once i k j l c old old' | inr new' ↦ absurd (free_none c i k (fresh j l c new').0 old) ]
        | inr new ↦ elim (claims j l c n) [ inl old' ↦ absurd (free_none c j l (fresh i k c new).0 old') | inr new' ↦ one i k j l c new new' ]
      ];
    }

    -- one that claims no more
    pub within : (w : View) → Within geo v w → ((c : ℕ) → IsTrue (v.block_marked c) → IsTrue (w.block_marked c)) → w.bytes a ≡ v.bytes a → Good geo a content w
    within w less marks bytes = gains w (λ i k c. ⊥) (λ i k c m. inl (less i k c m)) (λ i k c n. absurd n) (λ i k j l c n m. absurd n) marks bytes

    -- ---- one update

    pub number_good : (i : ℕ) → Good geo a content (updated v (SetNumber i true))
    number_good i = within (updated v (SetNumber i true)) (marks_within geo v (updated v (SetNumber i true)) refl refl) (λ c m. m) refl

    pub block_good : (b : ℕ) → Good geo a content (updated v (SetBlock b true))
    block_good b = within (updated v (SetBlock b true)) (marks_within geo v (updated v (SetBlock b true)) refl refl) (still_marked v.block_marked b) refl

    -- bytes of another block that is nobody's table
    pub bytes_good : (b : ℕ) (bytes : List ℕ) → (a ≡ b → ⊥) → ((i m : ℕ) → IsTrue (is_table geo m) → IsMetadata geo v i m b → ⊥) → Good geo a content (updated v (SetBytes b bytes))
    bytes_good b bytes apart none = within (updated v (SetBytes b bytes)) (bytes_within geo v b bytes none) (λ c m. m) (put_there v.bytes b a bytes apart)

    pub record_good : (n : ℕ) (x : Inode) → ((k c : ℕ) → MetadataOf geo v n x k c → IsMetadata geo v n k c) → Good geo a content (updated v (SetInode n x))
    record_good n x mine = within (updated v (SetInode n x)) (record_within geo v n x mine) (λ c m. m) refl

    pub links_good : (n l : ℕ) → Good geo a content (updated v (SetInode n (with_links (v.inode n) l)))
    links_good n l = within (updated v (SetInode n (with_links (v.inode n) l))) (links_within geo v n l) (λ c m. m) refl
