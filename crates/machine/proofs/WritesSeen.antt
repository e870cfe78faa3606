-- What is seen after a write.
use Rattle.std.proofs.Common.{◌≡◌, ◌<◌, ◌≤◌, ◌/◌, ℕ, Bool, List, length, drop, [], ◌∷◌, ◌++◌, refl, sym, ap, ◌∙◌, subst, IsTrue, IsFalse, Ok}
use Rattle.std.specs.Prelude.{unwrap_or}
use Rattle.model.specs.Layout.{Geometry, IsGeometry}
use Rattle.model.specs.View.{View, Inode}
use Rattle.model.specs.Cells.{SetInode, SetBytes, updated_all}
use Rattle.model.specs.Shape.{most_blocks}
use Rattle.model.specs.Uses.{is_sound_at, is_directory_at, use_at, blocks_of, IsClaim}
use Rattle.model.specs.Rules.{ObeysRules}
use Rattle.model.proofs.UseLemmas.{claim_from}
use Rattle.model.proofs.Places.{put_here, put_there}
use Rattle.machine.specs.State.{State}
use Rattle.machine.specs.Command.{Write, Done}
use Rattle.machine.specs.Cells.{seen, block_of}
use Rattle.machine.specs.Causes.{file_of}
use Rattle.machine.specs.Effects.{Stores, InPlace, Moved, Appended, size_after, IsOverwritten}
use Rattle.machine.specs.Whole.{HasWholeBlocks, HasWholeRecords}
use Rattle.machine.specs.Step.{Step}
use Rattle.machine.specs.Balance.{Balance}
use Rattle.machine.proofs.Reading.{claimed}
use Rattle.machine.proofs.WriteInPlace.{same_blocks, only, uses}
use Rattle.machine.proofs.Writing.{placed, placed_new, write_allows}
use Rattle.machine.proofs.SameFiles.{SameFile, same_seen, then_file, record_file, not_first}
use Rattle.machine.proofs.SeenAfter.{OneBlock, other_file, own_seen, block_seen}
use Rattle.machine.proofs.PlacingSeen.{by_placing}

module _ (geo : Geometry) (v : View) (o : ObeysRules geo v) (i k : ℕ) (bytes : List ℕ) (size : ℕ) (sound : IsTrue (is_sound_at geo v i))
    (whole : HasWholeBlocks geo v) (records : HasWholeRecords v) (file : IsFalse (is_directory_at geo v i)) (inside : k < blocks_of (v.inode i).size) (blocks : blocks_of (v.inode i).size ≡ blocks_of size) where
  abbrev block : ℕ
  block = block_of geo v i k

  abbrev longer : Inode
  longer = record (v.inode i) { size = size }

  here : IsClaim geo v i k block
  here =
      let c = claimed geo v o whole i k sound inside in
      subst (λ b. IsClaim geo v i k b) (sym (ap (λ p. unwrap_or p 0) (claim_from geo v i k c.0 c.1))) c.1

  same : (j q : ℕ) → use_at geo v j q ≡ use_at geo (updated_all v (SetBytes block bytes ∷ SetInode i longer ∷ [])) j q
  same j q = uses geo v o records i k bytes size sound file inside blocks j q

  once : (j q a : ℕ) → IsClaim geo v j q a → a ≡ block → (j ≡ i) × (q ≡ k)
  once j q a c e = only geo v o records i k bytes size sound file inside blocks j q (subst (λ b. IsClaim geo v j q b) e c)

  pub by_writing_over : OneBlock geo v (updated_all v (SetBytes block bytes ∷ SetInode i longer ∷ [])) i k size bytes
  by_writing_over = record {
    there = λ j d. put_there v.inode i j longer d;
    sized = ap (λ (r : Inode). r.size) (put_here v.inode i longer);
    own_use = λ q a d u. sym (same i q) ∙ u;
    own_bytes = λ q a d e c. put_there v.bytes block a bytes (λ z. d (once i q a c z).1);
    other_use = λ j q d. sym (same j q);
    other_bytes = λ j q a d c. put_there v.bytes block a bytes (λ z. d (once j q a c z).0);
    none = put_there v.bytes block 0 bytes (not_first geo block here.1);
    block = block;
    placed = (sym (same i k) ∙ here.0, here.1);
    stored = put_here v.bytes block bytes;
  }

-- the marks are not seen
marks_file : (geo : Geometry) (x : View) (m : ℕ → Bool) (j : ℕ) → SameFile geo x (record x { block_marked = m }) j
marks_file geo x m j = record_file geo x (record x { block_marked = m }) j refl refl

-- all that is seen of w is what was seen of v, but for block k of file i, which begins with the piece
pub record ShowsPiece (geo : Geometry) (v w : View) (i k : ℕ) (piece : List ℕ) : Type 0 where
  pub others : (j : ℕ) → (j ≡ i → ⊥) → SameFile geo v w j
  pub elsewhere : (q : ℕ) → (q ≡ k → ⊥) → seen geo w i q ≡ seen geo v i q
  pub here : seen geo w i k ≡ piece ++ drop (length piece) (seen geo v i k)

remarked : (geo : Geometry) (v x : View) (m : ℕ → Bool) (i k : ℕ) (piece : List ℕ) → ShowsPiece geo v x i k piece → ShowsPiece geo v (record x { block_marked = m }) i k piece
remarked geo v x m i k piece s = record {
  others = λ j d. then_file geo v x (record x { block_marked = m }) j (s.others j d) (marks_file geo x m j);
  elsewhere = λ q d. same_seen geo x (record x { block_marked = m }) i (marks_file geo x m i) q ∙ s.elsewhere q d;
  here = same_seen geo x (record x { block_marked = m }) i (marks_file geo x m i) k ∙ s.here;
}

module _ (geo : Geometry) (g : IsGeometry geo) (old new : State) (h k : ℕ) (piece : List ℕ) (b : Balance geo old) where
  abbrev i : ℕ
  i = file_of old h

  abbrev v : View
  v = old.view

  abbrev size : ℕ
  size = size_after v i k piece

  module _ (bytes : List ℕ) (over : IsOverwritten piece (seen geo v i k) bytes) (sound : IsTrue (is_sound_at geo v i)) (file : IsFalse (is_directory_at geo v i)) (some : 1 ≤ length piece) (short : length piece ≤ 1024) (low : k < most_blocks geo)
      (reaches : k ≤ (v.inode i).size / 1024) where
    shows : (w : View) → OneBlock geo v w i k size bytes → ShowsPiece geo v w i k piece
    shows w s = record {
      others = other_file geo v w i k size bytes s;
      elsewhere = λ q d. own_seen geo v w i k size bytes s b.rules b.whole sound (length piece) some short reaches refl q d;
      here = block_seen geo v w i k size bytes s b.rules b.whole sound (length piece) some short reaches refl piece refl over;
    }

    by_case : Stores geo old i k bytes size new → ShowsPiece geo v new.view i k piece
    by_case (InPlace inside free is) =
        subst (λ t. ShowsPiece geo v t.view i k piece) (sym is)
        (shows _ (by_writing_over geo v b.rules i k bytes size sound b.whole b.records file inside (same_blocks (v.inode i).size k (length piece) inside short)))
    by_case (Moved view inside kept p is) =
        subst (λ t. ShowsPiece geo v t.view i k piece) (sym is)
        (remarked geo v view _ i k piece (shows view (by_placing geo v b.rules i k bytes size view p (placed geo g old new b h k piece sound file some short low reaches bytes over.whole view inside p))))
    by_case (Appended view at p is) =
        subst (λ t. ShowsPiece geo v t.view i k piece) (sym is)
        (shows view (by_placing geo v b.rules i k bytes size view p (placed_new geo g old new b h k piece sound file some short low reaches bytes over.whole view at p)))

  pub write_shows : Step geo old (Write h k piece) (Ok Done) new → ShowsPiece geo v new.view i k piece
  write_shows s = write_allows geo g old new b h k piece s.0.0 (λ sound file some short low reaches. by_case s.1.bytes s.1.overwritten sound file some short low reaches s.1.stores)
