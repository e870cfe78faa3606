-- A state in which block a is kept and marked, has its bytes and is no metadata, after a command that lets blocks go.
use Rattle.std.proofs.Common.{◌≡◌, ◌≤◌, ℕ, Bool, false, not, ◌&&◌, eqb, List, [], ◌∷◌, inl, inr, refl, sym, ap, ◌∙◌, subst, IsTrue, IsFalse, arith}
use Rattle.std.proofs.lemmas.Bool.{cases_Bool, and_from, both_ways, cond-true, cond-false}
use Rattle.model.specs.Layout.{Geometry}
use Rattle.model.specs.View.{View, Inode, free_inode}
use Rattle.model.specs.Cells.{SetInode, SetNumber, updated, updated_all}
use Rattle.model.specs.Uses.{blocks_of, is_sound_at, is_directory, is_directory_at}
use Rattle.model.proofs.Shape.{reach_parts, more_reach}
use Rattle.model.proofs.Steps.{use_sound}
use Rattle.model.proofs.Uses.{use_has, same_field}
use Rattle.machine.specs.State.{State, is_open, is_kept}
use Rattle.machine.specs.Cells.{claims}
use Rattle.machine.specs.Effects.{lets_go, swept, with_links, relinked, truncated, attributed}
use Rattle.machine.proofs.Decisions.{sound_parts}
use Rattle.machine.proofs.Tests.{and_true, and_false}
use Rattle.frozen_files.proofs.Metadata.{IsMetadata, MetadataOf, metadata_from, marks_within, links_within, record_within, attributes_within}
use Rattle.frozen_files.proofs.Good.{Good}

pub record Holds (geo : Geometry) (a : ℕ) (content : List ℕ) (s : State) : Type 0 where
  pub kept : IsTrue (is_kept s a)
  pub bytes : s.view.bytes a ≡ content
  pub mark : IsTrue (s.view.block_marked a)
  pub other : (i k : ℕ) → IsMetadata geo s.view i k a → ⊥

-- a record without blocks claims nothing
pub nothing_claimed : (geo : Geometry) (w : View) (n k c : ℕ) (x : Inode) → blocks_of x.size ≡ 0 → MetadataOf geo w n x k c → ⊥
nothing_claimed geo w n k c x none m = let few = (reach_parts geo (blocks_of x.size) k (use_has geo w x k c m.uses)).1 in omega (arith, few, none)

-- a file with no more blocks claims no more
pub file_claims : (geo : Geometry) (w : View) (i n : ℕ) → IsTrue (is_sound_at geo w i) → IsFalse (is_directory_at geo w i) → blocks_of n ≤ blocks_of (w.inode i).size
    → (k c : ℕ) → MetadataOf geo w i (record (w.inode i) { size = n }) k c → IsMetadata geo w i k c
file_claims geo w i n sound file few k c m =
    let y : Inode = record (w.inode i) { size = n } in
    let has = use_has geo w y k c m.uses in
    let same = same_field geo w y (w.inode i) (use_sound geo w y k c m.uses) (sound_parts geo w i sound).1 k has (more_reach geo (blocks_of n) (blocks_of (w.inode i).size) k few has) refl in
    metadata_from geo w i k c (record {
      number = m.number;
      uses = sym same ∙ m.uses;
      address = m.address;
      kind = elim m.kind [
        | inl table ↦ inl table
        | inr d ↦ absurd (both_ways (is_directory_at geo w i) file (and_from (is_sound_at geo w i) (is_directory (w.inode i)) sound d))
      ];
    })

module _ (geo : Geometry) (a : ℕ) (content : List ℕ) where
  -- blocks are let go, but none that a snapshot keeps
  pub lets_go_holds : (s : State) → IsTrue (is_kept s a) → (i : ℕ) (w : View) → w.bytes a ≡ content → IsTrue (w.block_marked a) → ((j k : ℕ) → IsMetadata geo w j k a → ⊥) → Holds geo a content (lets_go geo s i w)
  lets_go_holds s kept i w bytes mark other = record {
    kept = kept;
    bytes = bytes;
    mark = ap (λ q. w.block_marked a && not (claims geo s.view i a && not (claims geo w i a) && not q)) kept
        ∙ ap (λ q. w.block_marked a && not q) (and_false (claims geo s.view i a && not (claims geo w i a)))
        ∙ and_true (w.block_marked a) ∙ mark;
    other = λ j k m. other j k (marks_within geo w (lets_go geo s i w).view refl refl j k a m);
  }

  -- an inode that is freed
  pub swept_holds : (s : State) → Holds geo a content s → (i : ℕ) → Holds geo a content (swept geo s i)
  swept_holds s h i = elim (cases_Bool test) [
    | inl t ↦ subst (λ (x : State). Holds geo a content x) (sym (cond-true test gone s t)) freed
    | inr f ↦ subst (λ (x : State). Holds geo a content x) (sym (cond-false test gone s f)) h
  ]
    where
      test : Bool
      test = eqb (s.view.inode i).links 0 && not (is_open s i)

      without : View
      without = updated_all s.view (SetInode i free_inode ∷ SetNumber i false ∷ [])

      gone : State
      gone = lets_go geo s i without

      freed : Holds geo a content gone
      freed = lets_go_holds s h.kept i without h.bytes h.mark (λ j k m.
          let v1 : View = updated s.view (SetInode i free_inode) in
          h.other j k (record_within geo s.view i free_inode (λ l c n. absurd (nothing_claimed geo s.view i l c free_inode refl n)) j k a (marks_within geo v1 without refl refl j k a m)))

  -- an inode gets another number of links, and may be freed
  pub relinked_holds : (s : State) → Holds geo a content s → (i n : ℕ) → Holds geo a content (relinked geo s i n)
  relinked_holds s h i n = swept_holds (record s { view = updated s.view (SetInode i (with_links (s.view.inode i) n)) })
      (record { kept = h.kept; bytes = h.bytes; mark = h.mark; other = λ j k m. h.other j k (links_within geo s.view i n j k a m) }) i

  -- an inode gets other attributes
  pub attributed_holds : (s : State) → Holds geo a content s → (i : ℕ) (words : List ℕ) → Holds geo a content (attributed s i words)
  attributed_holds s h i words = record { kept = h.kept; bytes = h.bytes; mark = h.mark; other = λ j k m. h.other j k (attributes_within geo s.view i words j k a m) }

  -- a file is truncated
  pub truncated_holds : (s : State) → Holds geo a content s → (i n : ℕ) → IsTrue (is_sound_at geo s.view i) → IsFalse (is_directory_at geo s.view i) → blocks_of n ≤ blocks_of (s.view.inode i).size
      → Holds geo a content (truncated geo s i n)
  truncated_holds s h i n sound file few = lets_go_holds s h.kept i (updated s.view (SetInode i (record (s.view.inode i) { size = n }))) h.bytes h.mark
      (λ j k m. h.other j k (record_within geo s.view i (record (s.view.inode i) { size = n }) (file_claims geo s.view i n sound file few) j k a m))

  -- a view at the end of a command
  pub good_holds : (s : State) → IsTrue (is_kept s a) → Good geo a content s.view → Holds geo a content s
  good_holds s kept g = record { kept = kept; bytes = g.bytes; mark = g.mark; other = g.other }
