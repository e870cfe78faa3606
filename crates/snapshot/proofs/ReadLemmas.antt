-- A read of a snapshot gives the bytes of its image.
use Rattle.std.proofs.Common.{◌≡◌, ◌<◌, ◌-◌, ◌*◌, ℕ, Bool, true, false, not, ◌&&◌, eqb, leb, min, List, [], ◌∷◌, length, take, Option, Some, None, is_none, Ok, IsTrue, inl, inr, refl, sym, ap, ◌∙◌, subst, arith}
use Rattle.std.specs.Bool.{then_some}
use Rattle.std.specs.Option.{option_or}
use Rattle.std.proofs.lemmas.Bool.{and_parts, and_from, leb-false, lt-leb}
use Rattle.std.proofs.lemmas.List.{take_min}
use Rattle.layout.specs.declared.refusal.Refusal.{Refusal}
use Rattle.layout.specs.declared.refusal.Refusal.TheVariants.{NotFound, IsDirectory, BadIndex, NoSnapshot}
use Rattle.model.specs.Layout.{Geometry, is_number, is_data_address}
use Rattle.model.specs.Metadata.{SameMetadata}
use Rattle.model.specs.Rules.{ObeysRules}
use Rattle.model.specs.Shape.{most_blocks}
use Rattle.model.specs.Uses.{IsClaim, blocks_of, claim_at, is_directory, is_directory_at, is_sound, is_sound_at}
use Rattle.model.specs.View.{Inode, View}
use Rattle.model.proofs.Same.{claim_there, same_facts, same_rules}
use Rattle.model.proofs.UseLemmas.{claim_from, claim_parts}
use Rattle.machine.specs.Balance.{Balance}
use Rattle.machine.specs.Below.{first_of, when}
use Rattle.machine.specs.Causes.{Accepts, causes, in_image, is_used_number, not_file, past, refusal_of}
use Rattle.machine.specs.Cells.{block_of, seen}
use Rattle.machine.specs.Command.{Bytes, SnapRead}
use Rattle.machine.specs.State.{State, snapshot_at}
use Rattle.machine.specs.Step.{Step}
use Rattle.plans_data.proofs.Blocks.{block_claimed, few_blocks}
use Rattle.frozen.specs.Kept.{Kept, KeepsMetadata, frozen_view}
use Rattle.frozen_files.specs.Standing.{IsFileClaim, KeepsFiles}
use Rattle.frozen_files.proofs.Laws.{read_of_users}
use Rattle.metadata.specs.Shown.{Shows}
use Rattle.metadata.proofs.ShownLemmas.{shows_metadata}
use Rattle.snapshot.specs.declared.pieces.Piece.{Piece}
use Rattle.snapshot.specs.Pieces.{IsPieceOf, why_no_piece}

-- ---- refusals

-- the causes of a read, by the image of the snapshot, where it stands
abbrev causes_in : Geometry → Option View → ℕ → ℕ → List (Option Refusal)
causes_in geo f i k = when (is_none f) NoSnapshot ∷ in_image (λ v. when (not (is_used_number geo v i)) NotFound) f ∷ in_image (λ v. not_file geo v i) f ∷ in_image (λ v. past geo v i k) f ∷ []

-- where the snapshot has this image
read_causes : (geo : Geometry) (old : State) (image : View) (s i k : ℕ) → snapshot_at old s ≡ Some image → refusal_of geo old (SnapRead s i k) ≡ why_no_piece geo image i k
unfolding causes
read_causes geo old image s i k e = by (snapshot_at old s) e
  where
    shorter : (x y z : Option Refusal) → option_or None (option_or x (option_or y (option_or z None))) ≡ option_or x (option_or y z)
    shorter None None None = refl
    shorter None None (Some r) = refl
    shorter None (Some r) z = refl
    shorter (Some r) y z = refl

    by : (f : Option View) → f ≡ Some image → first_of (causes_in geo f i k) ≡ why_no_piece geo image i k
    by None e = let bad : None ≡ Some image = e in cc
    by (Some v) e = subst (λ w. first_of (causes_in geo (Some v) i k) ≡ why_no_piece geo w i k) (let same : v ≡ image = cc in same)
        (shorter (when (not (is_used_number geo v i)) NotFound) (not_file geo v i) (past geo v i k))

pub no_snapshot : (geo : Geometry) (old : State) (s i k : ℕ) → snapshot_at old s ≡ None → refusal_of geo old (SnapRead s i k) ≡ Some NoSnapshot
unfolding causes
no_snapshot geo old s i k e = by (snapshot_at old s) e
  where
    by : (f : Option View) → f ≡ None → first_of (causes_in geo f i k) ≡ Some NoSnapshot
    by None e = refl
    by (Some v) e = let bad : Some v ≡ None = e in cc

-- it is told by the record alone
why_of : Geometry → Inode → ℕ → ℕ → Option Refusal
why_of geo x i k = option_or (then_some (not (is_number geo i && not (eqb x.mode 0))) NotFound)
    (option_or (then_some ((is_number geo i && is_sound geo x) && is_directory x) IsDirectory) (then_some (leb (blocks_of x.size) k) BadIndex))

same_why : (geo : Geometry) (v w : View) (i k : ℕ) → v.inode i ≡ w.inode i → why_no_piece geo v i k ≡ why_no_piece geo w i k
unfolding why_of
same_why geo v w i k e = ap (λ x. why_of geo x i k) e

-- ---- the record of a file

why_bools : (u d p : Bool) → option_or (then_some (not u) NotFound) (option_or (then_some d IsDirectory) (then_some p BadIndex)) ≡ None → (u ≡ true) × (d ≡ false) × (p ≡ false)
why_bools true false false e = (refl, refl, refl)
why_bools false d p e = let bad : Some NotFound ≡ None = e in cc
why_bools true true p e = let bad : Some IsDirectory ≡ None = e in cc
why_bools true false true e = let bad : Some BadIndex ≡ None = e in cc

module _ (geo : Geometry) (v : View) (i k : ℕ) (o : ObeysRules geo v) where
  used_sound : is_used_number geo v i ≡ true → IsTrue (is_sound_at geo v i)
  used_sound u =
      let parts = and_parts (is_number geo i) (not (eqb (v.inode i).mode 0)) u in
      and_from (is_number geo i) (is_sound geo (v.inode i)) parts.0 (elim (o.rule2 i parts.0) [ inl z ↦ absurd (not_free (v.inode i).mode parts.1 z) | inr sound ↦ sound ])
    where
      not_free : (n : ℕ) → not (eqb n 0) ≡ true → n ≡ 0 → ⊥
      not_free n t e = let bad : not (eqb 0 0) ≡ true = subst (λ m. not (eqb m 0) ≡ true) e t in cc

  inside_claims : is_used_number geo v i ≡ true → k < blocks_of (v.inode i).size → IsClaim geo v i k (block_of geo v i k)
  inside_claims u within =
      let sound = used_sound u in
      block_claimed geo v o i k sound within

  file_claimed : (a : ℕ) → why_no_piece geo v i k ≡ None → IsClaim geo v i k a → IsFileClaim geo v i k a
  file_claimed a none claim =
      let parts = why_bools (is_used_number geo v i) (is_directory_at geo v i) (leb (blocks_of (v.inode i).size) k) none in
      let sound = used_sound parts.0 in
      ((sound, parts.1), claim, lt-leb (most_blocks geo) k (omega (arith, leb-false (blocks_of (v.inode i).size) k parts.2, few_blocks geo v i sound)))

  -- no block is missing
  pub none_lacks : why_no_piece geo v i k ≡ None → claim_at geo v i k ≡ None → ⊥
  none_lacks none unclaimed =
      let parts = why_bools (is_used_number geo v i) (is_directory_at geo v i) (leb (blocks_of (v.inode i).size) k) none in
      let claim = claim_from geo v i k (block_of geo v i k) (inside_claims parts.0 (leb-false (blocks_of (v.inode i).size) k parts.2)) in
      let bad : Some (block_of geo v i k) ≡ None = sym claim ∙ unclaimed in cc

-- the block of a piece is a data block
pub piece_address : (kept : Kept) (i k : ℕ) (piece : Piece) → IsPieceOf kept i k piece → IsTrue (is_data_address kept.geometry piece.block)
piece_address kept i k piece is = (claim_parts kept.geometry (frozen_view kept) i k piece.block is.claimed).1

module _ (geo : Geometry) (kept : Kept) (image : View) (same : kept.geometry ≡ geo) (keeps : KeepsMetadata kept) (shows : Shows kept image) where
  metadata : SameMetadata geo (frozen_view kept) image
  metadata = subst (λ g. SameMetadata g (frozen_view kept) image) same (shows_metadata kept image keeps shows)

  pub obeys_too : ObeysRules geo image → ObeysRules kept.geometry (frozen_view kept)
  obeys_too o = subst (λ g. ObeysRules g (frozen_view kept)) (sym same) ((same_rules geo (frozen_view kept) image metadata).1 o)

  module _ (old : State) (s i k : ℕ) (stands : snapshot_at old s ≡ Some image) where
    pub refused_read : (r : Refusal) → why_no_piece kept.geometry (frozen_view kept) i k ≡ Some r → refusal_of geo old (SnapRead s i k) ≡ Some r
    refused_read r e = read_causes geo old image s i k stands ∙ sym (same_why geo (frozen_view kept) image i k (shows.inode i)) ∙ subst (λ g. why_no_piece g (frozen_view kept) i k ≡ Some r) same e

    -- ---- what is read

    module _ (balance : Balance geo old) (files : KeepsFiles geo old) (piece : Piece) (is : IsPieceOf kept i k piece) where
      obeys : ObeysRules geo image
      obeys = (balance.snapshot s image stands).0

      why_none : why_no_piece geo image i k ≡ None
      why_none = sym (same_why geo (frozen_view kept) image i k (shows.inode i)) ∙ subst (λ g. why_no_piece g (frozen_view kept) i k ≡ None) same is.there

      claim : IsClaim geo image i k piece.block
      claim = claim_there geo (frozen_view kept) image (same_facts geo (frozen_view kept) image metadata) i k piece.block (claim_parts geo (frozen_view kept) i k piece.block (subst (λ g. claim_at g (frozen_view kept) i k ≡ Some piece.block) same is.claimed))

      pub data_address : IsTrue (is_data_address geo piece.block)
      data_address = claim.1

      accepted : Accepts geo old (SnapRead s i k)
      accepted = (read_causes geo old image s i k stands ∙ why_none, tt)

      file_claim : IsFileClaim geo image i k piece.block
      file_claim = file_claimed geo image i k obeys piece.block why_none claim

      pub read_step : (bytes : List ℕ) → old.view.bytes piece.block ≡ bytes → length bytes ≡ 1024 → Step geo old (SnapRead s i k) (Ok (Bytes (take piece.length bytes))) old
      read_step bytes e whole = (accepted, (image, stands, shown, refl))
        where
          shown : take piece.length bytes ≡ seen geo image i k
          shown = ap (λ n. take n bytes) (is.length ∙ ap (λ (x : Inode). min (x.size - 1024 * k) 1024) (shows.inode i))
              ∙ ap (λ m. take (min ((image.inode i).size - 1024 * k) m) bytes) (sym whole)
              ∙ take_min ((image.inode i).size - 1024 * k) bytes
              ∙ ap (take ((image.inode i).size - 1024 * k)) (sym e)
              ∙ sym (read_of_users geo old s image balance files stands i k piece.block file_claim)
