use Rattle.std.proofs.Common.{◌≡◌, ◌⊎◌, ℕ, Option, Some, IsTrue, inl, inr, sym, ap, ◌∙◌, subst}
use Rattle.std.specs.Arc.{arc_value}
use Rattle.std.specs.Option.{option_copied, option_map}
use Rattle.std.proofs.lemmas.Result.{IfOk-weaker}
use Rattle.layout.specs.declared.refusal.Refusal.{Refusal}
use Rattle.layout.specs.declared.refusal.Refusal.TheVariants.{BadIndex}
use Rattle.model.specs.Layout.{Geometry, is_data_address}
use Rattle.machine.specs.Standing.{image_at}
use Rattle.frozen.specs.Kept.{Kept, KeepsMetadata, frozen_view}
use Rattle.live_states.specs.Holdings.{Holdings}
use Rattle.live_states.proofs.Images.{same_at}
use Rattle.live.specs.Alive.{IsSnapshotOf}
use Rattle.snapshot.specs.declared.pieces.Piece.{Piece}
use Rattle.snapshot.specs.Pieces.{IsPieceOf, IsPieceOfSnapshot, LacksPiece, why_no_piece}
use Rattle.snapshot.specs.Refusing.{IsWhyUnread}
use Rattle.snapshot.proofs.ReadLemmas.{no_snapshot, refused_read, piece_address}
use Rattle.snapshot.proofs.CallLemmas.{if_err, nothing}
use Rattle.snapshot.proofs.Installs.{stands_as, none_stands}
use Rattle.snapshot.proofs.snapshots.piece_of_snapshot.Goals as goal

module _ (geo : Geometry) (holdings : Holdings) (n : ℕ) (told : Option Kept) (s : Kept) (is_told : told ≡ image_at holdings.snapshots.standing n) (some : told ≡ Some s) (whole : IsSnapshotOf geo (image_at holdings.snapshots.standing n)) where
  stands : image_at holdings.snapshots.standing n ≡ Some s
  stands = sym is_told ∙ some

  kept : (s.geometry ≡ geo) × KeepsMetadata s
  kept = subst (IsSnapshotOf geo) stands whole

  found : (i k : ℕ) (piece : Piece) → IsPieceOf s i k piece → IsPieceOfSnapshot geo holdings n i k piece
  found i k piece is = record { snapshot = s; stands = stands; geometry = kept.0; metadata = kept.1; found = is }

  address : (i k : ℕ) (piece : Piece) → IsPieceOf s i k piece → IsTrue (is_data_address geo piece.block)
  address i k piece is = subst (λ g. IsTrue (is_data_address g piece.block)) kept.0 (piece_address s i k piece is)

  refused : (i k : ℕ) (r : Refusal) → (why_no_piece s.geometry (frozen_view s) i k ≡ Some r) ⊎ ((r ≡ BadIndex) × LacksPiece s i k) → IsWhyUnread geo holdings n i k r
  refused i k r (inl why) = inl (λ old has.
      let there = stands_as (image_at holdings.snapshots.standing n) s (image_at old.snapshots.standing n) stands (same_at holdings.snapshots.standing old.snapshots.standing has.snapshots.1 n) in
      inl (refused_read geo s there.image kept.0 kept.1 there.shows old n i k there.is r why))
  refused i k r (inr (index, lacks)) = inr (index, record { snapshot = s; stands = stands; geometry = kept.0; metadata = kept.1; lacks = lacks })

pub returns-in-Some-clause-piece : goal.returns-in-Some-clause-piece
returns-in-Some-clause-piece g c =
    let live = c.args.live.now in
    let s = arc_value c.in-Some.snapshot.now in
    IfOk-weaker c.piece_of.result (IsPieceOf c.deref.result.now c.args.inode c.args.index) (IsPieceOfSnapshot live.kept.geometry live.holdings c.args.number c.args.inode c.args.index)
    (λ piece is. found live.kept.geometry live.holdings c.args.number (option_map arc_value (option_copied c.snapshot.result)) s c.snapshot.ensures.snapshot (ap (λ o. option_map arc_value (option_copied o)) c.in-Some.is) c.snapshot.ensures.whole
    c.args.inode c.args.index piece (subst (λ k. IsPieceOf k c.args.inode c.args.index piece) c.deref.ensures is)) c.piece_of.ensures.piece

pub returns-in-Some-clause-address : goal.returns-in-Some-clause-address
returns-in-Some-clause-address g c =
    let live = c.args.live.now in
    let s = arc_value c.in-Some.snapshot.now in
    IfOk-weaker c.piece_of.result (IsPieceOf c.deref.result.now c.args.inode c.args.index) (λ piece. IsTrue (is_data_address live.kept.geometry piece.block))
    (λ piece is. address live.kept.geometry live.holdings c.args.number (option_map arc_value (option_copied c.snapshot.result)) s c.snapshot.ensures.snapshot (ap (λ o. option_map arc_value (option_copied o)) c.in-Some.is) c.snapshot.ensures.whole
    c.args.inode c.args.index piece (subst (λ k. IsPieceOf k c.args.inode c.args.index piece) c.deref.ensures is)) c.piece_of.ensures.piece

pub returns-in-Some-clause-refused : goal.returns-in-Some-clause-refused
returns-in-Some-clause-refused g c =
    let live = c.args.live.now in
    let s = arc_value c.in-Some.snapshot.now in
    if_err (λ r why u. refused live.kept.geometry live.holdings c.args.number (option_map arc_value (option_copied c.snapshot.result)) s c.snapshot.ensures.snapshot (ap (λ o. option_map arc_value (option_copied o)) c.in-Some.is) c.snapshot.ensures.whole
    c.args.inode c.args.index r (subst (λ k. (why_no_piece k.geometry (frozen_view k) c.args.inode c.args.index ≡ Some r) ⊎ ((r ≡ BadIndex) × LacksPiece k c.args.inode c.args.index)) c.deref.ensures why)) c.piece_of.result c.piece_of.ensures.refused (nothing c.piece_of.result)

pub returns-in-None-clause-refused : goal.returns-in-None-clause-refused
returns-in-None-clause-refused g c = inl (λ old has.
    let live = c.args.live.now in
    inl (no_snapshot live.kept.geometry old c.args.number c.args.inode c.args.index
    (none_stands (image_at live.holdings.snapshots.standing c.args.number) (image_at old.snapshots.standing c.args.number) (sym c.snapshot.ensures.snapshot ∙ ap (λ o. option_map arc_value (option_copied o)) c.in-None.is) (same_at live.holdings.snapshots.standing old.snapshots.standing has.snapshots.1 c.args.number))))
