use Rattle.std.proofs.Common.{◌≡◌, ◌⊎◌, ℕ, List, length, take, Ok, Err, inl, inr, refl, sym, subst}
use Rattle.std.proofs.lemmas.Result.{err_from_is_err_and}
use Rattle.layout.specs.declared.refusal.Refusal.{Refusal}
use Rattle.layout.specs.declared.refusal.Refusal.TheVariants.{Device, NoMemory}
use Rattle.model.specs.Layout.{Geometry}
use Rattle.device.specs.Media.{Held}
use Rattle.machine.specs.Balance.{Balance}
use Rattle.machine.specs.Causes.{FirstRefusal}
use Rattle.machine.specs.Command.{Bytes, SnapRead}
use Rattle.machine.specs.State.{State}
use Rattle.frozen.specs.Kept.{frozen_view}
use Rattle.softdep.specs.Queued.{pending_of}
use Rattle.ordering.specs.Cuts.{users_view}
use Rattle.machine.specs.Step.{Step}
use Rattle.live_states.specs.Holdings.{Has, Holdings}
use Rattle.live_states.proofs.Images.{same_at}
use Rattle.live_states.proofs.Standing.{has}
use Rattle.machine.specs.Standing.{image_at}
use Rattle.live.specs.Alive.{Alive, disk_of, state_of}
use Rattle.snapshot.specs.declared.pieces.Piece.{Piece}
use Rattle.snapshot.specs.Pieces.{IsPieceOfSnapshot}
use Rattle.snapshot.proofs.Installs.{stands_as}
use Rattle.snapshot.specs.Refusing.{IsCauseOf, IsWhyUnread}
use Rattle.snapshot.proofs.Blaming.{same_refusal, unread_cause, unread_never_device}
use Rattle.snapshot.proofs.ReadLemmas.{none_lacks, obeys_too, read_step}
use Rattle.snapshot.specs.Goes.{Replies}
use Rattle.snapshot.proofs.CallLemmas.{same_beside, same_err}
use Rattle.snapshot.proofs.Going.{quietly, refused}
use Rattle.snapshot.proofs.volume.Volume.snap_read.Goals as goal

module _ {D : Type 0} (honest : D → Type 0) (held_of : D → Held) (image_of : D → List (List ℕ)) (old new : Alive D) (n i k : ℕ)
    (image : image_of new.device ≡ image_of old.device) (held : held_of new.device ≡ held_of old.device) (untouched : (new.queue ≡ old.queue) × (new.kept ≡ old.kept) × (new.holdings ≡ old.holdings)) where
  -- the device was read at most
  read_err : (r : Refusal) → (r ≡ NoMemory) ⊎ (r ≡ Device) → Replies (held_of old.device) (image_of old.device) old (SnapRead n i k) (Err r) (held_of new.device) (image_of new.device) new
  read_err r cause beside is =
      refused (held_of old.device) (held_of new.device) (image_of old.device) old beside is held (image_of new.device) new (SnapRead n i k) r image untouched.0 untouched.1 untouched.2
      (elim cause [ inl e ↦ inl e | inr e ↦ inr (inl e) ], refl)

  read_ok : (piece : Piece) (bytes : List ℕ) → IsPieceOfSnapshot old.kept.geometry old.holdings n i k piece → (users_view (disk_of (image_of old.device) old) (pending_of old.queue)).bytes piece.block ≡ bytes → length bytes ≡ 1024
      → (items : List ℕ) → items ≡ take piece.length bytes → Replies (held_of old.device) (image_of old.device) old (SnapRead n i k) (Ok (Bytes items)) (held_of new.device) (image_of new.device) new
  read_ok piece bytes p sees whole items first beside is =
      let s = state_of (image_of old.device) old beside in
      let there = stands_as (image_at old.holdings.snapshots.standing n) p.snapshot (image_at beside.snapshots.standing n) p.stands (same_at old.holdings.snapshots.standing beside.snapshots.standing is.belongs.1 n) in
      quietly (held_of old.device) (held_of new.device) (image_of old.device) old beside is held (image_of new.device) new (SnapRead n i k) (Bytes items) image untouched.0 untouched.1 untouched.2 refl
      (subst (λ xs. Step old.kept.geometry s (SnapRead n i k) (Ok (Bytes xs)) s) (sym first)
      (read_step old.kept.geometry p.snapshot there.image p.geometry p.metadata there.shows s n i k there.is is.stands.balance is.files piece p.found bytes sees whole))

-- where the volume is in balance, its snapshots lack no block
why_unread : (geo : Geometry) (holdings : Holdings) (n i k : ℕ) (r : Refusal) → IsWhyUnread geo holdings n i k r → (old : State) → Balance geo old → Has holdings old → FirstRefusal geo old (SnapRead n i k) r
why_unread geo holdings n i k r (inl first) old balance has = first old has
why_unread geo holdings n i k r (inr (index, p)) old balance has =
    let s = p.snapshot in
    let there = stands_as (image_at holdings.snapshots.standing n) s (image_at old.snapshots.standing n) p.stands (same_at holdings.snapshots.standing old.snapshots.standing has.snapshots.1 n) in
    absurd (none_lacks s.geometry (frozen_view s) i k (obeys_too geo s there.image p.geometry p.metadata there.shows (balance.snapshot n there.image there.is).0) p.lacks.no_cause p.lacks.unclaimed)

pub returns-in_err-block-clause-refused : goal.returns-in_err-block-clause-refused
returns-in_err-block-clause-refused g c =
    let p = err_from_is_err_and c.from_residual.result c.from_residual.ensures.1 in
    let old = c.self.inside.live in
    let r = c.in_err-block.field-0.0 in
    let command = SnapRead c.args.number c.args.inode c.args.index in
    rw (p.1, p.2)
    (λ h. subst (λ (l : Alive _). Replies (g.D.Device.held l.device) (g.D.Device.image l.device) l command (Err r) (g.D.Device.held l.device) (g.D.Device.image l.device) l) c.self.view_is
    (same_err g.D.Device.honest g.D.Device.held g.D.Device.image old old command r refl
    (λ beside is. inr (inr (why_unread old.kept.geometry old.holdings c.args.number c.args.inode c.args.index r c.in_err-block.ensures.refused (state_of (g.D.Device.image old.device) old beside) is.stands.balance
    (has (disk_of (g.D.Device.image old.device) old) (pending_of old.queue) old.holdings beside is.belongs))))))

pub returns-in_err-block-clause-cause : goal.returns-in_err-block-clause-cause
returns-in_err-block-clause-cause g c =
    let p = err_from_is_err_and c.from_residual.result c.from_residual.ensures.1 in
    let old = c.self.inside.live in
    rw (p.1, p.2) (λ e. absurd (unread_never_device old.kept old.holdings c.args.number c.args.inode c.args.index c.in_err-block.field-0.0 c.in_err-block.ensures.refused (same_refusal c.in_err-block.field-0.0 Device e)))

pub returns-in_err-block-clause-error : goal.returns-in_err-block-clause-error
returns-in_err-block-clause-error g c =
    let p = err_from_is_err_and c.from_residual.result c.from_residual.ensures.1 in
    let old = c.self.inside.live in
    let r = c.in_err-block.field-0.0 in
    rw (p.1, p.2) (subst (λ (l : Alive _). IsCauseOf l.kept l.holdings (SnapRead c.args.number c.args.inode c.args.index) r) c.self.view_is (unread_cause old.kept old.holdings c.args.number c.args.inode c.args.index r c.in_err-block.ensures.refused))

pub returns-in_err-bytes-clause-error : goal.returns-in_err-bytes-clause-error
returns-in_err-bytes-clause-error g c =
    let p = err_from_is_err_and c.from_residual-in_err-bytes.result c.from_residual-in_err-bytes.ensures.1 in
    rw (p.1, p.2) (inl c.in_err-bytes.ensures.error)

pub returns-in_err-first_bytes-clause-error : goal.returns-in_err-first_bytes-clause-error
returns-in_err-first_bytes-clause-error g c =
    let p = err_from_is_err_and c.from_residual-in_err-first_bytes.result c.from_residual-in_err-first_bytes.ensures.1 in
    rw (p.1, p.2) (inr (inl refl))

pub data_block-requires : goal.data_block-requires
data_block-requires g c = c.in_ok-block.ensures.address

pub invariant_of-self : goal.invariant_of-self
invariant_of-self g c = λ h.
    let d = c.data_block.ensures in
    let old = c.self.inside.live in
    let new = c.data_block.new.self in
    same_beside (g.D.Device.image old.device) (g.D.Device.image new.device) old new d.image d.untouched.0 d.untouched.1 d.untouched.2 (c.self.invariant (d.honest h))

pub returns-in_err-bytes-clause-refused : goal.returns-in_err-bytes-clause-refused
returns-in_err-bytes-clause-refused g c =
    let p = err_from_is_err_and c.from_residual-in_err-bytes.result c.from_residual-in_err-bytes.ensures.1 in
    let d = c.in_err-bytes.ensures in
    let new = c.data_block.new.self in
    let r = c.in_err-bytes.field-0.0 in
    let command = SnapRead c.args.number c.args.inode c.args.index in
    rw (p.1, p.2)
    (λ h. subst (λ (l : Alive _). Replies (g.D.Device.held l.device) (g.D.Device.image l.device) l command (Err r) (g.D.Device.held new.device) (g.D.Device.image new.device) new) c.self.view_is
    (read_err g.D.Device.honest g.D.Device.held g.D.Device.image c.self.inside.live new c.args.number c.args.inode c.args.index d.image d.held d.untouched r (inr d.error)))

pub returns-in_err-first_bytes-clause-refused : goal.returns-in_err-first_bytes-clause-refused
returns-in_err-first_bytes-clause-refused g c =
    let p = err_from_is_err_and c.from_residual-in_err-first_bytes.result c.from_residual-in_err-first_bytes.ensures.1 in
    let d = c.in_ok-bytes.ensures in
    let new = c.data_block.new.self in
    let command = SnapRead c.args.number c.args.inode c.args.index in
    rw (p.1, p.2)
    (λ h. subst (λ (l : Alive _). Replies (g.D.Device.held l.device) (g.D.Device.image l.device) l command (Err NoMemory) (g.D.Device.held new.device) (g.D.Device.image new.device) new) c.self.view_is
    (read_err g.D.Device.honest g.D.Device.held g.D.Device.image c.self.inside.live new c.args.number c.args.inode c.args.index d.image d.held d.untouched NoMemory (inl refl)))

pub returns-clause-read : goal.returns-clause-read
returns-clause-read g c = λ h.
    let d = c.in_ok-bytes.ensures in
    let old = c.self.inside.live in
    let new = c.data_block.new.self in
    let piece = c.in_ok-block.field-0 in
    let bytes = c.in_ok-bytes.bytes in
    let items = c.in_ok-first_bytes.field-0.items in
    let command = SnapRead c.args.number c.args.inode c.args.index in
    subst (λ (l : Alive _). Replies (g.D.Device.held l.device) (g.D.Device.image l.device) l command (Ok (Bytes items)) (g.D.Device.held new.device) (g.D.Device.image new.device) new) c.self.view_is
    (read_ok g.D.Device.honest g.D.Device.held g.D.Device.image old new c.args.number c.args.inode c.args.index d.image d.held d.untouched piece bytes c.in_ok-block.ensures.piece
    (d.bytes h)
    c.in_ok-first_bytes.ensures.whole items c.in_ok-first_bytes.ensures.first)
