-- What a loss of power shows of a volume of which all was durable.
use Rattle.std.proofs.Common.{◌≡◌, ℕ, Bool, List, [], ◌++◌, append-nil, ap, ◌∙◌, map, subst, sym}
use Rattle.std.specs.List.{All}
use Rattle.model.specs.Image.{image_view}
use Rattle.device.specs.Media.{Medium, image_of}
use Rattle.queue_model.specs.Files.{Written}
use Rattle.live_states.specs.Holdings.{held_by}
use Rattle.live.specs.Alive.{disk_of}
use Rattle.live.specs.Durable.{AddsOnly, IsSoundOn, LeavesOwn, LeavesShown, Owns, OwnsMore, Piece, Put, PutAlong}
use Rattle.live.proofs.Durably.{leaves_own, leaves_shown}
use Rattle.snapshot.specs.Stages.{Stage, geometry_at}

module _ {D : Type 0} (t u : Stage D) (files left : ℕ → Bool) (on : IsSoundOn t.held.now t.volume files) (after : IsSoundOn u.held.now u.volume left)
    (mount : on.durably.mount ≡ image_view (geometry_at t) (image_of t.held.now)) (none : on.durably.history ≡ []) (answers : t.image ≡ image_of t.held.now) where
  view : on.durably.mount ≡ disk_of t.image t.volume
  view = mount ∙ ap (λ i. image_view (geometry_at t) i) (sym answers)

  pub shown_now : LeavesShown (geometry_at t) (disk_of t.image t.volume) [] files t.held.now
  shown_now =
      subst (λ v. LeavesShown (geometry_at t) v [] files t.held.now) view
      (subst (λ h. LeavesShown (geometry_at t) on.durably.mount h files t.held.now) none (leaves_shown t.held.now (geometry_at t) t.volume.queue (held_by t.volume.holdings) files on))

  pub shown_then : (adds : AddsOnly t.held t.volume u.held u.volume files left on after) → All (LeavesShown (geometry_at t) (disk_of t.image t.volume) adds.added left) adds.more
  shown_then adds =
      subst (λ v. All (LeavesShown (geometry_at t) v adds.added left) adds.more) view
      (subst (λ h. All (LeavesShown (geometry_at t) on.durably.mount h left) adds.more) (ap (λ h. adds.added ++ h) none ∙ append-nil adds.added) adds.each)

  -- the files' own bytes
  module _ (first : Owns (geometry_at t) on.durably.mount on.durably.history on.durably.cut []) where
    pub owned_now : LeavesOwn (geometry_at t) (disk_of t.image t.volume) [] [] t.held.now
    owned_now =
        subst (λ v. LeavesOwn (geometry_at t) v [] [] t.held.now) view
        (subst (λ h. LeavesOwn (geometry_at t) on.durably.mount h [] t.held.now) none (leaves_own t.held.now (geometry_at t) t.volume.queue (held_by t.volume.holdings) files on [] first))

    pub owned_then : (adds : AddsOnly t.held t.volume u.held u.volume files left on after) (asked : List Piece)
        → OwnsMore (geometry_at t) after.durably.mount on.durably.history after.durably.history after.durably.cut asked [] adds.more
        → (puts : List Put) × (map (λ (put : Put). put.piece) puts ≡ asked) × PutAlong (disk_of t.image t.volume) [] adds.added puts × All (LeavesOwn (geometry_at t) (disk_of t.image t.volume) adds.added puts) adds.more
    owned_then adds asked more = (
      more.added,
      more.pieces,
      subst (λ v. PutAlong v [] adds.added more.added) (adds.mount ∙ view)
          (subst (λ h. PutAlong after.durably.mount [] h more.added) (adds.history ∙ ap (λ h. adds.added ++ h) none ∙ append-nil adds.added)
          (subst (λ h. PutAlong after.durably.mount h after.durably.history more.added) none more.along)),
      subst (λ v. All (LeavesOwn (geometry_at t) v adds.added more.added) adds.more) (adds.mount ∙ view)
          (subst (λ h. All (LeavesOwn (geometry_at t) after.durably.mount h more.added) adds.more) (adds.history ∙ ap (λ h. adds.added ++ h) none ∙ append-nil adds.added)
          (subst (λ l. All (LeavesOwn (geometry_at t) after.durably.mount after.durably.history l) adds.more) (append-nil more.added) more.each)),
    )
