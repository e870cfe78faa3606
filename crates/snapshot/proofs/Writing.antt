-- What a call wrote.
use Rattle.std.proofs.Common.{◌≡◌, ℕ, ◌<◌, List, Ok, Err, Result, IfOk, MatchResult, OnErr, refl, sym, ap, ◌∙◌, subst}
use Rattle.std.specs.Prelude.{IsOkUnless}
use Rattle.layout.specs.declared.refusal.Refusal.{Refusal}
use Rattle.layout.specs.declared.refusal.Refusal.TheVariants.{NoMemory, NoSnapshot}
use Rattle.device.specs.Media.{Held}
use Rattle.softdep.specs.Queued.{pending_of}
use Rattle.softdep.specs.Syncing.{AreWrites}
use Rattle.live.specs.Alive.{Alive}
use Rattle.live.specs.Held.{WritesBlock, WritesNothing}
use Rattle.snapshot.specs.declared.answer.Answer.{Answer}
use Rattle.snapshot.specs.declared.answer.Answer.TheVariants.{Number}
use Rattle.snapshot.specs.Between.{could_go}
use Rattle.snapshot.specs.Writes.{WritesFlush, WritesBlocks}
use Rattle.snapshot.proofs.UserReplies.{no_flushes}

-- a device that was not touched
pub untouched : {D : Type 0} (held_of : D → Held) (image_of : D → List (List ℕ)) (old new : D) → new ≡ old → WritesNothing (image_of old) (held_of old) (image_of new) (held_of new)
untouched held_of image_of old new same = record { image_stays = ap image_of same; held_stays = ap (λ d. (held_of d).media) same }

module _ (a : ℕ) (image : List (List ℕ)) (held : Held) (image' : List (List ℕ)) (held' : Held) where
  pub writes_flush : (outcome : Result ℕ Refusal) (reply : Result Answer Refusal) → MatchResult outcome (λ n. reply ≡ Ok (Number n)) (λ r. reply ≡ Err r)
      → IfOk outcome (λ n. n ≡ 0 → WritesNothing image held image' held') → IfOk outcome (λ n. 0 < n → WritesBlock a image held image' held') → OnErr outcome (WritesNothing image held image' held')
      → WritesFlush a reply image held image' held'
  writes_flush (Ok n) reply told idle written refused = subst (λ r. WritesFlush a r image held image' held') (sym told) (idle, written)
  writes_flush (Err r) reply told idle written refused = subst (λ r. WritesFlush a r image held image' held') (sym told) refused

pub unwritten_writes : (image image' : List (List ℕ)) (held held' : Held) (outcome : Result ℕ Refusal) → IfOk outcome (λ n. n ≡ 0 → (image' ≡ image) × (held'.media ≡ held.media))
    → IfOk outcome (λ n. n ≡ 0 → WritesNothing image held image' held')
unwritten_writes image image' held held' (Ok n) same = λ none. let s = same none in record { image_stays = s.0; held_stays = s.1 }
unwritten_writes image image' held held' (Err r) same = tt

-- a flush answers how many updates could go
pub flush_counts : {D : Type 0} (live : Alive D) (a b : ℕ) (outcome : Result ℕ Refusal) (reply : Result Answer Refusal) → MatchResult outcome (λ n. reply ≡ Ok (Number n)) (λ r. reply ≡ Err r)
    → IfOk outcome (λ n. n ≡ could_go live b) → b ≡ a → IfOk reply (λ answer. answer ≡ Number (could_go live a))
flush_counts live a b (Ok n) reply told counted same = subst (λ r. IfOk r (λ answer. answer ≡ Number (could_go live a))) (sym told) (ap Number (counted ∙ ap (could_go live) same))
flush_counts live a b (Err r) reply told counted same = subst (λ x. IfOk x (λ answer. answer ≡ Number (could_go live a))) (sym told) tt

pub refused_writes : (Q : Type 0) (image : List (List ℕ)) (held : Held) (image' : List (List ℕ)) (held' : Held) (outcome : Result ℕ Refusal) → OnErr outcome (Q × (image' ≡ image) × (held' ≡ held)) → OnErr outcome (WritesNothing image held image' held')
refused_writes Q image held image' held' (Ok n) left = tt
refused_writes Q image held image' held' (Err r) left = record { image_stays = left.1; held_stays = ap (λ (h : Held). h.media) left.2 }

-- a reply that is this refusal came from it
pub refused_by : {T : Type 0} (given : T → Answer) (outcome : Result T Refusal) (reply : Result Answer Refusal) (r : Refusal) → MatchResult outcome (λ t. reply ≡ Ok (given t)) (λ r. reply ≡ Err r) → reply ≡ Err r → outcome ≡ Err r
refused_by given (Ok t) reply r told is = let bad : Ok (given t) ≡ Err r = sym told ∙ is in cc
refused_by given (Err s) reply r told is = let same : Err s ≡ Err r = sym told ∙ is in cc

-- ---- a freeze and a release

module _ {D : Type 0} (held_of : D → Held) (image_of : D → List (List ℕ)) where
  -- from one volume to the device of another one
  abbrev pub Wrote : Alive D → D → Type 0
  Wrote old device = WritesBlocks old.kept.geometry (pending_of old.queue) (image_of old.device) (held_of old.device) (image_of device) (held_of device)

  pub wrote_none : (old : Alive D) → Wrote old old.device
  wrote_none old = (pending_of old.queue, no_flushes (held_of old.device) (held_of old.device) (image_of old.device) (image_of old.device) old old refl refl refl)

  pub wrote_so : (honest : D → Type 0) (old mid : Alive D) (device : D) → device ≡ mid.device
      → (honest mid.device → AreWrites old.kept.geometry (image_of old.device) (held_of old.device) (pending_of old.queue) (image_of mid.device) (held_of mid.device) (pending_of mid.queue))
      → honest device → Wrote old device
  wrote_so honest old mid device same flushes h = subst (Wrote old) (sym same) (pending_of mid.queue, flushes (subst honest same h))

-- what is refused for want of memory alone is not refused so
pub unless_memory : {T : Type 0} (outcome : Result T Refusal) → IsOkUnless outcome NoMemory → outcome ≡ Err NoSnapshot → ⊥
unless_memory (Ok t) error is = let bad : Ok t ≡ Err NoSnapshot = is in cc
unless_memory {T = T} (Err r) error is = let bad : Err NoMemory ≡ Err NoSnapshot = subst {0, 0} (λ (x : Refusal). ◌≡◌ {A = Result T Refusal} (Err x) (Err NoSnapshot)) error is in cc
