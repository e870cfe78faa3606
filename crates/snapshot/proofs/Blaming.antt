-- Which refusals a call may give, whatever its device did: `Device` only where the device failed, else want of memory or a cause.
use Rattle.std.proofs.Common.{◌≡◌, ◌⊎◌, ◌↔◌, ◌≤◌, ℕ, List, [], ◌∷◌, Ok, Err, Result, IfErr, MatchResult, Some, None, inl, inr, refl, sym, ap, ◌∙◌, subst}
use Rattle.std.specs.Prelude.{IsErrOf, IsOkUnless, IsTrue, is_some, unwrap_or}
use Rattle.std.specs.Bool.{then_some}
use Rattle.std.specs.Option.{option_or}
use Rattle.std.proofs.lemmas.Bool.{cond-true, le-leb}
use Rattle.layout.specs.declared.refusal.Refusal.{Refusal}
use Rattle.layout.specs.declared.refusal.Refusal.TheVariants.{BadIndex, Device, NoMemory, NoSnapshot, TooManySnapshots, TraceFull}
use Rattle.model.specs.Layout.{Geometry, block_count, is_data_address}
use Rattle.machine.specs.Causes.{FirstRefusal, causes, refusal_of}
use Rattle.machine.specs.Command.{Command as Request, Flush, Freeze, Release, SnapRead}
use Rattle.machine.specs.Standing.{Standing, image_at, too_many}
use Rattle.machine.specs.State.{State}
use Rattle.model.specs.View.{View}
use Rattle.frozen.specs.Kept.{Kept, frozen_view, kept_bytes}
use Rattle.metadata.specs.Shown.{Shows}
use Rattle.replies.proofs.Causes.{first_not_device, first_not_full}
use Rattle.live_states.specs.Holdings.{AreImages, Has, Holdings, held_by, opened_by, plan_by}
use Rattle.live_states.specs.Planned.{IsFirstCauseWith, IsRefused, IsRefusedWith}
use Rattle.live_states.proofs.Images.{same_at, same_room}
use Rattle.live.specs.Alive.{Alive, IsFirstCause}
use Rattle.snapshot.specs.declared.answer.Answer.{Answer}
use Rattle.snapshot.specs.declared.command.Command.{Command}
use Rattle.snapshot.specs.Asked.{asked}
use Rattle.snapshot.specs.Refusing.{IsCause, IsCauseOf, IsWhyUnread}
use Rattle.snapshot.proofs.Standing.{none_frozen, refuses_freeze, refuses_release}

-- ---- a state that has what is kept, open and held

shows_itself : (kept : Kept) → Shows kept (frozen_view kept)
shows_itself kept = record {
  inode = λ i. refl;
  number_marked = λ i. refl;
  block_marked = λ a. refl;
  bytes = λ a b t e. cond-true (is_data_address kept.geometry a) (kept_bytes kept.blocks a) [] t ∙ ap (λ o. unwrap_or o []) e;
}

-- images that have what snapshots keep
images_of : List (Standing Kept) → List (Standing View)
images_of [] = []
images_of (k ∷ ks) = record { number = k.number; image = frozen_view k.image } ∷ images_of ks

some_images : (ks : List (Standing Kept)) → AreImages ks (images_of ks)
unfolding images_of
some_images [] = tt
some_images (k ∷ ks) = (refl, shows_itself k.image, some_images ks)

some_state : Kept → Holdings → State
some_state kept holdings = record { view = frozen_view kept; opened = opened_by holdings; held = held_by holdings; snapshots = record { standing = images_of holdings.snapshots.standing; freezes = holdings.snapshots.freezes }; plan = plan_by holdings }

some_shown : (kept : Kept) (holdings : Holdings) → Shows kept (some_state kept holdings).view
unfolding some_state
some_shown kept holdings = shows_itself kept

some_has : (kept : Kept) (holdings : Holdings) → Has holdings (some_state kept holdings)
unfolding some_state
some_has kept holdings = record { opened = refl; held = refl; snapshots = (refl, some_images holdings.snapshots.standing); plan = refl }

-- ---- a refusal

-- it is `Device` only where this failed, and it has a cause
pub record Blames (failed : Type 0) (kept : Kept) (holdings : Holdings) (command : Request) (r : Refusal) : Type 0 where
  pub device : r ≡ Device → failed
  pub cause : IsCauseOf kept holdings command r

module _ (kept : Kept) (holdings : Holdings) (command : Request) (r : Refusal) where
  first_here : IsFirstCauseWith kept holdings command r → FirstRefusal kept.geometry (some_state kept holdings) command r
  first_here first = first (some_state kept holdings) (some_shown kept holdings) (some_has kept holdings)

  pub never_device : IsRefusedWith kept holdings command r → r ≡ Device → ⊥
  never_device (inl memory) device = let bad : NoMemory ≡ Device = sym memory ∙ device in cc
  never_device (inr first) device = first_not_device kept.geometry (some_state kept holdings) command r (first_here first) device

  pub never_full : IsCauseOf kept holdings command r → r ≡ TraceFull → ⊥
  never_full (inl device) full = let bad : Device ≡ TraceFull = sym device ∙ full in cc
  never_full (inr (inl memory)) full = let bad : NoMemory ≡ TraceFull = sym memory ∙ full in cc
  never_full (inr (inr (inl first))) full = first_not_full kept.geometry (some_state kept holdings) command r (first_here first) full
  never_full (inr (inr (inr (index, unread)))) full = let bad : BadIndex ≡ TraceFull = sym index ∙ full in cc

  pub has_cause : IsRefusedWith kept holdings command r → IsCauseOf kept holdings command r
  has_cause (inl memory) = inr (inl memory)
  has_cause (inr first) = inr (inr (inl first))

-- a read of a snapshot
module _ (kept : Kept) (holdings : Holdings) (s i k : ℕ) (r : Refusal) where
  pub unread_cause : IsWhyUnread kept.geometry holdings s i k r → IsCauseOf kept holdings (SnapRead s i k) r
  unread_cause (inl first) = inr (inr (inl (λ old shows has. first old has)))
  unread_cause (inr unread) = inr (inr (inr unread))

  pub unread_never_device : IsWhyUnread kept.geometry holdings s i k r → r ≡ Device → ⊥
  unread_never_device (inl first) device = never_device kept holdings (SnapRead s i k) r (inr (λ old shows has. first old has)) device
  unread_never_device (inr (index, unread)) device = let bad : BadIndex ≡ Device = sym index ∙ device in cc

module _ (failed : Type 0) (kept : Kept) (holdings : Holdings) (command : Request) where
  by_cause : (r : Refusal) → IsRefusedWith kept holdings command r → Blames failed kept holdings command r
  by_cause r cause = record { device = λ device. absurd (never_device kept holdings command r cause device); cause = has_cause kept holdings command r cause }

  by_device : (r : Refusal) → (r ≡ Device → failed) → r ≡ Device → Blames failed kept holdings command r
  by_device r has device = record { device = has; cause = inl device }

  -- ---- by what a call promises of its refusals

  module _ {T : Type 0} where
    pub of_caused : (outcome : Result T Refusal) → IfErr outcome (IsRefusedWith kept holdings command) → IfErr outcome (Blames failed kept holdings command)
    of_caused (Ok t) p = p
    of_caused (Err r) p = by_cause r p

    pub of_refused : (outcome : Result T Refusal) → IfErr outcome (IsRefused kept command) → IfErr outcome (Blames failed kept holdings command)
    of_refused (Ok t) p = p
    of_refused (Err r) (inl memory) = by_cause r (inl memory)
    of_refused (Err r) (inr first) = by_cause r (inr (λ old shows has. first old shows))

    pub of_first : (outcome : Result T Refusal) → IfErr outcome (IsFirstCause kept command) → IfErr outcome (Blames failed kept holdings command)
    of_first (Ok t) p = p
    of_first (Err r) first = by_cause r (inr (λ old shows has. first old shows))

    pub of_device_or_caused : (outcome : Result T Refusal) → IfErr outcome (λ r. (r ≡ Device) ⊎ IsRefusedWith kept holdings command r) → (IsErrOf outcome Device → failed) → IfErr outcome (Blames failed kept holdings command)
    of_device_or_caused (Ok t) p has = p
    of_device_or_caused (Err r) (inl device) has = by_device r (λ e. has (ap Err e)) device
    of_device_or_caused (Err r) (inr cause) has = by_cause r cause

    pub of_device : (outcome : Result T Refusal) → IsOkUnless outcome Device → (IsErrOf outcome Device → failed) → IfErr outcome (Blames failed kept holdings command)
    of_device (Ok t) p has = p
    of_device (Err r) device has = by_device r (λ e. has (ap Err e)) device

-- an address that is not on the volume
refuses_flush : (geo : Geometry) (old : State) (a : ℕ) → block_count geo ≤ a → refusal_of geo old (Flush a) ≡ Some BadIndex
unfolding causes
refuses_flush geo old a high = ap (λ b. option_or (then_some b BadIndex) None) (le-leb (block_count geo) a high)

-- a flush is refused for its block's address
pub of_flush : (failed : Type 0) (kept : Kept) (holdings : Holdings) (a : ℕ) {T : Type 0} (outcome : Result T Refusal) → IfErr outcome (λ r. (r ≡ Device) ⊎ ((r ≡ BadIndex) × (block_count kept.geometry ≤ a))) → (IsErrOf outcome Device → failed)
    → IfErr outcome (Blames failed kept holdings (Flush a))
of_flush failed kept holdings a (Ok t) p has = p
of_flush failed kept holdings a (Err r) (inl device) has = by_device failed kept holdings (Flush a) r (λ e. has (ap Err e)) device
of_flush failed kept holdings a (Err r) (inr (index, past)) has =
    subst (λ x. Blames failed kept holdings (Flush a) x) (sym index) (by_cause failed kept holdings (Flush a) BadIndex (inr (λ old shows has. inl (refuses_flush kept.geometry old a past))))

-- ---- and so for the reply

module _ (failed : Type 0) (kept : Kept) (holdings : Holdings) (command : Request) {T : Type 0} where
  pub replied_so : (given : T → Answer) (outcome : Result T Refusal) (reply : Result Answer Refusal) → MatchResult outcome (λ t. reply ≡ Ok (given t)) (λ r. reply ≡ Err r)
      → IfErr outcome (Blames failed kept holdings command) → IfErr reply (Blames failed kept holdings command)
  replied_so given (Ok t) reply told p = subst (λ x. IfErr x (Blames failed kept holdings command)) (sym told) p
  replied_so given (Err r) reply told p = subst (λ x. IfErr x (Blames failed kept holdings command)) (sym told) p

  pub device_blamed : (reply : Result T Refusal) → IfErr reply (Blames failed kept holdings command) → IsErrOf reply Device → failed
  device_blamed (Ok t) p e = let bad : Ok t ≡ Err Device = e in cc
  device_blamed (Err r) p e = p.device (let same : r ≡ Device = cc in same)

  pub cause_blamed : (asks : Request) → asks ≡ command → (reply : Result T Refusal) → IfErr reply (Blames failed kept holdings command) → IfErr reply (IsCauseOf kept holdings asks)
  cause_blamed asks same (Ok t) p = tt
  cause_blamed asks same (Err r) p = subst (λ x. IsCauseOf kept holdings x r) (sym same) p.cause

-- ---- causes of what a call refuses, and so of the reply

module _ (kept : Kept) (holdings : Holdings) where
  pub caused_so : (command : Request) {T : Type 0} (outcome : Result T Refusal) → IfErr outcome (IsRefusedWith kept holdings command) → IfErr outcome (IsCauseOf kept holdings command)
  caused_so command (Ok t) p = tt
  caused_so command (Err r) p = has_cause kept holdings command r p

  pub handed_on : (asks command : Request) → asks ≡ command → {T : Type 0} (given : T → Answer) (outcome : Result T Refusal) (reply : Result Answer Refusal)
      → MatchResult outcome (λ t. reply ≡ Ok (given t)) (λ r. reply ≡ Err r) → IfErr outcome (IsCauseOf kept holdings command) → IfErr reply (IsCauseOf kept holdings asks)
  handed_on asks command same given (Ok t) reply told p = subst (λ x. IfErr x (IsCauseOf kept holdings asks)) (sym told) tt
  handed_on asks command same given (Err r) reply told p = subst (λ x. IfErr x (IsCauseOf kept holdings asks)) (sym told) (subst (λ x. IsCauseOf kept holdings x r) (sym same) p)

pub same_refusal : {T : Type 0} (r s : Refusal) → ◌≡◌ {A = Result T Refusal} (Err r) (Err s) → r ≡ s
same_refusal r s e = cc

-- a refusal that is never this one
pub never_so : {T : Type 0} (P : Refusal → Type 0) (r : Refusal) → ((x : Refusal) → P x → x ≡ r → ⊥) → (outcome : Result T Refusal) → IfErr outcome P → IsErrOf outcome r → ⊥
never_so P r never (Ok t) p is = let bad : Ok t ≡ Err r = is in cc
never_so P r never (Err x) p is = never x p (let same : x ≡ r = cc in same)

-- no trace is full where each refusal has a cause
pub not_full : {D T : Type 0} (old : Alive D) (command : Command) (reply : Result T Refusal) → IfErr reply (IsCause old command) → IsErrOf reply TraceFull → ⊥
not_full old command reply caused = never_so (IsCause old command) TraceFull (never_full old.kept old.holdings (asked old.kept.geometry command)) reply caused

-- ---- a freeze and a release

-- what neither fails nor lacks memory is refused where this is so
abbrev pub AtMost : Refusal → Refusal → Type 0
AtMost why r = (r ≡ why) ⊎ ((r ≡ NoMemory) ⊎ (r ≡ Device))

pub memory_at_most : (why : Refusal) {T : Type 0} (outcome : Result T Refusal) → IsOkUnless outcome NoMemory → IfErr outcome (AtMost why)
memory_at_most why (Ok t) p = tt
memory_at_most why (Err r) memory = inr (inl memory)

module _ (kept : Kept) (holdings : Holdings) where
  at_most_cause : (command : Request) (why r : Refusal) → (r ≡ why → IsFirstCauseWith kept holdings command why) → AtMost why r → IsCauseOf kept holdings command r
  at_most_cause command why r first (inl is) = subst (IsCauseOf kept holdings command) (sym is) (inr (inr (inl (first is))))
  at_most_cause command why r first (inr (inl memory)) = inr (inl memory)
  at_most_cause command why r first (inr (inr device)) = inl device

  pub freeze_caused : {T : Type 0} (outcome : Result T Refusal) → IsErrOf outcome TooManySnapshots ↔ IsTrue (too_many holdings.snapshots) → IfErr outcome (AtMost TooManySnapshots) → IfErr outcome (IsCauseOf kept holdings Freeze)
  freeze_caused (Ok t) many most = tt
  freeze_caused (Err r) many most = at_most_cause Freeze TooManySnapshots r
      (λ is old shows has. inl (refuses_freeze kept.geometry old (same_room holdings.snapshots old.snapshots has.snapshots ∙ many.0 (ap Err is)))) most

  pub release_caused : {T : Type 0} (s : ℕ) (outcome : Result T Refusal) → IsErrOf outcome NoSnapshot ↔ (image_at holdings.snapshots.standing s ≡ None) → IfErr outcome (AtMost NoSnapshot) → IfErr outcome (IsCauseOf kept holdings (Release s))
  release_caused s (Ok t) none most = tt
  release_caused s (Err r) none most = at_most_cause (Release s) NoSnapshot r
      (λ is old shows has. inl (refuses_release kept.geometry old s (none_frozen (image_at holdings.snapshots.standing s) (image_at old.snapshots.standing s) (same_at holdings.snapshots.standing old.snapshots.standing has.snapshots.1 s) ∙ ap is_some (none.0 (ap Err is))))) most
