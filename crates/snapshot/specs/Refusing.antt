-- Why a command is refused, whatever the device of the volume did.
use Rattle.std.specs.Prelude.{◌≡◌, ◌⊎◌, ℕ, List, [], ◌∷◌, ◌++◌, Some, Result, IfErr, OnErr}
use Rattle.layout.specs.declared.refusal.Refusal.{Refusal}
use Rattle.layout.specs.declared.refusal.Refusal.TheVariants.{BadIndex, Device, NoMemory}
use Rattle.model.specs.Layout.{Geometry}
use Rattle.machine.specs.Causes.{FirstRefusal}
use Rattle.machine.specs.Command.{Command as Request, SnapRead}
use Rattle.machine.specs.Standing.{image_at}
use Rattle.machine.specs.State.{State}
use Rattle.frozen.specs.Kept.{Kept, KeepsMetadata}
use Rattle.live_states.specs.Holdings.{Has, Holdings}
use Rattle.live_states.specs.Planned.{IsFirstCauseWith}
use Rattle.live.specs.Alive.{Alive}
use Rattle.snapshot.specs.declared.answer.Answer.{Answer}
use Rattle.snapshot.specs.declared.command.Command.{Command}
use Rattle.snapshot.specs.Asked.{asked}
use Rattle.snapshot.specs.Pieces.{LacksPiece}

-- The image of snapshot s breaks the rules: no cause is there, and yet it has no block k of file i.
pub record LacksPieceOfSnapshot (geo : Geometry) (holdings : Holdings) (s i k : ℕ) : Type 0 where
  pub snapshot : Kept
  pub stands : image_at holdings.snapshots.standing s ≡ Some snapshot
  pub geometry : snapshot.geometry ≡ geo
  pub metadata : KeepsMetadata snapshot
  pub lacks : LacksPiece snapshot i k

-- why block k of file i of snapshot s has no place
abbrev pub IsWhyUnread : Geometry → Holdings → ℕ → ℕ → ℕ → Refusal → Type 0
IsWhyUnread geo holdings s i k r = ((old : State) → Has holdings old → FirstRefusal geo old (SnapRead s i k) r) ⊎ ((r ≡ BadIndex) × LacksPieceOfSnapshot geo holdings s i k)

-- so a read of a snapshot is refused without a cause
abbrev pub IsUnread : Geometry → Holdings → Request → Type 0
IsUnread geo holdings (SnapRead s i k) = LacksPieceOfSnapshot geo holdings s i k
IsUnread geo holdings command = ⊥

-- The device failed, or there is no memory, or this is the first cause for every state that the memory of a volume shows; or the block is not there in a snapshot that breaks the rules.
abbrev pub IsCauseOf : Kept → Holdings → Request → Refusal → Type 0
IsCauseOf kept holdings command r = (r ≡ Device) ⊎ ((r ≡ NoMemory) ⊎ (IsFirstCauseWith kept holdings command r ⊎ ((r ≡ BadIndex) × IsUnread kept.geometry holdings command)))

-- so it is why a volume refuses a command
abbrev pub IsCause : {D : Type 0} → Alive D → Command → Refusal → Type 0
IsCause old command r = IsCauseOf old.kept old.holdings (asked old.kept.geometry command) r

-- On the way from a volume to another one commands got these replies, one after another: each refusal had a cause in the volume of that time, and left what users see, what is open and held, and the repairs.
pub data AreCaused {D : Type 0} (old : Alive D) : List Command → List (Result Answer Refusal) → Alive D → Type 0 where
  NoneYet : AreCaused old [] [] old
  OneMore : {commands : List Command} {replies : List (Result Answer Refusal)} {mid : Alive D} (command : Command) (reply : Result Answer Refusal) (new : Alive D) → AreCaused old commands replies mid
      → IfErr reply (IsCause mid command) → OnErr reply ((new.kept ≡ mid.kept) × (new.holdings ≡ mid.holdings)) → AreCaused old (commands ++ command ∷ []) (replies ++ reply ∷ []) new
