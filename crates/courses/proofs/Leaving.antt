-- A command that is no write has nothing to leave behind a piece.
use Rattle.std.proofs.Common.{◌≡◌, ℕ, Bool, true, false, List, IsFalse}
use Rattle.model.specs.Layout.{Geometry}
use Rattle.model.specs.View.{View}
use Rattle.ordering.specs.Cuts.{Pending}
use Rattle.machine.specs.State.{State}
use Rattle.machine.specs.Command.{Command, Write, Answer}
use Rattle.courses.specs.Done.{IsDoneBy, LeavesTheRest, CreatesInSlot, CreatesInNewBlock, MakesInSlot, MakesInNewBlock, LinksInSlot, LinksInNewBlock, RenamesInSlot, MovesToSlot, MovesToNewBlock, UnlinksName, UnlinksFile, RemovesName, RemovesDirectory, WritesInPlace, WritesBehind, WritesElsewhere, TruncatesFile, ClosesHandle, CarriesOutRepair, SetsItsAttributes}

abbrev pub is_write : Command → Bool
is_write (Write h k piece) = true
is_write _ = false

module _ (geo : Geometry) (disk : View) (q : List Pending) (old : State) (safe : ℕ → Bool) where
  pub others_leave : (command : Command) (answer : Answer) (file : ℕ) (plan : List Pending) (new : State) (safe' : ℕ → Bool) (done : IsDoneBy geo disk q old safe command answer file plan new safe') → IsFalse (is_write command)
      → LeavesTheRest done
  others_leave command answer file plan new safe' (CreatesInSlot p words n s entry after free place) f = tt
  others_leave command answer file plan new safe' (CreatesInNewBlock p words n b kept s entry after free place) f = tt
  others_leave command answer file plan new safe' (MakesInSlot p words i a dots s entry after free own are place) f = tt
  others_leave command answer file plan new safe' (MakesInNewBlock p words i a dots b kept s entry after free own are other place) f = tt
  others_leave command answer file plan new safe' (LinksInSlot p r s entry after place) f = tt
  others_leave command answer file plan new safe' (LinksInNewBlock p r b kept s entry after place) f = tt
  others_leave command answer file plan new safe' (RenamesInSlot p r entry after one says others) f = tt
  others_leave command answer file plan new safe' (MovesToSlot p r s entry after' after apart place entered grounds) f = tt
  others_leave command answer file plan new safe' (MovesToNewBlock p r b kept s entry after' after apart place entered grounds table) f = tt
  others_leave command answer file plan new safe' (UnlinksName p stays) f = tt
  others_leave command answer file plan new safe' (UnlinksFile p blocks one goes) f = tt
  others_leave command answer file plan new safe' (RemovesName p after all stays) f = tt
  others_leave command answer file plan new safe' (RemovesDirectory p blocks after all two goes) f = tt
  others_leave command answer file plan new safe' (WritesInPlace h k piece bytes over inside free) f = absurd (let bad : true ≡ false = f in cc)
  others_leave command answer file plan new safe' (WritesBehind h k piece bytes b news over choice past) f = absurd (let bad : true ≡ false = f in cc)
  others_leave command answer file plan new safe' (WritesElsewhere h k piece bytes b over free inside kept) f = absurd (let bad : true ≡ false = f in cc)
  others_leave command answer file plan new safe' (TruncatesFile h size) f = tt
  others_leave command answer file plan new safe' (SetsItsAttributes n words) f = tt
  others_leave command answer file plan new safe' (ClosesHandle h) f = tt
  others_leave command answer file plan new safe' (CarriesOutRepair k list r planned at) f = tt
