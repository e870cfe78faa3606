-- The machine: one command after another.
use Rattle.std.specs.Prelude.{◌≡◌, List, [], ◌∷◌, Some, Ok, Err, ◌⊎◌}
use Rattle.model.specs.Layout.{Geometry}
use Rattle.model.specs.View.{View}
use Rattle.layout.specs.declared.refusal.Refusal.TheVariants.{NoMemory, Device}
use Rattle.machine.specs.State.{State, snapshot_at}
use Rattle.machine.specs.Command.{Command, Create, Mkdir, Link, Unlink, Rmdir, Rename, Open, Close, Read, Write, Truncate, SetAttributes, ReadAttributes, ListNames, Stat, Freeze, SnapRead, Release, Install, RepairAt, Flush, Sync, Answer, Done, Number, Bytes, Listed, Attributes, Image, Reply}
use Rattle.machine.specs.Paths.{number_at}
use Rattle.machine.specs.Causes.{FirstRefusal, Accepts, file_of}
use Rattle.machine.specs.Cells.{seen}
use Rattle.machine.specs.Effects.{Creates, MakesDirectory, Links, unlinked, removed, Renames, Opens, closed, Writes, truncated, attributed, names_below, status}
use Rattle.machine.specs.Snapshot.{settled, frozen, released, Installs}
use Rattle.machine.specs.Repairs.{CarriesOut}
use Rattle.model.specs.Reach.{slot_count}

-- A command that no cause refuses may give this answer and lead from old to new.
abbrev pub Effect : Geometry → State → Command → Answer → State → Type 0
Effect geo old (Create p words) (Number i) new = Creates geo old p words i new
Effect geo old (Mkdir p words) (Number i) new = MakesDirectory geo old p words i new
Effect geo old (Link p q) Done new = Links geo old p q new
Effect geo old (Unlink p) Done new = new ≡ unlinked geo old p
Effect geo old (Rmdir p) Done new = new ≡ removed geo old p
Effect geo old (Rename p q) Done new = Renames geo old p q new
Effect geo old (Open p) (Number h) new = Opens geo old p h new
Effect geo old (Close h) Done new = new ≡ closed geo old h
Effect geo old (Read h k) (Bytes bytes) new = (bytes ≡ seen geo old.view (file_of old h) k) × (new ≡ old)
Effect geo old (Write h k piece) Done new = Writes geo old (file_of old h) k piece new
Effect geo old (Truncate h n) Done new = new ≡ truncated geo old (file_of old h) n
Effect geo old (SetAttributes i words) Done new = new ≡ attributed old i words
Effect geo old (ReadAttributes i) answer new = (answer ≡ Attributes (old.view.inode i).attributes) × (new ≡ old)
Effect geo old (ListNames p) (Listed names) new = (names ≡ names_below geo old.view (number_at geo old.view p) (slot_count geo)) × (new ≡ old)
Effect geo old (Stat p) answer new = (answer ≡ status old.view (number_at geo old.view p)) × (new ≡ old)
Effect geo old Freeze answer new = (answer ≡ Image old.snapshots.freezes (settled geo old)) × (new ≡ frozen geo old)
Effect geo old (SnapRead s i k) (Bytes bytes) new = (image : View) × (snapshot_at old s ≡ Some image) × (bytes ≡ seen geo image i k) × (new ≡ old)
Effect geo old (Release s) Done new = new ≡ released old s
Effect geo old (Install check) Done new = Installs geo old new
Effect geo old (RepairAt k) Done new = CarriesOut geo old k new
Effect geo old (Flush a) (Number n) new = new ≡ old
Effect geo old Sync Done new = new ≡ old
-- no other answer is given
Effect geo old _ _ new = ⊥

-- From old, the machine may give this reply to the command and go on to new.
abbrev pub Step : Geometry → State → Command → Reply → State → Type 0
-- memory and the device may fail at any command; any other refusal is the first one whose cause holds; and a refusal changes nothing
Step geo old command (Err r) new = ((r ≡ NoMemory) ⊎ ((r ≡ Device) ⊎ FirstRefusal geo old command r)) × (new ≡ old)
Step geo old command (Ok answer) new = Accepts geo old command × Effect geo old command answer new

-- these replies to these commands, one step after another
abbrev pub Run : Geometry → State → List Command → List Reply → State → Type 0
Run geo old [] [] new = new ≡ old
Run geo old (command ∷ commands) (reply ∷ replies) new = (mid : State) × Step geo old command reply mid × Run geo mid commands replies new
Run geo old [] (reply ∷ replies) new = ⊥
Run geo old (command ∷ commands) [] new = ⊥
