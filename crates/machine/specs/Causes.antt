-- When a command is refused, and with what: the first cause in the order of its list.
use Rattle.std.specs.Prelude.{◌≡◌, ℕ, ◌+◌, ◌/◌, Bool, false, not, ◌&&◌, ◌||◌, ◌==◌, nat_lt, nat_le, List, [], ◌∷◌, length, Option, Some, None, is_some, is_none, ◌⊎◌, if◌then◌else◌, unwrap_or}
use Rattle.std.specs.List.{list_all}
use Rattle.std.specs.Option.{option_map_or, option_and_then}
use Rattle.std.specs.Result.{result_err}
use Rattle.model.specs.Layout.{Geometry, root, is_number, block_count}
use Rattle.model.specs.View.{View}
use Rattle.model.specs.Shape.{most_blocks}
use Rattle.model.specs.Uses.{blocks_of, is_directory_at, is_sound_at}
use Rattle.model.specs.Slots.{slot, number_in}
use Rattle.model.specs.Reach.{slot_count}
use Rattle.model.specs.Metadata.{SameMetadata}
use Rattle.findings.specs.Findings.{is_soft}
use Rattle.layout.specs.declared.refusal.Refusal.{Refusal}
use Rattle.layout.specs.declared.refusal.Refusal.TheVariants.{NotFound, Exists, NotDirectory, IsDirectory, NotEmpty, BadName, NoInode, NoBlock, TooManyLinks, TooBig, BadHandle, BadIndex, BadPiece, TooManySnapshots, NoSnapshot, ForeignPlan, AlreadyDone, PlanNotSoft, PlanStands, NoPlan, IsRoot, TooManyOpen}
use Rattle.machine.specs.Below.{any_below, when, first_of}
use Rattle.machine.specs.Standing.{too_many}
use Rattle.machine.specs.State.{State, Plan, open_at, handle_count, is_kept, snapshot_at, latest}
use Rattle.machine.specs.Command.{Command, Create, Mkdir, Link, Unlink, Rmdir, Rename, Open, Close, Read, Write, Truncate, SetAttributes, ReadAttributes, ListNames, Stat, Freeze, SnapRead, Release, Install, RepairAt, Flush, Sync}
use Rattle.machine.specs.Paths.{parts_of, parts, walk, target, holder, number_at}
use Rattle.machine.specs.Room.{has_number, unmarked_blocks, blocks_to_append, blocks_to_enter, is_full}
use Rattle.machine.specs.Cells.{block_of}

-- ---- causes that several lists share

abbrev pub bad_name : List ℕ → Option Refusal
bad_name path = when (is_none (parts_of path)) BadName

abbrev pub is_root_path : List ℕ → Bool
is_root_path path = option_map_or (λ ps. nat_le (length ps) 0) (parts_of path) false

-- "/" where an entry is needed
abbrev pub top : List ℕ → Option Refusal
top path = when (is_root_path path) IsRoot

-- the walk to the last part ends before
abbrev pub no_way : Geometry → View → List ℕ → Option Refusal
no_way geo view path = result_err (walk geo view root (parts path))

-- and so it does, or the last part is not there
abbrev pub missing : Geometry → View → List ℕ → Option Refusal
missing geo view path = result_err (target geo view (parts path))

abbrev pub taken : Geometry → View → List ℕ → Option Refusal
taken geo view path = when (is_none (missing geo view path)) Exists

abbrev pub no_number : Geometry → View → Option Refusal
no_number geo view = when (not (has_number geo view)) NoInode

abbrev pub too_few : Geometry → View → ℕ → Option Refusal
too_few geo view need = when (nat_lt (unmarked_blocks geo view) need) NoBlock

abbrev pub too_many_links : View → ℕ → Option Refusal
too_many_links view i = when (nat_le 32767 (view.inode i).links) TooManyLinks

abbrev pub full : Geometry → View → ℕ → Option Refusal
full geo view d = when (is_full geo view d) TooBig

abbrev pub not_open : State → ℕ → Option Refusal
not_open state h = when (is_none (open_at state h)) BadHandle

-- a directory where a file is needed, and the other way round
abbrev pub not_file : Geometry → View → ℕ → Option Refusal
not_file geo view i = when (is_directory_at geo view i) IsDirectory

abbrev pub not_directory : Geometry → View → ℕ → Option Refusal
not_directory geo view i = when (not (is_directory_at geo view i)) NotDirectory

-- block k stands past the end of file i
abbrev pub past : Geometry → View → ℕ → ℕ → Option Refusal
past geo view i k = when (nat_le (blocks_of (view.inode i).size) k) BadIndex

-- a cause that matters only where the test passes
abbrev pub only : Bool → Option Refusal → Option Refusal
only test cause = if test then cause else None

-- a cause in the image of a snapshot, and in the plan, where one stands
abbrev pub in_image : (View → Option Refusal) → Option View → Option Refusal
in_image cause image = option_and_then cause image

abbrev pub in_plan : (Plan → Option Refusal) → State → Option Refusal
in_plan cause state = option_and_then cause state.plan

-- a number whose record is not free
abbrev pub is_used_number : Geometry → View → ℕ → Bool
is_used_number geo view i = is_number geo i && not ((view.inode i).mode == 0)

-- the inode of handle h
abbrev pub file_of : State → ℕ → ℕ
file_of state h = unwrap_or (open_at state h) 0

-- a directory with a name other than the dots
abbrev pub has_names : Geometry → View → ℕ → Bool
has_names geo view d = any_below (slot_count geo) (λ s. nat_le 2 s && not (number_in (slot geo view d s) == 0))

-- how many blocks a write at index k of file i needs: none in place, one for a block that a snapshot keeps
abbrev pub blocks_to_write : Geometry → State → ℕ → ℕ → ℕ
blocks_to_write geo state i k =
    if nat_lt k (blocks_of (state.view.inode i).size)
    then (if is_kept state (block_of geo state.view i k) then 1 else 0)
    else blocks_to_append geo (state.view.inode i)

-- ---- the lists

unfoldable pub causes : Geometry → State → Command → List (Option Refusal)
causes geo old (Create p words) =
    let v = old.view in
    let d = holder geo v p in
    bad_name p ∷ top p ∷ no_way geo v p ∷ taken geo v p ∷ no_number geo v ∷ full geo v d ∷ too_few geo v (blocks_to_enter geo v d) ∷ []
causes geo old (Mkdir p words) =
    let v = old.view in
    let d = holder geo v p in
    bad_name p ∷ top p ∷ no_way geo v p ∷ taken geo v p ∷ too_many_links v d ∷ no_number geo v ∷ full geo v d ∷ too_few geo v (1 + blocks_to_enter geo v d) ∷ []
causes geo old (Link p q) =
    let v = old.view in
    let i = number_at geo v p in
    let d = holder geo v q in
    bad_name p ∷ bad_name q ∷ top q ∷ missing geo v p ∷ not_file geo v i ∷ no_way geo v q ∷ taken geo v q
    ∷ too_many_links v i ∷ full geo v d ∷ too_few geo v (blocks_to_enter geo v d) ∷ []
causes geo old (Unlink p) = bad_name p ∷ top p ∷ missing geo old.view p ∷ not_file geo old.view (number_at geo old.view p) ∷ []
causes geo old (Rmdir p) =
    let v = old.view in
    let i = number_at geo v p in
    bad_name p ∷ top p ∷ missing geo v p ∷ not_directory geo v i ∷ when (has_names geo v i) NotEmpty ∷ []
causes geo old (Rename p q) =
    let v = old.view in
    let i = number_at geo v p in
    let d = holder geo v q in
    let across = not (holder geo v p == d) in
    bad_name p ∷ bad_name q ∷ top p ∷ top q ∷ missing geo v p ∷ no_way geo v q ∷ only across (not_file geo v i) ∷ taken geo v q
    ∷ only across (too_many_links v i) ∷ only across (full geo v d) ∷ only across (too_few geo v (blocks_to_enter geo v d)) ∷ []
causes geo old (Open p) =
    bad_name p ∷ missing geo old.view p ∷ not_file geo old.view (number_at geo old.view p)
    ∷ when (not (any_below handle_count (λ h. is_none (old.opened h)))) TooManyOpen ∷ []
causes geo old (Close h) = not_open old h ∷ []
causes geo old (Read h k) = not_open old h ∷ past geo old.view (file_of old h) k ∷ []
causes geo old (Write h k piece) =
    not_open old h ∷ when (length piece == 0 || nat_lt 1024 (length piece)) BadPiece ∷ when (nat_le (most_blocks geo) k) TooBig
    ∷ when (nat_lt ((old.view.inode (file_of old h)).size / 1024) k) BadIndex ∷ too_few geo old.view (blocks_to_write geo old (file_of old h) k) ∷ []
causes geo old (Truncate h n) = not_open old h ∷ when (nat_lt (old.view.inode (file_of old h)).size n) BadIndex ∷ []
causes geo old (SetAttributes i words) = when (not (is_sound_at geo old.view i)) NotFound ∷ []
causes geo old (ReadAttributes i) = when (not (is_sound_at geo old.view i)) NotFound ∷ []
causes geo old (ListNames p) = bad_name p ∷ missing geo old.view p ∷ not_directory geo old.view (number_at geo old.view p) ∷ []
causes geo old (Stat p) = bad_name p ∷ missing geo old.view p ∷ []
causes geo old Freeze = when (too_many old.snapshots) TooManySnapshots ∷ []
causes geo old (SnapRead s i k) =
    let o = snapshot_at old s in
    when (is_none o) NoSnapshot ∷ in_image (λ v. when (not (is_used_number geo v i)) NotFound) o ∷ in_image (λ v. not_file geo v i) o ∷ in_image (λ v. past geo v i k) o ∷ []
causes geo old (Release s) = when (is_none (snapshot_at old s)) NoSnapshot ∷ []
causes geo old (Install check) =
    when (is_none (latest old)) NoSnapshot ∷ when (is_some old.plan) PlanStands ∷ when (not (list_all is_soft check.findings)) PlanNotSoft ∷ []
causes geo old (RepairAt k) =
    when (is_none old.plan) NoPlan ∷ in_plan (λ plan. when (nat_le (length plan.repairs) k) BadIndex) old ∷ in_plan (λ plan. when (plan.done k) AlreadyDone) old ∷ []
causes geo old (Flush a) = when (nat_le (block_count geo) a) BadIndex ∷ []
causes geo old Sync = []

-- the first of these causes
abbrev pub refusal_of : Geometry → State → Command → Option Refusal
refusal_of geo old command = first_of (causes geo old command)

-- A check that is to be installed belongs to the snapshot of the latest freeze: both have the same metadata.
abbrev pub Belongs : Geometry → State → Command → Type 0
Belongs geo old (Install check) = (image : View) × (latest old ≡ Some image) × SameMetadata geo image check.image
Belongs geo old _ = Unit {0}

-- r is the first cause that holds
abbrev pub FirstRefusal : Geometry → State → Command → Refusal → Type 0
FirstRefusal geo old command r =
    (refusal_of geo old command ≡ Some r) ⊎ ((refusal_of geo old command ≡ None) × (Belongs geo old command → ⊥) × (r ≡ ForeignPlan))

-- no cause holds
abbrev pub Accepts : Geometry → State → Command → Type 0
Accepts geo old command = (refusal_of geo old command ≡ None) × Belongs geo old command
