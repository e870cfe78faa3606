-- What the reached directories of a table tell together.
use Rattle.std.specs.Prelude.{◌≡◌, ℕ, zero, suc, ◌<◌, ◌==◌, Bool, List, [], ◌++◌, map, take, length, slice_index_or, Option, Some, None, ◌⊎◌, if◌then◌else◌, IsFalse}
use Rattle.std.specs.List.{Contains}
use Rattle.std.specs.Option.{option_map_or}
use Rattle.sets.specs.Members.{is_among}
use Rattle.findings.specs.declared.finding.Finding.{Finding}
use Rattle.findings.specs.declared.finding.Finding.TheVariants.{RootBad, BadDotDot, ExtraName}
use Rattle.model.specs.Layout.{Geometry, root}
use Rattle.model.specs.View.{View}
use Rattle.model.specs.Uses.{is_directory_at}
use Rattle.model.specs.Tables.{value_in}
use Rattle.phase_names.specs.declared.look.Naming.{Naming}
use Rattle.phase_names.specs.declared.entries.Entry.{Entry}
use Rattle.phase_names.specs.Told.{Told}

-- P holds of x at a number below n
abbrev pub AtBelow : {K : Type 0} → (ℕ → K → Type 0) → ℕ → K → Type 0
AtBelow P n x = (k : ℕ) × (k < n) × P k x

-- what the table tells of directory d, if it is reached
abbrev pub told_by : List (ℕ × Told) → List ℕ → ℕ → Option Told
told_by table reached d = if is_among reached d then value_in table d else None

-- f is found of the slots of the reached directory d alone
abbrev pub IsFoundAlone : List (ℕ × Told) → List ℕ → ℕ → Finding → Type 0
IsFoundAlone table reached d f = (told : Told) × (told_by table reached d ≡ Some told) × Contains told.findings f

-- these slots of directory d
abbrev pub entries_from : ℕ → List Naming → List Entry
entries_from d namings = map (λ naming. record { directory = d; slot = naming.slot; inode = naming.inode }) namings

-- the entries of directory d, if it is reached
abbrev pub entries_at : List (ℕ × Told) → List ℕ → ℕ → List Entry
entries_at table reached d = option_map_or (λ told. entries_from d told.directories) (told_by table reached d) []

-- the entries of the reached directories below n, in order of the directories and then of their slots
unfoldable pub entries_below : List (ℕ × Told) → List ℕ → ℕ → List Entry
entries_below table reached zero = []
entries_below table reached (suc d) = entries_below table reached d ++ entries_at table reached d

-- the numbers that entries name
abbrev pub inodes_of : List Entry → List ℕ
inodes_of entries = map (λ entry. entry.inode) entries

-- entry e stands at index k
abbrev pub StandsAt : List Entry → ℕ → Entry → Type 0
StandsAt entries k e = (k < length entries) × (slice_index_or entries k e ≡ e)

-- f is that the entry at index k names the root, or what an entry before it names
abbrev pub IsExtraAt : List Entry → ℕ → Finding → Type 0
IsExtraAt entries k f = (e : Entry) × StandsAt entries k e × ((e.inode ≡ root) ⊎ Contains (inodes_of (take k entries)) e.inode) × (ExtraName e.directory e.slot ≡ f)

-- the number that slot 1 of directory d names, 0 where it names none or d is not in the table
abbrev pub parent_in : List (ℕ × Told) → ℕ → ℕ
parent_in table d = option_map_or (λ told. told.parent) (value_in table d) 0

-- the entry at index k names directory d, and stands in the directory that slot 1 of d names
abbrev pub IsHeldAt : List (ℕ × Told) → List Entry → ℕ → ℕ → Type 0
IsHeldAt table entries k d = (e : Entry) × StandsAt entries k e × (parent_in table e.inode ≡ e.directory) × (e.inode ≡ d)

-- whether directory d with this parent has it rightly, where these directories have an entry in their parents
abbrev pub has_parent : List ℕ → ℕ → ℕ → Bool
has_parent held d parent = if d == root then parent == root else is_among held d

-- f is that the reached directory d does not have its parent
abbrev pub IsWithoutParent : List (ℕ × Told) → List ℕ → List ℕ → ℕ → Finding → Type 0
IsWithoutParent table reached held d f = (told : Told) × (told_by table reached d ≡ Some told) × IsFalse (has_parent held d told.parent) × (BadDotDot d ≡ f)

-- f is that the root is no sound directory
abbrev pub IsRootBad : Geometry → View → Finding → Type 0
IsRootBad geo view f = IsFalse (is_directory_at geo view root) × (RootBad ≡ f)
