-- What the slots of a directory tell by themselves, whether a path reaches it or not.
use Rattle.std.specs.Prelude.{◌≡◌, ℕ, zero, suc, ◌<◌, ◌≤◌, nat_le, ◌==◌, ◌||◌, List, [], ◌∷◌, ◌++◌, ◌↔◌, if◌then◌else◌, IsFalse}
use Rattle.std.specs.List.{Contains}
use Rattle.std.specs.List.Sorted.{IsStrictlySortedBy}
use Rattle.findings.specs.declared.finding.Finding.{Finding}
use Rattle.findings.specs.declared.finding.Finding.TheVariants.{BadSlot, DupName, BadDot, ToUnsound}
use Rattle.findings.specs.Findings.{finding_cmp}
use Rattle.model.specs.Layout.{Geometry, root}
use Rattle.model.specs.View.{View}
use Rattle.model.specs.Uses.{is_sound, is_directory_at}
use Rattle.model.specs.Slots.{Good, Bad, slot, number_in, Names}
use Rattle.model.specs.Reach.{slot_count}
use Rattle.directories.specs.Pieces.{IsTable, Numbers}
use Rattle.phase_names.specs.declared.look.Naming.{Naming}

-- the findings of a directory's slots alone, the number that its slot 1 names, and the slots from 2 on that name the root or a sound directory
pub record Told : Type 0 where
  pub findings : List Finding
  pub parent : ℕ
  pub directories : List Naming

-- what is found of the slots of directory d alone, if it is reachable
abbrev pub IsLocal : Geometry → View → ℕ → Finding → Type 0
IsLocal geo view d (BadSlot e s) = (e ≡ d) × (2 ≤ s) × (slot geo view d s ≡ Bad)
IsLocal geo view d (DupName e s) = (e ≡ d) × (t i j : ℕ) × (name : List ℕ) × (2 ≤ t) × (t < s) × (slot geo view d t ≡ Good j name) × (slot geo view d s ≡ Good i name)
IsLocal geo view d (BadDot e) = (e ≡ d) × (Names geo view d 0 d → ⊥)
IsLocal geo view d (ToUnsound e s) = (e ≡ d) × (i : ℕ) × (2 ≤ s) × Names geo view d s i × IsFalse (is_sound geo (view.inode i))
IsLocal geo view d _ = ⊥

-- slot s with this number, if that is the root's or a sound directory's
abbrev pub naming_of : Geometry → View → ℕ → ℕ → List Naming
naming_of geo view s i = if i == root || is_directory_at geo view i then record { slot = s; inode = i } ∷ [] else []

-- in order, the slots from 2 on and below n of directory d that name the root or a sound directory
unfoldable pub namings_below : Geometry → View → ℕ → ℕ → List Naming
namings_below geo view d zero = []
namings_below geo view d (suc s) = namings_below geo view d s ++ (if nat_le 2 s then naming_of geo view s (number_in (slot geo view d s)) else [])

-- what the slots of directory d tell: each finding once and in order
pub record IsTold (geo : Geometry) (view : View) (d : ℕ) (told : Told) : Type 0 where
  pub in_order : IsStrictlySortedBy finding_cmp told.findings
  pub findings : (f : Finding) → Contains told.findings f ↔ IsLocal geo view d f
  pub parent : told.parent ≡ number_in (slot geo view d 1)
  pub directories : told.directories ≡ namings_below geo view d (slot_count geo)

-- the table of what is told of each sound directory among these numbers
abbrev pub IsPart : Geometry → View → Numbers → List (ℕ × Told) → Type 0
IsPart geo view numbers part = IsTable geo view (IsTold geo view) numbers part
