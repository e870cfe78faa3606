-- What a walk over the slots of a directory has found so far.
use Rattle.std.specs.Prelude.{◌≡◌, ℕ, ◌<◌, ◌≤◌, List, ◌⊎◌, ◌↔◌, IsFalse}
use Rattle.std.specs.Hash.FoldHasher.{finish, initial, write}
use Rattle.std.specs.List.{Contains}
use Rattle.std.specs.List.Sorted.{IsStrictlySortedBy}
use Rattle.findings.specs.declared.finding.Finding.{Finding}
use Rattle.findings.specs.declared.finding.Finding.TheVariants.{BadSlot, DupName, BadDot, ToUnsound}
use Rattle.findings.specs.Findings.{finding_cmp}
use Rattle.model.specs.Layout.{Geometry}
use Rattle.model.specs.View.{View}
use Rattle.model.specs.Uses.{is_sound}
use Rattle.model.specs.Slots.{Good, Bad, slot, Names}
use Rattle.phase_names.specs.declared.look.Naming.{Naming}
use Rattle.phase_names.specs.Told.{namings_below}

-- the names of the slots, the findings, and the slots that name the root or a sound directory
pub record Walked : Type 0 where
  pub names : List (ℕ × List ℕ)
  pub findings : List Finding
  pub directories : List Naming

-- a number that a name decides, and most often decides the name
abbrev pub digest : List ℕ → ℕ
digest name = finish (write initial name)

-- a name with its digest
abbrev pub keyed : List ℕ → ℕ × List ℕ
keyed name = (digest name, name)

-- x is the name of slot s of directory d, which is from 2 on, with its digest
abbrev pub IsNameAt : Geometry → View → ℕ → ℕ → ℕ × List ℕ → Type 0
IsNameAt geo view d s x = (i : ℕ) × (name : List ℕ) × (2 ≤ s) × (slot geo view d s ≡ Good i name) × (keyed name ≡ x)

-- an earlier slot from 2 on has the name of slot s
abbrev pub IsRepeated : Geometry → View → ℕ → ℕ → Type 0
IsRepeated geo view d s = (t i j : ℕ) × (name : List ℕ) × (2 ≤ t) × (t < s) × (slot geo view d t ≡ Good j name) × (slot geo view d s ≡ Good i name)

-- slot s names an inode that is not sound
abbrev pub IsToUnsound : Geometry → View → ℕ → ℕ → Type 0
IsToUnsound geo view d s = (i : ℕ) × Names geo view d s i × IsFalse (is_sound geo (view.inode i))

-- what is found of slot s from 2 on of directory d, by itself and the slots before it
abbrev pub IsFoundInSlot : Geometry → View → ℕ → ℕ → Finding → Type 0
IsFoundInSlot geo view d s f = (2 ≤ s) × (((slot geo view d s ≡ Bad) × (BadSlot d s ≡ f)) ⊎ ((IsRepeated geo view d s × (DupName d s ≡ f)) ⊎ (IsToUnsound geo view d s × (ToUnsound d s ≡ f))))

-- f is that slot 0 of directory d does not name it
abbrev pub IsBadDot : Geometry → View → ℕ → Finding → Type 0
IsBadDot geo view d f = (Names geo view d 0 d → ⊥) × (BadDot d ≡ f)

-- what is found of directory d by its slots below n
abbrev pub IsFoundBelow : Geometry → View → ℕ → ℕ → Finding → Type 0
IsFoundBelow geo view d n f = IsBadDot geo view d f ⊎ ((s : ℕ) × (s < n) × IsFoundInSlot geo view d s f)

-- what the walk has, once it looked at the slots of directory d below n
pub record IsWalked (geo : Geometry) (view : View) (d n : ℕ) (walk : Walked) : Type 0 where
  pub names : (x : ℕ × List ℕ) → Contains walk.names x ↔ ((s : ℕ) × (s < n) × IsNameAt geo view d s x)
  pub in_order : IsStrictlySortedBy finding_cmp walk.findings
  pub findings : (f : Finding) → Contains walk.findings f ↔ IsFoundBelow geo view d n f
  pub directories : walk.directories ≡ namings_below geo view d n
