-- What is gathered of some inodes and of their uses: the claims, and what is wrong with one inode alone.
use Rattle.std.specs.Prelude.{◌≡◌, ℕ, Bool, ◌&&◌, ◌||◌, ◌==◌, nat_lt, List, [], ◌∷◌, ◌⊎◌, ◌↔◌, IsTrue}
use Rattle.std.specs.Cmp.Lexicographic.{slice_cmp}
use Rattle.std.specs.List.{Contains}
use Rattle.std.specs.List.Sorted.{IsStrictlySortedBy}
use Rattle.std.specs.declared.cmp.Ordering.{Ordering}
use Rattle.std.specs.Ordering.{nat_cmp, on}
use Rattle.findings.specs.declared.finding.Finding.{Finding}
use Rattle.findings.specs.declared.finding.Finding.TheVariants.{BadInode, BadPointer}
use Rattle.findings.specs.Findings.{IsFinding, finding_cmp}
use Rattle.model.specs.Layout.{Geometry}
use Rattle.model.specs.View.{View}
use Rattle.model.specs.Uses.{IsClaim}
use Rattle.model.specs.Units.{Units, stands_in}
use Rattle.phase_blocks.specs.declared.parts.Claim.{Claim}

-- the claims, and the findings in order
pub record Gathered : Type 0 where
  pub claims : List Claim
  pub found : List Finding

-- Claims are in order of their blocks, then of their inodes, and then of their positions.
abbrev pub claim_key : Claim → List ℕ
claim_key c = c.block ∷ c.inode ∷ c.position ∷ []

abbrev pub claim_cmp : Claim → Claim → Ordering
claim_cmp = on claim_key (slice_cmp nat_cmp)

-- a set of inodes, and a set of uses by inode and position
abbrev pub Inodes : Type 0
Inodes = ℕ → Bool

abbrev pub Uses : Type 0
Uses = ℕ → ℕ → Bool

-- one of these uses claims a block
abbrev pub IsClaimAmong : Geometry → View → Uses → Claim → Type 0
IsClaimAmong geo view uses c = IsTrue (uses c.inode c.position) × IsClaim geo view c.inode c.position c.block

-- what is found by looking at one of these inodes' records, or at one of these uses, alone
abbrev pub IsFoundAmong : Geometry → View → Inodes → Uses → Finding → Type 0
IsFoundAmong geo view inodes uses (BadInode i) = IsTrue (inodes i) × IsFinding geo view (BadInode i)
IsFoundAmong geo view inodes uses (BadPointer i k v) = IsTrue (uses i k) × IsFinding geo view (BadPointer i k v)
IsFoundAmong geo view inodes uses _ = ⊥

-- all claims among these uses, in any order, and all that is found of one inode alone
pub record Tells (geo : Geometry) (view : View) (inodes : Inodes) (uses : Uses) (gathered : Gathered) : Type 0 where
  pub claims : (c : Claim) → Contains gathered.claims c ↔ IsClaimAmong geo view uses c
  pub found_in_order : IsStrictlySortedBy finding_cmp gathered.found
  pub found : (f : Finding) → Contains gathered.found f ↔ IsFoundAmong geo view inodes uses f

-- the same, with the claims in order, each once
pub record IsGathered (geo : Geometry) (view : View) (inodes : Inodes) (uses : Uses) (gathered : Gathered) : Type 0 where
  pub claims_in_order : IsStrictlySortedBy claim_cmp gathered.claims
  pub told : Tells geo view inodes uses gathered

-- what is gathered of the inodes of some units, and of all their uses
abbrev pub IsPart : Geometry → View → Units → Gathered → Type 0
IsPart geo view units = IsGathered geo view (stands_in geo units) (λ i k. stands_in geo units i)

-- the part of no group
abbrev pub nothing_gathered : Gathered
nothing_gathered = record { claims = []; found = [] }

-- the same findings, and one claim more
pub record AddsClaim (old new : Gathered) (claim : Claim) : Type 0 where
  pub members : (c : Claim) → Contains new.claims c ↔ (Contains old.claims c ⊎ (c ≡ claim))
  pub found : new.found ≡ old.found

-- the same claims, and one finding more
pub record AddsFinding (old new : Gathered) (finding : Finding) : Type 0 where
  pub claims : new.claims ≡ old.claims
  pub in_order : IsStrictlySortedBy finding_cmp new.found
  pub members : (f : Finding) → Contains new.found f ↔ (Contains old.found f ⊎ (f ≡ finding))

-- a set with one inode more
abbrev pub with_inode : Inodes → ℕ → Inodes
with_inode inodes i j = inodes j || j == i

-- a set with one use more, with an inode's uses at the positions below k, and with all its uses
abbrev pub with_use : Uses → ℕ → ℕ → Uses
with_use uses i k j l = uses j l || j == i && l == k

abbrev pub with_uses_below : Uses → ℕ → ℕ → Uses
with_uses_below uses i k j l = uses j l || j == i && nat_lt l k

abbrev pub with_uses : Uses → ℕ → Uses
with_uses uses i j l = uses j l || j == i
