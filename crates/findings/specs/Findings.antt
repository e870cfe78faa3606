-- What a check finds: one sentence for each kind, and their order.
use Rattle.std.specs.Prelude.{◌≡◌, ◌≢◌, ℕ, ◌<◌, ◌≤◌, Bool, true, false, List, [], ◌∷◌, ◌⊎◌, ◌↔◌, IsTrue, IsFalse}
use Rattle.std.specs.List.{Contains}
use Rattle.std.specs.List.Sorted.{IsStrictlySortedBy}
use Rattle.std.specs.Cmp.Lexicographic.{slice_cmp}
use Rattle.std.specs.declared.cmp.Ordering.{Ordering}
use Rattle.std.specs.Ordering.{nat_cmp, on}
use Rattle.findings.specs.declared.finding.Finding.{Finding}
use Rattle.findings.specs.declared.finding.Finding.TheVariants.{BadInode, BadPointer, Duplicate, RootBad, BadSlot, DupName, BadDot, BadDotDot, ToUnsound, ExtraName, LostInode, CountHigh, CountLow, LostBlock, UnmarkedBlock, LostNumber, UnmarkedInode}
use Rattle.model.specs.Layout.{Geometry, is_data_address, is_number, root}
use Rattle.model.specs.View.{View}
use Rattle.model.specs.Uses.{is_sound, is_sound_at, is_directory_at, IsUse, IsClaim, IsClaimed, Before}
use Rattle.model.specs.Slots.{Good, Bad, slot, Names}
use Rattle.model.specs.Reach.{IsReachableDirectory, IsReachable, IsEntry, HasEntries, HasParent}

-- what a finding says
abbrev pub IsFinding : Geometry → View → Finding → Type 0
-- a record that is neither free nor sound
IsFinding geo view (BadInode i) = IsTrue (is_number geo i) × ((view.inode i).mode ≢ 0) × IsFalse (is_sound geo (view.inode i))
-- a use that is no claim
IsFinding geo view (BadPointer i k v) = IsUse geo view i k v × IsFalse (is_data_address geo v)
-- a claim of a block that an earlier claim owns
IsFinding geo view (Duplicate i k a) = IsClaim geo view i k a × (j : ℕ) × (l : ℕ) × IsClaim geo view j l a × Before j l i k
-- the root is no sound directory
IsFinding geo view RootBad = IsFalse (is_directory_at geo view root)
-- a bad slot from 2 on of a reachable directory
IsFinding geo view (BadSlot d s) = IsReachableDirectory geo view d × (2 ≤ s) × (slot geo view d s ≡ Bad)
-- an entry whose name stands in an earlier entry of the same directory
IsFinding geo view (DupName d s) = IsReachableDirectory geo view d × (t i j : ℕ) × (name : List ℕ) × (2 ≤ t) × (t < s) × (slot geo view d t ≡ Good j name) × (slot geo view d s ≡ Good i name)
-- a reachable directory whose slot 0 does not name it
IsFinding geo view (BadDot d) = IsReachableDirectory geo view d × (Names geo view d 0 d → ⊥)
-- a reachable directory whose slot 1 does not name its parent
IsFinding geo view (BadDotDot d) = IsReachableDirectory geo view d × (HasParent geo view d → ⊥)
-- an entry that names an inode that is not sound
IsFinding geo view (ToUnsound d s) = (i : ℕ) × IsEntry geo view d s i × IsFalse (is_sound geo (view.inode i))
-- an entry that names the root, or a sound directory that an earlier entry names
IsFinding geo view (ExtraName d s) = (i : ℕ) × IsEntry geo view d s i × ((i ≡ root) ⊎ (IsTrue (is_directory_at geo view i) × (e : ℕ) × (t : ℕ) × IsEntry geo view e t i × Before e t d s))
-- a sound inode that nothing reaches
IsFinding geo view (LostInode i) = IsTrue (is_sound_at geo view i) × (IsReachable geo view i → ⊥)
-- a reachable inode with more links than entries
IsFinding geo view (CountHigh i l e) = IsReachable geo view i × (l ≡ (view.inode i).links) × HasEntries geo view i e × (e < l)
-- a reachable inode with fewer links than entries
IsFinding geo view (CountLow i l e) = IsReachable geo view i × (l ≡ (view.inode i).links) × HasEntries geo view i e × (l < e)
-- a marked data block that no inode claims
IsFinding geo view (LostBlock a) = IsTrue (is_data_address geo a) × IsTrue (view.block_marked a) × (IsClaimed geo view a → ⊥)
-- a claimed block that is not marked
IsFinding geo view (UnmarkedBlock a) = IsClaimed geo view a × IsFalse (view.block_marked a)
-- a marked number whose record is free
IsFinding geo view (LostNumber i) = IsTrue (is_number geo i) × IsTrue (view.number_marked i) × ((view.inode i).mode ≡ 0)
-- a record that is not free and whose number is not marked
IsFinding geo view (UnmarkedInode i) = IsTrue (is_number geo i) × ((view.inode i).mode ≢ 0) × IsFalse (view.number_marked i)

-- the place of a finding's kind in the table of kinds, and its numbers
abbrev pub finding_key : Finding → List ℕ
finding_key (BadInode i) = 0 ∷ i ∷ []
finding_key (BadPointer i k v) = 1 ∷ i ∷ k ∷ v ∷ []
finding_key (Duplicate i k a) = 2 ∷ i ∷ k ∷ a ∷ []
finding_key RootBad = 3 ∷ []
finding_key (BadSlot d s) = 4 ∷ d ∷ s ∷ []
finding_key (DupName d s) = 5 ∷ d ∷ s ∷ []
finding_key (BadDot d) = 6 ∷ d ∷ []
finding_key (BadDotDot d) = 7 ∷ d ∷ []
finding_key (ToUnsound d s) = 8 ∷ d ∷ s ∷ []
finding_key (ExtraName d s) = 9 ∷ d ∷ s ∷ []
finding_key (LostInode i) = 10 ∷ i ∷ []
finding_key (CountHigh i l e) = 11 ∷ i ∷ l ∷ e ∷ []
finding_key (CountLow i l e) = 12 ∷ i ∷ l ∷ e ∷ []
finding_key (LostBlock a) = 13 ∷ a ∷ []
finding_key (UnmarkedBlock a) = 14 ∷ a ∷ []
finding_key (LostNumber i) = 15 ∷ i ∷ []
finding_key (UnmarkedInode i) = 16 ∷ i ∷ []

-- Findings are in order of their kinds, and then of their numbers from left to right.
abbrev pub finding_cmp : Finding → Finding → Ordering
finding_cmp = on finding_key (slice_cmp nat_cmp)

-- fs are the findings of the view, each once and in order
pub record AreFindings (geo : Geometry) (view : View) (fs : List Finding) : Type 0 where
  pub in_order : IsStrictlySortedBy finding_cmp fs
  pub exactly : (f : Finding) → Contains fs f ↔ IsFinding geo view f

-- The soft kinds are those that soft updates may leave.
abbrev pub is_soft : Finding → Bool
is_soft (LostInode i) = true
is_soft (CountHigh i l e) = true
is_soft (LostBlock a) = true
is_soft (LostNumber i) = true
is_soft _ = false

-- fs are the findings of the kinds that pass the test, each once and in order
pub record AreFindingsOf (kinds : Finding → Bool) (geo : Geometry) (view : View) (fs : List Finding) : Type 0 where
  pub in_order : IsStrictlySortedBy finding_cmp fs
  pub exactly : (f : Finding) → Contains fs f ↔ (IsTrue (kinds f) × IsFinding geo view f)

-- the kinds that compare the numbers' bits with their records
abbrev pub is_of_numbers : Finding → Bool
is_of_numbers (LostNumber i) = true
is_of_numbers (UnmarkedInode i) = true
is_of_numbers _ = false

-- the kinds of phase 1: records and the blocks that they use
abbrev pub is_of_blocks : Finding → Bool
is_of_blocks (BadInode i) = true
is_of_blocks (BadPointer i k v) = true
is_of_blocks (Duplicate i k a) = true
is_of_blocks _ = false

-- the kinds of phase 2: the slots of reachable directories
abbrev pub is_of_names : Finding → Bool
is_of_names RootBad = true
is_of_names (BadSlot d s) = true
is_of_names (DupName d s) = true
is_of_names (BadDot d) = true
is_of_names (BadDotDot d) = true
is_of_names (ToUnsound d s) = true
is_of_names (ExtraName d s) = true
is_of_names _ = false

-- the kind of phase 3: what nothing reaches
abbrev pub is_of_connectivity : Finding → Bool
is_of_connectivity (LostInode i) = true
is_of_connectivity _ = false

-- the kinds of phase 4: links that are not as many as the entries
abbrev pub is_of_counts : Finding → Bool
is_of_counts (CountHigh i l e) = true
is_of_counts (CountLow i l e) = true
is_of_counts _ = false

-- the kinds of phase 5: the maps of the groups
abbrev pub is_of_maps : Finding → Bool
is_of_maps (LostBlock a) = true
is_of_maps (UnmarkedBlock a) = true
is_of_maps (LostNumber i) = true
is_of_maps (UnmarkedInode i) = true
is_of_maps _ = false

-- every finding is of a soft kind
abbrev pub AllSoft : Geometry → View → Type 0
AllSoft geo view = (f : Finding) → IsFinding geo view f → IsTrue (is_soft f)
