-- Each finding is of some group.
use Rattle.std.proofs.Common.{◌<◌, ℕ, ◌/◌, inl, arith, IsTrue}
use Rattle.std.proofs.lemmas.Bool.{and_parts}
use Rattle.findings.specs.declared.finding.Finding.{Finding}
use Rattle.findings.specs.declared.finding.Finding.TheVariants.{BadInode, BadPointer, Duplicate, RootBad, BadSlot, DupName, BadDot, BadDotDot, ToUnsound, ExtraName, LostInode, CountHigh, CountLow, LostBlock, UnmarkedBlock, LostNumber, UnmarkedInode}
use Rattle.findings.specs.Findings.{IsFinding}
use Rattle.model.specs.Layout.{Geometry, IsGeometry, is_data_address, is_number, group_of_address}
use Rattle.model.specs.View.{View}
use Rattle.model.specs.Uses.{IsUse, is_sound, is_sound_at}
use Rattle.model.specs.Reach.{IsReachable, IsReachableDirectory}
use Rattle.model.proofs.Addresses.{address_in_group, number_in_group, data_range}
use Rattle.model.proofs.ReachLemmas.{reachable_sound}
use Rattle.model.proofs.Uses.{use_parts}
use Rattle.findings.specs.Groups.{group_of}

module _ (geo : Geometry) (ok : IsGeometry geo) (view : View) where
  sound_in : (i : ℕ) → IsTrue (is_sound_at geo view i) → i / geo.inodes < geo.groups
  sound_in i h = number_in_group geo ok i (and_parts (is_number geo i) (is_sound geo (view.inode i)) h).0

  reached_in : (i : ℕ) → IsReachable geo view i → i / geo.inodes < geo.groups
  reached_in i h = sound_in i (reachable_sound geo view i h)

  directory_in : (d : ℕ) → IsReachableDirectory geo view d → d / geo.inodes < geo.groups
  directory_in d h = reached_in d (inl h)

  data_in : (a : ℕ) → IsTrue (is_data_address geo a) → group_of_address geo a < geo.groups
  data_in a h = address_in_group geo ok a (data_range geo ok a h).1

  use_in : (i k v : ℕ) → IsUse geo view i k v → i / geo.inodes < geo.groups
  use_in i k v h = sound_in i (use_parts geo view i k v h).sound

  pub of_a_group : (f : Finding) → IsFinding geo view f → group_of geo f < geo.groups
  of_a_group (BadInode i) h = number_in_group geo ok i h.0
  of_a_group (BadPointer i k v) h = use_in i k v h.0
  of_a_group (Duplicate i k a) h = data_in a h.0.1
  of_a_group RootBad h = omega (arith, ok.some_group)
  of_a_group (BadSlot d s) h = directory_in d h.0
  of_a_group (DupName d s) h = directory_in d h.0
  of_a_group (BadDot d) h = directory_in d h.0
  of_a_group (BadDotDot d) h = directory_in d h.0
  of_a_group (ToUnsound d s) h = directory_in d h.1.reachable
  of_a_group (ExtraName d s) h = directory_in d h.1.reachable
  of_a_group (LostInode i) h = sound_in i h.0
  of_a_group (CountHigh i l e) h = reached_in i h.0
  of_a_group (CountLow i l e) h = reached_in i h.0
  of_a_group (LostBlock a) h = data_in a h.0
  of_a_group (UnmarkedBlock a) h = data_in a h.0.2.1
  of_a_group (LostNumber i) h = number_in_group geo ok i h.0
  of_a_group (UnmarkedInode i) h = number_in_group geo ok i h.0
