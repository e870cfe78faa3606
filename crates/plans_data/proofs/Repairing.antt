-- Each repair is a chain of updates of their kinds.
use Rattle.std.proofs.Common.{◌≡◌, ℕ, ◌-◌, Bool, false, List, [], refl}
use Rattle.std.proofs.lemmas.Bool.{both_ways}
use Rattle.model.specs.Layout.{Geometry}
use Rattle.model.specs.View.{View}
use Rattle.model.specs.Cells.{SetNumber, SetBlock}
use Rattle.findings.specs.declared.repair.Repair.{Repair}
use Rattle.findings.specs.declared.repair.Repair.TheVariants.{DropInode, LowerCount, FreeBlock, FreeNumber}
use Rattle.machine.specs.State.{State}
use Rattle.machine.specs.Repairs.{repaired}
use Rattle.ordering.specs.Cuts.{Pending, users_view}
use Rattle.ordering.specs.Ghosts.{Ghost, at_rest}
use Rattle.ordering.specs.Agrees.{AllAgree}
use Rattle.ordering.specs.Histories.{ClearsNumber, ClearsBlock}
use Rattle.plans_data.specs.Issues.{Issues}
use Rattle.plans_data.specs.Now.{now, becomes}
use Rattle.plans_data.specs.Relink.{MayRepair, repairing, inode_of, open_of, held_after}
use Rattle.plans_data.proofs.Chains.{stand, step}
use Rattle.plans_data.proofs.Relinking.{relink_issues, relink_relinks}

module _ (geo : Geometry) (disk : View) (q : List Pending) (old : State) (safe : ℕ → Bool) (blocks : List ℕ)
    (all : AllAgree geo disk q (at_rest old.held safe)) where
  abbrev users : View
  users = users_view disk q

  abbrev ghost : Ghost
  ghost = at_rest old.held safe

  pub repair_issues : (r : Repair) → MayRepair geo (now disk q old) r blocks
      → Issues geo disk q ghost (repairing r (inode_of users r) (open_of old r) blocks q) (at_rest (held_after geo (now disk q old) r) safe)
  repair_issues (DropInode n) may = relink_issues geo disk q old safe n blocks all 0 may
  repair_issues (LowerCount n x) may = relink_issues geo disk q old safe n blocks all ((users.inode n).links - x) may
  repair_issues (FreeBlock a) may = (step geo disk q ghost q ghost (record { change = SetBlock a false; after = [] }) ghost (stand geo disk q ghost all)
      (ClearsBlock [] a (record { unclaimed = may.0; not_held = may.1; record_first = λ n k t. absurd (both_ways false refl t); no_position = λ n k t. absurd (both_ways false refl t) }))).issues
  repair_issues (FreeNumber n) may = (step geo disk q ghost q ghost (record { change = SetNumber n false; after = [] }) ghost (stand geo disk q ghost all)
      (ClearsNumber [] n (record { free = may; freed = λ t. absurd (both_ways false refl t) }))).issues

  pub repair_repairs : (r : Repair) → MayRepair geo (now disk q old) r blocks
      → becomes disk (repairing r (inode_of users r) (open_of old r) blocks q) (held_after geo (now disk q old) r) old ≡ repaired geo (now disk q old) r
  repair_repairs (DropInode n) may = relink_relinks geo disk q old safe n blocks all 0 may
  repair_repairs (LowerCount n x) may = relink_relinks geo disk q old safe n blocks all ((users.inode n).links - x) may
  repair_repairs (FreeBlock a) may = refl
  repair_repairs (FreeNumber n) may = refl
