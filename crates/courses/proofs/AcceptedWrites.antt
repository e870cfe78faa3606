-- Each accepted command that changes data has a plan, and so has each repair that is owed.
use Rattle.std.proofs.Common.{◌≤◌, ◌<◌, ℕ, Bool, List, [], IsTrue, IsFalse}
use Rattle.model.specs.Layout.{Geometry, IsGeometry}
use Rattle.model.specs.View.{View, free_inode}
use Rattle.model.specs.Uses.{blocks_of}
use Rattle.findings.specs.declared.repair.Repair.{Repair}
use Rattle.ordering.specs.Cuts.{Pending, users_view}
use Rattle.machine.specs.State.{State, is_open, is_kept}
use Rattle.machine.specs.Command.{Write, Truncate, Close, SetAttributes}
use Rattle.machine.specs.Room.{IsFreeBlock}
use Rattle.machine.specs.Cells.{block_of, seen}
use Rattle.machine.specs.Causes.{Accepts, file_of}
use Rattle.machine.specs.Effects.{IsOverwritten, size_after}
use Rattle.machine.specs.Balance.{Balance, Owes}
use Rattle.plans_data.specs.Now.{now}
use Rattle.plans_data.specs.Append.{appended, sized}
use Rattle.plans_data.specs.Freeing.{held_with}
use Rattle.plans_data.specs.Write.{written, relocated, held_besides}
use Rattle.plans_data.specs.Truncate.{truncation}
use Rattle.plans_data.specs.Relink.{closing, repairing, goes_away, held_if, held_after, inode_of, open_of, without_handle}
use Rattle.plans_data.specs.Lists.{given_up_with}
use Rattle.plans_data.specs.Plans.{IsChoice, holder_of, named_by}
use Rattle.findings.specs.declared.repair.Repair.TheVariants.{DropInode, LowerCount, FreeBlock, FreeNumber}
use Rattle.plans_data.proofs.Plans.{plan_in_place, plan_appended, plan_moved, plan_truncate, plan_close, plan_drop, plan_lower, plan_block, plan_number}
use Rattle.courses.specs.Plans.{IsPlan, WritesInPlace, WritesAppended, WritesMoved, Truncates, Closes, Repairs, SetsAttributes}
use Rattle.courses.proofs.LifeBytes.{IsWriteOf, LeavesBehind}
use Rattle.plans_data.specs.Attributes.{attributing}
use Rattle.plans_data.proofs.Accepted.{accepted_attributes}

abbrev pub writes_in_place_have_plans : (geo : Geometry) (disk : View) (q : List Pending) (old : State) (safe : ℕ → Bool) → Balance geo (now disk q old) → IsGeometry geo → (h k : ℕ) (piece : List ℕ) → Accepts geo (now disk q old) (Write h k piece) → (bytes : List ℕ) → IsOverwritten piece (seen geo (users_view disk q) (file_of old h) k) bytes → k < blocks_of ((users_view disk q).inode (file_of old h)).size → IsFalse (is_kept old (block_of geo (users_view disk q) (file_of old h) k)) → IsPlan geo disk q old safe (file_of old h) (written (file_of old h) ((users_view disk q).inode (file_of old h)) (block_of geo (users_view disk q) (file_of old h) k) bytes (size_after (users_view disk q) (file_of old h) k piece) q) old.held (safe)
writes_in_place_have_plans geo disk q old safe balance geometry h k piece ok bytes over inside not = WritesInPlace (file_of old h) k piece bytes (plan_in_place geo geometry (now disk q old) balance h k piece ok bytes over inside not)

abbrev pub extending_writes_have_plans : (geo : Geometry) (disk : View) (q : List Pending) (old : State) (safe : ℕ → Bool) → Balance geo (now disk q old) → IsGeometry geo → (h k : ℕ) (piece : List ℕ) → Accepts geo (now disk q old) (Write h k piece) → (bytes : List ℕ) → IsOverwritten piece (seen geo (users_view disk q) (file_of old h) k) bytes → (b : ℕ) (news : List ℕ) → IsChoice geo (users_view disk q) k b news → blocks_of ((users_view disk q).inode (file_of old h)).size ≤ k → IsPlan geo disk q old safe (file_of old h) (appended geo (file_of old h) ((users_view disk q).inode (file_of old h)) k b bytes (size_after (users_view disk q) (file_of old h) k piece) (holder_of geo (users_view disk q) (file_of old h) k b news) q) old.held (safe)
extending_writes_have_plans geo disk q old safe balance geometry h k piece ok bytes over b news choice past = WritesAppended (file_of old h) k b piece bytes (holder_of geo (users_view disk q) (file_of old h) k b news) (plan_appended geo geometry (now disk q old) balance h k piece ok bytes over b news choice past)

abbrev pub moving_writes_have_plans : (geo : Geometry) (disk : View) (q : List Pending) (old : State) (safe : ℕ → Bool) → Balance geo (now disk q old) → IsGeometry geo → (h k : ℕ) (piece : List ℕ) → Accepts geo (now disk q old) (Write h k piece) → (bytes : List ℕ) → IsOverwritten piece (seen geo (users_view disk q) (file_of old h) k) bytes → (b : ℕ) → IsFreeBlock geo (users_view disk q) b → k < blocks_of ((users_view disk q).inode (file_of old h)).size → IsTrue (is_kept old (block_of geo (users_view disk q) (file_of old h) k)) → IsPlan geo disk q old safe (file_of old h) (relocated geo (file_of old h) ((users_view disk q).inode (file_of old h)) k b bytes (size_after (users_view disk q) (file_of old h) k piece) (holder_of geo (users_view disk q) (file_of old h) k b []) q) (held_besides geo (now disk q old) (file_of old h) k) (safe)
moving_writes_have_plans geo disk q old safe balance geometry h k piece ok bytes over b free inside kept = WritesMoved (file_of old h) k b piece bytes (holder_of geo (users_view disk q) (file_of old h) k b []) (plan_moved geo geometry (now disk q old) balance h k piece ok bytes over b free inside kept)

abbrev pub truncations_have_plans : (geo : Geometry) (disk : View) (q : List Pending) (old : State) (safe : ℕ → Bool) → Balance geo (now disk q old) → IsGeometry geo → (h size : ℕ) → Accepts geo (now disk q old) (Truncate h size) → IsPlan geo disk q old safe (file_of old h) (truncation (file_of old h) ((users_view disk q).inode (file_of old h)) size (given_up_with geo (now disk q old) (file_of old h) (sized ((users_view disk q).inode (file_of old h)) size)) q) (held_with geo (now disk q old) (file_of old h) (sized ((users_view disk q).inode (file_of old h)) size)) (safe)
truncations_have_plans geo disk q old safe balance geometry h size ok = Truncates (file_of old h) size (given_up_with geo (now disk q old) (file_of old h) (sized ((users_view disk q).inode (file_of old h)) size)) (plan_truncate geo geometry (now disk q old) balance h size ok)

abbrev pub attributes_have_plans : (geo : Geometry) (disk : View) (q : List Pending) (old : State) (safe : ℕ → Bool) (n : ℕ) (words : List ℕ) → Accepts geo (now disk q old) (SetAttributes n words) → IsPlan geo disk q old safe n (attributing n ((users_view disk q).inode n) words q) old.held safe
attributes_have_plans geo disk q old safe n words ok = SetsAttributes n words (accepted_attributes geo (now disk q old) n words ok)

abbrev pub closes_have_plans : (geo : Geometry) (disk : View) (q : List Pending) (old : State) (safe : ℕ → Bool) → Balance geo (now disk q old) → IsGeometry geo → (h : ℕ) → Accepts geo (now disk q old) (Close h) → IsPlan geo disk q old safe (file_of old h) (closing (file_of old h) ((users_view disk q).inode (file_of old h)) (is_open (without_handle h old) (file_of old h)) (given_up_with geo (now disk q old) (file_of old h) free_inode) q) (held_if (goes_away ((users_view disk q).inode (file_of old h)).links (is_open (without_handle h old) (file_of old h))) geo (now disk q old) (file_of old h)) (safe)
closes_have_plans geo disk q old safe balance geometry h ok = Closes h (file_of old h) (given_up_with geo (now disk q old) (file_of old h) free_inode) (plan_close geo geometry (now disk q old) balance h ok)

abbrev pub repairs_have_plans : (geo : Geometry) (disk : View) (q : List Pending) (old : State) (safe : ℕ → Bool) → Balance geo (now disk q old) → IsGeometry geo → (r : Repair) → Owes geo (now disk q old) r → IsPlan geo disk q old safe (named_by r) (repairing r (inode_of (users_view disk q) r) (open_of old r) (given_up_with geo (now disk q old) (named_by r) free_inode) q) (held_after geo (now disk q old) r) (safe)
repairs_have_plans geo disk q old safe balance geometry (DropInode n) owed = Repairs (DropInode n) n (given_up_with geo (now disk q old) n free_inode) (plan_drop geo geometry (now disk q old) balance n owed)
repairs_have_plans geo disk q old safe balance geometry (LowerCount n x) owed = Repairs (LowerCount n x) n (given_up_with geo (now disk q old) n free_inode) (plan_lower geo geometry (now disk q old) balance n x owed)
repairs_have_plans geo disk q old safe balance geometry (FreeBlock n) owed = Repairs (FreeBlock n) n (given_up_with geo (now disk q old) n free_inode) (plan_block geo geometry (now disk q old) balance n (given_up_with geo (now disk q old) n free_inode) owed)
repairs_have_plans geo disk q old safe balance geometry (FreeNumber n) owed = Repairs (FreeNumber n) n (given_up_with geo (now disk q old) n free_inode) (plan_number geo geometry (now disk q old) balance n (given_up_with geo (now disk q old) n free_inode) owed)

-- a repair writes no piece
pub repairs_leave : (geo : Geometry) (disk : View) (q : List Pending) (old : State) (safe : ℕ → Bool) (balance : Balance geo (now disk q old)) (geometry : IsGeometry geo) (r : Repair) (owed : Owes geo (now disk q old) r) → LeavesBehind (repairs_have_plans geo disk q old safe balance geometry r owed)
repairs_leave geo disk q old safe balance geometry (DropInode n) owed = tt
repairs_leave geo disk q old safe balance geometry (LowerCount n x) owed = tt
repairs_leave geo disk q old safe balance geometry (FreeBlock n) owed = tt
repairs_leave geo disk q old safe balance geometry (FreeNumber n) owed = tt

pub repairs_ask : (geo : Geometry) (disk : View) (q : List Pending) (old : State) (safe : ℕ → Bool) (balance : Balance geo (now disk q old)) (geometry : IsGeometry geo) (r : Repair) (owed : Owes geo (now disk q old) r) (n k : ℕ) (piece : List ℕ)
    → IsWriteOf n k piece (repairs_have_plans geo disk q old safe balance geometry r owed) → ⊥
repairs_ask geo disk q old safe balance geometry (DropInode n) owed m k piece w = w
repairs_ask geo disk q old safe balance geometry (LowerCount n x) owed m k piece w = w
repairs_ask geo disk q old safe balance geometry (FreeBlock n) owed m k piece w = w
repairs_ask geo disk q old safe balance geometry (FreeNumber n) owed m k piece w = w
