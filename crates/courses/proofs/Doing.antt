-- A command that is done by a plan is a step of the machine, and its plan one of those of a course.
use Rattle.std.proofs.Common.{◌≡◌, ℕ, Bool, List, refl, arith, IsFalse, Ok}
use Rattle.std.proofs.lemmas.Bool.{false_from_ne_true}
use Rattle.model.specs.Layout.{Geometry}
use Rattle.model.specs.View.{View}
use Rattle.ordering.specs.Cuts.{Cell, Pending, users_view}
use Rattle.ordering.proofs.Data.{directory_mode}
use Rattle.machine.specs.State.{State}
use Rattle.machine.specs.Command.{Command, Rmdir, Answer}
use Rattle.machine.specs.Paths.{number_at}
use Rattle.machine.specs.Causes.{Accepts}
use Rattle.machine.specs.Step.{Step}
use Rattle.plans_data.specs.Now.{now}
use Rattle.plans_data.specs.Carried.{Stands}
use Rattle.plans_data.proofs.CarriedWrites.{carries_write, carries_extension, carries_move as carries_write_elsewhere, carries_truncation, carries_close}
use Rattle.plans_data.proofs.CarriedRepairs.{carries_repair, owed}
use Rattle.plans_naming.specs.Entries.{HasBlocks}
use Rattle.plans_naming.proofs.AcceptedCommands.{accepted_remove}
use Rattle.plans_naming.proofs.CarriedOut.{carries_create, carries_create_grown, carries_make, carries_make_grown, carries_link, carries_link_grown}
use Rattle.plans_naming.proofs.CarriedRenames.{carries_rename, carries_move, carries_move_grown}
use Rattle.plans_naming.proofs.CarriedRemovals.{carries_unlink, carries_unlink_last, carries_remove, carries_remove_last}
use Rattle.courses.specs.Bytes.{AsksWrite}
use Rattle.courses.specs.Plans.{IsPlan}
use Rattle.courses.specs.Done.{IsDoneBy, LeavesTheRest, CreatesInSlot, CreatesInNewBlock, MakesInSlot, MakesInNewBlock, LinksInSlot, LinksInNewBlock, RenamesInSlot, MovesToSlot, MovesToNewBlock, UnlinksName, UnlinksFile, RemovesName, RemovesDirectory, WritesInPlace, WritesBehind, WritesElsewhere, TruncatesFile, ClosesHandle, CarriesOutRepair, SetsItsAttributes}
use Rattle.courses.proofs.AcceptedPlans.{creations_have_plans, creations_in_new_blocks_have_plans, new_directories_have_plans, new_directories_in_new_blocks_have_plans, links_have_plans, links_in_new_blocks_have_plans, renames_have_plans, moves_have_plans, moves_to_new_blocks_have_plans, unlinks_have_plans, last_unlinks_have_plans, removals_have_plans, last_removals_have_plans}
use Rattle.courses.proofs.AcceptedWrites.{writes_in_place_have_plans, extending_writes_have_plans, moving_writes_have_plans, truncations_have_plans, closes_have_plans, repairs_have_plans, repairs_leave, repairs_ask, attributes_have_plans}
use Rattle.courses.proofs.LifeBytes.{IsWriteOf, LeavesBehind}
use Rattle.plans_data.proofs.Attributing.{carries_attributes}

-- the machine makes a step to the new state, by a plan with which users see that state
pub record Steps (geo : Geometry) (disk : View) (q : List Pending) (old : State) (safe : ℕ → Bool) (command : Command) (answer : Answer) (file : ℕ) (plan : List Pending) (new : State) (safe' : ℕ → Bool) (Rest : Type 0) : Type 0 where
  pub step : Step geo (now disk q old) command (Ok answer) new
  pub is_plan : IsPlan geo disk q (now disk q old) safe file plan new.held safe'
  pub same : users_view disk plan ≡ new.view
  -- a write leaves what stands behind its piece, and no other plan writes one
  pub leaves : Rest → LeavesBehind is_plan
  pub asks : (n k : ℕ) (piece : List ℕ) → IsWriteOf n k piece is_plan → AsksWrite (now disk q old) command n k piece

module _ (geo : Geometry) (disk : View) (q : List Pending) (old : State) (safe : ℕ → Bool) (stands : Stands geo disk q (now disk q old) safe) where
  -- a directory is none of the safe files
  not_safe : (p : List ℕ) → Accepts geo (now disk q old) (Rmdir p) → (after : List Cell) → HasBlocks geo (users_view disk q) (number_at geo (users_view disk q) p) after → IsFalse (safe (number_at geo (users_view disk q) p))
  not_safe p ok after all =
      let i = number_at geo (users_view disk q) p in
      false_from_ne_true (safe i) (λ t. let one = stands.files i t in let two = directory_mode geo (users_view disk q) i (accepted_remove geo (now disk q old) stands.balance stands.geometry p ok after all).directory in omega (arith, one, two))

  pub steps : (command : Command) (answer : Answer) (file : ℕ) (plan : List Pending) (new : State) (safe' : ℕ → Bool) → Accepts geo (now disk q old) command → (done : IsDoneBy geo disk q old safe command answer file plan new safe')
      → Steps geo disk q old safe command answer file plan new safe' (LeavesTheRest done)
  steps command answer file plan new safe' ok (CreatesInSlot p words n s entry after free place) = record {
    step = (carries_create geo disk q (now disk q old) safe stands p words ok n s entry after free place.empty place.says place.record_first place.others_first).step;
    is_plan = creations_have_plans geo disk q (now disk q old) safe stands.balance stands.geometry p words ok n s entry after free place.empty place.says place.record_first place.others_first;
    same = refl;
    leaves = λ r. tt;
    asks = λ n j other w. absurd w;
  }
  steps command answer file plan new safe' ok (CreatesInNewBlock p words n b kept s entry after free place) = record {
    step = (carries_create_grown geo disk q (now disk q old) safe stands p words ok n b kept s entry after free place.full place.free place.keeps place.apart place.stands place.says place.record_first place.blocks_first).step;
    is_plan = creations_in_new_blocks_have_plans geo disk q (now disk q old) safe stands.balance stands.geometry p words ok n b kept s entry after free place.full place.free place.keeps place.apart place.stands place.says place.record_first place.blocks_first;
    same = refl;
    leaves = λ r. tt;
    asks = λ n j other w. absurd w;
  }
  steps command answer file plan new safe' ok (MakesInSlot p words i a dots s entry after free own are place) = record {
    step = (carries_make geo disk q (now disk q old) safe stands p words ok i a dots s entry after free own are place.empty place.says place.record_first place.others_first).step;
    is_plan = new_directories_have_plans geo disk q (now disk q old) safe stands.balance stands.geometry p words ok i a dots s entry after free own are place.empty place.says place.record_first place.others_first;
    same = refl;
    leaves = λ r. tt;
    asks = λ n j other w. absurd w;
  }
  steps command answer file plan new safe' ok (MakesInNewBlock p words i a dots b kept s entry after free own are other place) = record {
    step = (carries_make_grown geo disk q (now disk q old) safe stands p words ok i a dots b kept s entry after free own are place.full place.free other place.keeps place.apart place.stands place.says place.record_first place.blocks_first).step;
    is_plan = new_directories_in_new_blocks_have_plans geo disk q (now disk q old) safe stands.balance stands.geometry p words ok i a dots b kept s entry after free own are place.full place.free other place.keeps place.apart place.stands place.says place.record_first place.blocks_first;
    same = refl;
    leaves = λ r. tt;
    asks = λ n j other w. absurd w;
  }
  steps command answer file plan new safe' ok (LinksInSlot p r s entry after place) = record {
    step = (carries_link geo disk q (now disk q old) safe stands p r ok s entry after place.empty place.says place.record_first place.others_first).step;
    is_plan = links_have_plans geo disk q (now disk q old) safe stands.balance stands.geometry p r ok s entry after place.empty place.says place.record_first place.others_first;
    same = refl;
    leaves = λ r. tt;
    asks = λ n j other w. absurd w;
  }
  steps command answer file plan new safe' ok (LinksInNewBlock p r b kept s entry after place) = record {
    step = (carries_link_grown geo disk q (now disk q old) safe stands p r ok b kept s entry after place.full place.free place.keeps place.apart place.stands place.says place.record_first place.blocks_first).step;
    is_plan = links_in_new_blocks_have_plans geo disk q (now disk q old) safe stands.balance stands.geometry p r ok b kept s entry after place.full place.free place.keeps place.apart place.stands place.says place.record_first place.blocks_first;
    same = refl;
    leaves = λ r. tt;
    asks = λ n j other w. absurd w;
  }
  steps command answer file plan new safe' ok (RenamesInSlot p r entry after same says others) = record {
    step = (carries_rename geo disk q (now disk q old) safe stands p r ok same entry after says others.needs).step;
    is_plan = renames_have_plans geo disk q (now disk q old) safe stands.balance stands.geometry p r ok same entry after says others.needs;
    same = refl;
    leaves = λ r. tt;
    asks = λ n j other w. absurd w;
  }
  steps command answer file plan new safe' ok (MovesToSlot p r s entry after' after apart place entered grounds) = record {
    step = (carries_move geo disk q (now disk q old) safe stands p r ok apart s entry after' after place.empty place.says place.record_first place.others_first entered grounds.needs).step;
    is_plan = moves_have_plans geo disk q (now disk q old) safe stands.balance stands.geometry p r ok apart s entry after' after place.empty place.says place.record_first place.others_first entered grounds.needs;
    same = refl;
    leaves = λ r. tt;
    asks = λ n j other w. absurd w;
  }
  steps command answer file plan new safe' ok (MovesToNewBlock p r b kept s entry after' after apart place entered grounds table) = record {
    step = (carries_move_grown geo disk q (now disk q old) safe stands p r ok apart b kept s entry after' after place.full place.free place.keeps place.apart place.stands place.says place.record_first place.blocks_first entered grounds.needs table).step;
    is_plan = moves_to_new_blocks_have_plans geo disk q (now disk q old) safe stands.balance stands.geometry p r ok apart b kept s entry after' after place.full place.free place.keeps place.apart place.stands place.says place.record_first place.blocks_first entered grounds.needs table;
    same = refl;
    leaves = λ r. tt;
    asks = λ n j other w. absurd w;
  }
  steps command answer file plan new safe' ok (UnlinksName p stays) = record {
    step = (carries_unlink geo disk q (now disk q old) safe stands p ok stays).step;
    is_plan = unlinks_have_plans geo disk q (now disk q old) safe stands.balance stands.geometry p ok;
    same = refl;
    leaves = λ r. tt;
    asks = λ n j other w. absurd w;
  }
  steps command answer file plan new safe' ok (UnlinksFile p blocks one goes) = record {
    step = (carries_unlink_last geo disk q (now disk q old) safe stands p ok one goes.closed blocks goes.given_up).step;
    is_plan = last_unlinks_have_plans geo disk q (now disk q old) safe stands.balance stands.geometry p ok one goes.closed blocks goes.given_up;
    same = refl;
    leaves = λ r. tt;
    asks = λ n j other w. absurd w;
  }
  steps command answer file plan new safe' ok (RemovesName p after all stays) = record {
    step = (carries_remove geo disk q (now disk q old) safe stands p ok after all.needs stays).step;
    is_plan = removals_have_plans geo disk q (now disk q old) safe stands.balance stands.geometry p ok after all.needs (not_safe p ok after all.needs);
    same = refl;
    leaves = λ r. tt;
    asks = λ n j other w. absurd w;
  }
  steps command answer file plan new safe' ok (RemovesDirectory p blocks after all two goes) = record {
    step = (carries_remove_last geo disk q (now disk q old) safe stands p ok after all.needs two goes.closed blocks goes.given_up).step;
    is_plan = last_removals_have_plans geo disk q (now disk q old) safe stands.balance stands.geometry p ok after all.needs (not_safe p ok after all.needs) two goes.closed blocks goes.given_up;
    same = refl;
    leaves = λ r. tt;
    asks = λ n j other w. absurd w;
  }
  steps command answer file plan new safe' ok (WritesInPlace h k piece bytes over inside free) =
      let done = carries_write geo disk q (now disk q old) safe stands h k piece ok bytes over inside free in
      record { step = done.step; is_plan = writes_in_place_have_plans geo disk q (now disk q old) safe stands.balance stands.geometry h k piece ok bytes over inside free; same = refl; leaves = λ r. r; asks = λ n j other w. w }
  steps command answer file plan new safe' ok (WritesBehind h k piece bytes b news over choice past) =
      let done = carries_extension geo disk q (now disk q old) safe stands h k piece ok bytes over b news choice past in
      record { step = done.step; is_plan = extending_writes_have_plans geo disk q (now disk q old) safe stands.balance stands.geometry h k piece ok bytes over b news choice past; same = refl; leaves = λ r. r; asks = λ n j other w. w }
  steps command answer file plan new safe' ok (WritesElsewhere h k piece bytes b over free inside kept) =
      let done = carries_write_elsewhere geo disk q (now disk q old) safe stands h k piece ok bytes over b free inside kept in
      record { step = done.step; is_plan = moving_writes_have_plans geo disk q (now disk q old) safe stands.balance stands.geometry h k piece ok bytes over b free inside kept; same = refl; leaves = λ r. r; asks = λ n j other w. w }
  steps command answer file plan new safe' ok (TruncatesFile h size) =
      let done = carries_truncation geo disk q (now disk q old) safe stands h size ok in
      record { step = done.step; is_plan = truncations_have_plans geo disk q (now disk q old) safe stands.balance stands.geometry h size ok; same = refl; leaves = λ r. tt; asks = λ n j other w. absurd w }
  steps command answer file plan new safe' ok (SetsItsAttributes n words) =
      let done = carries_attributes geo disk q (now disk q old) safe stands n words ok in
      record { step = done.step; is_plan = attributes_have_plans geo disk q (now disk q old) safe n words ok; same = refl; leaves = λ r. tt; asks = λ n j other w. absurd w }
  steps command answer file plan new safe' ok (ClosesHandle h) =
      let done = carries_close geo disk q (now disk q old) safe stands h ok in
      record { step = done.step; is_plan = closes_have_plans geo disk q (now disk q old) safe stands.balance stands.geometry h ok; same = refl; leaves = λ r. tt; asks = λ n j other w. absurd w }
  steps command answer file plan new safe' ok (CarriesOutRepair k list r planned at) =
      let done = carries_repair geo disk q (now disk q old) safe stands k list r ok planned at in
      record { step = done.step; is_plan = repairs_have_plans geo disk q (now disk q old) safe stands.balance stands.geometry r (owed geo disk q (now disk q old) safe stands k list r ok planned at); same = refl; leaves = λ rest. repairs_leave geo disk q (now disk q old) safe stands.balance stands.geometry r (owed geo disk q (now disk q old) safe stands k list r ok planned at); asks = repairs_ask geo disk q (now disk q old) safe stands.balance stands.geometry r (owed geo disk q (now disk q old) safe stands k list r ok planned at) }
