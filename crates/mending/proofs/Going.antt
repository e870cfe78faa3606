-- A volume goes through the commands that mend it, one after another.
use Rattle.std.proofs.Common.{◌≡◌, ℕ, zero, suc, List, [], ◌∷◌, ◌++◌, Ok, Err, Result, refl}
use Rattle.std.specs.Prelude.{All, IsTrue}
use Rattle.std.proofs.lemmas.List.Elements.{All-append, All-cons, All-nil}
use Rattle.layout.specs.declared.refusal.Refusal.{Refusal}
use Rattle.device.specs.Media.{Held}
use Rattle.device.specs.Writes.{HasFailed}
use Rattle.frozen.specs.Kept.{Kept}
use Rattle.machine.specs.Command.{Command, Done, Freeze, Image, Release, RepairAt, Reply, Sync}
use Rattle.machine.specs.Snapshot.{settled}
use Rattle.machine.specs.Standing.{begun, ended}
use Rattle.snapshot.specs.Alive.{Alive, state_of}
use Rattle.snapshot.specs.declared.answer.Answer.{Answer}
use Rattle.snapshot.specs.Between.{Froze, GotReply, Released}
use Rattle.snapshot.specs.Goes.{Applies}
use Rattle.snapshot.proofs.AppliesLemmas.{goes_nowhere}
use Rattle.snapshot.proofs.Joining.{joined}
use Rattle.mending.specs.Repairs.{Repaired, all_done, repairs_below}
use Rattle.mending.specs.Went.{FailedOnTheWay, Went, is_mending}

-- repairs mend
all_repairs : (n : ℕ) → All (λ command. IsTrue (is_mending command)) (repairs_below n)
all_repairs zero = All-nil (λ command. IsTrue (is_mending command))
all_repairs (suc n) = All-append (λ command. IsTrue (is_mending command)) (repairs_below n) (RepairAt n ∷ []) (all_repairs n) (All-cons (λ command. IsTrue (is_mending command)) (RepairAt n) [] refl (All-nil (λ command. IsTrue (is_mending command))))

one_command : (command : Command) → IsTrue (is_mending command) → All (λ c. IsTrue (is_mending c)) (command ∷ [])
one_command command mends = All-cons (λ c. IsTrue (is_mending c)) command [] mends (All-nil (λ c. IsTrue (is_mending c)))

module _ {D : Type 0} (held_of : D → Held) (image_of : D → List (List ℕ)) where
  pub went_nowhere : (live : Alive D) → Went held_of image_of live live
  went_nowhere live beside is = record {
    beside' = beside;
    commands = [];
    replies = [];
    mending = All-nil (λ command. IsTrue (is_mending command));
    leads = goes_nowhere (held_of live.device) (image_of live.device) live beside is;
  }

  pub went_on : (old mid new : Alive D) → Went held_of image_of old mid → Went held_of image_of mid new → Went held_of image_of old new
  went_on old mid new one two beside is =
      let first = one beside is in
      let last = two first.beside' first.leads.is in
      record {
        beside' = last.beside';
        commands = first.commands ++ last.commands;
        replies = first.replies ++ last.replies;
        mending = All-append (λ command. IsTrue (is_mending command)) first.commands last.commands first.mending last.mending;
        leads = joined beside first.beside' last.beside' (held_of old.device) (held_of mid.device) (held_of new.device) (image_of old.device) (image_of mid.device) (image_of new.device) old mid new
            first.commands last.commands first.replies last.replies first.leads last.leads;
      }

  module _ (old new : Alive D) where
    pub by_reply : (command : Command) (reply : Reply) → IsTrue (is_mending command) → GotReply held_of image_of old command reply new → Went held_of image_of old new
    by_reply command reply mends got beside is = record {
      beside' = beside;
      commands = command ∷ [];
      replies = reply ∷ [];
      mending = one_command command mends;
      leads = got beside is;
    }

    pub by_freeze : (s : ℕ) (snapshot : Kept) → Froze held_of image_of old s snapshot new → Went held_of image_of old new
    by_freeze s snapshot froze beside is =
        let view = settled old.kept.geometry (state_of (image_of old.device) old beside) in
        record {
          beside' = record { snapshots = begun beside.snapshots view };
          commands = Freeze ∷ [];
          replies = Ok (Image s view) ∷ [];
          mending = one_command Freeze refl;
          leads = (froze beside is).2;
        }

    pub by_release : (s : ℕ) → Released held_of image_of old s new → Went held_of image_of old new
    by_release s released beside is = record {
      beside' = record { snapshots = ended beside.snapshots s };
      commands = Release s ∷ [];
      replies = Ok Done ∷ [];
      mending = one_command (Release s) refl;
      leads = released beside is;
    }

    pub by_sync : (reply : Result Answer Refusal) → Applies (held_of old.device) (image_of old.device) old Sync reply (held_of new.device) (image_of new.device) new → Went held_of image_of old new
    by_sync reply applied beside is =
        let told = applied beside is in
        record {
          beside' = told.0;
          commands = Sync ∷ [];
          replies = told.1 ∷ [];
          mending = one_command Sync refl;
          leads = told.3;
        }

    pub by_repairs : (n : ℕ) → Repaired held_of image_of old n new → Went held_of image_of old new
    by_repairs n repaired beside is = record {
      beside' = beside;
      commands = repairs_below n;
      replies = all_done n;
      mending = all_repairs n;
      leads = repaired beside is;
    }

-- ---- where the device is blamed

module _ {D : Type 0} (honest : D → Type 0) (held_of : D → Held) (image_of : D → List (List ℕ)) (failures_of : D → ℕ) where
  pub failed_at_once : (old new : Alive D) → HasFailed (failures_of old.device) (failures_of new.device) → FailedOnTheWay honest held_of image_of failures_of old new
  failed_at_once old new failed = record { before = old; honest_before = λ h. h; went = λ h. went_nowhere held_of image_of old; failed = failed }

  pub failed_later : (old mid new : Alive D) → (honest mid.device → honest old.device) → (honest mid.device → Went held_of image_of old mid) → FailedOnTheWay honest held_of image_of failures_of mid new
      → FailedOnTheWay honest held_of image_of failures_of old new
  failed_later old mid new first went late = record {
    before = late.before;
    honest_before = λ h. first (late.honest_before h);
    went = λ h. went_on held_of image_of old mid late.before (went (late.honest_before h)) (late.went h);
    failed = late.failed;
  }

pub not_refused : {T : Type 0} (t : T) (r : Refusal) → ◌≡◌ {A = Result T Refusal} (Ok t) (Err r) → ⊥
not_refused t r e = cc
