-- What a volume refuses that no cause refuses: want of memory, and a fault of its device.
use Rattle.std.proofs.Common.{◌≡◌, ◌⊎◌, ℕ, true, false, not, List, [], ◌∷◌, Ok, Err, Option, Some, None, is_some, is_none, inl, inr, refl, sym, ap, ◌∙◌, subst}
use Rattle.std.specs.List.{list_all}
use Rattle.layout.specs.declared.refusal.Refusal.{Refusal}
use Rattle.layout.specs.declared.refusal.Refusal.TheVariants.{Device, NoMemory, NoSnapshot, PlanNotSoft, PlanStands, TooManySnapshots}
use Rattle.findings.specs.Findings.{is_soft}
use Rattle.model.specs.Layout.{Geometry}
use Rattle.model.specs.View.{View}
use Rattle.device.specs.Media.{Held}
use Rattle.frozen.specs.Loading.{GivesOut}
use Rattle.machine.specs.Below.{first_of, when}
use Rattle.machine.specs.Causes.{Belongs, FirstRefusal, causes, refusal_of}
use Rattle.machine.specs.Command.{Check, Command, Freeze, Install, Release, Reply, Sync}
use Rattle.machine.specs.Standing.{too_many}
use Rattle.machine.specs.State.{Plan, State, latest, snapshot_at}
use Rattle.live_states.specs.Holdings.{Beside}
use Rattle.live.specs.Alive.{Alive, state_of}
use Rattle.snapshot.specs.Asked.{IsReply}
use Rattle.snapshot.specs.Goes.{Applies, Goes, IsBeside, Replies}

-- what is refused that no cause refuses
given_out : (geo : Geometry) (old : State) (command : Command) (r : Refusal) → refusal_of geo old command ≡ None → Belongs geo old command → (r ≡ NoMemory) ⊎ ((r ≡ Device) ⊎ FirstRefusal geo old command r) → GivesOut r
given_out geo old command r none belongs (inl memory) = inl memory
given_out geo old command r none belongs (inr (inl device)) = inr device
given_out geo old command r none belongs (inr (inr (inl first))) = let bad : None ≡ Some r = sym none ∙ first in cc
given_out geo old command r none belongs (inr (inr (inr foreign))) = absurd (foreign.1 belongs)

module _ {D : Type 0} (held : Held) (image : List (List ℕ)) (old : Alive D) (held' : Held) (image' : List (List ℕ)) (new : Alive D) (beside : Beside) (is : IsBeside image old beside) (command : Command)
    (none : refusal_of old.kept.geometry (state_of image old beside) command ≡ None) (belongs : Belongs old.kept.geometry (state_of image old beside) command) where
  pub refused_so : (r : Refusal) → Replies held image old command (Err r) held' image' new → GivesOut r
  refused_so r replies = given_out old.kept.geometry (state_of image old beside) command r none belongs (replies beside is).run.1.0

  pub refused_too : (r : Refusal) → Applies held image old command (Err r) held' image' new → GivesOut r
  refused_too r applies =
      let told = applies beside is in
      of_reply told.1 told.0 told.2 told.3
    where
      of_reply : (response : Reply) (beside' : Beside) → IsReply (Err r) response → Goes beside held image old (command ∷ []) (response ∷ []) beside' held' image' new → GivesOut r
      of_reply (Err s) beside' said goes = subst GivesOut said (given_out old.kept.geometry (state_of image old beside) command s none belongs goes.run.1.0)
      of_reply (Ok answer) beside' said goes = absurd said

-- ---- no cause refuses what is done to mend a volume

pub may_freeze : (geo : Geometry) (old : State) → too_many old.snapshots ≡ false → refusal_of geo old Freeze ≡ None
unfolding causes
may_freeze geo old room = ap (λ b. first_of (when b TooManySnapshots ∷ [])) room

pub may_release : (geo : Geometry) (old : State) (s : ℕ) (view : View) → snapshot_at old s ≡ Some view → refusal_of geo old (Release s) ≡ None
unfolding causes
may_release geo old s view stands = ap (λ (f : Option View). first_of (when (is_none f) NoSnapshot ∷ [])) stands

pub may_sync : (geo : Geometry) (old : State) → refusal_of geo old Sync ≡ None
unfolding causes
may_sync geo old = refl

pub may_install : (geo : Geometry) (old : State) (check : Check) (view : View) → latest old ≡ Some view → old.plan ≡ None → list_all is_soft check.findings ≡ true → refusal_of geo old (Install check) ≡ None
unfolding causes
may_install geo old check view stands none soft =
    ap (λ (f : Option View). first_of (when (is_none f) NoSnapshot ∷ when (is_some old.plan) PlanStands ∷ when (not (list_all is_soft check.findings)) PlanNotSoft ∷ [])) stands
    ∙ ap (λ (p : Option Plan). first_of (when (is_some p) PlanStands ∷ when (not (list_all is_soft check.findings)) PlanNotSoft ∷ [])) none
    ∙ ap (λ t. first_of (when (not t) PlanNotSoft ∷ [])) soft
