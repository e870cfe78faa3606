-- Each step, and each run in which a file stays live or open, leaves what is seen of it as it was, if it does not write it.
use Rattle.std.proofs.Common.{◌≡◌, ℕ, List, [], ◌∷◌, inl, inr, sym, ap, ◌∙◌, subst, IsTrue, Some, Ok, Err}
use Rattle.model.specs.Layout.{Geometry, IsGeometry}
use Rattle.model.specs.Uses.{is_sound_at}
use Rattle.machine.specs.State.{State, open_at}
use Rattle.machine.specs.Command.{Command, Reply}
use Rattle.machine.specs.Cells.{seen}
use Rattle.machine.specs.Step.{Step}
use Rattle.machine.specs.Balance.{Balance, IsLive}
use Rattle.machine.specs.Files.{IsFile, IsWritten, IsClosing, RunBeside, RunUnder}
use Rattle.machine.proofs.Decisions.{sound_mode, sound_parts, reachable_sound}
use Rattle.machine.proofs.SameFiles.{SameFile, same_file, then_file, same_seen, same_sound, same_directory}
use Rattle.machine.proofs.StayOpen.{effect_opened}
use Rattle.machine.proofs.AllSteps.{step_keeps}
use Rattle.machine.proofs.AllFiles.{step_stays}

-- what is live is sound
live_sound : (geo : Geometry) (s : State) → Balance geo s → (j : ℕ) → IsLive geo s j → IsTrue (is_sound_at geo s.view j)
live_sound geo s b j (inl r) = reachable_sound geo s.view j r
live_sound geo s b j (inr o) = (b.open_file j o).0

-- a record that is free is that of no live inode
free_lost : (geo : Geometry) (s : State) → Balance geo s → (j : ℕ) → (s.view.inode j).mode ≡ 0 → IsLive geo s j → ⊥
free_lost geo s b j none live = sound_mode geo (s.view.inode j) (sound_parts geo s.view j (live_sound geo s b j live)).1 none

-- the same size, and the same bytes below it
abbrev Shows : Geometry → State → State → ℕ → Type 0
Shows geo old new j = ((new.view.inode j).size ≡ (old.view.inode j).size) × ((q : ℕ) → seen geo new.view j q ≡ seen geo old.view j q)

-- a file that is as it was shows both
shows : (geo : Geometry) (old new : State) (j : ℕ) → SameFile geo old.view new.view j → Shows geo old new j
shows geo old new j s = (sym s.size, same_seen geo old.view new.view j s)

-- a step that does not write the file shows them, where it does not free it
pub step_shows : (geo : Geometry) → IsGeometry geo → (old new : State) (command : Command) (reply : Reply) (j : ℕ) → Balance geo old → Step geo old command reply new → IsFile geo old.view j
    → (IsWritten old j command reply → ⊥) → ((new.view.inode j).mode ≡ 0 → ⊥) → Shows geo old new j
step_shows geo g old new command reply j b s is other used = elim (step_stays geo g old new command reply j b s is other) [ inl same ↦ shows geo old new j same | inr none ↦ absurd (used none) ]

-- and it frees no file that is live then
pub step_frees : (geo : Geometry) → IsGeometry geo → (old new : State) (command : Command) (reply : Reply) (j : ℕ) → Balance geo old → Step geo old command reply new → IsFile geo old.view j
    → (new.view.inode j).mode ≡ 0 → IsLive geo new j → ⊥
step_frees geo g old new command reply j b s is none = free_lost geo new (step_keeps geo g old new command reply b s) j none

-- a run in which the file is live all the while
run_stays : (geo : Geometry) → IsGeometry geo → (old new : State) (commands : List Command) (replies : List Reply) (j : ℕ) → Balance geo old → IsFile geo old.view j → RunBeside geo j old commands replies new → SameFile geo old.view new.view j
run_stays geo g old new [] [] j b is r = subst (λ (t : State). SameFile geo old.view t.view j) (sym r) (same_file geo old.view j)
run_stays geo g old new (c ∷ cs) (x ∷ xs) j b is r =
    let mid : State = r.0 in
    let after = step_keeps geo g old mid c x b r.1 in
    elim (step_stays geo g old mid c x j b r.1 is r.2.0) [
      | inr none ↦ absurd (free_lost geo mid after j none r.2.1)
      | inl same ↦ then_file geo old.view mid.view new.view j same
          (run_stays geo g mid new cs xs j after (sym (same_sound geo old.view mid.view j same) ∙ is.0, sym (same_directory geo old.view mid.view j same) ∙ is.1) r.3)
    ]
run_stays geo g old new [] (x ∷ xs) j b is r = absurd r
run_stays geo g old new (c ∷ cs) [] j b is r = absurd r

pub run_shows : (geo : Geometry) → IsGeometry geo → (old new : State) (commands : List Command) (replies : List Reply) (j : ℕ) → Balance geo old → IsFile geo old.view j → RunBeside geo j old commands replies new → Shows geo old new j
run_shows geo g old new commands replies j b is r = shows geo old new j (run_stays geo g old new commands replies j b is r)

-- a handle that is not closed stays open on its inode
step_opened : (geo : Geometry) (old new : State) (command : Command) (reply : Reply) (h i : ℕ) → Step geo old command reply new → open_at old h ≡ Some i → (IsClosing h command reply → ⊥) → open_at new h ≡ Some i
step_opened geo old new command (Ok answer) h i s was other = effect_opened geo old new command answer h i s.1 was other
step_opened geo old new command (Err r) h i s was other = ap (λ (t : State). open_at t h) s.1 ∙ was

-- so its inode stays live
under_beside : (geo : Geometry) (old new : State) (commands : List Command) (replies : List Reply) (h i : ℕ) → open_at old h ≡ Some i → RunUnder geo i h old commands replies new → RunBeside geo i old commands replies new × (open_at new h ≡ Some i)
under_beside geo old new [] [] h i was r = (r, ap (λ (t : State). open_at t h) r ∙ was)
under_beside geo old new (c ∷ cs) (x ∷ xs) h i was r =
    let now = step_opened geo old r.0 c x h i r.1 was r.2.1 in
    let rest = under_beside geo r.0 new cs xs h i now r.3 in
    ((r.0, r.1, (r.2.0, inr (h, now)), rest.0), rest.1)
under_beside geo old new [] (x ∷ xs) h i was r = absurd r
under_beside geo old new (c ∷ cs) [] h i was r = absurd r

-- a run in which a handle of it stays open
pub run_under : (geo : Geometry) → IsGeometry geo → (old new : State) (commands : List Command) (replies : List Reply) (i h : ℕ) → Balance geo old → open_at old h ≡ Some i → RunUnder geo i h old commands replies new
    → (open_at new h ≡ Some i) × Shows geo old new i
run_under geo g old new commands replies i h b was r =
    let beside = under_beside geo old new commands replies h i was r in
    (beside.1, run_shows geo g old new commands replies i b (b.open_file i (h, was)) beside.0)
