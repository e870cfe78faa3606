-- A mounted volume without a block in memory that a file holds data in.
use Rattle.std.proofs.Common.{◌≡◌, ◌<◌, ℕ, List, IsFalse, Ok, Some, false, sym, subst}
use Rattle.model.specs.Image.{image_view}
use Rattle.model.specs.Shape.{most_blocks}
use Rattle.model.specs.Uses.{IsClaim, claim_at, is_directory_at}
use Rattle.model.proofs.UseLemmas.{claim_parts}
use Rattle.model.specs.View.{View}
use Rattle.machine.specs.Command.{Answer, Command}
use Rattle.machine.specs.Step.{Step}
use Rattle.courses.specs.Serves.{Serves}
use Rattle.ordering.specs.Cuts.{users_view}
use Rattle.frozen.specs.Installed.{IsPlain, without_block}
use Rattle.frozen.specs.Kept.{Kept, frozen_view}
use Rattle.frozen.proofs.LettingGo.{keeps_without}
use Rattle.softdep.specs.Queued.{Queued, pending_of}
use Rattle.live_states.specs.Holdings.{Holdings}
use Rattle.live_states.specs.Planned.{safe_after}
use Rattle.live_states.specs.Volume.{state_over}
use Rattle.live_states.proofs.LettingGo.{plain, volume_without}
use Rattle.live.specs.Alive.{Alive, Answers, IsLive, disk_of, state_of}

-- of metadata in memory that was looked at, where a file claims a block there
module _ (honest : Type 0) (image : List (List ℕ)) (queue : Queued) (kept : Kept) (holdings : Holdings) (live : IsLive honest image queue kept holdings) (seen : Kept) (same : seen ≡ kept)
    (f k a : ℕ) (found : claim_at seen.geometry (frozen_view seen) f k ≡ Some a) (inside : k < most_blocks seen.geometry) (no_directory : is_directory_at seen.geometry (frozen_view seen) f ≡ false) where
  claim : IsClaim kept.geometry (frozen_view kept) f k a
  claim = claim_parts kept.geometry (frozen_view kept) f k a (subst (λ (s : Kept). claim_at s.geometry (frozen_view s) f k ≡ Some a) same found)

  is_file : IsFalse (is_directory_at kept.geometry (frozen_view kept) f)
  is_file = subst (λ (s : Kept). is_directory_at s.geometry (frozen_view s) f ≡ false) same no_directory

  below : k < most_blocks kept.geometry
  below = subst (λ (s : Kept). k < most_blocks s.geometry) same inside

  pub live_plain : IsPlain kept a
  live_plain = plain kept holdings (pending_of queue) live.alive.disk live.alive.keeps live.alive.some f k a claim below is_file

  pub live_without : IsLive honest image queue (without_block kept a) holdings
  live_without = record {
    geometry = live.geometry;
    alive = record {
      count = live.alive.count;
      keeps = keeps_without kept live.alive.keeps.frame a claim.1 live.alive.keeps live_plain;
      disk = live.alive.disk;
      some = volume_without kept holdings (pending_of queue) live.alive.disk live.alive.keeps live.alive.some f k a claim below is_file;
      true = λ h. volume_without kept holdings (pending_of queue) (image_view kept.geometry image) live.alive.keeps (live.alive.true h) f k a claim below is_file;
    };
    marks = live.marks;
    repairs = live.repairs;
    snapshots = live.snapshots;
    framed = live.framed;
  }

-- what a volume answered it answered also with another part of the image in memory
pub answers_with : {D : Type 0} (image image' : List (List ℕ)) (old mid new : Alive D) (command : Command) (answer : Answer) (later : List View)
    → new.queue ≡ mid.queue → new.holdings ≡ mid.holdings → new.kept.geometry ≡ mid.kept.geometry
    → Answers image old command answer image' mid later → Answers image old command answer image' new later
answers_with image image' old mid new command answer later queue holdings geometry answers beside belongs =
    let is = answers beside belongs in
    let geo = old.kept.geometry in
    let P : Queued → Holdings → _ → Type 0 = λ q h g. Step geo (state_of image old beside) command (Ok answer) (state_over (image_view g image') (pending_of q) h beside) in
    record {
      geometry = subst (λ g. g ≡ geo) (sym geometry) is.geometry;
      snapshots = subst (λ (h : Holdings). h.snapshots ≡ old.holdings.snapshots) (sym holdings) is.snapshots;
      step = λ stands. subst (λ q. P q new.holdings new.kept.geometry) (sym queue) (subst (λ h. P mid.queue h new.kept.geometry) (sym holdings) (subst (P mid.queue mid.holdings) (sym geometry) (is.step stands)));
      serves = λ safe stands.
          let S : Queued → Holdings → _ → Type 0 = λ q h g. Serves geo (disk_of image old) (pending_of old.queue) (state_of image old beside) safe command answer
          (image_view g image') (pending_of q) (state_over (image_view g image') (pending_of q) h beside) (safe_after geo (users_view (disk_of image old) (pending_of old.queue)) command safe) later in
          subst (λ q. S q new.holdings new.kept.geometry) (sym queue) (subst (λ h. S mid.queue h new.kept.geometry) (sym holdings) (subst (S mid.queue mid.holdings) (sym geometry) (is.serves safe stands)));
    }
