-- A command that leaves the image and what is held alone is answered.
use Rattle.std.proofs.Common.{◌≡◌, ◌≤◌, ◌⊎◌, inl, inr, refl, ℕ, Bool, List, [], ◌∷◌, length, Ok, Err, Result, sym, ap, subst, ◌∙◌}
use Rattle.std.proofs.lemmas.List.Elements.{All-cons, All-nil}
use Rattle.layout.specs.declared.refusal.Refusal.{Refusal}
use Rattle.layout.specs.declared.refusal.Refusal.TheVariants.{BadHandle, BadIndex, Device as DeviceRefusal}
use Rattle.model.specs.Image.{image_view}
use Rattle.model.specs.Layout.{block_count}
use Rattle.model.specs.View.{View}
use Rattle.ordering.specs.Cuts.{users_view}
use Rattle.machine.specs.Command.{Answer, Command}
use Rattle.machine.specs.Step.{Step}
use Rattle.courses.specs.Serves.{Serves}
use Rattle.frozen.specs.Kept.{Kept}
use Rattle.softdep.specs.Queued.{Queued, pending_of}
use Rattle.live_states.specs.Holdings.{Holdings}
use Rattle.live_states.specs.Planned.{AreSeen, IsQuietlyDone, Seen, safe_after}
use Rattle.live_states.specs.Snapshots.{AreRepairsOf}
use Rattle.live_states.specs.Volume.{state_over}
use Rattle.live_states.proofs.Quiet.{quiet_serves, quiet_step, quiet_volume}
use Rattle.live.specs.Alive.{Answers, IsLive, AreSnapshotsOf}

pub none_seen : (view : View) → AreSeen [] view
none_seen view = All-nil (λ (s : Seen). view.bytes s.address ≡ s.bytes)

pub one_seen : (view : View) (a : ℕ) (bytes : List ℕ) → view.bytes a ≡ bytes → AreSeen (record { address = a; bytes = bytes } ∷ []) view
one_seen view a bytes e = All-cons (λ (s : Seen). view.bytes s.address ≡ s.bytes) (record { address = a; bytes = bytes }) [] e (none_seen view)

module _ (honest : Type 0) (image : List (List ℕ)) (queue : Queued) (kept : Kept) (holdings : Holdings) (live : IsLive honest image queue kept holdings)
    (seen : List Seen) (command : Command) (answer : Answer) (holdings' : Holdings) (done : IsQuietlyDone kept holdings seen command answer holdings') where
  -- where it asks for no bytes, the volume is one with what is open then
  pub quiet_live : seen ≡ [] → AreRepairsOf kept.geometry holdings'.repairs → IsLive honest image queue kept holdings'
  quiet_live none repairs = record {
    geometry = live.geometry;
    alive = record {
      count = live.alive.count;
      keeps = live.alive.keeps;
      disk = live.alive.disk;
      some = quiet_volume kept holdings (pending_of queue) live.alive.disk live.alive.some seen command answer holdings' done (sees live.alive.disk);
      true = λ h. quiet_volume kept holdings (pending_of queue) (image_view kept.geometry image) (live.alive.true h) seen command answer holdings' done (sees (image_view kept.geometry image));
    };
    marks = subst (λ (held : List Bool). block_count kept.geometry ≤ length held) (sym done.held) live.marks;
    repairs = repairs;
    snapshots = subst (AreSnapshotsOf kept.geometry) (sym done.snapshots) live.snapshots;
    framed = live.framed;
  }
    where
      sees : (disk : View) → AreSeen seen (users_view disk (pending_of queue))
      sees disk = subst (λ s. AreSeen s (users_view disk (pending_of queue))) (sym none) (none_seen (users_view disk (pending_of queue)))

  abbrev disk : View
  disk = image_view kept.geometry image

  -- over a device that holds the same image then
  pub quiet_answers : {D : Type 0} (device device' : D) (image' : List (List ℕ)) → image' ≡ image → honest → AreSeen seen (users_view disk (pending_of queue))
      → Answers image (record { device = device; queue = queue; kept = kept; holdings = holdings }) command answer image' (record { device = device'; queue = queue; kept = kept; holdings = holdings' }) []
  quiet_answers device device' image' same h sees beside belongs =
      let q = pending_of queue in
      let old = state_over disk q holdings beside in
      let volume = live.alive.true h in
      record {
        geometry = refl;
        snapshots = done.snapshots;
        step = λ stands. subst (λ i. Step kept.geometry old command (Ok answer) (state_over (image_view kept.geometry i) q holdings' beside)) (sym same)
            (quiet_step kept holdings q disk volume seen command answer holdings' done sees beside belongs);
        serves = λ safe stands.
            subst (λ i. Serves kept.geometry disk q old safe command answer (image_view kept.geometry i) q (state_over (image_view kept.geometry i) q holdings' beside) (safe_after kept.geometry (users_view disk q) command safe) []) (sym same)
            (quiet_serves kept holdings q disk volume seen command answer holdings' done sees beside belongs safe);
      }

-- a read is refused for no fault of the device before it goes to the device
pub not_device : {T : Type 0} (r : Refusal) → (r ≡ BadHandle) ⊎ (r ≡ BadIndex) → ◌≡◌ {A = Result T Refusal} (Err r) (Err DeviceRefusal) → ⊥
not_device {T} r (inl a) e = let bad : ◌≡◌ {A = Result T Refusal} (Err BadHandle) (Err DeviceRefusal) = ap (λ (x : Refusal). Err x) (sym a) ∙ e in cc
not_device {T} r (inr a) e = let bad : ◌≡◌ {A = Result T Refusal} (Err BadIndex) (Err DeviceRefusal) = ap (λ (x : Refusal). Err x) (sym a) ∙ e in cc
