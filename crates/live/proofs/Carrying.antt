-- A command that was planned is carried out.
use Rattle.std.proofs.Common.{◌≡◌, ◌<◌, ◌≤◌, ℕ, All, true, false, List, [], ◌∷◌, length, map, Ok, Option, None, Some, arith, slice_index_or, slice_set, length-set, refl, sym, ap, ◌∙◌, subst}
use Rattle.std.specs.Option.{option_map}
use Rattle.std.proofs.lemmas.List.Elements.{All-nil}
use Rattle.model.specs.Image.{IsImage, image_view}
use Rattle.model.specs.Layout.{Geometry, block_count}
use Rattle.model.specs.View.{View}
use Rattle.ordering.specs.Cuts.{Pending, users_view}
use Rattle.queue_model.specs.Files.{Written}
use Rattle.updates.specs.Values.{written}
use Rattle.machine.specs.Command.{Answer, Command}
use Rattle.machine.specs.Step.{Step}
use Rattle.courses.specs.Serves.{Serves}
use Rattle.frozen.specs.Kept.{Kept, KeepsMetadata}
use Rattle.metadata.specs.declared.staged.Staged.{Staged}
use Rattle.metadata.specs.Staged.{IsStaged, after, changes}
use Rattle.metadata.proofs.Steps.{same_geometry}
use Rattle.softdep.specs.Queued.{Queued, issued, pending_of}
use Rattle.live_states.specs.Drafts.{Draft, over}
use Rattle.live_states.specs.Holdings.{Holdings, Repairs, with_held}
use Rattle.live_states.specs.Planned.{AreSeen, IsPlanned, IsPlannedFor, IsPlannedWith, Seen, safe_after}
use Rattle.live_states.specs.Snapshots.{AreRepairsOf}
use Rattle.live_states.specs.Volume.{IsVolume, state_over}
use Rattle.live_states.proofs.Planning.{is_served, keeps', planned_with, steps, volume'}
use Rattle.live_states.proofs.Standing.{left_alone}
use Rattle.live_holdings.proofs.Tables.{holding_length}
use Rattle.live.specs.Alive.{Answers, IsLive, AreSnapshotsOf}
use Rattle.live.specs.Ended.{ended}
use Rattle.live.specs.declared.ending.Ending.{Ending}
use Rattle.live.specs.declared.ending.Ending.TheVariants.{Handle, Nothing, Repair}
use Rattle.live.proofs.Quietly.{none_seen}

-- ---- what is held

-- a plan with no handle that is closed and no block that is held
pub none_held : (kept : Kept) (holdings : Holdings) (command : Command) (answer : Answer) (plan draft : Draft) (holds : List ℕ) → draft ≡ plan → holds ≡ []
    → IsPlannedWith kept holdings [] command answer plan holdings → IsPlannedWith kept holdings [] command answer draft (with_held (ended holdings Nothing) holds)
none_held kept holdings command answer plan draft holds same none planned =
    subst (λ d. IsPlannedWith kept holdings [] command answer d (with_held (ended holdings Nothing) holds)) (sym same)
    (subst (λ bs. IsPlannedWith kept holdings [] command answer plan (with_held (ended holdings Nothing) bs)) (sym none) planned)

-- and one that leaves alone what is open and held
pub alone : (kept : Kept) (holdings : Holdings) (command : Command) (answer : Answer) (plan draft : Draft) (holds : List ℕ) → draft ≡ plan → holds ≡ []
    → IsPlanned kept command answer plan → IsPlannedWith kept holdings [] command answer draft (with_held (ended holdings Nothing) holds)
alone kept holdings command answer plan draft holds same none planned =
    none_held kept holdings command answer plan draft holds same none (left_alone kept command answer plan planned holdings)

pub few_held : (n : ℕ) (holds : List ℕ) → holds ≡ [] → All (λ a. a < n) holds
few_held n holds none = subst (All (λ a. a < n)) (sym none) (All-nil (λ a. a < n))

-- as many blocks can be held
pub still_marks : (holdings : Holdings) (ending : Ending) → length (ended holdings ending).held ≡ length holdings.held
still_marks holdings Nothing = refl
still_marks holdings (Handle h) = refl
still_marks holdings (Repair k) = refl

pub left_marks : (holdings : Holdings) (ending : Ending) (holds : List ℕ) → length (with_held (ended holdings ending) holds).held ≡ length holdings.held
left_marks holdings ending holds = holding_length holds (ended holdings ending).held ∙ still_marks holdings ending

-- and the same repairs are installed, of which one may be done
one_more_done : (geo : Geometry) (repairs : Option Repairs) (k : ℕ) → AreRepairsOf geo repairs → AreRepairsOf geo (option_map (λ (r : Repairs). record r { done = slice_set r.done k true }) repairs)
one_more_done geo None k are = are
one_more_done geo (Some repairs) k (all, long) = (all, length-set repairs.done k true ∙ long)

pub still_repairs : (geo : Geometry) (holdings : Holdings) (ending : Ending) (holds : List ℕ) → AreRepairsOf geo holdings.repairs → AreRepairsOf geo (with_held (ended holdings ending) holds).repairs
still_repairs geo holdings Nothing holds are = are
still_repairs geo holdings (Handle h) holds are = are
still_repairs geo holdings (Repair k) holds are = one_more_done geo holdings.repairs k are

pub held_within : (n m : ℕ) (holds : List ℕ) → n ≤ m → All (λ a. a < n) holds → All (λ a. a < m) holds
held_within n m holds few all = λ k d low. let here : slice_index_or holds k d < n = all k d low in omega (arith, here, few)

-- ---- what is pending

pub issued_geometry : (queue : Queued) (ws : List Written) → (issued queue ws).geometry ≡ queue.geometry
issued_geometry queue [] = refl
issued_geometry queue (w ∷ ws) = issued_geometry (record queue { written = w ∷ queue.written; durable = false ∷ queue.durable; loose = false ∷ queue.loose }) ws

module _ (honest : Type 0) (image : List (List ℕ)) (queue : Queued) (kept : Kept) (holdings : Holdings) (live : IsLive honest image queue kept holdings)
    (draft : Draft) (holdings' : Holdings) (staged : Staged) (is : IsStaged kept (changes draft.updates) staged) where
  abbrev kept' : Kept
  kept' = after kept staged

  geometry' : kept'.geometry ≡ kept.geometry
  geometry' = same_geometry kept staged.blocks.items

  -- ---- the invariant

  module _ (command : Command) (answer : Answer) (planned : IsPlannedWith kept holdings [] command answer draft holdings') where
    pub keeps_after : KeepsMetadata kept'
    keeps_after = keeps' kept holdings (pending_of queue) live.alive.disk live.alive.some [] command answer draft holdings' planned (none_seen (users_view live.alive.disk (pending_of queue))) live.alive.keeps staged is

    pub live_after : (queue' : Queued) → queue' ≡ issued queue (map written draft.updates) → pending_of queue' ≡ over (pending_of queue) draft.updates → length holdings'.held ≡ length holdings.held
        → AreRepairsOf kept.geometry holdings'.repairs → IsLive honest image queue' kept' holdings'
    live_after queue' issues pending marks repairs = record {
      geometry = ap (λ (q : Queued). q.geometry) issues ∙ issued_geometry queue (map written draft.updates) ∙ live.geometry ∙ sym geometry';
      alive = record {
        count = live.alive.count ∙ ap block_count (sym geometry');
        keeps = keeps_after;
        disk = live.alive.disk;
        some = goes_on live.alive.disk live.alive.some;
        true = λ h. subst (λ geo. IsVolume kept' holdings' (pending_of queue') (image_view geo image)) (sym geometry') (goes_on (image_view kept.geometry image) (live.alive.true h));
      };
      marks = subst (λ n. n ≤ length holdings'.held) (ap block_count (sym geometry')) (subst (λ n. block_count kept.geometry ≤ n) (sym marks) live.marks);
      repairs = subst (λ geo. AreRepairsOf geo holdings'.repairs) (sym geometry') repairs;
      snapshots = subst (λ geo. AreSnapshotsOf geo holdings'.snapshots) (sym geometry') (subst (AreSnapshotsOf kept.geometry) (sym planned.snapshots) live.snapshots);
      framed = λ h. subst (λ geo. IsImage geo image) (sym geometry') (live.framed h);
    }
      where
        goes_on : (disk : View) → IsVolume kept holdings (pending_of queue) disk → IsVolume kept' holdings' (pending_of queue') disk
        goes_on disk volume =
            subst (λ q. IsVolume kept' holdings' q disk) (sym pending)
            (volume' kept holdings (pending_of queue) disk volume [] command answer draft holdings' planned (none_seen (users_view disk (pending_of queue))) live.alive.keeps staged is)

  -- ---- the answer

  module _ (seen : List Seen) (command : Command) (answer : Answer) (planned : IsPlannedFor kept holdings seen command answer draft holdings')
      (queue' : Queued) (pending : pending_of queue' ≡ over (pending_of queue) draft.updates) where
    abbrev disk : View
    disk = image_view kept.geometry image

    -- what is said of the device and of what is pending then
    said : (P : View → List Pending → Type 0) → P disk (over (pending_of queue) draft.updates) → P (image_view kept'.geometry image) (pending_of queue')
    said P p = subst (λ geo. P (image_view geo image) (pending_of queue')) (sym geometry') (subst (P disk) (sym pending) p)

    pub answers : {D : Type 0} (device : D) → honest → AreSeen seen (users_view disk (pending_of queue))
        → Answers image (record { device = device; queue = queue; kept = kept; holdings = holdings }) command answer image (record { device = device; queue = queue'; kept = kept'; holdings = holdings' }) []
    answers device h sees beside belongs =
        let old = state_over disk (pending_of queue) holdings beside in
        let volume = live.alive.true h in
        record {
          geometry = geometry';
          snapshots = (planned_with kept holdings seen command answer draft holdings' planned).snapshots;
          step = λ stands. said (λ d q. Step kept.geometry old command (Ok answer) (state_over d q holdings' beside))
              (steps kept holdings (pending_of queue) disk volume seen command answer draft holdings' planned sees beside belongs stands);
          serves = λ safe stands.
              said (λ d q. Serves kept.geometry disk (pending_of queue) old safe command answer d q (state_over d q holdings' beside) (safe_after kept.geometry (users_view disk (pending_of queue)) command safe) [])
              (is_served kept holdings (pending_of queue) disk volume seen command answer draft holdings' planned sees beside belongs safe stands);
        }
