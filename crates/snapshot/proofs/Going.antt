-- What a volume goes through by a call.
use Rattle.std.proofs.Common.{◌≡◌, ℕ, Bool, true, false, List, [], ◌∷◌, ◌++◌, reverse, Ok, Err, IsTrue, Option, refl, sym, ap, ◌∙◌, subst, map}
use Rattle.std.proofs.lemmas.List.Elements.{All-nil}
use Rattle.std.proofs.lemmas.List.{append-nil}
use Rattle.layout.specs.declared.refusal.Refusal.{Refusal}
use Rattle.model.specs.Image.{IsImage, image_view}
use Rattle.model.specs.Layout.{Geometry}
use Rattle.model.specs.View.{View}
use Rattle.device.specs.Media.{Held, images_held}
use Rattle.ordering.specs.Cuts.{Cell, Pending, rest, seen, users_view}
use Rattle.ordering.proofs.Flushes.{users_flushed}
use Rattle.queue_model.specs.Blocks.{home_of}
use Rattle.queue_model.specs.Sync.{Writes, WritesNone, WritesNext}
use Rattle.machine.specs.Balance.{Balance}
use Rattle.machine.specs.Command.{Answer, Command, Reply, Write}
use Rattle.machine.specs.State.{State}
use Rattle.machine.specs.Step.{Step}
use Rattle.machine.proofs.AllSteps.{step_keeps}
use Rattle.plans_data.specs.Carried.{Stands}
use Rattle.courses.specs.Serves.{Service, Starts, CarriesOut, Quietly, Refuses, Flushed, is_quiet}
use Rattle.frozen.specs.Kept.{Kept}
use Rattle.frozen_files.specs.Standing.{KeepsFiles}
use Rattle.frozen_files.proofs.Laws.{step_keeps_files}
use Rattle.softdep.specs.Queued.{Queued, pending_of}
use Rattle.softdep.specs.Syncing.{AreWrites}
use Rattle.live_states.specs.Holdings.{Beside, Holdings, AreImagesOf}
use Rattle.live_states.specs.Planned.{safe_after}
use Rattle.live_states.specs.Volume.{state_over}
use Rattle.live.specs.Alive.{Alive, Answers, MayRefuse, StandsSo, disk_of, state_of}
use Rattle.live.specs.Held.{HeldMore}
use Rattle.live.specs.Durable.{GoesSoundly, pieces_of}
use Rattle.live.proofs.Durably.{goes_seen, goes_still}
use Rattle.snapshot.specs.Goes.{Goes, GoesSafely, IsBeside, StaysSafe}
use Rattle.courses.proofs.Serving.{one_before}

-- ---- what stands beside a volume

module _ {D : Type 0} (image' : List (List ℕ)) (new : Alive D) (so : StandsSo image' new) (beside' : Beside) where
  stands_then : Balance new.kept.geometry (state_of image' new beside') → Stands new.kept.geometry (disk_of image' new) (pending_of new.queue) (state_of image' new beside') (λ f. false)
  stands_then balance = record {
    geometry = so.stands.geometry;
    same = refl;
    balance = balance;
    agree = so.stands.agree;
    files = λ f t. let bad : false ≡ true = t in cc;
  }

  -- after a step
  pub beside_then : (image : List (List ℕ)) (old : Alive D) (beside : Beside) (command : Command) (reply : Reply) → new.kept.geometry ≡ old.kept.geometry → IsBeside image old beside → AreImagesOf new.holdings.snapshots beside'.snapshots
      → Step old.kept.geometry (state_of image old beside) command reply (state_of image' new beside') → IsBeside image' new beside'
  beside_then image old beside command reply geometry is belongs step =
      let s = state_of image old beside in
      let t = state_of image' new beside' in
      record {
        belongs = belongs;
        stands = stands_then (subst (λ g. Balance g t) (sym geometry) (step_keeps old.kept.geometry is.stands.geometry s t command reply is.stands.balance step));
        files = subst (λ g. KeepsFiles g t) (sym geometry) (step_keeps_files old.kept.geometry is.stands.geometry s t command reply is.stands.balance is.files step);
        framed = so.framed;
        begun = so.begun;
      }

  -- where users see what they saw
  pub beside_still : (image : List (List ℕ)) (old : Alive D) → new.kept.geometry ≡ old.kept.geometry → IsBeside image old beside' → AreImagesOf new.holdings.snapshots beside'.snapshots
      → state_of image' new beside' ≡ state_of image old beside' → IsBeside image' new beside'
  beside_still image old geometry is belongs same = record {
    belongs = belongs;
    stands = stands_then (subst (λ g. Balance g (state_of image' new beside')) (sym geometry) (subst (Balance old.kept.geometry) (sym same) is.stands.balance));
    files = subst (λ g. KeepsFiles g (state_of image' new beside')) (sym geometry) (subst (KeepsFiles old.kept.geometry) (sym same) is.files);
    framed = so.framed;
    begun = so.begun;
  }

-- the device held nothing else
pub held_nothing : (geo : Geometry) (held held' : Held) → held' ≡ held → HeldMore geo held held' []
held_nothing geo held held' e = record { more = []; held_now = ap images_held e ∙ sym (append-nil (images_held held)); views = refl; framed = All-nil (IsImage geo) }

-- ---- a command that is carried out

module _ {D : Type 0} (held held' : Held) (image image' : List (List ℕ)) (old new : Alive D) (beside : Beside) where
  pub answered : (command : Command) (answer : Answer) (later : List View) → HeldMore old.kept.geometry held held' later → Answers image old command answer image' new later → GoesSafely held image old command held' image' new → StandsSo image' new → IsBeside image old beside
      → Goes beside held image old (command ∷ []) (Ok answer ∷ []) beside held' image' new
  answered command answer later since answers sound so is =
      let a = answers beside is.belongs in
      let step = a.step is.stands in
      let geo = old.kept.geometry in
      let disk = disk_of image old in
      let q = pending_of old.queue in
      let s = state_of image old beside in
      let t = state_of image' new beside in
      record {
        geometry = a.geometry;
        is = beside_then image' new so beside image old beside command (Ok answer) a.geometry is (subst (λ x. AreImagesOf x beside.snapshots) (sym a.snapshots) is.belongs) step;
        run = (t, step, refl);
        later = later;
        since = since;
        service = λ mount h cut safe begin.
            let safe' = safe_after geo (users_view disk q) command safe in (
              safe',
              subst (λ images. Service geo disk q s safe (disk_of image' new) (pending_of new.queue) t safe' (command ∷ []) (Ok answer ∷ []) images) (append-nil later)
                  (CarriesOut command answer (disk_of image' new) (pending_of new.queue) t safe' later Starts step.0 (a.serves safe begin.stands)),
              sound safe,
            );
      }

-- ---- a command that is refused

module _ {D : Type 0} (held held' : Held) (image : List (List ℕ)) (old : Alive D) (beside : Beside) (is : IsBeside image old beside) (same_held : held' ≡ held) where
  refused_here : (device : D) (command : Command) (r : Refusal) → Step old.kept.geometry (state_of image old beside) command (Err r) (state_of image old beside)
      → Goes beside held image old (command ∷ []) (Err r ∷ []) beside held' image (record { device = device; queue = old.queue; kept = old.kept; holdings = old.holdings })
  refused_here device command r step = record {
    geometry = refl;
    is = record { belongs = is.belongs; stands = is.stands; files = is.files; framed = is.framed; begun = record { mount = is.begun.mount; history = is.begun.history; cut = is.begun.cut; moment = is.begun.moment } };
    run = (state_of image old beside, step, refl);
    later = [];
    since = held_nothing old.kept.geometry held held' same_held;
    service = λ mount h cut safe begin. (
      safe,
      Refuses command r Starts step,
      goes_seen _ _ _ _ _ _ _ _ (goes_still held held' old (record { device = device; queue = old.queue; kept = old.kept; holdings = old.holdings }) same_held refl refl refl safe),
    );
  }

  pub refused : (image' : List (List ℕ)) (new : Alive D) (command : Command) (r : Refusal) → image' ≡ image → new.queue ≡ old.queue → new.kept ≡ old.kept → new.holdings ≡ old.holdings
      → Step old.kept.geometry (state_of image old beside) command (Err r) (state_of image old beside)
      → Goes beside held image old (command ∷ []) (Err r ∷ []) beside held' image' new
  refused image' new command r same_image queue kept holdings step =
      subst (λ i. Goes beside held image old (command ∷ []) (Err r ∷ []) beside held' i new) (sym same_image)
      (subst (λ (q : Queued). Goes beside held image old (command ∷ []) (Err r ∷ []) beside held' image (record { device = new.device; queue = q; kept = new.kept; holdings = new.holdings })) (sym queue)
      (subst (λ (k : Kept). Goes beside held image old (command ∷ []) (Err r ∷ []) beside held' image (record { device = new.device; queue = old.queue; kept = k; holdings = new.holdings })) (sym kept)
      (subst (λ (h : Holdings). Goes beside held image old (command ∷ []) (Err r ∷ []) beside held' image (record { device = new.device; queue = old.queue; kept = old.kept; holdings = h })) (sym holdings)
      (refused_here new.device command r step))))

  pub may_refuse : (image' : List (List ℕ)) (new : Alive D) (command : Command) (r : Refusal) → image' ≡ image → new.queue ≡ old.queue → new.kept ≡ old.kept → new.holdings ≡ old.holdings
      → MayRefuse image old command r → Goes beside held image old (command ∷ []) (Err r ∷ []) beside held' image' new
  may_refuse image' new command r same_image queue kept holdings refuses = refused image' new command r same_image queue kept holdings (refuses beside is.belongs)

-- ---- a command that changes nothing

-- what is quiet writes nothing
pub quiet_asks : (opened : ℕ → Option ℕ) (command : Command) → IsTrue (is_quiet command) → pieces_of opened command ≡ []
quiet_asks opened (Write h k bytes) quiet = cc
quiet_asks opened _ quiet = refl

module _ {D : Type 0} (held held' : Held) (image : List (List ℕ)) (old : Alive D) (beside : Beside) (is : IsBeside image old beside) (same_held : held' ≡ held) where
  quiet_here : (device : D) (command : Command) (answer : Answer) → IsTrue (is_quiet command) → Step old.kept.geometry (state_of image old beside) command (Ok answer) (state_of image old beside)
      → Goes beside held image old (command ∷ []) (Ok answer ∷ []) beside held' image (record { device = device; queue = old.queue; kept = old.kept; holdings = old.holdings })
  quiet_here device command answer quiet step =
      let geo = old.kept.geometry in
      let disk = disk_of image old in
      let q = pending_of old.queue in
      let s = state_of image old beside in
      record {
        geometry = refl;
        is = record { belongs = is.belongs; stands = is.stands; files = is.files; framed = is.framed; begun = record { mount = is.begun.mount; history = is.begun.history; cut = is.begun.cut; moment = is.begun.moment } };
        run = (s, step, refl);
        later = [];
        since = held_nothing geo held held' same_held;
        service = λ mount h cut safe begin. (
          safe,
          CarriesOut command answer disk q s safe [] Starts step.0 (Quietly command answer s quiet step.1),
          subst (λ pieces. GoesSoundly held old held' (record { device = device; queue = old.queue; kept = old.kept; holdings = old.holdings }) safe safe pieces (s.view ∷ s.view ∷ [])) (sym (quiet_asks s.opened command quiet))
              (goes_seen _ _ _ _ _ _ _ _ (goes_still held held' old (record { device = device; queue = old.queue; kept = old.kept; holdings = old.holdings }) same_held refl refl refl safe)),
        );
      }

  pub quietly : (image' : List (List ℕ)) (new : Alive D) (command : Command) (answer : Answer) → image' ≡ image → new.queue ≡ old.queue → new.kept ≡ old.kept → new.holdings ≡ old.holdings
      → IsTrue (is_quiet command) → Step old.kept.geometry (state_of image old beside) command (Ok answer) (state_of image old beside)
      → Goes beside held image old (command ∷ []) (Ok answer ∷ []) beside held' image' new
  quietly image' new command answer same_image queue kept holdings quiet step =
      subst (λ i. Goes beside held image old (command ∷ []) (Ok answer ∷ []) beside held' i new) (sym same_image)
      (subst (λ (q : Queued). Goes beside held image old (command ∷ []) (Ok answer ∷ []) beside held' image (record { device = new.device; queue = q; kept = new.kept; holdings = new.holdings })) (sym queue)
      (subst (λ (k : Kept). Goes beside held image old (command ∷ []) (Ok answer ∷ []) beside held' image (record { device = new.device; queue = old.queue; kept = k; holdings = new.holdings })) (sym kept)
      (subst (λ (h : Holdings). Goes beside held image old (command ∷ []) (Ok answer ∷ []) beside held' image (record { device = new.device; queue = old.queue; kept = old.kept; holdings = h })) (sym holdings)
      (quiet_here new.device command answer quiet step))))

-- ---- writes

wrote_users : (home : Cell → ℕ) (disk : View) (q : List Pending) (blocks : List ℕ) (views : List View) (disk' : View) (q' : List Pending) → Writes home disk q blocks views disk' q' → users_view disk' q' ≡ users_view disk q
wrote_users home disk q blocks views disk' q' WritesNone = refl
wrote_users home disk q blocks views disk' q' (WritesNext {blocks = others} {views = more} a cut closed of_block some writes) =
    wrote_users home (seen disk q cut) (rest q cut) others more disk' q' writes ∙ users_flushed disk q cut closed

module _ (geo : Geometry) (disk0 : View) (q0 : List Pending) (s : State) (safe : ℕ → Bool) where
  wrote_service : (disk : View) (q : List Pending) (blocks : List ℕ) (views images : List View) (disk' : View) (q' : List Pending) → Writes (home_of geo) disk q blocks views disk' q'
      → Service geo disk0 q0 s safe disk q s safe [] [] images → Service geo disk0 q0 s safe disk' q' s safe [] [] (reverse views ++ images)
  wrote_service disk q blocks views images disk' q' WritesNone service = service
  wrote_service disk q blocks views images disk' q' (WritesNext {blocks = others} {views = more} a cut closed of_block some writes) service =
      subst (λ xs. Service geo disk0 q0 s safe disk' q' s safe [] [] xs) (one_before (seen disk q cut) more images)
      (wrote_service (seen disk q cut) (rest q cut) others more (seen disk q cut ∷ images) disk' q' writes (Flushed a cut service closed of_block))

module _ {D : Type 0} (held held' : Held) (image image' : List (List ℕ)) (old : Alive D) (beside : Beside) (is : IsBeside image old beside) (queue : Queued)
    (flushes : AreWrites old.kept.geometry image held (pending_of old.queue) image' held' (pending_of queue)) where
  abbrev geo : Geometry
  geo = old.kept.geometry

  abbrev disk : View
  disk = disk_of image old

  -- what the device held since, newest first
  abbrev pub images : List View
  images = reverse (map (image_view geo) flushes.more)

  pub flushed_since : HeldMore geo held held' images
  flushed_since = record { more = flushes.more; held_now = flushes.held_now; views = refl; framed = (flushes.framed is.framed).1 }

  pub flushed_state : (holdings : Holdings) → state_over (image_view geo image') (pending_of queue) holdings beside ≡ state_over disk (pending_of old.queue) holdings beside
  flushed_state holdings =
      ap (λ (view : View). record (state_over disk (pending_of old.queue) holdings beside) { view = view }) (wrote_users (home_of geo) disk (pending_of old.queue) flushes.blocks (map (image_view geo) flushes.more) (image_view geo image') (pending_of queue) flushes.writes)

  pub flushed : (device : D) → StandsSo image' (record { device = device; queue = queue; kept = old.kept; holdings = old.holdings }) → StaysSafe held old held' (record { device = device; queue = queue; kept = old.kept; holdings = old.holdings })
      → Goes beside held image old [] [] beside held' image' (record { device = device; queue = queue; kept = old.kept; holdings = old.holdings })
  flushed device so sound =
      let new : Alive D = record { device = device; queue = queue; kept = old.kept; holdings = old.holdings } in
      let s = state_of image old beside in
      let q = pending_of old.queue in
      record {
        geometry = refl;
        is = beside_still image' new so beside image old refl is is.belongs (flushed_state old.holdings);
        run = flushed_state old.holdings;
        later = images;
        since = flushed_since;
        service = λ mount h cut safe begin. (
          safe,
          subst (λ t. Service geo disk q s safe (image_view geo image') (pending_of queue) t safe [] [] images) (sym (flushed_state old.holdings))
              (subst (λ xs. Service geo disk q s safe (image_view geo image') (pending_of queue) s safe [] [] xs)
              (append-nil images)
              (wrote_service geo disk q s safe disk q flushes.blocks (map (image_view geo) flushes.more) [] (image_view geo image') (pending_of queue) flushes.writes Starts)),
          sound safe,
        );
      }
