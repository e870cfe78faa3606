-- What a mounted volume goes through is a service.
use Rattle.std.proofs.Common.{◌≡◌, ℕ, Bool, List, [], ◌∷◌, ◌++◌, map, reverse, Ok, Err, IsTrue, refl, sym, ap, ◌∙◌, subst}
use Rattle.model.specs.Image.{image_view}
use Rattle.model.specs.Layout.{Geometry}
use Rattle.model.specs.Reach.{IsReachable}
use Rattle.model.specs.View.{View}
use Rattle.layout.specs.declared.refusal.Refusal.{Refusal}
use Rattle.ordering.specs.Cuts.{Pending, IsClosed, rest, seen, users_view}
use Rattle.machine.specs.Command.{Answer, Command, Reply}
use Rattle.machine.specs.State.{State}
use Rattle.machine.specs.Step.{Step}
use Rattle.plans_data.specs.Carried.{Stands}
use Rattle.queue_model.specs.Blocks.{home_of}
use Rattle.queue_model.specs.Files.{Written}
use Rattle.queue_model.specs.Sync.{Writes, WritesNone, WritesNext}
use Rattle.ordering.proofs.Flushes.{users_flushed}
use Rattle.frozen.specs.Kept.{Kept}
use Rattle.softdep.specs.Queued.{Queued, pending_of}
use Rattle.courses.specs.Serves.{IsBeginning, IsSafeService, Serves, Service, Starts, CarriesOut as ServesOne, Refuses as RefusesOne, Flushed}
use Rattle.courses.proofs.ServiceLemmas.{image_begins, service_safe}
use Rattle.courses.proofs.Serving.{one_before}
use Rattle.live_states.specs.Holdings.{AreImagesOf, Beside, Holdings, IsIdle, nothing_beside}
use Rattle.live_states.specs.Planned.{safe_after}
use Rattle.live_states.specs.Volume.{state_over}
use Rattle.live_states.proofs.Planning.{nothing_safe, still_nothing}
use Rattle.live_states.proofs.Standing.{idle_mounted}
use Rattle.live.specs.Alive.{Alive, AnswersBeside, disk_of, state_of}
use Rattle.live.specs.Mounting.{IsMountable}
use Rattle.live.specs.Runs.{Begins, CarriesOut, Flushes, Lives, Refuses}

module _ {D : Type 0} (beside : Beside) (image0 : List (List ℕ)) (live0 : Alive D) (belongs : AreImagesOf live0.holdings.snapshots beside.snapshots)
    (mounted : View) (h : List Written) (cut : List Bool) where
  abbrev geo : Geometry
  geo = live0.kept.geometry

  abbrev disk_at : List (List ℕ) → View
  disk_at image = image_view geo image

  abbrev state_at : List (List ℕ) → Alive D → State
  state_at image live = state_over (disk_at image) (pending_of live.queue) live.holdings beside

  module _ (safe0 : ℕ → Bool)
      (begins : IsBeginning geo mounted h cut (disk_at image0) (pending_of live0.queue) (state_at image0 live0) nothing_safe)
      (begins_so : IsBeginning geo mounted h cut (disk_at image0) (pending_of live0.queue) (state_at image0 live0) safe0) where
    abbrev Quiet : List (List ℕ) → Alive D → List Command → List Reply → List View → Type 0
    Quiet image live commands replies images =
        Service geo (disk_at image0) (pending_of live0.queue) (state_at image0 live0) nothing_safe (disk_at image) (pending_of live.queue) (state_at image live) nothing_safe commands replies images

    abbrev Safe : List (List ℕ) → Alive D → List Command → List Reply → List View → (ℕ → Bool) → Type 0
    Safe image live commands replies images safe =
        Service geo (disk_at image0) (pending_of live0.queue) (state_at image0 live0) safe0 (disk_at image) (pending_of live.queue) (state_at image live) safe commands replies images

    pub record Served (image : List (List ℕ)) (live : Alive D) (commands : List Command) (replies : List Reply) (images : List View) : Type 0 where
      pub geometry : live.kept.geometry ≡ geo
      pub snapshots : live.holdings.snapshots ≡ live0.holdings.snapshots
      pub quiet : Quiet image live commands replies images
      pub safe : ℕ → Bool
      pub safely : Safe image live commands replies images safe

    -- ---- a command

    module _ (image : List (List ℕ)) (live : Alive D) (commands : List Command) (replies : List Reply) (images : List View) (so_far : Served image live commands replies images) where
      there : AreImagesOf live.holdings.snapshots beside.snapshots
      there = subst (λ s. AreImagesOf s beside.snapshots) (sym so_far.snapshots) belongs

      stands : Stands geo (disk_at image) (pending_of live.queue) (state_at image live) nothing_safe
      stands = (service_safe geo mounted h cut (disk_at image0) (pending_of live0.queue) (state_at image0 live0) nothing_safe begins (disk_at image) (pending_of live.queue) (state_at image live) nothing_safe commands replies images so_far.quiet).stands

      stands_so : Stands geo (disk_at image) (pending_of live.queue) (state_at image live) so_far.safe
      stands_so = (service_safe geo mounted h cut (disk_at image0) (pending_of live0.queue) (state_at image0 live0) safe0 begins_so (disk_at image) (pending_of live.queue) (state_at image live) so_far.safe commands replies images so_far.safely).stands

      module _ (command : Command) (answer : Answer) (image' : List (List ℕ)) (live' : Alive D) (later : List View) (answers : AnswersBeside beside image live command answer image' live' later) where
        geometry' : live'.kept.geometry ≡ geo
        geometry' = answers.geometry ∙ so_far.geometry

        abbrev IsStep : Geometry → Geometry → Type 0
        IsStep g g' =
            Stands g (image_view g image) (pending_of live.queue) (state_over (image_view g image) (pending_of live.queue) live.holdings beside) nothing_safe
            → Step g (state_over (image_view g image) (pending_of live.queue) live.holdings beside) command (Ok answer) (state_over (image_view g' image') (pending_of live'.queue) live'.holdings beside)

        step : Step geo (state_at image live) command (Ok answer) (state_at image' live')
        step = subst (λ g. IsStep g geo) so_far.geometry (subst (λ g'. IsStep live.kept.geometry g') geometry' answers.step) stands

        abbrev IsServed : Geometry → Geometry → Type 0
        IsServed g g' =
            (safe : ℕ → Bool) → Stands g (image_view g image) (pending_of live.queue) (state_over (image_view g image) (pending_of live.queue) live.holdings beside) safe
            → Serves g (image_view g image) (pending_of live.queue) (state_over (image_view g image) (pending_of live.queue) live.holdings beside) safe command answer
            (image_view g' image') (pending_of live'.queue) (state_over (image_view g' image') (pending_of live'.queue) live'.holdings beside)
            (safe_after g (users_view (image_view g image) (pending_of live.queue)) command safe) later

        serves : IsServed geo geo
        serves = subst (λ g. IsServed g geo) so_far.geometry (subst (λ g'. IsServed live.kept.geometry g') geometry' answers.serves)

        abbrev safe' : ℕ → Bool
        safe' = safe_after geo (users_view (disk_at image) (pending_of live.queue)) command so_far.safe

        carried : Served image' live' (commands ++ command ∷ []) (replies ++ Ok answer ∷ []) (later ++ images)
        carried = record {
          geometry = geometry';
          snapshots = answers.snapshots ∙ so_far.snapshots;
          quiet = ServesOne command answer (disk_at image') (pending_of live'.queue) (state_at image' live') nothing_safe later so_far.quiet step.0
              (subst (λ s. Serves geo (disk_at image) (pending_of live.queue) (state_at image live) nothing_safe command answer (disk_at image') (pending_of live'.queue) (state_at image' live') s later)
              (still_nothing geo (users_view (disk_at image) (pending_of live.queue)) command) (serves nothing_safe stands));
          safe = safe';
          safely = ServesOne command answer (disk_at image') (pending_of live'.queue) (state_at image' live') safe' later so_far.safely step.0 (serves so_far.safe stands_so);
        }

      -- ---- a refusal

      refused : (command : Command) (r : Refusal) → Step live.kept.geometry (state_of image live beside) command (Err r) (state_of image live beside)
          → Served image live (commands ++ command ∷ []) (replies ++ Err r ∷ []) images
      refused command r step =
          let here = subst (λ g. Step g (state_over (image_view g image) (pending_of live.queue) live.holdings beside) command (Err r) (state_over (image_view g image) (pending_of live.queue) live.holdings beside)) so_far.geometry step in
          record {
            geometry = so_far.geometry;
            snapshots = so_far.snapshots;
            quiet = RefusesOne command r so_far.quiet here;
            safe = so_far.safe;
            safely = RefusesOne command r so_far.safely here;
          }

    -- ---- writes

    module _ (safe1 : ℕ → Bool) (holdings : Holdings) (commands : List Command) (replies : List Reply) where
      abbrev Since : (ℕ → Bool) → View → List Pending → List View → Type 0
      Since safe disk q images =
          Service geo (disk_at image0) (pending_of live0.queue) (state_at image0 live0) safe1 disk q (state_over disk q holdings beside) safe commands replies images

    same_users : (disk : View) (q : List Pending) (holdings : Holdings) (cut : List Bool) → IsClosed q cut → state_over (seen disk q cut) (rest q cut) holdings beside ≡ state_over disk q holdings beside
    same_users disk q holdings cut closed = ap (λ view. record { view = view; opened = (state_over disk q holdings beside).opened; held = (state_over disk q holdings beside).held; snapshots = beside.snapshots; plan = (state_over disk q holdings beside).plan })
        (users_flushed disk q cut closed)

    wrote_all : (safe1 : ℕ → Bool) (safe : ℕ → Bool) (holdings : Holdings) (commands : List Command) (replies : List Reply) (blocks : List ℕ) (views : List View) (disk : View) (q : List Pending) (images : List View) (disk' : View) (q' : List Pending)
        → Writes (home_of geo) disk q blocks views disk' q' → Since safe1 holdings commands replies safe disk q images
        → Since safe1 holdings commands replies safe disk' q' (reverse views ++ images)
    wrote_all safe1 safe holdings commands replies blocks views disk q images disk' q' WritesNone service = service
    wrote_all safe1 safe holdings commands replies blocks views disk q images disk' q' (WritesNext {blocks = others} {views = more} a cut closed of_block some writes) service =
        let image = seen disk q cut in
        let left = rest q cut in
        subst (λ is. Since safe1 holdings commands replies safe disk' q' is) (one_before image more images)
        (wrote_all safe1 safe holdings commands replies others more image left (image ∷ images) disk' q' writes
        (subst (λ st. Service geo (disk_at image0) (pending_of live0.queue) (state_at image0 live0) safe1 image left st safe commands replies (image ∷ images)) (sym (same_users disk q holdings cut closed)) (Flushed a cut service closed of_block)))

    -- the same service, of a volume that is as it was but for its device
    abbrev Within : (ℕ → Bool) → (ℕ → Bool) → List (List ℕ) → Queued → Holdings → List Command → List Reply → List View → Type 0
    Within safe1 safe image queue holdings commands replies images =
        Service geo (disk_at image0) (pending_of live0.queue) (state_at image0 live0) safe1 (disk_at image) (pending_of queue) (state_over (disk_at image) (pending_of queue) holdings beside) safe commands replies images

    as_it_was : (image : List (List ℕ)) (live live' : Alive D) (commands : List Command) (replies : List Reply) (images : List View) → live'.queue ≡ live.queue → live'.kept ≡ live.kept → live'.holdings ≡ live.holdings
        → Served image live commands replies images → Served image live' commands replies images
    as_it_was image live live' commands replies images queue kept holdings s = record {
      geometry = ap (λ (k : Kept). k.geometry) kept ∙ s.geometry;
      snapshots = ap (λ (held : Holdings). held.snapshots) holdings ∙ s.snapshots;
      quiet = subst (λ held. Within nothing_safe nothing_safe image live'.queue held commands replies images) (sym holdings) (subst (λ q. Within nothing_safe nothing_safe image q live.holdings commands replies images) (sym queue) s.quiet);
      safe = s.safe;
      safely = subst (λ held. Within safe0 s.safe image live'.queue held commands replies images) (sym holdings) (subst (λ q. Within safe0 s.safe image q live.holdings commands replies images) (sym queue) s.safely);
    }

    module _ (image : List (List ℕ)) (live : Alive D) (commands : List Command) (replies : List Reply) (images : List View) (so_far : Served image live commands replies images)
        (blocks : List ℕ) (more : List (List (List ℕ))) (image' : List (List ℕ)) (live' : Alive D)
        (writes : Writes (home_of live.kept.geometry) (image_view live.kept.geometry image) (pending_of live.queue) blocks (map (image_view live.kept.geometry) more) (image_view live.kept.geometry image') (pending_of live'.queue)) where
      since : (safe1 safe : ℕ → Bool) → Within safe1 safe image live.queue live.holdings commands replies images
          → Within safe1 safe image' live'.queue live.holdings commands replies (reverse (map (image_view live.kept.geometry) more) ++ images)
      since safe1 safe service =
          subst (λ g. Writes (home_of g) (image_view g image) (pending_of live.queue) blocks (map (image_view g) more) (image_view g image') (pending_of live'.queue)
          → Within safe1 safe image' live'.queue live.holdings commands replies (reverse (map (image_view g) more) ++ images)) (sym so_far.geometry)
          (λ f. wrote_all safe1 safe live.holdings commands replies blocks (map (image_view geo) more) (disk_at image) (pending_of live.queue) images (disk_at image') (pending_of live'.queue) f service) writes

      wrote_on : live'.kept ≡ live.kept → live'.holdings ≡ live.holdings
          → Served image' live' commands replies (reverse (map (image_view live.kept.geometry) more) ++ images)
      wrote_on kept holdings = record {
        geometry = ap (λ (k : Kept). k.geometry) kept ∙ so_far.geometry;
        snapshots = ap (λ (held : Holdings). held.snapshots) holdings ∙ so_far.snapshots;
        quiet = subst (λ held. Within nothing_safe nothing_safe image' live'.queue held commands replies (reverse (map (image_view live.kept.geometry) more) ++ images))
            (sym holdings) (since nothing_safe nothing_safe so_far.quiet);
        safe = so_far.safe;
        safely = subst (λ held. Within safe0 so_far.safe image' live'.queue held commands replies (reverse (map (image_view live.kept.geometry) more) ++ images))
            (sym holdings) (since safe0 so_far.safe so_far.safely);
      }

    -- ---- all of it

    pub served : (image : List (List ℕ)) (live : Alive D) (commands : List Command) (replies : List Reply) (images : List View) → Lives beside image0 live0 image live commands replies images
        → Served image live commands replies images
    served image live commands replies images Begins = record { geometry = refl; snapshots = refl; quiet = Starts; safe = safe0; safely = Starts }
    served image live cs rs im (CarriesOut {image = i} {live = l} {commands = commands} {replies = replies} {images = images} command answer image' live' later lives answers) =
        let so_far = served i l commands replies images lives in
        carried i l commands replies images so_far command answer image' live' later (answers beside (there i l commands replies images so_far))
    served image live cs rs im (Refuses {image = i} {live = l} {commands = commands} {replies = replies} {images = images} command r image' live' lives refuses same) =
        let so_far = served i l commands replies images lives in
        subst (λ x. Served x live' (commands ++ command ∷ []) (replies ++ Err r ∷ []) images) (sym same.same_image)
        (as_it_was i l live' (commands ++ command ∷ []) (replies ++ Err r ∷ []) images same.queue same.kept same.holdings
        (refused i l commands replies images so_far command r (refuses beside (there i l commands replies images so_far))))
    served image live cs rs im (Flushes {image = i} {live = l} {commands = commands} {replies = replies} {images = images} held held' image' live' lives wrote kept holdings) =
        wrote_on i l commands replies images (served i l commands replies images lives) wrote.blocks wrote.more image' live' wrote.writes kept holdings

    pub safe_run : (image : List (List ℕ)) (live : Alive D) (commands : List Command) (replies : List Reply) (images : List View) → Lives beside image0 live0 image live commands replies images
        → (safe : ℕ → Bool) × Safe image live commands replies images safe
        × IsSafeService geo mounted h cut (disk_at image0) (pending_of live0.queue) (state_at image0 live0) safe0 (disk_at image) (pending_of live.queue) (state_at image live) safe commands replies images
    safe_run image live commands replies images lives =
        let s = served image live commands replies images lives in (
          s.safe,
          s.safely,
          service_safe geo mounted h cut (disk_at image0) (pending_of live0.queue) (state_at image0 live0) safe0 begins_so (disk_at image) (pending_of live.queue) (state_at image live) s.safe commands replies images s.safely,
        )

-- ---- where it begins

pub mounted_begins : {D : Type 0} (image : List (List ℕ)) (live : Alive D) → IsMountable live.kept.geometry image → pending_of live.queue ≡ [] → IsIdle live.holdings
    → (safe : ℕ → Bool) → ((f : ℕ) → IsTrue (safe f) → IsReachable live.kept.geometry (disk_of image live) f × (((disk_of image live).inode f).mode ≡ 1))
    → IsBeginning live.kept.geometry (disk_of image live) [] [] (disk_of image live) (pending_of live.queue) (state_of image live nothing_beside) safe
mounted_begins image live mountable none idle safe files =
    let geo = live.kept.geometry in
    let disk = disk_of image live in
    subst (λ q. IsBeginning geo disk [] [] disk q (state_over disk q live.holdings nothing_beside) safe) (sym none)
    (subst (λ st. IsBeginning geo disk [] [] disk [] st safe) (idle_mounted disk live.holdings idle) (image_begins geo image safe mountable.is_image mountable.obeys files))
