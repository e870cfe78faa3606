-- What a volume goes through that carries out commands is a session, and what each stop of it leaves.
use Rattle.std.proofs.Common.{◌≡◌, ℕ, Bool, List, [], ◌∷◌, refl, sym, ◌∙◌, ap, subst, IsTrue, Ok, Err}
use Rattle.model.specs.Layout.{Geometry}
use Rattle.model.specs.View.{View}
use Rattle.model.specs.Image.{IsImage, image_view}
use Rattle.model.specs.Reach.{IsReachable}
use Rattle.model.specs.Rules.{ObeysRules}
use Rattle.ordering.specs.Cuts.{Pending, users_view}
use Rattle.ordering.specs.Ghosts.{at_rest}
use Rattle.plans_data.proofs.Stands.{stands_mounted}
use Rattle.queue_model.specs.Files.{Written}
use Rattle.machine.specs.State.{State, mounted}
use Rattle.machine.specs.Command.{Command, Answer, Reply}
use Rattle.machine.specs.Causes.{Accepts}
use Rattle.machine.specs.Paths.{number_at}
use Rattle.machine.proofs.WholeBlocks.{image_whole, image_records}
use Rattle.courses.specs.Leads.{IsMoment}
use Rattle.courses.specs.Session.{Session, Opened, Answers, Stores, IsServed}
use Rattle.courses.specs.Done.{IsDoneBy, CreatesInSlot, CreatesInNewBlock, MakesInSlot, MakesInNewBlock, LinksInSlot, LinksInNewBlock, RenamesInSlot, MovesToSlot, MovesToNewBlock, UnlinksName, UnlinksFile, RemovesName, RemovesDirectory, WritesInPlace, WritesBehind, WritesElsewhere, TruncatesFile, ClosesHandle, CarriesOutRepair, SetsItsAttributes}
use Rattle.courses.specs.Serves.{Serves, ByPlan, Quietly, FlushesNone, FlushesSome, SyncsAll, Freezes, Releases, IsBeginning, Service, Starts, CarriesOut, Refuses, Flushed, TakesNameOf, IsSpared, IsSafeService}
use Rattle.courses.proofs.Images.{each_safe}
use Rattle.courses.proofs.LifeCourses.{life_lived, mount_moment, anew_moment}
use Rattle.courses.proofs.Runs.{served}
use Rattle.courses.proofs.Serving.{moment_agrees, performs, session_stands, serves}
use Rattle.courses.proofs.Spared.{but_other}

-- ---- where a volume may begin

pub image_begins : (geo : Geometry) (image : List (List ℕ)) (safe : ℕ → Bool) → IsImage geo image → ObeysRules geo (image_view geo image)
    → ((f : ℕ) → IsTrue (safe f) → IsReachable geo (image_view geo image) f × (((image_view geo image).inode f).mode ≡ 1))
    → IsBeginning geo (image_view geo image) [] [] (image_view geo image) [] (mounted (image_view geo image)) safe
image_begins geo image safe is obeys files = record {
  stands = stands_mounted geo (image_view geo image) safe is.geometry obeys (image_whole geo image is) (image_records geo image) files;
  moment = mount_moment geo (image_view geo image) _ safe obeys (λ f t. (files f t).0);
}

module _ (geo : Geometry) (mounted : View) (h : List Written) (cut : List Bool) (disk0 : View) (q0 : List Pending) (old0 : State) (safe0 : ℕ → Bool) (begin : IsBeginning geo mounted h cut disk0 q0 old0 safe0) where
  -- ---- a session

  pub service_session : (disk : View) (q : List Pending) (new : State) (safe : ℕ → Bool) (commands : List Command) (replies : List Reply) (images : List View) → Service geo disk0 q0 old0 safe0 disk q new safe commands replies images
      → Session geo disk0 q0 old0 safe0 disk q new safe commands replies images
  service_session disk q new safe commands replies images Starts = Opened
  service_session disk q new safe cs rs im (CarriesOut {disk = d} {q = p} {old = old} {safe = s} {commands = commands} {replies = replies} {images = images} command answer d' p' new' s' later service accepts done) =
      serves geo mounted h cut disk0 q0 old0 safe0 begin d p old s commands replies images (service_session d p old s commands replies images service) command answer d' p' new' s' later accepts done
  service_session disk q new safe cs rs im (Refuses {disk = d} {q = p} {old = old} {safe = s} {commands = commands} {replies = replies} {images = images} command r service step) =
      Answers command (Err r) old (service_session d p old s commands replies images service) step refl refl
  service_session disk q new safe cs rs im (Flushed {disk = d} {q = p} {old = old} {safe = s} {commands = commands} {replies = replies} {images = images} a put service closed of_block) =
      Stores put (service_session d p old s commands replies images service) closed

  -- ---- files that lose no name

  done_spares : (disk : View) (q : List Pending) (old : State) (safe : ℕ → Bool) (command : Command) (answer : Answer) (file : ℕ) (plan : List Pending) (new : State) (safe' : ℕ → Bool) → users_view disk q ≡ old.view
      → IsDoneBy geo disk q old safe command answer file plan new safe' → (f : ℕ) → (TakesNameOf geo old command f → ⊥) → IsTrue (safe f) → IsTrue (safe' f)
  done_spares disk q old safe command answer file plan new safe' same (UnlinksName p stays) f spares t = but_other (number_at geo (users_view disk q) p) f safe (λ e. spares (ap (λ v. number_at geo v p) (sym same) ∙ sym e)) t
  done_spares disk q old safe command answer file plan new safe' same (UnlinksFile p blocks one goes) f spares t = but_other (number_at geo (users_view disk q) p) f safe (λ e. spares (ap (λ v. number_at geo v p) (sym same) ∙ sym e)) t
  done_spares disk q old safe command answer file plan new safe' same (CreatesInSlot p words n s entry after free place) f spares t = t
  done_spares disk q old safe command answer file plan new safe' same (CreatesInNewBlock p words n b kept s entry after free place) f spares t = t
  done_spares disk q old safe command answer file plan new safe' same (MakesInSlot p words i a dots s entry after free own are place) f spares t = t
  done_spares disk q old safe command answer file plan new safe' same (MakesInNewBlock p words i a dots b kept s entry after free own are other place) f spares t = t
  done_spares disk q old safe command answer file plan new safe' same (LinksInSlot p r s entry after place) f spares t = t
  done_spares disk q old safe command answer file plan new safe' same (LinksInNewBlock p r b kept s entry after place) f spares t = t
  done_spares disk q old safe command answer file plan new safe' same (RenamesInSlot p r entry after one says others) f spares t = t
  done_spares disk q old safe command answer file plan new safe' same (MovesToSlot p r s entry after' after apart place entered grounds) f spares t = t
  done_spares disk q old safe command answer file plan new safe' same (MovesToNewBlock p r b kept s entry after' after apart place entered grounds table) f spares t = t
  done_spares disk q old safe command answer file plan new safe' same (RemovesName p after all stays) f spares t = t
  done_spares disk q old safe command answer file plan new safe' same (RemovesDirectory p blocks after all two goes) f spares t = t
  done_spares disk q old safe command answer file plan new safe' same (WritesInPlace h k piece bytes over inside free) f spares t = t
  done_spares disk q old safe command answer file plan new safe' same (WritesBehind h k piece bytes b news over choice past) f spares t = t
  done_spares disk q old safe command answer file plan new safe' same (WritesElsewhere h k piece bytes b over free inside kept) f spares t = t
  done_spares disk q old safe command answer file plan new safe' same (TruncatesFile h size) f spares t = t
  done_spares disk q old safe command answer file plan new safe' same (SetsItsAttributes n words) f spares t = t
  done_spares disk q old safe command answer file plan new safe' same (ClosesHandle h) f spares t = t
  done_spares disk q old safe command answer file plan new safe' same (CarriesOutRepair k list r planned at) f spares t = t

  serving_spares : (disk : View) (q : List Pending) (old : State) (safe : ℕ → Bool) (command : Command) (answer : Answer) (disk' : View) (q' : List Pending) (new : State) (safe' : ℕ → Bool) (later : List View) → users_view disk q ≡ old.view
      → Serves geo disk q old safe command answer disk' q' new safe' later → (f : ℕ) → (TakesNameOf geo old command f → ⊥) → IsTrue (safe f) → IsTrue (safe' f)
  serving_spares disk q old safe command answer disk' q' new safe' later same (ByPlan c a file plan n s done rest) f spares t = done_spares disk q old safe c a file plan n s same done f spares t
  serving_spares disk q old safe command answer disk' q' new safe' later same (Quietly c a n quiet effect) f spares t = t
  serving_spares disk q old safe command answer disk' q' new safe' later same (FlushesNone a) f spares t = t
  serving_spares disk q old safe command answer disk' q' new safe' later same (FlushesSome a put closed of_block some) f spares t = t
  serving_spares disk q old safe command answer disk' q' new safe' later same (SyncsAll blocks views d writes) f spares t = t
  serving_spares disk q old safe command answer disk' q' new safe' later same (Freezes blocks views d writes) f spares t = t
  serving_spares disk q old safe command answer disk' q' new safe' later same (Releases r blocks views d n writes few) f spares t = t

  service_served : (disk : View) (q : List Pending) (new : State) (safe : ℕ → Bool) (commands : List Command) (replies : List Reply) (images : List View) → Service geo disk0 q0 old0 safe0 disk q new safe commands replies images
      → IsServed geo disk0 q0 old0 safe0 disk q new safe commands replies images
  service_served disk q new safe commands replies images service = served geo disk0 q0 old0 safe0 begin.stands.same disk q new safe commands replies images (service_session disk q new safe commands replies images service)

  pub stays_safe : (disk : View) (q : List Pending) (new : State) (safe : ℕ → Bool) (commands : List Command) (replies : List Reply) (images : List View) (service : Service geo disk0 q0 old0 safe0 disk q new safe commands replies images)
      → (f : ℕ) → IsSpared f service → IsTrue (safe0 f) → IsTrue (safe f)
  stays_safe disk q new safe commands replies images Starts f spared t = t
  stays_safe disk q new safe cs rs im (CarriesOut {disk = d} {q = p} {old = old} {safe = s} {commands = commands} {replies = replies} {images = images} command answer d' p' new' s' later service accepts done) f spared t =
      serving_spares d p old s command answer d' p' new' s' later (service_served d p old s commands replies images service).same done f spared.1 (stays_safe d p old s commands replies images service f spared.0 t)
  stays_safe disk q new safe cs rs im (Refuses {disk = d} {q = p} {old = old} {safe = s} {commands = commands} {replies = replies} {images = images} command r service step) f spared t = stays_safe d p old s commands replies images service f spared t
  stays_safe disk q new safe cs rs im (Flushed {disk = d} {q = p} {old = old} {safe = s} {commands = commands} {replies = replies} {images = images} a put service closed of_block) f spared t = stays_safe d p old s commands replies images service f spared t

  -- ---- stops, and a new beginning

  pub session_safe : (disk : View) (q : List Pending) (new : State) (safe : ℕ → Bool) (commands : List Command) (replies : List Reply) (images : List View) → Session geo disk0 q0 old0 safe0 disk q new safe commands replies images
      → IsSafeService geo mounted h cut disk0 q0 old0 safe0 disk q new safe commands replies images
  session_safe disk q new safe commands replies images session =
      let s = served geo disk0 q0 old0 safe0 begin.stands.same disk q new safe commands replies images session in
      let l = life_lived geo mounted h cut disk0 q0 old0.held safe0 begin.moment disk q new.held safe images s.life in
      record {
        run = s.run;
        stands = session_stands geo mounted h cut disk0 q0 old0 safe0 begin disk q new safe commands replies images session;
        life = s.life;
        lived = l;
        stops = λ image c. each_safe geo mounted l.h' l.cut' safe images l.images_safe image c;
      }

  -- after one command that is done by a plan, also where it leaves nothing behind a piece
  pub plan_safe : (command : Command) (answer : Answer) (file : ℕ) (plan : List Pending) (new : State) (safe : ℕ → Bool) → Accepts geo old0 command → IsDoneBy geo disk0 q0 old0 safe0 command answer file plan new safe
      → IsSafeService geo mounted h cut disk0 q0 old0 safe0 disk0 plan new safe (command ∷ []) (Ok answer ∷ []) []
  plan_safe command answer file plan new safe accepts done =
      session_safe disk0 plan new safe (command ∷ []) (Ok answer ∷ []) []
      (performs geo mounted h cut disk0 q0 old0 safe0 begin disk0 q0 old0 safe0 [] [] [] Opened command answer file plan new safe accepts done)

  module _ (disk : View) (q : List Pending) (new : State) (safe : ℕ → Bool) (commands : List Command) (replies : List Reply) (images : List View) (service : Service geo disk0 q0 old0 safe0 disk q new safe commands replies images) where
    pub service_safe : IsSafeService geo mounted h cut disk0 q0 old0 safe0 disk q new safe commands replies images
    service_safe = session_safe disk q new safe commands replies images (service_session disk q new safe commands replies images service)

    pub begins_anew : q ≡ [] → (more : ℕ → Bool) → ((f : ℕ) → IsTrue (more f) → IsReachable geo disk f × ((disk.inode f).mode ≡ 1))
        → (h' : List Written) × (cut' : List Bool) × IsBeginning geo mounted h' cut' disk q new more
    begins_anew none more files =
        let s = service_safe.stands in
        let lived = service_safe.lived in
        let m : IsMoment geo mounted lived.h' lived.cut' (at_rest new.held safe) disk [] = subst (λ p. IsMoment geo mounted lived.h' lived.cut' (at_rest new.held safe) disk p) none lived.moment in
        let is : disk ≡ new.view = ap (λ p. users_view disk p) (sym none) ∙ s.same in
        let moment : IsMoment geo mounted lived.h' lived.cut' (at_rest new.held more) disk q =
        subst (λ p. IsMoment geo mounted lived.h' lived.cut' (at_rest new.held more) disk p) (sym none) (anew_moment geo mounted lived.h' lived.cut' new.held safe disk m more (λ f t. (files f t).0)) in (
          lived.h',
          lived.cut',
          record {
            stands = record {
              geometry = s.geometry;
              same = s.same;
              balance = s.balance;
              agree = moment_agrees geo mounted h cut disk0 q0 old0 safe0 begin disk q new.held more lived.h' lived.cut' moment;
              files = λ f t. ap (λ (v : View). (v.inode f).mode) (sym is) ∙ (files f t).1;
            };
            moment = moment;
          },
        )
