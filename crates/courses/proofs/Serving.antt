-- A command that is carried out extends a session.
use Rattle.std.proofs.Common.{◌≡◌, ◌<◌, ℕ, Bool, false, List, [], ◌∷◌, ◌++◌, refl, sym, ◌∙◌, ap, subst, IsTrue, Ok, reverse}
use Rattle.std.proofs.lemmas.Bool.{both_ways}
use Rattle.model.specs.Layout.{Geometry}
use Rattle.model.specs.View.{View}
use Rattle.ordering.specs.Cuts.{Cell, Pending, seen, rest}
use Rattle.ordering.specs.Ghosts.{at_rest}
use Rattle.ordering.specs.Agrees.{AllAgree}
use Rattle.queue_model.specs.Blocks.{home_of}
use Rattle.queue_model.specs.Files.{Written, updates}
use Rattle.queue_model.specs.Sync.{Writes, WritesNone, WritesNext}
use Rattle.machine.specs.State.{State}
use Rattle.machine.specs.Command.{Command, Open, Read, ListNames, Stat, ReadAttributes, Freeze, SnapRead, Release, Install, Flush, Sync, Answer, Done, Number, Bytes, Listed, Reply}
use Rattle.machine.specs.Causes.{Accepts}
use Rattle.machine.specs.Snapshot.{frozen, released}
use Rattle.machine.specs.Step.{Effect}
use Rattle.machine.proofs.AllSteps.{run_keeps}
use Rattle.plans_data.specs.Now.{now}
use Rattle.plans_data.specs.Carried.{Stands}
use Rattle.plans_data.specs.Lists.{let_go_below}
use Rattle.plans_data.specs.Release.{releasing}
use Rattle.plans_data.proofs.Plans.{plan_release}
use Rattle.plans_data.proofs.CarriedRepairs.{release_steps_on}
use Rattle.plans_naming.proofs.UnlinkLast.{now_is}
use Rattle.courses.specs.Leads.{IsMoment}
use Rattle.courses.specs.Session.{Session, Performs, Answers, Forgets, Stores}
use Rattle.courses.specs.Done.{IsDoneBy}
use Rattle.courses.specs.Serves.{is_quiet, Serves, ByPlan, Quietly, FlushesNone, FlushesSome, SyncsAll, Freezes, Releases, IsBeginning}
use Rattle.courses.proofs.LifeCourses.{life_lived}
use Rattle.courses.proofs.SafeModes.{still_files}
use Rattle.courses.proofs.Runs.{served}
use Rattle.courses.proofs.Doing.{steps}
use Rattle.std.proofs.lemmas.List.{append_assoc, reverse-append}

-- ---- quiet commands

-- they change neither the image nor what is held
pub quiet_keeps : (geo : Geometry) (old : State) (command : Command) (answer : Answer) (new : State) → IsTrue (is_quiet command) → Effect geo old command answer new → (new.view ≡ old.view) × (new.held ≡ old.held)
quiet_keeps geo old (Open p) (Number h) new t e = (ap (λ (s : State). s.view) e.whole, ap (λ (s : State). s.held) e.whole)
quiet_keeps geo old (Open p) _ new t e = absurd e
quiet_keeps geo old (Read h k) (Bytes bytes) new t e = (ap (λ (s : State). s.view) e.1, ap (λ (s : State). s.held) e.1)
quiet_keeps geo old (Read h k) _ new t e = absurd e
quiet_keeps geo old (ListNames p) (Listed names) new t e = (ap (λ (s : State). s.view) e.1, ap (λ (s : State). s.held) e.1)
quiet_keeps geo old (ListNames p) _ new t e = absurd e
quiet_keeps geo old (Stat p) answer new t e = (ap (λ (s : State). s.view) e.1, ap (λ (s : State). s.held) e.1)
quiet_keeps geo old (ReadAttributes i) answer new t e = (ap (λ (s : State). s.view) e.1, ap (λ (s : State). s.held) e.1)
quiet_keeps geo old (SnapRead s i k) (Bytes bytes) new t e = (ap (λ (s : State). s.view) e.3, ap (λ (s : State). s.held) e.3)
quiet_keeps geo old (SnapRead s i k) _ new t e = absurd e
quiet_keeps geo old (Install check) Done new t e = (ap (λ (s : State). s.view) e.whole, ap (λ (s : State). s.held) e.whole)
quiet_keeps geo old (Install check) _ new t e = absurd e
quiet_keeps geo old _ answer new t e = absurd (both_ways false refl t)

-- ---- writes

-- one more image before others, which are the newest first
pub one_before : (image : View) (views older : List View) → reverse views ++ (image ∷ older) ≡ reverse (image ∷ views) ++ older
one_before image views older = sym (append_assoc (reverse views) (image ∷ []) older) ∙ ap (λ xs. xs ++ older) (sym (reverse-append (image ∷ []) views))

module _ (geo : Geometry) (disk0 : View) (q0 : List Pending) (old0 : State) (safe0 : ℕ → Bool) where
  -- writes extend a session
  pub stores : (home : Cell → ℕ) (disk : View) (q : List Pending) (blocks : List ℕ) (views : List View) (disk' : View) (q' : List Pending) → Writes home disk q blocks views disk' q' → (old : State) (safe : ℕ → Bool) (commands : List Command) (replies : List Reply) (images : List View)
      → Session geo disk0 q0 old0 safe0 disk q old safe commands replies images → Session geo disk0 q0 old0 safe0 disk' q' old safe commands replies (reverse views ++ images)
  stores home disk q blocks views disk' q' WritesNone old safe commands replies images session = session
  stores home disk q blocks views disk' q' (WritesNext {blocks = others} {views = more} a cut closed of_block some writes) old safe commands replies images session =
      let v = seen disk q cut in
      subst (λ x. Session geo disk0 q0 old0 safe0 disk' q' old safe commands replies x) (one_before v more images)
      (stores home v (rest q cut) others more disk' q' writes old safe commands replies (v ∷ images) (Stores cut session closed))

-- ---- at the end of a session

module _ (geo : Geometry) (mounted : View) (h : List Written) (cut : List Bool) (disk0 : View) (q0 : List Pending) (old0 : State) (safe0 : ℕ → Bool) (begin : IsBeginning geo mounted h cut disk0 q0 old0 safe0) where
  -- what is pending agrees with what users see at a good moment
  pub moment_agrees : (disk : View) (q : List Pending) (held safe : ℕ → Bool) (h' : List Written) (cut' : List Bool) → IsMoment geo mounted h' cut' (at_rest held safe) disk q → AllAgree geo disk q (at_rest held safe)
  moment_agrees disk q held safe h' cut' m =
      subst (λ x. AllAgree geo disk x (at_rest held safe)) m.pending (subst (λ x. AllAgree geo x (rest (updates h') cut') (at_rest held safe)) m.device m.good.agree)

  -- the volume stands there as at its beginning
  pub session_stands : (disk : View) (q : List Pending) (old : State) (safe : ℕ → Bool) (commands : List Command) (replies : List Reply) (images : List View) → Session geo disk0 q0 old0 safe0 disk q old safe commands replies images
      → Stands geo disk q old safe
  session_stands disk q old safe commands replies images session =
      let s = served geo disk0 q0 old0 safe0 begin.stands.same disk q old safe commands replies images session in
      let l = life_lived geo mounted h cut disk0 q0 old0.held safe0 begin.moment disk q old.held safe images s.life in record {
        geometry = begin.stands.geometry;
        same = s.same;
        balance = run_keeps geo begin.stands.geometry old0 old commands replies begin.stands.balance s.run;
        agree = moment_agrees disk q old.held safe l.h' l.cut' l.moment;
        files = λ f t.
            ap (λ (v : View). (v.inode f).mode) (sym s.same)
            ∙ still_files geo mounted h cut disk0 q0 old0.held safe0 begin.moment (λ f t. ap (λ (v : View). (v.inode f).mode) begin.stands.same ∙ begin.stands.files f t) disk q old.held safe images s.life f t;
      }

  module _ (disk : View) (q : List Pending) (old : State) (safe : ℕ → Bool) (commands : List Command) (replies : List Reply) (images : List View) (session : Session geo disk0 q0 old0 safe0 disk q old safe commands replies images) where
    -- a snapshot ends with nothing pending
    forgets : (disk' : View) (later : List View) (r n : ℕ) → Session geo disk0 q0 old0 safe0 disk' [] old safe commands replies later → Accepts geo old (Release r) → ((a : ℕ) → IsTrue (old.held a) → a < n)
        → Session geo disk0 q0 old0 safe0 disk' (releasing (let_go_below old r n) []) (released old r) safe (commands ++ Release r ∷ []) (replies ++ Ok Done ∷ []) later
    forgets disk' later r n session' accepts few =
        let t = now disk' [] old in
        let s = session_stands disk' [] old safe commands replies later session' in
        let is : t ≡ old = now_is disk' [] old s.same in
        let stands : Stands geo disk' [] t safe = subst (λ x. Stands geo disk' [] x safe) (sym is) s in
        let accepted : Accepts geo t (Release r) = subst (λ x. Accepts geo x (Release r)) (sym is) accepts in
        subst (λ x. Session geo disk0 q0 old0 safe0 disk' (releasing (let_go_below old r n) []) (released x r) safe (commands ++ Release r ∷ []) (replies ++ Ok Done ∷ []) later) is
        (Forgets r (released t r) (let_go_below old r n) (subst (λ x. Session geo disk0 q0 old0 safe0 disk' [] x safe commands replies later) (sym is) session') (accepted, refl)
        (plan_release geo stands.geometry t stands.balance r n few) (ap (λ (x : State). x.view) (release_steps_on geo disk' t safe stands r accepted n few).1))

    -- by a plan
    pub performs : (command : Command) (answer : Answer) (file : ℕ) (plan : List Pending) (new : State) (safe' : ℕ → Bool) → Accepts geo old command → IsDoneBy geo disk q old safe command answer file plan new safe'
        → Session geo disk0 q0 old0 safe0 disk plan new safe' (commands ++ command ∷ []) (replies ++ Ok answer ∷ []) images
    performs command answer file plan new safe' accepts done =
        let s = session_stands disk q old safe commands replies images session in
        let is : now disk q old ≡ old = now_is disk q old s.same in
        let t = steps geo disk q old safe (subst (λ x. Stands geo disk q x safe) (sym is) s) command answer file plan new safe' (subst (λ x. Accepts geo x command) (sym is) accepts) done in
        Performs command answer new file plan safe' (subst (λ x. Session geo disk0 q0 old0 safe0 disk q x safe commands replies images) (sym is) session) t.step t.is_plan t.same

    pub serves : (command : Command) (answer : Answer) (disk' : View) (q' : List Pending) (new : State) (safe' : ℕ → Bool) (later : List View) → Accepts geo old command → Serves geo disk q old safe command answer disk' q' new safe' later
        → Session geo disk0 q0 old0 safe0 disk' q' new safe' (commands ++ command ∷ []) (replies ++ Ok answer ∷ []) (later ++ images)
    serves command answer disk' q' new safe' later accepts (ByPlan c a file plan n s done rest) = performs c a file plan n s accepts done
    serves command answer disk' q' new safe' later accepts (Quietly c a n quiet effect) =
        let k = quiet_keeps geo old c a n quiet effect in
        Answers c (Ok a) n session (accepts, effect) k.0 k.1
    serves command answer disk' q' new safe' later accepts (FlushesNone a) = Answers (Flush a) (Ok (Number 0)) old session (accepts, refl) refl refl
    serves command answer disk' q' new safe' later accepts (FlushesSome a cut closed of_block some) = Answers (Flush a) _ old (Stores cut session closed) (accepts, refl) refl refl
    serves command answer disk' q' new safe' later accepts (SyncsAll blocks views d writes) =
        Answers Sync (Ok Done) old (stores geo disk0 q0 old0 safe0 (home_of geo) disk q blocks views d [] writes old safe commands replies images session) (accepts, refl) refl refl
    serves command answer disk' q' new safe' later accepts (Freezes blocks views d writes) =
        Answers Freeze _ (frozen geo old) (stores geo disk0 q0 old0 safe0 (home_of geo) disk q blocks views d [] writes old safe commands replies images session) (accepts, (refl, refl)) refl refl
    serves command answer disk' q' new safe' later accepts (Releases r blocks views d n writes few) =
        forgets d (reverse views ++ images) r n (stores geo disk0 q0 old0 safe0 (home_of geo) disk q blocks views d [] writes old safe commands replies images session) accepts few
