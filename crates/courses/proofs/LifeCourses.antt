-- What a volume goes through is a course.
use Rattle.std.proofs.Common.{◌≡◌, ℕ, Bool, true, List, [], ◌∷◌, refl, sym, ap, ap₂, ◌∙◌, subst, IsTrue}
use Rattle.model.specs.Layout.{Geometry}
use Rattle.model.specs.View.{View}
use Rattle.model.specs.Reach.{IsReachable}
use Rattle.model.specs.Rules.{ObeysRules}
use Rattle.ordering.specs.Cuts.{Pending, IsClosed, seen, rest, joined}
use Rattle.ordering.specs.Ghosts.{at_rest}
use Rattle.ordering.proofs.Flushes.{joined_seen}
use Rattle.plans_data.specs.Release.{releasing}
use Rattle.plans_data.proofs.Releasing.{release_issues}
use Rattle.queue_model.specs.Files.{Written, updates}
use Rattle.queue_model.specs.Course.{Course, Rests, Puts, Settles}
use Rattle.queue_model.proofs.HistoryLemmas.{joined_rest}
use Rattle.queue_model.proofs.CourseLemmas.{course_good, course_joins, mount_good, safe_anew}
use Rattle.courses.specs.Leads.{IsMoment, Leads}
use Rattle.courses.specs.Life.{Life, Begins, Carries, Puts as Writes, Releases, IsLived, Wrote}
use Rattle.courses.proofs.Walks.{plan_leads}
use Rattle.courses.proofs.Pieces.{nothing_yet, released_fits}
use Rattle.courses.proofs.PlansLead.{plan_is_course, moment_agrees}

-- ---- one step

-- a course to a good moment at which this was written
record At (geo : Geometry) (mounted : View) (h : List Written) (cut : List Bool) (held0 safe0 : ℕ → Bool) (disk : View) (q : List Pending) (held safe : ℕ → Bool) (images : List View) (h' : List Written) : Type 0 where
  cut' : List Bool
  course : Course geo mounted h cut (at_rest held0 safe0) h' cut' images (at_rest held safe)
  moment : IsMoment geo mounted h' cut' (at_rest held safe) disk q

-- a course without writes goes on
goes_on : (geo : Geometry) (mounted : View) (h : List Written) (cut : List Bool) (held0 safe0 : ℕ → Bool) (disk : View) (q : List Pending) (held safe : ℕ → Bool) (images : List View) (h1 : List Written)
    → (r : At geo mounted h cut held0 safe0 disk q held safe images h1) → (file : ℕ) (p : List Pending) (held' safe' : ℕ → Bool) → (l : Leads geo mounted h1 r.cut' (at_rest held safe) disk q file p (at_rest held' safe'))
    → At geo mounted h cut held0 safe0 disk p held' safe' images l.h'
goes_on geo mounted h cut held0 safe0 disk q held safe images h1 r file p held' safe' l = record {
  cut' = l.cut';
  course = course_joins geo mounted h cut (at_rest held0 safe0) h1 r.cut' images (at_rest held safe) r.course l.h' l.cut' [] (at_rest held' safe') l.course;
  moment = l.moment;
}

puts : (geo : Geometry) (mounted : View) (h : List Written) (cut : List Bool) (held0 safe0 : ℕ → Bool) (disk : View) (q : List Pending) (held safe : ℕ → Bool) (images : List View) (h1 : List Written)
    → (r : At geo mounted h cut held0 safe0 disk q held safe images h1) → (next : List Bool) → IsClosed q next → At geo mounted h cut held0 safe0 (seen disk q next) (rest q next) held safe (seen disk q next ∷ images) h1
puts geo mounted h cut held0 safe0 disk q held safe images h1 r next closed = record {
  cut' = joined (updates h1) r.cut' next;
  course = subst (λ v. Course geo mounted h cut (at_rest held0 safe0) h1 (joined (updates h1) r.cut' next) (v ∷ images) (at_rest held safe)) device (Puts next r.course here);
  moment = record {
    good = (course_good geo mounted h1 r.cut' (at_rest held safe) h1 (joined (updates h1) r.cut' next) (seen mounted (updates h1) (joined (updates h1) r.cut' next) ∷ []) (at_rest held safe) (Puts next Rests here) r.moment.good).0;
    device = device;
    pending = joined_rest (updates h1) r.cut' next r.moment.good.closed here ∙ ap (λ x. rest x next) r.moment.pending;
  };
}
  where
    here : IsClosed (rest (updates h1) r.cut') next
    here = subst (λ x. IsClosed x next) (sym r.moment.pending) closed

    device : seen mounted (updates h1) (joined (updates h1) r.cut' next) ≡ seen disk q next
    device = joined_seen mounted (updates h1) r.cut' next r.moment.good.closed here ∙ ap₂ (λ v x. seen v x next) r.moment.device r.moment.pending

-- the snapshot is forgotten
settles : (geo : Geometry) (mounted : View) (h : List Written) (cut : List Bool) (held0 safe0 : ℕ → Bool) (disk : View) (held safe : ℕ → Bool) (images : List View) (h1 : List Written) (held' : ℕ → Bool)
    → At geo mounted h cut held0 safe0 disk [] held safe images h1 → At geo mounted h cut held0 safe0 disk [] held' safe images h1
settles geo mounted h cut held0 safe0 disk held safe images h1 held' r = record {
  cut' = r.cut';
  course = Settles held' r.course r.moment.pending;
  moment = record {
    good = (course_good geo mounted h1 r.cut' (at_rest held safe) h1 r.cut' [] (at_rest held' safe) (Settles held' Rests r.moment.pending) r.moment.good).0;
    device = r.moment.device;
    pending = r.moment.pending;
  };
}

-- ---- all of them

record Reached (geo : Geometry) (mounted : View) (h : List Written) (cut : List Bool) (disk0 : View) (q0 : List Pending) (held0 safe0 : ℕ → Bool) (disk : View) (q : List Pending) (held safe : ℕ → Bool) (images : List View) (life : Life geo disk0 q0 held0 safe0 disk q held safe images) : Type 0 where
  h' : List Written
  at : At geo mounted h cut held0 safe0 disk q held safe images h'
  wrote : Wrote mounted h h' life

reached : (geo : Geometry) (mounted : View) (h : List Written) (cut : List Bool) (disk0 : View) (q0 : List Pending) (held0 safe0 : ℕ → Bool) → IsMoment geo mounted h cut (at_rest held0 safe0) disk0 q0
    → (disk : View) (q : List Pending) (held safe : ℕ → Bool) (images : List View) (life : Life geo disk0 q0 held0 safe0 disk q held safe images) → Reached geo mounted h cut disk0 q0 held0 safe0 disk q held safe images life
reached geo mounted h cut disk0 q0 held0 safe0 m disk q held safe images Begins = record { h' = h; at = record { cut' = cut; course = Rests; moment = m }; wrote = refl }
reached geo mounted h cut disk0 q0 held0 safe0 m disk p held' safe' images (Carries {disk = d} {q = q} {held = held} {safe = safe} {images = im} old file p0 held1 safe1 life e plan) =
    let r = reached geo mounted h cut disk0 q0 held0 safe0 m d q held safe im life in
    let a = subst (λ x. At geo mounted h cut held0 safe0 d q x safe im r.h') (sym e) r.at in
    let l = plan_is_course geo mounted r.h' a.cut' d q old safe a.moment file p0 held1 safe1 plan in
    record { h' = l.h'; at = goes_on geo mounted h cut held0 safe0 d q old.held safe im r.h' a file p0 held1 safe1 l; wrote = (r.h', r.wrote, l.named) }
reached geo mounted h cut disk0 q0 held0 safe0 m disk p held' safe' images (Writes {disk = d} {q = q} {held = held} {safe = safe} {images = im} next life closed) =
    let r = reached geo mounted h cut disk0 q0 held0 safe0 m d q held safe im life in
    record { h' = r.h'; at = puts geo mounted h cut held0 safe0 d q held safe im r.h' r.at next closed; wrote = r.wrote }
reached geo mounted h cut disk0 q0 held0 safe0 m disk p held' safe' images (Releases {disk = d} {held = held} {safe = safe} {images = im} old held1 blocks life e may) =
    let r = reached geo mounted h cut disk0 q0 held0 safe0 m d [] held safe im life in
    let a = subst (λ x. At geo mounted h cut held0 safe0 d [] x safe im r.h') (sym e) r.at in
    let s = settles geo mounted h cut held0 safe0 d old.held safe im r.h' held1 a in
    let fit = released_fits geo d 0 [] blocks [] (nothing_yet geo d 0 []) in
    let l = plan_leads geo mounted r.h' s.cut' (at_rest held1 safe) d [] 0 (releasing blocks []) (at_rest held1 safe) true fit.0 s.moment
    (release_issues geo d old safe held1 blocks may (moment_agrees geo mounted r.h' a.cut' (at_rest old.held safe) d [] a.moment)) fit.1 in
    record { h' = l.h'; at = goes_on geo mounted h cut held0 safe0 d [] held1 safe im r.h' s 0 (releasing blocks []) held1 safe l; wrote = (r.h', r.wrote, l.named) }

pub life_lived : (geo : Geometry) (mounted : View) (h : List Written) (cut : List Bool) (disk0 : View) (q0 : List Pending) (held0 safe0 : ℕ → Bool) → IsMoment geo mounted h cut (at_rest held0 safe0) disk0 q0
    → (disk : View) (q : List Pending) (held safe : ℕ → Bool) (images : List View) (life : Life geo disk0 q0 held0 safe0 disk q held safe images) → IsLived geo mounted h cut disk0 q0 held0 safe0 disk q held safe images life
life_lived geo mounted h cut disk0 q0 held0 safe0 m disk q held safe images life =
    let r = reached geo mounted h cut disk0 q0 held0 safe0 m disk q held safe images life in record {
      h' = r.h';
      wrote = r.wrote;
      cut' = r.at.cut';
      course = r.at.course;
      moment = r.at.moment;
      images_safe = (course_good geo mounted h cut (at_rest held0 safe0) r.h' r.at.cut' images (at_rest held safe) r.at.course m.good).1;
    }

-- ---- where a life may begin

pub mount_moment : (geo : Geometry) (mounted : View) (held safe : ℕ → Bool) → ObeysRules geo mounted → ((f : ℕ) → IsTrue (safe f) → IsReachable geo mounted f) → IsMoment geo mounted [] [] (at_rest held safe) mounted []
mount_moment geo mounted held safe rules reachable = record { good = mount_good geo mounted held safe rules reachable; device = refl; pending = refl }

pub anew_moment : (geo : Geometry) (mounted : View) (h : List Written) (cut : List Bool) (held safe : ℕ → Bool) (disk : View) → IsMoment geo mounted h cut (at_rest held safe) disk [] → (more : ℕ → Bool) → ((f : ℕ) → IsTrue (more f) → IsReachable geo disk f)
    → IsMoment geo mounted h cut (at_rest held more) disk []
anew_moment geo mounted h cut held safe disk m more reachable = record {
  good = safe_anew geo mounted h cut (at_rest held safe) more m.good m.pending (λ f t. subst (λ v. IsReachable geo v f) (sym m.device) (reachable f t));
  device = m.device;
  pending = m.pending;
}
