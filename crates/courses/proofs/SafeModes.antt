-- What no stop loses is a file at each moment, if it was one at the beginning.
use Rattle.std.proofs.Common.{◌≡◌, ℕ, Bool, List, [], sym, ap, ◌∙◌, subst, IsTrue}
use Rattle.model.specs.Layout.{Geometry}
use Rattle.model.specs.View.{View}
use Rattle.ordering.specs.Cuts.{Pending, users_view}
use Rattle.ordering.specs.Ghosts.{at_rest}
use Rattle.ordering.specs.Agrees.{AllAgree}
use Rattle.ordering.proofs.Flushes.{users_flushed}
use Rattle.plans_data.specs.Release.{releasing}
use Rattle.plans_data.proofs.Releasing.{release_issues, release_agrees}
use Rattle.plans_data.proofs.SafeFiles.{fewer_safe, safe_modes}
use Rattle.queue_model.specs.Files.{Written}
use Rattle.courses.specs.Leads.{IsMoment}
use Rattle.courses.specs.Life.{Life, Begins, Carries, Puts, Releases}
use Rattle.courses.proofs.PlansLead.{plan_chain, moment_agrees}
use Rattle.courses.proofs.LifeCourses.{life_lived}

pub still_files : (geo : Geometry) (mounted : View) (h : List Written) (cut : List Bool) (disk0 : View) (q0 : List Pending) (held0 safe0 : ℕ → Bool) → IsMoment geo mounted h cut (at_rest held0 safe0) disk0 q0
    → ((f : ℕ) → IsTrue (safe0 f) → ((users_view disk0 q0).inode f).mode ≡ 1)
    → (disk : View) (q : List Pending) (held safe : ℕ → Bool) (images : List View) → Life geo disk0 q0 held0 safe0 disk q held safe images → (f : ℕ) → IsTrue (safe f) → ((users_view disk q).inode f).mode ≡ 1
still_files geo mounted h cut disk0 q0 held0 safe0 m files disk q held safe images Begins f t = files f t
still_files geo mounted h cut disk0 q0 held0 safe0 m files disk p held' safe' images (Carries {disk = d} {q = q} {held = held} {safe = safe} {images = im} old file p0 held1 safe1 life e plan) f t =
    let l = life_lived geo mounted h cut disk0 q0 held0 safe0 m d q held safe im life in
    let all = subst (λ x. AllAgree geo d q (at_rest x safe)) (sym e) (moment_agrees geo mounted l.h' l.cut' (at_rest held safe) d q l.moment) in
    let chain = plan_chain geo d q old safe all file p0 held1 safe1 plan in
    safe_modes geo d q (at_rest old.held safe) p0 (at_rest held1 safe1) chain all f t
    ∙ still_files geo mounted h cut disk0 q0 held0 safe0 m files d q held safe im life f (fewer_safe geo d q (at_rest old.held safe) p0 (at_rest held1 safe1) chain f t)
still_files geo mounted h cut disk0 q0 held0 safe0 m files disk p held' safe' images (Puts {disk = d} {q = q} {held = held} {safe = safe} {images = im} next life closed) f t =
    ap (λ (v : View). (v.inode f).mode) (users_flushed d q next closed) ∙ still_files geo mounted h cut disk0 q0 held0 safe0 m files d q held safe im life f t
still_files geo mounted h cut disk0 q0 held0 safe0 m files disk p held' safe' images (Releases {disk = d} {held = held} {safe = safe} {images = im} old held1 blocks life e may) f t =
    let l = life_lived geo mounted h cut disk0 q0 held0 safe0 m d [] held safe im life in
    let all = subst (λ x. AllAgree geo d [] (at_rest x safe)) (sym e) (moment_agrees geo mounted l.h' l.cut' (at_rest held safe) d [] l.moment) in
    safe_modes geo d [] (at_rest held1 safe) (releasing blocks []) (at_rest held1 safe) (release_issues geo d old safe held1 blocks may all)
    (release_agrees geo d old safe held1 blocks may all) f t
    ∙ still_files geo mounted h cut disk0 q0 held0 safe0 m files d [] held safe im life f t
