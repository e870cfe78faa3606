-- Each byte of a file's block is its own, in the users' view after each update, and so in each image.
use Rattle.std.proofs.Common.{◌≡◌, ℕ, zero, suc, ◌<◌, Bool, List, [], ◌++◌, ◌⊎◌, inl, inr, Contains, refl, sym, ap, ap₂, ◌∙◌, subst, length, drop, replicate, slice_index, arith}
use Rattle.model.specs.Layout.{Geometry}
use Rattle.model.specs.View.{View}
use Rattle.ordering.specs.Cuts.{Pending, users_view}
use Rattle.ordering.specs.Ghosts.{at_rest}
use Rattle.ordering.proofs.Flushes.{users_flushed}
use Rattle.plans_data.specs.Release.{releasing}
use Rattle.plans_data.proofs.Releasing.{release_issues}
use Rattle.queue_model.specs.Files.{Written, updates, generation}
use Rattle.queue_model.proofs.HoldLemmas.{CutsHold, HeldSince, ImageHolds, UsersHold, course_holds}
use Rattle.courses.specs.Bytes.{HadThere}
use Rattle.courses.specs.Leads.{IsMoment}
use Rattle.courses.specs.Life.{Life, Begins, Carries, Puts, Releases, IsLived, Wrote}
use Rattle.courses.proofs.Firm.{Nowhere, firm_holds, still_firm}
use Rattle.courses.proofs.LifeCourses.{life_lived}
use Rattle.courses.proofs.OwnBytes.{over_byte, zero_byte}
use Rattle.courses.proofs.Pieces.{nothing_yet, released_fits}
use Rattle.courses.proofs.PlansHold.{HoldsAt, plan_holds}
use Rattle.courses.proofs.PlansLead.{moment_agrees}
use Rattle.courses.proofs.LifeBytes.{AllLeave, WasPut}

module _ (geo : Geometry) (mounted : View) (h : List Written) (cut : List Bool) (W : ℕ → ℕ → ℕ → List ℕ → Type 0) where
  -- each byte is a zero, one of a piece, or was there at the beginning
  abbrev pub May : ℕ → ℕ → ℕ → List ℕ → Type 0
  May n g k bytes = (j : ℕ) → (slice_index bytes j ≡ 0) ⊎ (((piece : List ℕ) × W n g k piece × (j < length piece) × (slice_index piece j ≡ slice_index bytes j)) ⊎ HadThere geo mounted h cut n g k j (slice_index bytes j))

  -- a piece over such bytes
  over_may : (n g k : ℕ) (piece under : List ℕ) → W n g k piece → (under ≡ replicate 1024 0) ⊎ May n g k under → May n g k (piece ++ drop (length piece) under)
  over_may n g k piece under w was j = elim (over_byte piece under j) [
    | inl here ↦ inr (inl (piece, w, here.0, here.1))
    | inr behind ↦ elim was [
      | inl zeroes ↦ inl (behind ∙ ap (λ (l : List ℕ). slice_index l j) zeroes ∙ zero_byte 1024 j)
      | inr may ↦ subst (λ x. (x ≡ 0) ⊎ (((p : List ℕ) × W n g k p × (j < length p) × (slice_index p j ≡ x)) ⊎ HadThere geo mounted h cut n g k j x)) (sym behind) (may j)
    ]
  ]

  -- at the beginning
  users_may : UsersHold geo mounted May h
  users_may n k b f = λ j. inr (inr (inl (b, f, refl, refl)))

  cuts_may : CutsHold geo mounted May h cut
  cuts_may more l g n k b f = λ j. inr (inr (inr (more, l, g, (b, f, refl, refl))))

  since_may : HeldSince geo mounted May h h
  since_may zero l = users_may
  since_may (suc m) l = absurd (omega (arith, l))

  module _ (disk0 : View) (q0 : List Pending) (held0 safe0 : ℕ → Bool) (moment : IsMoment geo mounted h cut (at_rest held0 safe0) disk0 q0) where
    first : users_view mounted (updates h) ≡ users_view disk0 q0
    first = sym (users_flushed mounted (updates h) cut moment.good.closed) ∙ ap₂ users_view moment.device moment.pending

    life_holds : (disk : View) (q : List Pending) (held safe : ℕ → Bool) (images : List View) (life : Life geo disk0 q0 held0 safe0 disk q held safe images) (h' : List Written) (wrote : Wrote mounted h h' life) → AllLeave life
        → ((n g k : ℕ) (piece : List ℕ) → WasPut mounted h h' n g k piece life wrote → W n g k piece) → HoldsAt geo mounted May disk h q h'
    life_holds disk q held safe images Begins h' wrote leave within =
        subst (λ x. HoldsAt geo mounted May disk0 h q0 x) (sym wrote) (record { users_hold = users_may; since = since_may; same = first })
    life_holds disk p held' safe' images (Carries {disk = d} {q = q} {held = held} {safe = safe} {images = im} old file p0 held1 safe1 life e plan) h' wrote leave within =
        let r = life_holds d q held safe im life wrote.0 wrote.1 leave.0 (λ n g k piece w. within n g k piece (inl w)) in
        let m = (life_lived geo mounted h cut disk0 q0 held0 safe0 moment d q held safe im life) in
        let all = moment_agrees geo mounted m.h' m.cut' (at_rest old.held safe) d q (subst (λ x. IsMoment geo mounted m.h' m.cut' (at_rest x safe) d q) (sym e) m.moment) in
        plan_holds geo mounted May d q old safe all h wrote.0 r.users_hold r.since r.same h' file p0 held1 safe1 plan leave.1
        (λ n k piece under write was. over_may n (generation mounted wrote.0 n) k piece under (within n (generation mounted wrote.0 n) k piece (inr (write, refl))) was) wrote.2
    life_holds disk q' held' safe' images (Puts {disk = d} {q = q} {held = held} {safe = safe} {images = im} next life closed) h' wrote leave within =
        let r = life_holds d q held safe im life h' wrote leave within in
        record { users_hold = r.users_hold; since = r.since; same = r.same ∙ sym (users_flushed d q next closed) }
    life_holds disk q' held' safe' images (Releases {disk = d} {held = held} {safe = safe} {images = im} old held1 blocks life e may) h' wrote leave within =
        let r = life_holds d [] held safe im life wrote.0 wrote.1 leave within in
        let m = (life_lived geo mounted h cut disk0 q0 held0 safe0 moment d [] held safe im life) in
        let all = moment_agrees geo mounted m.h' m.cut' (at_rest old.held safe) d [] (subst (λ x. IsMoment geo mounted m.h' m.cut' (at_rest x safe) d []) (sym e) m.moment) in
        let fit = released_fits geo d 0 [] blocks [] (nothing_yet geo d 0 []) in
        let firm = still_firm geo d 0 [] _ (releasing blocks []) _ (release_issues geo d old safe held1 blocks may all) fit.0 fit.1 in
        let s = firm_holds geo mounted May Nowhere 0 d h wrote.0 r.users_hold r.since (λ n k bytes x. absurd x) [] [] refl r.same h' (releasing blocks []) wrote.2 firm in
        record { users_hold = s.users_hold; since = s.since; same = s.same }

-- so it is true of each image
pub life_shows : (geo : Geometry) (mounted : View) (h : List Written) (cut : List Bool) (W : ℕ → ℕ → ℕ → List ℕ → Type 0) (disk0 : View) (q0 : List Pending) (held0 safe0 : ℕ → Bool) (moment : IsMoment geo mounted h cut (at_rest held0 safe0) disk0 q0)
    (disk : View) (q : List Pending) (held safe : ℕ → Bool) (images : List View) (life : Life geo disk0 q0 held0 safe0 disk q held safe images) → AllLeave life → (lived : IsLived geo mounted h cut disk0 q0 held0 safe0 disk q held safe images life)
    → ((n g k : ℕ) (piece : List ℕ) → WasPut mounted h lived.h' n g k piece life lived.wrote → W n g k piece) → (image : View) → Contains images image → ImageHolds geo mounted (May geo mounted h cut W) lived.h' image
life_shows geo mounted h cut W disk0 q0 held0 safe0 moment disk q held safe images life leave lived within =
    let r = life_holds geo mounted h cut W disk0 q0 held0 safe0 moment disk q held safe images life lived.h' lived.wrote leave within in
    (course_holds geo mounted (May geo mounted h cut W) h cut (at_rest held0 safe0) moment.good (cuts_may geo mounted h cut W) lived.h' lived.cut' images (at_rest held safe) lived.course r.since).1
