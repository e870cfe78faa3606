-- The images that a volume held, one by one.
use Rattle.std.proofs.Common.{◌≡◌, ℕ, suc, Bool, List, [], ◌∷◌, ◌++◌, inl, inr, Contains, refl, sym, ap, ◌∙◌, subst, IsTrue, length}
use Rattle.std.proofs.lemmas.List.{append_assoc}
use Rattle.model.specs.Layout.{Geometry}
use Rattle.model.specs.View.{View}
use Rattle.model.specs.Reach.{IsReachable}
use Rattle.model.specs.Rules.{ObeysRules}
use Rattle.ordering.specs.Cuts.{Cell, Pending, seen, rest}
use Rattle.ordering.specs.Ghosts.{at_rest}
use Rattle.queue_model.specs.Files.{Written, updates}
use Rattle.queue_model.specs.Flush.{ready}
use Rattle.queue_model.specs.Sync.{Flushes, Stops, Goes}
use Rattle.queue_model.specs.Course.{IsSafeImage, AreSafeImages}
use Rattle.queue_model.proofs.FlushLemmas.{ready_closed}
use Rattle.courses.specs.Leads.{IsMoment}
use Rattle.courses.specs.Life.{Life, Puts, Spares, IsLater}
use Rattle.courses.proofs.Members.{none, uncons}
use Rattle.courses.proofs.LifeCourses.{life_lived}
use Rattle.courses.proofs.Spared.{spared}

pub each_safe : (geo : Geometry) (mounted : View) (h : List Written) (cut : List Bool) (safe : ℕ → Bool) (images : List View) → AreSafeImages geo mounted h cut safe images
    → (image : View) → Contains images image → (less : List Bool) × (image ≡ seen mounted (updates h) less) × IsSafeImage geo mounted h less safe
each_safe geo mounted h cut safe [] s image c = absurd (none image c)
each_safe geo mounted h cut safe (first ∷ images) s image c = elim (uncons first images image c) [
  | inl e ↦ (s.0, sym e ∙ s.1, s.3)
  | inr d ↦ each_safe geo mounted h s.0 safe images s.4 image d
]

pub in_each_image : (geo : Geometry) (mounted : View) (h : List Written) (cut : List Bool) (disk0 : View) (q0 : List Pending) (held0 safe0 : ℕ → Bool) → IsMoment geo mounted h cut (at_rest held0 safe0) disk0 q0
    → (disk : View) (q : List Pending) (held safe : ℕ → Bool) (images : List View) (life : Life geo disk0 q0 held0 safe0 disk q held safe images)
    → (image : View) → Contains images image → ObeysRules geo image × ((f : ℕ) → Spares f life → IsTrue (safe0 f) → IsReachable geo image f)
in_each_image geo mounted h cut disk0 q0 held0 safe0 m disk q held safe images life image c =
    let l = life_lived geo mounted h cut disk0 q0 held0 safe0 m disk q held safe images life in
    let s = each_safe geo mounted l.h' l.cut' safe images l.images_safe image c in (
      subst (λ v. ObeysRules geo v) (sym s.1) s.2.rules,
      λ f spares t. subst (λ v. IsReachable geo v f) (sym s.1) (s.2.files f (spared geo disk0 q0 held0 safe0 disk q held safe images life f spares t)),
    )

pub flushes_on : (geo : Geometry) (disk0 : View) (q0 : List Pending) (held0 safe0 held safe : ℕ → Bool) (home : Cell → ℕ) (disk : View) (q : List Pending) (blocks : List ℕ) (disk' : View) (q' : List Pending) → Flushes home disk q blocks disk' q'
    → (images : List View) → Life geo disk0 q0 held0 safe0 disk q held safe images → IsLater geo disk0 q0 held0 safe0 disk' q' held safe images (length blocks)
flushes_on geo disk0 q0 held0 safe0 held safe home disk q blocks disk' q' Stops images life = record { later = []; life = life; count = refl }
flushes_on geo disk0 q0 held0 safe0 held safe home disk q blocks disk' q' (Goes {blocks = others} a least flushes) images life =
    let v = seen disk q (ready home a q) in
    let r = flushes_on geo disk0 q0 held0 safe0 held safe home v (rest q (ready home a q)) others disk' q' flushes (v ∷ images) (Puts (ready home a q) life (ready_closed home a q)) in record {
      later = r.later ++ v ∷ [];
      life = subst (λ x. Life geo disk0 q0 held0 safe0 disk' q' held safe x) (sym (append_assoc r.later (v ∷ []) images)) r.life;
      count = length_push r.later v ∙ ap suc r.count;
    }
  where
    length_push : (xs : List View) (x : View) → length (xs ++ x ∷ []) ≡ suc (length xs)
    length_push [] x = refl
    length_push (y ∷ xs) x = ap suc (length_push xs x)
