-- A volume's course keeps what the ordering asks for, and each image on the way is safe.
use Rattle.std.proofs.Common.{◌≡◌, ℕ, zero, suc, Bool, false, List, [], ◌∷◌, ◌++◌, inl, inr, refl, sym, subst, IsTrue}
use Rattle.model.specs.Layout.{Geometry}
use Rattle.model.specs.View.{View}
use Rattle.model.specs.Reach.{IsReachable}
use Rattle.model.specs.Rules.{ObeysRules}
use Rattle.ordering.specs.Cuts.{Pending, IsClosed, seen, rest, joined}
use Rattle.ordering.specs.Ghosts.{Ghost, at_rest}
use Rattle.ordering.specs.Agrees.{AllAgree}
use Rattle.ordering.specs.Histories.{IsSafeCut}
use Rattle.ordering.proofs.Flushes.{base_agrees, flush_agrees, joined_closed, joined_seen}
use Rattle.ordering.proofs.HistoryLemmas.{step_keeps, step_safe}
use Rattle.queue_model.specs.History.{Holds, none_of}
use Rattle.queue_model.specs.Files.{Written, updates, HoldsOwn}
use Rattle.queue_model.specs.Course.{Course, Rests, Adds, Puts, Settles, IsGood, IsSafeImage, AreSafeImages}
use Rattle.queue_model.proofs.HistoryLemmas.{none_closed, none_seen, joined_holds, joined_rest}
use Rattle.queue_model.proofs.OwnLemmas.{mount_own, issue_own, write_own, holds_own}

-- the device is the image of the cut of nothing
pub device_safe : (geo : Geometry) (disk : View) (q : List Pending) (ghost : Ghost) → AllAgree geo disk q ghost → IsSafeCut geo disk ghost
device_safe geo disk q ghost all =
    let a = all (none_of q) (none_closed q) in
    subst (λ v. IsSafeCut geo v ghost) (none_seen disk q) (record { rules = a.rules; files = a.safe })

pub good_safe : (geo : Geometry) (mounted : View) (h : List Written) (cut : List Bool) (ghost : Ghost) → IsGood geo mounted h cut ghost → IsSafeImage geo mounted h cut ghost.safe
good_safe geo mounted h cut ghost g =
    let s = device_safe geo (seen mounted (updates h) cut) (rest (updates h) cut) ghost g.agree in
    record { closed = g.closed; rules = s.rules; files = s.files; own = holds_own geo mounted h cut cut g.own g.closed (λ k t. t) }

-- ---- images, as more is written

own_longer : (geo : Geometry) (mounted : View) (h : List Written) (w : Written) (less : List Bool) (n k b : ℕ) → HoldsOwn geo mounted h less n k b → HoldsOwn geo mounted (w ∷ h) (false ∷ less) n k b
own_longer geo mounted h w less n k b (inl r) = inl (suc r.0, r.1, r.2, r.3, r.4)
own_longer geo mounted h w less n k b (inr r) = inr (r.0, r.1, r.2)

images_longer : (geo : Geometry) (mounted : View) (h : List Written) (w : Written) (cut : List Bool) (safe safe' : ℕ → Bool) (images : List View) → ((f : ℕ) → IsTrue (safe' f) → IsTrue (safe f))
    → AreSafeImages geo mounted h cut safe images → AreSafeImages geo mounted (w ∷ h) (false ∷ cut) safe' images
images_longer geo mounted h w cut safe safe' [] fewer s = tt
images_longer geo mounted h w cut safe safe' (image ∷ images) fewer s = (
  false ∷ s.0,
  s.1,
  longer,
  record {
    closed = s.3.closed;
    rules = s.3.rules;
    files = λ f t. s.3.files f (fewer f t);
    own = λ n k b f. own_longer geo mounted h w s.0 n k b (s.3.own n k b f);
  },
  images_longer geo mounted h w s.0 safe safe' images fewer s.4,
)
  where
    longer : Holds (false ∷ cut) (false ∷ s.0)
    longer zero t = t
    longer (suc k) t = s.2 k t

images_on : (geo : Geometry) (mounted : View) (h : List Written) (cut less : List Bool) (safe : ℕ → Bool) (images : List View) → Holds cut less → AreSafeImages geo mounted h less safe images → AreSafeImages geo mounted h cut safe images
images_on geo mounted h cut less safe [] g s = tt
images_on geo mounted h cut less safe (image ∷ images) g s = (s.0, s.1, λ k t. g k (s.2 k t), s.3, s.4)

-- ---- moments

put_good : (geo : Geometry) (mounted : View) (h : List Written) (cut next : List Bool) (ghost : Ghost) → IsGood geo mounted h cut ghost → IsClosed (rest (updates h) cut) next → IsGood geo mounted h (joined (updates h) cut next) ghost
put_good geo mounted h cut next ghost g l = record {
  closed = joined_closed (updates h) cut next g.closed l;
  agree = subst (λ v. AllAgree geo v (rest (updates h) (joined (updates h) cut next)) ghost) (sym (joined_seen mounted (updates h) cut next g.closed l))
      (subst (λ x. AllAgree geo (seen (seen mounted (updates h) cut) (rest (updates h) cut) next) x ghost) (sym (joined_rest (updates h) cut next g.closed l))
      (flush_agrees geo (seen mounted (updates h) cut) (rest (updates h) cut) ghost next l g.agree));
  own = write_own geo mounted h cut next g.closed l g.own;
}

settled_good : (geo : Geometry) (mounted : View) (h : List Written) (cut : List Bool) (ghost : Ghost) (held : ℕ → Bool) → IsGood geo mounted h cut ghost → rest (updates h) cut ≡ [] → IsGood geo mounted h cut (at_rest held ghost.safe)
settled_good geo mounted h cut ghost held g e =
    let s = device_safe geo (seen mounted (updates h) cut) (rest (updates h) cut) ghost g.agree in
    record {
      closed = g.closed;
      agree = subst (λ x. AllAgree geo (seen mounted (updates h) cut) x (at_rest held ghost.safe)) (sym e) (base_agrees geo (seen mounted (updates h) cut) held ghost.safe s.rules s.files);
      own = g.own;
    }

pub course_good : (geo : Geometry) (mounted : View) (h : List Written) (cut : List Bool) (ghost : Ghost) (h' : List Written) (cut' : List Bool) (images : List View) (ghost' : Ghost) → Course geo mounted h cut ghost h' cut' images ghost'
    → IsGood geo mounted h cut ghost → IsGood geo mounted h' cut' ghost' × AreSafeImages geo mounted h' cut' ghost'.safe images
course_good geo mounted h cut ghost h' cut' images ghost' Rests g = (g, tt)
course_good geo mounted h cut ghost h' cut' images ghost' (Adds {h' = i} {cut' = c} {images = im} {ghost' = o} w next course step names) g =
    let r = course_good geo mounted h cut ghost i c im o course g in (
      record {
        closed = r.0.closed;
        agree = step_keeps geo (seen mounted (updates i) c) (rest (updates i) c) o w.update next step r.0.agree;
        own = issue_own geo mounted i c o w next r.0.closed r.0.agree step names r.0.own;
      },
      images_longer geo mounted i w c o.safe next.safe im (step_safe geo (seen mounted (updates i) c) (rest (updates i) c) o w.update next step) r.1,
    )
course_good geo mounted h cut ghost h' cut' images ghost' (Puts {h' = i} {cut' = c} {images = im} {ghost' = o} next course l) g =
    let r = course_good geo mounted h cut ghost i c im o course g in
    let p = put_good geo mounted i c next o r.0 l in
    let more = joined (updates i) c next in
    (p, (more, refl, (λ k t. t), good_safe geo mounted i more o p, images_on geo mounted i more c o.safe im (joined_holds (updates i) c next r.0.closed l) r.1))
course_good geo mounted h cut ghost h' cut' images ghost' (Settles {h' = i} {cut' = c} {images = im} {ghost' = o} held course e) g =
    let r = course_good geo mounted h cut ghost i c im o course g in
    (settled_good geo mounted i c o held r.0 e, r.1)

pub course_joins : (geo : Geometry) (mounted : View) (h : List Written) (cut : List Bool) (ghost : Ghost) (h' : List Written) (cut' : List Bool) (images : List View) (ghost' : Ghost) → Course geo mounted h cut ghost h' cut' images ghost'
    → (h'' : List Written) (cut'' : List Bool) (later : List View) (ghost'' : Ghost) → Course geo mounted h' cut' ghost' h'' cut'' later ghost'' → Course geo mounted h cut ghost h'' cut'' (later ++ images) ghost''
course_joins geo mounted h cut ghost h' cut' images ghost' first h'' cut'' later ghost'' Rests = first
course_joins geo mounted h cut ghost h' cut' images ghost' first h'' cut'' later ghost'' (Adds {h' = i} {cut' = c} {images = im} {ghost' = o} w next course step names) =
    Adds w next (course_joins geo mounted h cut ghost h' cut' images ghost' first i c im o course) step names
course_joins geo mounted h cut ghost h' cut' images ghost' first h'' cut'' later ghost'' (Puts {h' = i} {cut' = c} {images = im} {ghost' = o} next course l) =
    Puts next (course_joins geo mounted h cut ghost h' cut' images ghost' first i c im o course) l
course_joins geo mounted h cut ghost h' cut' images ghost' first h'' cut'' later ghost'' (Settles {h' = i} {cut' = c} {images = im} {ghost' = o} held course e) =
    Settles held (course_joins geo mounted h cut ghost h' cut' images ghost' first i c im o course) e

pub mount_good : (geo : Geometry) (mounted : View) (held safe : ℕ → Bool) → ObeysRules geo mounted → ((f : ℕ) → IsTrue (safe f) → IsReachable geo mounted f) → IsGood geo mounted [] [] (at_rest held safe)
mount_good geo mounted held safe o reached = record {
  closed = tt;
  agree = base_agrees geo mounted held safe o reached;
  own = mount_own geo mounted;
}

-- with nothing pending, any files that are reachable then are safe
pub safe_anew : (geo : Geometry) (mounted : View) (h : List Written) (cut : List Bool) (ghost : Ghost) (safe : ℕ → Bool) → IsGood geo mounted h cut ghost → rest (updates h) cut ≡ []
    → ((f : ℕ) → IsTrue (safe f) → IsReachable geo (seen mounted (updates h) cut) f) → IsGood geo mounted h cut (at_rest ghost.held safe)
safe_anew geo mounted h cut ghost safe g e reached =
    let s = device_safe geo (seen mounted (updates h) cut) (rest (updates h) cut) ghost g.agree in
    record {
      closed = g.closed;
      agree = subst (λ x. AllAgree geo (seen mounted (updates h) cut) x (at_rest ghost.held safe)) (sym e) (base_agrees geo (seen mounted (updates h) cut) ghost.held safe s.rules reached);
      own = g.own;
    }
