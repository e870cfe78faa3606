-- A volume stays sound, and whatever a power cut leaves of it is safe.
use Rattle.std.proofs.Common.{◌≡◌, ℕ, zero, suc, ◌<◌, ◌+◌, Bool, true, false, List, [], ◌∷◌, ◌++◌, refl, sym, ap, ◌∙◌, subst, IsTrue, length, arith}
use Rattle.model.specs.Layout.{Geometry}
use Rattle.model.specs.View.{View, view_of}
use Rattle.ordering.specs.Cuts.{Pending, IsClosed, seen, rest, joined}
use Rattle.ordering.specs.ClosedSets.{takes}
use Rattle.ordering.proofs.Flushes.{joined_seen}
use Rattle.queue_model.specs.History.{Holds, skipping}
use Rattle.queue_model.specs.Files.{Written, updates}
use Rattle.queue_model.specs.Course.{Rests as CourseRests, Adds as CourseAdds, Puts as CoursePuts, Settles as CourseSettles, IsGood}
use Rattle.queue_model.proofs.HistoryLemmas.{joined_holds, joined_rest}
use Rattle.queue_model.proofs.CourseLemmas.{course_good, good_safe, mount_good}
use Rattle.model.specs.Rules.{ObeysRules}
use Rattle.model.specs.Reach.{IsReachable}
use Rattle.ordering.specs.Ghosts.{at_rest}
use Rattle.device.specs.Media.{chosen}
use Rattle.power_cut.specs.Epochs.{IsEpoch, together, all_beyond}
use Rattle.power_cut.specs.Volumes.{Moment, IsSound, Goes_on, Rests, Adds, Puts, Syncs, SyncsOlder, Settles, IsSafelyLeft, IsLater, left}
use Rattle.power_cut.proofs.EpochLemmas.{any_is_cut, left_is_cut, epoch_behind, epoch_written}
use Rattle.power_cut.proofs.BeyondLemmas.{older_epoch, newer_epoch}

-- what is not durable
abbrev pub loose_of : Moment → List Pending
loose_of m = rest (updates m.written) m.cut

put_good : (geo : Geometry) (mounted : View) (m : Moment) (next : List Bool) → IsSound geo mounted m → IsClosed (loose_of m) next → IsGood geo mounted m.written (joined (updates m.written) m.cut next) m.ghost
put_good geo mounted m next s l =
    (course_good geo mounted m.written m.cut m.ghost m.written (joined (updates m.written) m.cut next) (seen mounted (updates m.written) (joined (updates m.written) m.cut next) ∷ []) m.ghost
    (CoursePuts next CourseRests l) s.good).0

-- the view of a closed cut over what is durable, as one over the volume at mount
joined_view : (geo : Geometry) (mounted : View) (m : Moment) (next : List Bool) → IsSound geo mounted m → IsClosed (loose_of m) next
    → seen (view_of geo m.durable) (loose_of m) next ≡ seen mounted (updates m.written) (joined (updates m.written) m.cut next)
joined_view geo mounted m next s l = ap (λ v. seen v (loose_of m) next) s.view ∙ sym (joined_seen mounted (updates m.written) m.cut next s.good.closed l)

pub cut_safe : (geo : Geometry) (mounted : View) (m : Moment) → IsSound geo mounted m → (picks : List Bool) → IsSafelyLeft geo mounted m (view_of geo (left m picks))
cut_safe geo mounted m s picks =
    let r = any_is_cut geo m.durable (loose_of m) m.loose picks s.epoch in
    let next = together (loose_of m) (chosen m.loose picks) in
    let cut = joined (updates m.written) m.cut next in
    record {
      cut = cut;
      image = r.1 ∙ joined_view geo mounted m next s r.0;
      durable = joined_holds (updates m.written) m.cut next s.good.closed r.0;
      safe = good_safe geo mounted m.written cut m.ghost (put_good geo mounted m next s r.0);
    }

-- ---- the volume goes on

longer : (cut less : List Bool) → Holds cut less → Holds (false ∷ cut) (false ∷ less)
longer cut less h zero t = t
longer cut less h (suc k) t = h k t

pub goes_on : (geo : Geometry) (mounted : View) (m n : Moment) → IsSound geo mounted m → Goes_on geo mounted m n → IsSound geo mounted n × IsLater m n
goes_on geo mounted m n s Rests = (s, record { added = []; all = refl; durable = λ k t. t })
goes_on geo mounted m n s (Adds {n = o} w next g step names) =
    let r = goes_on geo mounted m o s g in (
      record {
        good = (course_good geo mounted o.written o.cut o.ghost (w ∷ o.written) (false ∷ o.cut) [] next (CourseAdds w next CourseRests step names) r.0.good).0;
        view = r.0.view;
        epoch = epoch_behind geo (view_of geo o.durable) (loose_of o) w.update o.loose r.0.epoch;
      },
      record { added = w ∷ r.1.added; all = ap (λ x. w ∷ x) r.1.all; durable = longer o.cut (skipping (updates r.1.added) m.cut) r.1.durable },
    )
goes_on geo mounted m n s (Puts {n = o} a bytes g shows) =
    let r = goes_on geo mounted m o s g in (
      record { good = r.0.good; view = r.0.view; epoch = epoch_written geo (view_of geo o.durable) (loose_of o) o.loose a bytes r.0.epoch shows },
      record { added = r.1.added; all = r.1.all; durable = r.1.durable },
    )
goes_on geo mounted m n s (Syncs {n = o} g) =
    let r = goes_on geo mounted m o s g in
    let c = left_is_cut geo o.durable (loose_of o) o.loose r.0.epoch in
    let next = together (loose_of o) o.loose in (
      record { good = put_good geo mounted o next r.0 c.0; view = c.1 ∙ joined_view geo mounted o next r.0 c.0; epoch = tt },
      record { added = r.1.added; all = r.1.all; durable = λ k t. joined_holds (updates o.written) o.cut next r.0.good.closed c.0 k (r.1.durable k t) },
    )
goes_on geo mounted m n s (SyncsOlder {n = o} newer older g split) =
    let r = goes_on geo mounted m o s g in
    let q = loose_of o in
    let both : IsEpoch geo (view_of geo o.durable) q (newer ++ older) = subst (IsEpoch geo (view_of geo o.durable) q) split r.0.epoch in
    let c = left_is_cut geo o.durable q older (older_epoch geo (view_of geo o.durable) q newer older both) in
    let next = together q older in (
      record {
        good = put_good geo mounted o next r.0 c.0;
        view = c.1 ∙ joined_view geo mounted o next r.0 c.0;
        epoch = subst (λ v. IsEpoch geo v (rest (updates o.written) (joined (updates o.written) o.cut next)) (all_beyond next newer)) (sym c.1)
            (subst (λ p. IsEpoch geo (seen (view_of geo o.durable) q next) p (all_beyond next newer)) (sym (joined_rest (updates o.written) o.cut next r.0.good.closed c.0))
            (newer_epoch geo (view_of geo o.durable) q newer older both));
      },
      record { added = r.1.added; all = r.1.all; durable = λ k t. joined_holds (updates o.written) o.cut next r.0.good.closed c.0 k (r.1.durable k t) },
    )
goes_on geo mounted m n s (Settles {n = o} held g none) =
    let r = goes_on geo mounted m o s g in (
      record {
        good = (course_good geo mounted o.written o.cut o.ghost o.written o.cut [] (record { held = held; gone = λ g. false; given_up = λ b n k. false; zeroed = λ n. false; entering = λ n. false; safe = o.ghost.safe })
            (CourseSettles held CourseRests none) r.0.good).0;
        view = r.0.view;
        epoch = r.0.epoch;
      },
      record { added = r.1.added; all = r.1.all; durable = r.1.durable },
    )

-- ---- what was synced stays

taken_all : (q : List Pending) (cut : List Bool) → IsClosed q cut → rest q cut ≡ [] → (k : ℕ) → k < length q → IsTrue (takes cut k)
taken_all [] cut c e k b = absurd (omega (arith, b))
taken_all (u ∷ q) [] c e k b = absurd c
taken_all (u ∷ q) (true ∷ cut) c e zero b = refl
taken_all (u ∷ q) (true ∷ cut) c e (suc k) b = taken_all q cut c.0 e k (omega (arith, b))
taken_all (u ∷ q) (false ∷ cut) c e k b = absurd (let bad : length (u ∷ rest q cut) ≡ 0 = ap length e in omega (arith, bad))

as_many : (h : List Written) → length (updates h) ≡ length h
as_many [] = refl
as_many (w ∷ h) = let more = as_many h in omega (arith, more)

skipping_takes : (more : List Written) (cut : List Bool) (k : ℕ) → IsTrue (takes cut k) → IsTrue (takes (skipping (updates more) cut) (length more + k))
skipping_takes [] cut k t = let e : k ≡ length {A = Written} [] + k = omega arith in subst (λ j. IsTrue (takes cut j)) e t
skipping_takes (w ∷ more) cut k t =
    let e : suc (length more + k) ≡ length (w ∷ more) + k = omega arith in
    subst (λ j. IsTrue (takes (false ∷ skipping (updates more) cut) j)) e (skipping_takes more cut k t)

pub synced_stays : (geo : Geometry) (mounted : View) (m n : Moment) → IsSound geo mounted m → rest (updates m.written) m.cut ≡ [] → Goes_on geo mounted m n → (picks : List Bool)
    → (safely : IsSafelyLeft geo mounted n (view_of geo (left n picks))) × (later : IsLater m n) × ((k : ℕ) → k < length m.written → IsTrue (takes safely.cut (length later.added + k)))
synced_stays geo mounted m n s none g picks =
    let r = goes_on geo mounted m n s g in
    let safely = cut_safe geo mounted n r.0 picks in
    let count = as_many m.written in (
      safely,
      r.1,
      (λ k b. safely.durable (length r.1.added + k)
          (r.1.durable (length r.1.added + k) (skipping_takes r.1.added m.cut k (taken_all (updates m.written) m.cut s.good.closed none k (omega (arith, b, count)))))),
    )

-- ---- the beginning

pub mounted_sound : (geo : Geometry) (blocks : ℕ → List ℕ) (held safe : ℕ → Bool) → ObeysRules geo (view_of geo blocks) → ((f : ℕ) → IsTrue (safe f) → IsReachable geo (view_of geo blocks) f)
    → IsSound geo (view_of geo blocks) (record { written = []; cut = []; durable = blocks; loose = []; ghost = at_rest held safe })
mounted_sound geo blocks held safe rules reached = record { good = mount_good geo (view_of geo blocks) held safe rules reached; view = refl; epoch = tt }
