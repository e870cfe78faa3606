-- The writes that were made beside a sync of the device, over what is durable after it.
use Rattle.std.proofs.Common.{◌≡◌, ℕ, zero, suc, Bool, true, false, List, [], ◌∷◌, ◌++◌, inl, inr, refl, sym, ap, ◌∙◌, subst, IsTrue, Contains}
use Rattle.std.proofs.lemmas.List.Elements.{Contains-append_left, Contains-append_right}
use Rattle.model.specs.Layout.{Geometry}
use Rattle.model.specs.View.{View, view_of}
use Rattle.model.specs.Cells.{put_at}
use Rattle.ordering.specs.Cuts.{Pending, IsClosed, SameAt, cell_of, fresh, seen, rest, joined}
use Rattle.ordering.specs.ClosedSets.{pending_at, takes}
use Rattle.ordering.proofs.Flushes.{joined_fresh, joined_seen}
use Rattle.queue_model.specs.History.{Holds}
use Rattle.queue_model.specs.Blocks.{home_of}
use Rattle.queue_model.proofs.Lists.{bool_same, contains_head, contains_tail, contains_cases, contains_none}
use Rattle.power_cut.specs.Epochs.{Put, Shows, IsPut, HoldsEarlier, IsEpoch, union, together, beyond, all_beyond}
use Rattle.queue_model.proofs.FlushLemmas.{fresh_holds}
use Rattle.power_cut.proofs.Unions.{union_closed, union_other, union_only, through, cell_same}
use Rattle.power_cut.proofs.EpochLemmas.{together_closed, together_takes, put_in}

-- ---- cuts

pub joined_beyond : (q : List Pending) (t c : List Bool) → IsClosed q t → IsClosed q c → joined q t (beyond t c) ≡ union t c
joined_beyond [] [] [] k l = refl
joined_beyond [] (b ∷ t) c k l = absurd k
joined_beyond [] [] (d ∷ c) k l = absurd l
joined_beyond (u ∷ q) [] c k l = absurd k
joined_beyond (u ∷ q) (b ∷ t) [] k l = absurd l
joined_beyond (u ∷ q) (true ∷ t) (true ∷ c) k l = ap (λ x. true ∷ x) (joined_beyond q t c k.0 l.0)
joined_beyond (u ∷ q) (true ∷ t) (false ∷ c) k l = ap (λ x. true ∷ x) (joined_beyond q t c k.0 l)
joined_beyond (u ∷ q) (false ∷ t) (true ∷ c) k l = ap (λ x. true ∷ x) (joined_beyond q t c k l.0)
joined_beyond (u ∷ q) (false ∷ t) (false ∷ c) k l = ap (λ x. false ∷ x) (joined_beyond q t c k l)

pub beyond_closed : (q : List Pending) (t c : List Bool) → IsClosed q t → IsClosed q c → IsClosed (rest q t) (beyond t c)
beyond_closed [] [] [] k l = tt
beyond_closed [] (b ∷ t) c k l = absurd k
beyond_closed [] [] (d ∷ c) k l = absurd l
beyond_closed (u ∷ q) [] c k l = absurd k
beyond_closed (u ∷ q) (b ∷ t) [] k l = absurd l
beyond_closed (u ∷ q) (true ∷ t) (true ∷ c) k l = beyond_closed q t c k.0 l.0
beyond_closed (u ∷ q) (true ∷ t) (false ∷ c) k l = beyond_closed q t c k.0 l
beyond_closed (u ∷ q) (false ∷ t) (true ∷ c) k l =
    let more = beyond_closed q t c k l.0 in
    let same : fresh q (union t c) ≡ fresh (rest q t) (beyond t c) = ap (fresh q) (sym (joined_beyond q t c k l.0)) ∙ joined_fresh q t (beyond t c) k more in
    let f = fresh_holds q (union t c) c (union_closed q t c k l.0) l.0 (union_other t c) in
    (more, subst (λ set. IsTrue (set (cell_of u.change))) same (f (cell_of u.change) l.1), λ d w. subst (λ set. IsTrue (set d)) same (f d (l.2 d w)))
beyond_closed (u ∷ q) (false ∷ t) (false ∷ c) k l = beyond_closed q t c k l

beyond_takes : (q : List Pending) (t c : List Bool) → IsClosed q t → IsClosed q c → (k : ℕ) → IsTrue (takes (beyond t c) k) → (j : ℕ) × IsTrue (takes c j) × (pending_at (rest q t) k ≡ pending_at q j)
beyond_takes [] [] [] k l i h = (i, h, refl)
beyond_takes [] (b ∷ t) c k l i h = absurd k
beyond_takes [] [] (d ∷ c) k l i h = absurd l
beyond_takes (u ∷ q) [] c k l i h = absurd k
beyond_takes (u ∷ q) (b ∷ t) [] k l i h = absurd l
beyond_takes (u ∷ q) (true ∷ t) (true ∷ c) k l i h = let r = beyond_takes q t c k.0 l.0 i h in (suc r.0, r.1, r.2)
beyond_takes (u ∷ q) (true ∷ t) (false ∷ c) k l i h = let r = beyond_takes q t c k.0 l i h in (suc r.0, r.1, r.2)
beyond_takes (u ∷ q) (false ∷ t) (d ∷ c) k l zero h = (0, h, refl)
beyond_takes (u ∷ q) (false ∷ t) (true ∷ c) k l (suc i) h = let r = beyond_takes q t c k l.0 i h in (suc r.0, r.1, r.2)
beyond_takes (u ∷ q) (false ∷ t) (false ∷ c) k l (suc i) h = let r = beyond_takes q t c k l i h in (suc r.0, r.1, r.2)

tail_closed : (u : Pending) (q : List Pending) (b : Bool) (x : List Bool) → IsClosed (u ∷ q) (b ∷ x) → IsClosed q x
tail_closed u q true x k = k.0
tail_closed u q false x k = k

beyond_holds : (q : List Pending) (t x y : List Bool) → IsClosed q t → IsClosed q x → IsClosed q y → Holds x y → Holds (beyond t x) (beyond t y)
beyond_holds [] [] x y k l m h i s = h i s
beyond_holds [] (b ∷ t) x y k l m h i s = absurd k
beyond_holds (u ∷ q) [] x y k l m h i s = absurd k
beyond_holds (u ∷ q) (b ∷ t) [] y k l m h i s = absurd l
beyond_holds (u ∷ q) (b ∷ t) (a ∷ x) [] k l m h i s = absurd m
beyond_holds (u ∷ q) (true ∷ t) (a ∷ x) (d ∷ y) k l m h i s = beyond_holds q t x y k.0 (tail_closed u q a x l) (tail_closed u q d y m) (λ j r. h (suc j) r) i s
beyond_holds (u ∷ q) (false ∷ t) (a ∷ x) (d ∷ y) k l m h zero s = h 0 s
beyond_holds (u ∷ q) (false ∷ t) (a ∷ x) (d ∷ y) k l m h (suc i) s = beyond_holds q t x y k (tail_closed u q a x l) (tail_closed u q d y m) (λ j r. h (suc j) r) i s

-- ---- writes

pub older_epoch : (geo : Geometry) (durable : View) (q : List Pending) (newer older : List Put) → IsEpoch geo durable q (newer ++ older) → IsEpoch geo durable q older
older_epoch geo durable q [] older s = s
older_epoch geo durable q (p ∷ newer) older s = older_epoch geo durable q newer older s.2

beyond_in : (t : List Bool) (ps : List Put) (e : Put) → Contains (all_beyond t ps) e → (f : Put) × Contains ps f × (record f { cut = beyond t f.cut } ≡ e)
beyond_in t [] e m = absurd (contains_none e m)
beyond_in t (p ∷ ps) e m = elim (contains_cases (record p { cut = beyond t p.cut }) e (all_beyond t ps) m) [
  | inl d ↦ (p, contains_head p ps, d)
  | inr n ↦ let r = beyond_in t ps e n in (r.0, contains_tail p r.0 ps r.1, r.2)
]

-- a write beside the sync shows what it showed, over what is durable then
beyond_shows : (geo : Geometry) (durable : View) (q : List Pending) (older : List Put) → IsEpoch geo durable q older → (p : Put) → IsPut geo durable q p → HoldsEarlier p older
    → Shows geo p.address p.bytes (seen (seen durable q (together q older)) (rest q (together q older)) (beyond (together q older) p.cut))
beyond_shows geo durable q older s p is earlier blocks c e =
    through (view_of geo (put_at blocks p.address p.bytes)) (seen durable q p.cut) (seen (seen durable q t) (rest q t) (beyond t p.cut)) c (is.shows blocks c e)
    (subst (λ v. SameAt (seen durable q p.cut) v c) (ap (seen durable q) (sym (joined_beyond q t p.cut closed is.closed)) ∙ joined_seen durable q t (beyond t p.cut) closed (beyond_closed q t p.cut closed is.closed))
    (cell_same durable q p.cut (union t p.cut) c is.closed (union_closed q t p.cut closed is.closed) (λ k b d. bool_same (takes p.cut k) (takes (union t p.cut) k) (union_other t p.cut k) (back k d))))
  where
    t : List Bool
    t = together q older

    closed : IsClosed q t
    closed = together_closed geo durable q older s

    back : (k : ℕ) → cell_of (pending_at q k).change ≡ c → IsTrue (takes (union t p.cut) k) → IsTrue (takes p.cut k)
    back k d y = elim (union_only t p.cut k y) [
      | inl old ↦ let r = together_takes q older k old in earlier r.0 r.1 (sym ((put_in geo durable q older r.0 s r.1).own k r.2) ∙ ap (home_of geo) d ∙ e) k r.2
      | inr own ↦ own
    ]

pub newer_epoch : (geo : Geometry) (durable : View) (q : List Pending) (newer older : List Put) → IsEpoch geo durable q (newer ++ older)
    → IsEpoch geo (seen durable q (together q older)) (rest q (together q older)) (all_beyond (together q older) newer)
newer_epoch geo durable q [] older s = tt
newer_epoch geo durable q (p ∷ newer) older s = (
  record {
    closed = beyond_closed q t p.cut closed s.0.closed;
    own = λ k h. let r = beyond_takes q t p.cut closed s.0.closed k h in ap (λ (u : Pending). home_of geo (cell_of u.change)) r.2 ∙ s.0.own r.0 r.1;
    shows = beyond_shows geo durable q older all p s.0 (λ e m same. s.1 e (Contains-append_right newer older e m) same);
  },
  (λ e m same.
      let r = beyond_in t newer e m in
      let was : r.0.address ≡ p.address = ap (λ (x : Put). x.address) r.2 ∙ same in
      let inside = Contains-append_left newer older r.0 r.1 in
      subst (λ (x : Put). Holds (beyond t p.cut) x.cut) r.2 (beyond_holds q t p.cut r.0.cut closed s.0.closed (put_in geo durable q (newer ++ older) r.0 s.2 inside).closed (s.1 r.0 inside was))),
  newer_epoch geo durable q newer older s.2,
)
  where
    t : List Bool
    t = together q older

    all : IsEpoch geo durable q older
    all = older_epoch geo durable q newer older s.2

    closed : IsClosed q t
    closed = together_closed geo durable q older all
