-- Whichever of an epoch's writes reached the medium, it shows a closed cut.
use Rattle.std.proofs.Common.{◌≡◌, ℕ, zero, suc, Bool, true, false, List, [], ◌∷◌, inl, inr, sym, ap, ◌∙◌, subst, IsTrue, Contains}
use Rattle.std.proofs.lemmas.Bool.{cases_eq}
use Rattle.model.specs.Layout.{Geometry}
use Rattle.model.specs.View.{View, view_of}
use Rattle.model.specs.Cells.{put_at}
use Rattle.model.proofs.Places.{put_there}
use Rattle.ordering.specs.Cuts.{Cell, Pending, IsClosed, SameAt, cell_of, seen}
use Rattle.ordering.specs.ClosedSets.{pending_at, takes}
use Rattle.ordering.specs.Ghosts.{Ghost}
use Rattle.ordering.specs.Histories.{Comes_to, IsSafeCut}
use Rattle.ordering.proofs.HistoryLemmas.{each_cut_is_safe}
use Rattle.queue_model.specs.History.{Holds}
use Rattle.queue_model.specs.Flush.{ready, IsOfBlock}
use Rattle.queue_model.specs.Blocks.{home_of}
use Rattle.queue_model.proofs.Lists.{bool_same, contains_head, contains_tail, contains_cases, contains_none}
use Rattle.queue_model.proofs.HistoryLemmas.{none_closed, none_seen}
use Rattle.queue_model.proofs.FlushLemmas.{ready_closed, ready_greatest, ready_of_block, same_self}
use Rattle.device.specs.Media.{chosen}
use Rattle.power_cut.specs.Epochs.{Put, Shows, IsPut, IsEpoch, blocks_with, union, together, behind, all_behind, ready_put}
use Rattle.queue_model.proofs.BlockLemmas.{same_views, read_from_home}
use Rattle.power_cut.proofs.Unions.{union_one, union_other, union_only, union_closed, none_takes, through, cell_same}

-- ---- some of the writes

pub chosen_in : {X : Type 0} (xs : List X) (picks : List Bool) (x : X) → Contains (chosen xs picks) x → Contains xs x
chosen_in [] picks x m = m
chosen_in (y ∷ xs) [] x m = absurd (contains_none x m)
chosen_in (y ∷ xs) (true ∷ picks) x m = elim (contains_cases y x (chosen xs picks) m) [
  | inl e ↦ subst (λ z. Contains (y ∷ xs) z) e (contains_head y xs)
  | inr n ↦ contains_tail y x xs (chosen_in xs picks x n)
]
chosen_in (y ∷ xs) (false ∷ picks) x m = contains_tail y x xs (chosen_in xs picks x m)

pub epoch_chosen : (geo : Geometry) (durable : View) (q : List Pending) (ps : List Put) (picks : List Bool) → IsEpoch geo durable q ps → IsEpoch geo durable q (chosen ps picks)
epoch_chosen geo durable q [] picks s = tt
epoch_chosen geo durable q (p ∷ ps) [] s = tt
epoch_chosen geo durable q (p ∷ ps) (true ∷ picks) s = (s.0, λ e m same. s.1 e (chosen_in ps picks e m) same, epoch_chosen geo durable q ps picks s.2)
epoch_chosen geo durable q (p ∷ ps) (false ∷ picks) s = epoch_chosen geo durable q ps picks s.2

pub put_in : (geo : Geometry) (durable : View) (q : List Pending) (ps : List Put) (p : Put) → IsEpoch geo durable q ps → Contains ps p → IsPut geo durable q p
put_in geo durable q [] p s m = absurd (contains_none p m)
put_in geo durable q (r ∷ ps) p s m = elim (contains_cases r p ps m) [
  | inl e ↦ subst (λ x. IsPut geo durable q x) e s.0
  | inr n ↦ put_in geo durable q ps p s.2 n
]

-- ---- what they hold together

pub together_closed : (geo : Geometry) (durable : View) (q : List Pending) (ps : List Put) → IsEpoch geo durable q ps → IsClosed q (together q ps)
together_closed geo durable q [] s = none_closed q
together_closed geo durable q (p ∷ ps) s = union_closed q p.cut (together q ps) s.0.closed (together_closed geo durable q ps s.2)

pub together_takes : (q : List Pending) (ps : List Put) (k : ℕ) → IsTrue (takes (together q ps) k) → (p : Put) × Contains ps p × IsTrue (takes p.cut k)
together_takes q [] k t = absurd (none_takes q k t)
together_takes q (p ∷ ps) k t = elim (union_only p.cut (together q ps) k t) [
  | inl own ↦ (p, contains_head p ps, own)
  | inr other ↦ let r = together_takes q ps k other in (r.0, contains_tail p r.0 ps r.1, r.2)
]

-- ---- each cell of what is left

left_cell : (geo : Geometry) (blocks : ℕ → List ℕ) (q : List Pending) (ps : List Put) → IsEpoch geo (view_of geo blocks) q ps → (c : Cell)
    → SameAt (view_of geo (blocks_with blocks ps)) (seen (view_of geo blocks) q (together q ps)) c
left_cell geo blocks q [] s c = subst (λ v. SameAt (view_of geo blocks) v c) (sym (none_seen (view_of geo blocks) q)) (same_self (view_of geo blocks) c)
left_cell geo blocks q (p ∷ ps) s c = elim (cases_eq (home_of geo c) p.address) [
  | inl e ↦ through now (seen disk q p.cut) all c (s.0.shows before c e) (cell_same disk q p.cut whole c s.0.closed closed (λ k b d. bool_same (takes p.cut k) (takes whole k) (union_one p.cut rest_of k) (same_block e k d)))
  | inr d ↦ through now (view_of geo before) all c (read_from_home geo (put_at before p.address p.bytes) before c (put_there before p.address (home_of geo c) p.bytes d))
      (through (view_of geo before) (seen disk q rest_of) all c (left_cell geo blocks q ps s.2 c)
      (cell_same disk q rest_of whole c closed_rest closed (λ k b x. bool_same (takes rest_of k) (takes whole k) (union_other p.cut rest_of k) (other_block d k x))))
]
  where
    disk : View
    disk = view_of geo blocks

    before : ℕ → List ℕ
    before = blocks_with blocks ps

    now : View
    now = view_of geo (put_at before p.address p.bytes)

    rest_of : List Bool
    rest_of = together q ps

    whole : List Bool
    whole = union p.cut rest_of

    all : View
    all = seen disk q whole

    closed_rest : IsClosed q rest_of
    closed_rest = together_closed geo disk q ps s.2

    closed : IsClosed q whole
    closed = union_closed q p.cut rest_of s.0.closed closed_rest

    same_block : home_of geo c ≡ p.address → (k : ℕ) → cell_of (pending_at q k).change ≡ c → IsTrue (takes whole k) → IsTrue (takes p.cut k)
    same_block e k d t = elim (union_only p.cut rest_of k t) [
      | inl own ↦ own
      | inr other ↦ let r = together_takes q ps k other in s.1 r.0 r.1 (sym ((put_in geo disk q ps r.0 s.2 r.1).own k r.2) ∙ ap (home_of geo) d ∙ e) k r.2
    ]

    other_block : (home_of geo c ≡ p.address → ⊥) → (k : ℕ) → cell_of (pending_at q k).change ≡ c → IsTrue (takes whole k) → IsTrue (takes rest_of k)
    other_block d k x t = elim (union_only p.cut rest_of k t) [
      | inl own ↦ absurd (d (sym (ap (home_of geo) x) ∙ s.0.own k own))
      | inr other ↦ other
    ]

pub left_is_cut : (geo : Geometry) (blocks : ℕ → List ℕ) (q : List Pending) (ps : List Put) → IsEpoch geo (view_of geo blocks) q ps
    → IsClosed q (together q ps) × (view_of geo (blocks_with blocks ps) ≡ seen (view_of geo blocks) q (together q ps))
left_is_cut geo blocks q ps s = (
  together_closed geo (view_of geo blocks) q ps s,
  same_views (view_of geo (blocks_with blocks ps)) (seen (view_of geo blocks) q (together q ps)) (left_cell geo blocks q ps s),
)

pub any_is_cut : (geo : Geometry) (blocks : ℕ → List ℕ) (q : List Pending) (ps : List Put) (picks : List Bool) → IsEpoch geo (view_of geo blocks) q ps
    → IsClosed q (together q (chosen ps picks)) × (view_of geo (blocks_with blocks (chosen ps picks)) ≡ seen (view_of geo blocks) q (together q (chosen ps picks)))
any_is_cut geo blocks q ps picks s = left_is_cut geo blocks q (chosen ps picks) (epoch_chosen geo (view_of geo blocks) q ps picks s)

pub any_is_safe : (geo : Geometry) (blocks : ℕ → List ℕ) (q : List Pending) (ghost : Ghost) (ps : List Put) (picks : List Bool) → Comes_to geo (view_of geo blocks) q ghost → IsEpoch geo (view_of geo blocks) q ps
    → IsSafeCut geo (view_of geo (blocks_with blocks (chosen ps picks))) ghost
any_is_safe geo blocks q ghost ps picks comes s =
    let r = any_is_cut geo blocks q ps picks s in
    subst (λ v. IsSafeCut geo v ghost) (sym r.1) (each_cut_is_safe geo (view_of geo blocks) q ghost comes (together q (chosen ps picks)) r.0)

-- ---- the epoch goes on

behind_holds : (p e : Put) → Holds p.cut e.cut → Holds (behind p).cut (behind e).cut
behind_holds p e h zero t = t
behind_holds p e h (suc k) t = h k t

behind_put : (geo : Geometry) (durable : View) (q : List Pending) (u : Pending) (p : Put) → IsPut geo durable q p → IsPut geo durable (u ∷ q) (behind p)
behind_put geo durable q u p s = record { closed = s.closed; own = own; shows = s.shows }
  where
    own : IsOfBlock (home_of geo) p.address (u ∷ q) (false ∷ p.cut)
    own zero t = absurd (let bad : false ≡ true = t in cc)
    own (suc k) t = s.own k t

behind_in : (ps : List Put) (e : Put) → Contains (all_behind ps) e → (f : Put) × Contains ps f × (behind f ≡ e)
behind_in [] e m = absurd (contains_none e m)
behind_in (p ∷ ps) e m = elim (contains_cases (behind p) e (all_behind ps) m) [
  | inl d ↦ (p, contains_head p ps, d)
  | inr n ↦ let r = behind_in ps e n in (r.0, contains_tail p r.0 ps r.1, r.2)
]

pub epoch_behind : (geo : Geometry) (durable : View) (q : List Pending) (u : Pending) (ps : List Put) → IsEpoch geo durable q ps → IsEpoch geo durable (u ∷ q) (all_behind ps)
epoch_behind geo durable q u [] s = tt
epoch_behind geo durable q u (p ∷ ps) s = (
  behind_put geo durable q u p s.0,
  (λ e m same.
      let r = behind_in ps e m in
      subst (λ x. Holds (behind p).cut x.cut) r.2 (behind_holds p r.0 (s.1 r.0 r.1 (ap (λ (x : Put). x.address) r.2 ∙ same)))),
  epoch_behind geo durable q u ps s.2,
)

pub epoch_written : (geo : Geometry) (durable : View) (q : List Pending) (ps : List Put) (a : ℕ) (bytes : List ℕ) → IsEpoch geo durable q ps
    → Shows geo a bytes (seen durable q (ready (home_of geo) a q)) → IsEpoch geo durable q (ready_put geo a bytes q ∷ ps)
epoch_written geo durable q ps a bytes s shows = (
  record { closed = ready_closed (home_of geo) a q; own = ready_of_block (home_of geo) a q; shows = shows },
  (λ e m same.
      let p = put_in geo durable q ps e s m in
      ready_greatest (home_of geo) a q e.cut p.closed (λ k t. p.own k t ∙ same)),
  s,
)
