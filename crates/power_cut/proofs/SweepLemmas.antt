-- As many sweeps as the longest chain of waits from block to block leave nothing.
use Rattle.std.proofs.Common.{◌≡◌, ℕ, zero, suc, ◌<◌, ◌≤◌, ◌+◌, ◌-◌, Bool, true, false, List, [], ◌∷◌, ◌⊎◌, inl, inr, refl, sym, ap, ◌∙◌, subst, IsTrue, length, Contains, arith}
use Rattle.std.proofs.lemmas.Bool.{cases_eq}
use Rattle.ordering.specs.Cuts.{Cell, Pending, IsClosed, cell_of, fresh, rest}
use Rattle.ordering.specs.ClosedSets.{pending_at, takes}
use Rattle.ordering.proofs.CutLemmas.{still_fresh}
use Rattle.queue_model.specs.History.{Holds}
use Rattle.queue_model.specs.Flush.{is_ready, ready}
use Rattle.queue_model.proofs.FlushLemmas.{closed_step, fresh_holds, ready_closed, ready_from, ready_parts}
use Rattle.power_cut.specs.Sweeps.{swept, left_by, rank_at, WaitsFor, AreRanks, AreBelow}
use Rattle.power_cut.proofs.Unions.{}

-- ---- a sweep takes a closed cut

pub swept_holds : (home : Cell → ℕ) (a : ℕ) (q : List Pending) → Holds (swept home q) (ready home a q)
swept_holds home a [] k t = t
swept_holds home a (u ∷ q) zero t = let p = ready_parts home a (fresh q (ready home a q)) u t in subst (λ b. IsTrue (is_ready home b (fresh q (ready home b q)) u)) (sym p.0) t
swept_holds home a (u ∷ q) (suc k) t = swept_holds home a q k t

pub swept_closed : (home : Cell → ℕ) (q : List Pending) → IsClosed q (swept home q)
swept_closed home [] = tt
swept_closed home (u ∷ q) =
    let a = home (cell_of u.change) in
    let r = ready home a q in
    let c = swept_closed home q in
    let f = fresh_holds q (swept home q) r c (ready_closed home a q) (swept_holds home a q) in
    closed_step u q (swept home q) (is_ready home a (fresh q r) u) c (λ t. let p = ready_parts home a (fresh q r) u t in (f (cell_of u.change) p.1, λ d m. f d (p.2 d m)))

-- ---- what waits for nothing of another block goes

takes_fresh : (q : List Pending) (cut : List Bool) (c : Cell) → ((k : ℕ) → k < length q → cell_of (pending_at q k).change ≡ c → IsTrue (takes cut k)) → IsTrue (fresh q cut c)
takes_fresh [] cut c h = refl
takes_fresh (u ∷ q) [] c h = refl
takes_fresh (u ∷ q) (true ∷ cut) c h = takes_fresh q cut c (λ k b e. h (suc k) (omega (arith, b)) e)
takes_fresh (u ∷ q) (false ∷ cut) c h =
    still_fresh (fresh q cut) (cell_of u.change) c (takes_fresh q cut c (λ k b e. h (suc k) (omega (arith, b)) e))
    (λ e. let bad : false ≡ true = h 0 (omega arith) (sym e) in cc)

zero_ready : (home : Cell → ℕ) (a : ℕ) (q : List Pending) (ranks : List ℕ) → AreRanks home q ranks → (k : ℕ) → k < length q → home (cell_of (pending_at q k).change) ≡ a → rank_at ranks k ≡ 0 → IsTrue (takes (ready home a q) k)
zero_ready home a [] ranks r k b h z = absurd (omega (arith, b))
zero_ready home a (u ∷ q) [] r k b h z = absurd r
zero_ready home a (u ∷ q) (x ∷ ranks) r zero b h z =
    let more : (k : ℕ) → k < length q → home (cell_of (pending_at q k).change) ≡ a → rank_at ranks k ≡ 0 → IsTrue (takes (ready home a q) k) = λ k l e y. zero_ready home a q ranks r.0 k l e y in
    ready_from home a (fresh q (ready home a q)) u h
    (takes_fresh q (ready home a q) (cell_of u.change) (λ k l e. goes more k l (inl e)))
    (λ c m. takes_fresh q (ready home a q) c (λ k l e. goes more k l (inr (subst (λ d. Contains u.after d) (sym e) m))))
  where
    goes : ((k : ℕ) → k < length q → home (cell_of (pending_at q k).change) ≡ a → rank_at ranks k ≡ 0 → IsTrue (takes (ready home a q) k))
        → (k : ℕ) → k < length q → WaitsFor u (pending_at q k) → IsTrue (takes (ready home a q) k)
    goes more k l w = elim (r.1 k l w) [
      | inl s ↦ let low = s.1 in more k l (s.0 ∙ h) (omega (arith, low, z))
      | inr low ↦ absurd (omega (arith, low, z))
    ]
zero_ready home a (u ∷ q) (x ∷ ranks) r (suc k) b h z = zero_ready home a q ranks r.0 k (omega (arith, b)) h z

some : (x : ℕ) → (x ≡ 0 → ⊥) → 1 ≤ x
some zero d = absurd (d refl)
some (suc x) d = omega arith

-- what a cut leaves has a rank
abbrev pub LeavesHigh : List Pending → List ℕ → List Bool → Type 0
LeavesHigh q ranks cut = (k : ℕ) → k < length q → takes cut k ≡ false → 1 ≤ rank_at ranks k

swept_high : (home : Cell → ℕ) (q : List Pending) (ranks : List ℕ) → AreRanks home q ranks → LeavesHigh q ranks (swept home q)
swept_high home q ranks r k b f = elim (cases_eq (rank_at ranks k) 0) [
  | inl z ↦
      let a = home (cell_of (pending_at q k).change) in
      let t = swept_holds home a q k (zero_ready home a q ranks r k b refl z) in
      absurd (let bad : false ≡ true = sym f ∙ t in cc)
  | inr d ↦ some (rank_at ranks k) d
]

-- ---- the ranks of what is left are lower by one

abbrev pub ranks_left : List ℕ → List Bool → List ℕ
ranks_left [] cut = []
ranks_left (r ∷ ranks) [] = r ∷ ranks
ranks_left (r ∷ ranks) (true ∷ cut) = ranks_left ranks cut
ranks_left (r ∷ ranks) (false ∷ cut) = (r - 1) ∷ ranks_left ranks cut

tail_high : (u : Pending) (q : List Pending) (r : ℕ) (ranks : List ℕ) (b : Bool) (cut : List Bool) → LeavesHigh (u ∷ q) (r ∷ ranks) (b ∷ cut) → LeavesHigh q ranks cut
tail_high u q r ranks b cut h k l f = h (suc k) (omega (arith, l)) f

-- where an update that is left stood
left_at : (home : Cell → ℕ) (q : List Pending) (ranks : List ℕ) (cut : List Bool) → AreRanks home q ranks → IsClosed q cut → LeavesHigh q ranks cut → (k : ℕ) → k < length (rest q cut)
    → (j : ℕ) × (j < length q) × (pending_at (rest q cut) k ≡ pending_at q j) × (rank_at (ranks_left ranks cut) k + 1 ≡ rank_at ranks j)
left_at home [] ranks cut a c h k b = absurd (omega (arith, b))
left_at home (u ∷ q) [] cut a c h k b = absurd a
left_at home (u ∷ q) (r ∷ ranks) [] a c h k b = absurd c
left_at home (u ∷ q) (r ∷ ranks) (true ∷ cut) a c h k b =
    let m = left_at home q ranks cut a.0 c.0 (tail_high u q r ranks true cut h) k b in let l = m.1 in (suc m.0, omega (arith, l), m.2, m.3)
left_at home (u ∷ q) (r ∷ ranks) (false ∷ cut) a c h zero b = let high = h 0 (omega arith) refl in (0, omega arith, refl, omega (arith, high))
left_at home (u ∷ q) (r ∷ ranks) (false ∷ cut) a c h (suc k) b =
    let m = left_at home q ranks cut a.0 c (tail_high u q r ranks false cut h) k (omega (arith, b)) in let l = m.1 in (suc m.0, omega (arith, l), m.2, m.3)

ranks_stay : (home : Cell → ℕ) (q : List Pending) (ranks : List ℕ) (cut : List Bool) → AreRanks home q ranks → IsClosed q cut → LeavesHigh q ranks cut → AreRanks home (rest q cut) (ranks_left ranks cut)
ranks_stay home [] [] cut a c h = tt
ranks_stay home [] (r ∷ ranks) cut a c h = absurd a
ranks_stay home (u ∷ q) [] cut a c h = absurd a
ranks_stay home (u ∷ q) (r ∷ ranks) [] a c h = absurd c
ranks_stay home (u ∷ q) (r ∷ ranks) (true ∷ cut) a c h = ranks_stay home q ranks cut a.0 c.0 (tail_high u q r ranks true cut h)
ranks_stay home (u ∷ q) (r ∷ ranks) (false ∷ cut) a c h = (ranks_stay home q ranks cut a.0 c later, waits)
  where
    later : LeavesHigh q ranks cut
    later = tail_high u q r ranks false cut h

    waits : (k : ℕ) → k < length (rest q cut) → WaitsFor u (pending_at (rest q cut) k)
        → ((home (cell_of (pending_at (rest q cut) k).change) ≡ home (cell_of u.change)) × (rank_at (ranks_left ranks cut) k ≤ r - 1)) ⊎ (rank_at (ranks_left ranks cut) k < r - 1)
    waits k b w =
        let m = left_at home q ranks cut a.0 c later k b in
        let count = m.3 in
        let high = h 0 (omega arith) refl in
        elim (a.1 m.0 m.1 (subst (λ x. WaitsFor u x) m.2 w)) [
          | inl s ↦ let low = s.1 in inl (ap (λ (x : Pending). home (cell_of x.change)) m.2 ∙ s.0, omega (arith, low, count, high))
          | inr low ↦ inr (omega (arith, low, count, high))
        ]

below_left : (home : Cell → ℕ) (n : ℕ) (q : List Pending) (ranks : List ℕ) (cut : List Bool) → AreRanks home q ranks → IsClosed q cut → LeavesHigh q ranks cut → AreBelow (suc n) ranks → AreBelow n (ranks_left ranks cut)
below_left home n [] [] cut a c h b = tt
below_left home n [] (r ∷ ranks) cut a c h b = absurd a
below_left home n (u ∷ q) [] cut a c h b = absurd a
below_left home n (u ∷ q) (r ∷ ranks) [] a c h b = absurd c
below_left home n (u ∷ q) (r ∷ ranks) (true ∷ cut) a c h b = below_left home n q ranks cut a.0 c.0 (tail_high u q r ranks true cut h) b.1
below_left home n (u ∷ q) (r ∷ ranks) (false ∷ cut) a c h b =
    let low = b.0 in
    let high = h 0 (omega arith) refl in
    (omega (arith, low, high), below_left home n q ranks cut a.0 c (tail_high u q r ranks false cut h) b.1)

pub few_sweeps : (home : Cell → ℕ) (n : ℕ) (q : List Pending) (ranks : List ℕ) → AreRanks home q ranks → AreBelow n ranks → left_by home n q ≡ []
few_sweeps home zero [] ranks a b = refl
few_sweeps home zero (u ∷ q) [] a b = absurd a
few_sweeps home zero (u ∷ q) (r ∷ ranks) a b = let low = b.0 in absurd (omega (arith, low))
few_sweeps home (suc n) q ranks a b =
    let c = swept_closed home q in
    let h = swept_high home q ranks a in
    few_sweeps home n (rest q (swept home q)) (ranks_left ranks (swept home q)) (ranks_stay home q ranks (swept home q) a c h) (below_left home n q ranks (swept home q) a c h b)
