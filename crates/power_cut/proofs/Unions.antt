-- What two closed cuts take together, and cuts that take the same updates of a cell.
use Rattle.std.proofs.Common.{◌≡◌, ℕ, zero, suc, ◌<◌, Bool, true, false, List, [], ◌∷◌, ◌⊎◌, inl, inr, refl, sym, ◌∙◌, subst, IsTrue, length, arith}
use Rattle.model.specs.View.{View}
use Rattle.model.specs.Cells.{updated}
use Rattle.ordering.specs.Cuts.{Cell, Record, NumberBit, BlockBit, Block, Pending, IsClosed, SameAt, cell_of, same_cell, fresh, seen}
use Rattle.ordering.specs.ClosedSets.{pending_at, takes}
use Rattle.ordering.proofs.CutLemmas.{still_fresh, same_cell_eq, same_cell_self, same_skip, same_take}
use Rattle.queue_model.specs.History.{Holds, none_of}
use Rattle.queue_model.proofs.BlockLemmas.{turned}
use Rattle.queue_model.proofs.FlushLemmas.{fresh_holds, same_self}
use Rattle.power_cut.specs.Epochs.{union}

-- ---- unions

pub union_one : (cut more : List Bool) → Holds (union cut more) cut
union_one [] more k t = absurd (let bad : false ≡ true = t in cc)
union_one (b ∷ cut) [] k t = t
union_one (true ∷ cut) (d ∷ more) zero t = refl
union_one (false ∷ cut) (d ∷ more) zero t = absurd (let bad : false ≡ true = t in cc)
union_one (b ∷ cut) (d ∷ more) (suc k) t = union_one cut more k t

pub union_other : (cut more : List Bool) → Holds (union cut more) more
union_other [] more k t = t
union_other (b ∷ cut) [] k t = absurd (let bad : false ≡ true = t in cc)
union_other (true ∷ cut) (d ∷ more) zero t = refl
union_other (false ∷ cut) (d ∷ more) zero t = t
union_other (b ∷ cut) (d ∷ more) (suc k) t = union_other cut more k t

pub union_only : (cut more : List Bool) (k : ℕ) → IsTrue (takes (union cut more) k) → IsTrue (takes cut k) ⊎ IsTrue (takes more k)
union_only [] more k t = inr t
union_only (b ∷ cut) [] k t = inl t
union_only (true ∷ cut) (d ∷ more) zero t = inl refl
union_only (false ∷ cut) (d ∷ more) zero t = inr t
union_only (b ∷ cut) (d ∷ more) (suc k) t = union_only cut more k t

pub union_closed : (q : List Pending) (cut more : List Bool) → IsClosed q cut → IsClosed q more → IsClosed q (union cut more)
union_closed [] [] [] k l = tt
union_closed [] (b ∷ cut) more k l = absurd k
union_closed [] [] (d ∷ more) k l = absurd l
union_closed (u ∷ q) [] more k l = absurd k
union_closed (u ∷ q) (b ∷ cut) [] k l = absurd l
union_closed (u ∷ q) (true ∷ cut) (true ∷ more) k l =
    let m = union_closed q cut more k.0 l.0 in
    let f = fresh_holds q (union cut more) cut m k.0 (union_one cut more) in
    (m, f (cell_of u.change) k.1, λ c w. f c (k.2 c w))
union_closed (u ∷ q) (true ∷ cut) (false ∷ more) k l =
    let m = union_closed q cut more k.0 l in
    let f = fresh_holds q (union cut more) cut m k.0 (union_one cut more) in
    (m, f (cell_of u.change) k.1, λ c w. f c (k.2 c w))
union_closed (u ∷ q) (false ∷ cut) (true ∷ more) k l =
    let m = union_closed q cut more k l.0 in
    let f = fresh_holds q (union cut more) more m l.0 (union_other cut more) in
    (m, f (cell_of u.change) l.1, λ c w. f c (l.2 c w))
union_closed (u ∷ q) (false ∷ cut) (false ∷ more) k l = union_closed q cut more k l

pub union_both : (q : List Pending) (cut more : List Bool) → IsClosed q cut → IsClosed q more → IsClosed q (union cut more) × Holds (union cut more) cut × Holds (union cut more) more
union_both q cut more k l = (union_closed q cut more k l, union_one cut more, union_other cut more)

pub none_takes : (q : List Pending) (k : ℕ) → IsTrue (takes (none_of q) k) → ⊥
none_takes [] k t = let bad : false ≡ true = t in cc
none_takes (u ∷ q) zero t = let bad : false ≡ true = t in cc
none_takes (u ∷ q) (suc k) t = none_takes q k t

-- ---- a cell, by the updates of it that a cut takes

pub through : (u v w : View) (c : Cell) → SameAt u v c → SameAt v w c → SameAt u w c
through u v w (Record n) e f = e ∙ f
through u v w (NumberBit n) e f = e ∙ f
through u v w (BlockBit n) e f = e ∙ f
through u v w (Block n) e f = e ∙ f

pub cell_same : (disk : View) (q : List Pending) (x y : List Bool) (c : Cell) → IsClosed q x → IsClosed q y
    → ((k : ℕ) → k < length q → cell_of (pending_at q k).change ≡ c → takes x k ≡ takes y k) → SameAt (seen disk q x) (seen disk q y) c
cell_same disk [] x y c k l h = same_self disk c
cell_same disk (u ∷ q) [] y c k l h = absurd k
cell_same disk (u ∷ q) (b ∷ x) [] c k l h = absurd l
cell_same disk (u ∷ q) (true ∷ x) (true ∷ y) c k l h =
    let more = cell_same disk q x y c k.0 l.0 (λ i b e. h (suc i) (omega (arith, b)) e) in
    same_take (λ d. same_cell d c) (seen disk q x) (seen disk q y) u.change (λ d t. subst (λ e. SameAt (seen disk q x) (seen disk q y) e) (sym (same_cell_eq d c t)) more) c (same_cell_self c)
cell_same disk (u ∷ q) (false ∷ x) (false ∷ y) c k l h = cell_same disk q x y c k l (λ i b e. h (suc i) (omega (arith, b)) e)
cell_same disk (u ∷ q) (true ∷ x) (false ∷ y) c k l h =
    let v = seen disk q x in
    let w = seen disk q y in
    let more = turned v w c (cell_same disk q x y c k.0 l (λ i b e. h (suc i) (omega (arith, b)) e)) in
    let other : cell_of u.change ≡ c → ⊥ = λ e. let bad : true ≡ false = h 0 (omega arith) e in cc in
    turned w (updated v u.change) c
    (same_skip (λ d. same_cell d c) w v u.change (λ d t. subst (λ e. SameAt w v e) (sym (same_cell_eq d c t)) more) c (still_fresh (λ d. same_cell d c) (cell_of u.change) c (same_cell_self c) (λ e. other (sym e))))
cell_same disk (u ∷ q) (false ∷ x) (true ∷ y) c k l h =
    let v = seen disk q x in
    let w = seen disk q y in
    let more = cell_same disk q x y c k l.0 (λ i b e. h (suc i) (omega (arith, b)) e) in
    let other : cell_of u.change ≡ c → ⊥ = λ e. let bad : false ≡ true = h 0 (omega arith) e in cc in
    same_skip (λ d. same_cell d c) v w u.change (λ d t. subst (λ e. SameAt v w e) (sym (same_cell_eq d c t)) more) c (still_fresh (λ d. same_cell d c) (cell_of u.change) c (same_cell_self c) (λ e. other (sym e)))
