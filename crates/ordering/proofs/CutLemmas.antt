-- Closed cuts: of nothing, of one more update, and the greatest and the least one.
use Rattle.std.proofs.Common.{◌≡◌, ℕ, Bool, true, false, not, eqb, cond, List, [], ◌∷◌, refl, sym, ap, ◌∙◌, subst, IsTrue, Contains, eqb-true, eq-eqb, ne_eqb}
use Rattle.std.proofs.lemmas.Bool.{and_parts, and_from, both_ways, not-true, not_from_false, false_from_ne_true}
use Rattle.model.specs.View.{View}
use Rattle.model.specs.Cells.{Update, SetInode, SetNumber, SetBlock, SetBytes, updated, put_at}
use Rattle.ordering.specs.Cuts.{Cell, Record, NumberBit, BlockBit, Block, same_cell, cell_of, Pending, without, AreIn, fresh, seen, IsClosed, users_view, EachCut, IsAfter, SameAt}

-- ---- cells

pub same_cell_eq : (c d : Cell) → IsTrue (same_cell c d) → c ≡ d
same_cell_eq (Record m) (Record n) t = ap Record (eqb-true m n t)
same_cell_eq (NumberBit m) (NumberBit n) t = ap NumberBit (eqb-true m n t)
same_cell_eq (BlockBit m) (BlockBit n) t = ap BlockBit (eqb-true m n t)
same_cell_eq (Block m) (Block n) t = ap Block (eqb-true m n t)
same_cell_eq (Record m) (NumberBit n) t = cc
same_cell_eq (Record m) (BlockBit n) t = cc
same_cell_eq (Record m) (Block n) t = cc
same_cell_eq (NumberBit m) (Record n) t = cc
same_cell_eq (NumberBit m) (BlockBit n) t = cc
same_cell_eq (NumberBit m) (Block n) t = cc
same_cell_eq (BlockBit m) (Record n) t = cc
same_cell_eq (BlockBit m) (NumberBit n) t = cc
same_cell_eq (BlockBit m) (Block n) t = cc
same_cell_eq (Block m) (Record n) t = cc
same_cell_eq (Block m) (NumberBit n) t = cc
same_cell_eq (Block m) (BlockBit n) t = cc

pub same_cell_self : (c : Cell) → IsTrue (same_cell c c)
same_cell_self (Record n) = eq-eqb n n refl
same_cell_self (NumberBit n) = eq-eqb n n refl
same_cell_self (BlockBit n) = eq-eqb n n refl
same_cell_self (Block n) = eq-eqb n n refl

pub was_fresh : (set : Cell → Bool) (c d : Cell) → IsTrue (without set c d) → IsTrue (set d)
was_fresh set c d h = (and_parts (set d) (not (same_cell d c)) h).0

pub is_other : (set : Cell → Bool) (c d : Cell) → IsTrue (without set c d) → d ≡ c → ⊥
is_other set c d h e =
    both_ways (same_cell d c) (not-true (same_cell d c) (and_parts (set d) (not (same_cell d c)) h).1) (subst (λ x. IsTrue (same_cell d x)) e (same_cell_self d))

pub still_fresh : (set : Cell → Bool) (c d : Cell) → IsTrue (set d) → (d ≡ c → ⊥) → IsTrue (without set c d)
still_fresh set c d h other =
    and_from (set d) (not (same_cell d c)) h (not_from_false (same_cell d c) (false_from_ne_true (same_cell d c) (λ t. other (same_cell_eq d c t))))

-- ---- cuts

-- what holds of each cut of a queue holds of each cut of one update more
pub each_step : (disk : View) (q : List Pending) (u : Pending) (P Q : (Cell → Bool) → View → Type 0)
    → ((set : Cell → Bool) (view : View) → P set view → Q (without set (cell_of u.change)) view)
    → ((set : Cell → Bool) (view : View) → P set view → IsTrue (set (cell_of u.change)) → AreIn u.after set → Q set (updated view u.change))
    → EachCut disk q P → EachCut disk (u ∷ q) Q
each_step disk q u P Q skip take all [] closed = absurd closed
each_step disk q u P Q skip take all (false ∷ cut) closed = skip (fresh q cut) (seen disk q cut) (all cut closed)
each_step disk q u P Q skip take all (true ∷ cut) closed = take (fresh q cut) (seen disk q cut) (all cut closed.0) closed.1 closed.2

pub each_none : (disk : View) (P : (Cell → Bool) → View → Type 0) → P (λ c. true) disk → EachCut disk [] P
each_none disk P h [] closed = h
each_none disk P h (b ∷ cut) closed = absurd closed

-- the cut that takes every update, and the one that takes none
abbrev pub whole : List Pending → List Bool
whole [] = []
whole (u ∷ q) = true ∷ whole q

abbrev pub nothing : List Pending → List Bool
nothing [] = []
nothing (u ∷ q) = false ∷ nothing q

pub whole_fresh : (q : List Pending) (c : Cell) → IsTrue (fresh q (whole q) c)
whole_fresh [] c = refl
whole_fresh (u ∷ q) c = whole_fresh q c

pub whole_closed : (q : List Pending) → IsClosed q (whole q)
whole_closed [] = tt
whole_closed (u ∷ q) = (whole_closed q, whole_fresh q (cell_of u.change), λ c h. whole_fresh q c)

pub whole_seen : (disk : View) (q : List Pending) → seen disk q (whole q) ≡ users_view disk q
whole_seen disk [] = refl
whole_seen disk (u ∷ q) = ap (λ v. updated v u.change) (whole_seen disk q)

pub nothing_closed : (q : List Pending) → IsClosed q (nothing q)
nothing_closed [] = tt
nothing_closed (u ∷ q) = nothing_closed q

pub nothing_seen : (disk : View) (q : List Pending) → seen disk q (nothing q) ≡ disk
nothing_seen disk [] = refl
nothing_seen disk (u ∷ q) = nothing_seen disk q

-- what holds of each cut holds of the users' view, with every cell fresh
pub users_cut : (disk : View) (q : List Pending) (P : View → Type 0) → EachCut disk q (λ set view. P view) → P (users_view disk q)
users_cut disk q P all = subst P (whole_seen disk q) (all (whole q) (whole_closed q))

-- ---- after

pub after_own : (disk : View) (q : List Pending) (u : Pending) (c : Cell) → Contains u.after c → IsAfter disk (u ∷ q) (cell_of u.change) c
after_own disk q u c h =
    each_step disk q u (λ set view. Unit {0}) (λ set view. IsTrue (set (cell_of u.change)) → IsTrue (set c))
    (λ set view p t. absurd (is_other set (cell_of u.change) (cell_of u.change) t refl))
    (λ set view p own in_set t. in_set c h) (λ cut closed. tt)

pub after_through : (disk : View) (q : List Pending) (u : Pending) (c d : Cell) → Contains u.after c → IsAfter disk q c d → IsAfter disk (u ∷ q) (cell_of u.change) d
after_through disk q u c d h after =
    each_step disk q u (λ set view. IsTrue (set c) → IsTrue (set d)) (λ set view. IsTrue (set (cell_of u.change)) → IsTrue (set d))
    (λ set view p t. absurd (is_other set (cell_of u.change) (cell_of u.change) t refl))
    (λ set view p own in_set t. p (in_set c h)) after

pub after_kept : (disk : View) (q : List Pending) (u : Pending) (c d : Cell) → (d ≡ cell_of u.change → ⊥) → IsAfter disk q c d → IsAfter disk (u ∷ q) c d
after_kept disk q u c d other after =
    each_step disk q u (λ set view. IsTrue (set c) → IsTrue (set d)) (λ set view. IsTrue (set c) → IsTrue (set d))
    (λ set view p t. still_fresh set (cell_of u.change) d (p (was_fresh set (cell_of u.change) c t)) other)
    (λ set view p own in_set t. p t) after

-- ---- the same at a cell

pub same_skip : (set : Cell → Bool) (v w : View) (u : Update) → ((c : Cell) → IsTrue (set c) → SameAt v w c) → (c : Cell) → IsTrue (without set (cell_of u) c) → SameAt v (updated w u) c
same_skip set v w (SetInode n x) h (Record m) t = h (Record m) (was_fresh set (Record n) (Record m) t) ∙ there w.inode n m x (λ e. is_other set (Record n) (Record m) t (ap Record e))
  where
    there : {A : Type 0} (f : ℕ → A) (n m : ℕ) (x : A) → (m ≡ n → ⊥) → f m ≡ put_at f n x m
    there f n m x differs = sym (ap (λ b. cond b x (f m)) (ne_eqb m n differs))
same_skip set v w (SetInode n x) h (NumberBit m) t = h (NumberBit m) (was_fresh set (Record n) (NumberBit m) t)
same_skip set v w (SetInode n x) h (BlockBit m) t = h (BlockBit m) (was_fresh set (Record n) (BlockBit m) t)
same_skip set v w (SetInode n x) h (Block m) t = h (Block m) (was_fresh set (Record n) (Block m) t)
same_skip set v w (SetNumber n x) h (NumberBit m) t = h (NumberBit m) (was_fresh set (NumberBit n) (NumberBit m) t) ∙ there w.number_marked n m x (λ e. is_other set (NumberBit n) (NumberBit m) t (ap NumberBit e))
  where
    there : {A : Type 0} (f : ℕ → A) (n m : ℕ) (x : A) → (m ≡ n → ⊥) → f m ≡ put_at f n x m
    there f n m x differs = sym (ap (λ b. cond b x (f m)) (ne_eqb m n differs))
same_skip set v w (SetNumber n x) h (Record m) t = h (Record m) (was_fresh set (NumberBit n) (Record m) t)
same_skip set v w (SetNumber n x) h (BlockBit m) t = h (BlockBit m) (was_fresh set (NumberBit n) (BlockBit m) t)
same_skip set v w (SetNumber n x) h (Block m) t = h (Block m) (was_fresh set (NumberBit n) (Block m) t)
same_skip set v w (SetBlock n x) h (BlockBit m) t = h (BlockBit m) (was_fresh set (BlockBit n) (BlockBit m) t) ∙ there w.block_marked n m x (λ e. is_other set (BlockBit n) (BlockBit m) t (ap BlockBit e))
  where
    there : {A : Type 0} (f : ℕ → A) (n m : ℕ) (x : A) → (m ≡ n → ⊥) → f m ≡ put_at f n x m
    there f n m x differs = sym (ap (λ b. cond b x (f m)) (ne_eqb m n differs))
same_skip set v w (SetBlock n x) h (Record m) t = h (Record m) (was_fresh set (BlockBit n) (Record m) t)
same_skip set v w (SetBlock n x) h (NumberBit m) t = h (NumberBit m) (was_fresh set (BlockBit n) (NumberBit m) t)
same_skip set v w (SetBlock n x) h (Block m) t = h (Block m) (was_fresh set (BlockBit n) (Block m) t)
same_skip set v w (SetBytes n x) h (Block m) t = h (Block m) (was_fresh set (Block n) (Block m) t) ∙ there w.bytes n m x (λ e. is_other set (Block n) (Block m) t (ap Block e))
  where
    there : {A : Type 0} (f : ℕ → A) (n m : ℕ) (x : A) → (m ≡ n → ⊥) → f m ≡ put_at f n x m
    there f n m x differs = sym (ap (λ b. cond b x (f m)) (ne_eqb m n differs))
same_skip set v w (SetBytes n x) h (Record m) t = h (Record m) (was_fresh set (Block n) (Record m) t)
same_skip set v w (SetBytes n x) h (NumberBit m) t = h (NumberBit m) (was_fresh set (Block n) (NumberBit m) t)
same_skip set v w (SetBytes n x) h (BlockBit m) t = h (BlockBit m) (was_fresh set (Block n) (BlockBit m) t)

pub same_take : (set : Cell → Bool) (v w : View) (u : Update) → ((c : Cell) → IsTrue (set c) → SameAt v w c) → (c : Cell) → IsTrue (set c) → SameAt (updated v u) (updated w u) c
same_take set v w (SetInode n x) h (Record m) t = ap (λ y. cond (eqb m n) x y) (h (Record m) t)
same_take set v w (SetInode n x) h (NumberBit m) t = h (NumberBit m) t
same_take set v w (SetInode n x) h (BlockBit m) t = h (BlockBit m) t
same_take set v w (SetInode n x) h (Block m) t = h (Block m) t
same_take set v w (SetNumber n x) h (NumberBit m) t = ap (λ y. cond (eqb m n) x y) (h (NumberBit m) t)
same_take set v w (SetNumber n x) h (Record m) t = h (Record m) t
same_take set v w (SetNumber n x) h (BlockBit m) t = h (BlockBit m) t
same_take set v w (SetNumber n x) h (Block m) t = h (Block m) t
same_take set v w (SetBlock n x) h (BlockBit m) t = ap (λ y. cond (eqb m n) x y) (h (BlockBit m) t)
same_take set v w (SetBlock n x) h (Record m) t = h (Record m) t
same_take set v w (SetBlock n x) h (NumberBit m) t = h (NumberBit m) t
same_take set v w (SetBlock n x) h (Block m) t = h (Block m) t
same_take set v w (SetBytes n x) h (Block m) t = ap (λ y. cond (eqb m n) x y) (h (Block m) t)
same_take set v w (SetBytes n x) h (Record m) t = h (Record m) t
same_take set v w (SetBytes n x) h (NumberBit m) t = h (NumberBit m) t
same_take set v w (SetBytes n x) h (BlockBit m) t = h (BlockBit m) t
