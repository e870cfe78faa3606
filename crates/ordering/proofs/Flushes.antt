-- What a closed cut writes to the device leaves no cut that was not there before.
use Rattle.std.proofs.Common.{◌≡◌, ℕ, Bool, true, false, eqb, cond, List, [], ◌∷◌, refl, sym, ap, ◌∙◌, subst, IsTrue, inl, inr, eq-eqb}
use Rattle.std.proofs.lemmas.Bool.{cases_eq}
use mathlib.Core.Path.{fun_ext}
use Rattle.model.specs.Layout.{Geometry}
use Rattle.model.specs.View.{View, Inode}
use Rattle.model.specs.Cells.{Update, SetInode, SetNumber, SetBlock, SetBytes, updated, put_at}
use Rattle.model.specs.Reach.{IsReachable}
use Rattle.model.specs.Rules.{ObeysRules}
use Rattle.model.proofs.Places.{put_there}
use Rattle.ordering.specs.Cuts.{Cell, Record, NumberBit, BlockBit, Block, cell_of, Pending, without, fresh, seen, rest, joined, IsClosed, users_view, EachCut, SameAt}
use Rattle.ordering.specs.Ghosts.{Ghost, at_rest}
use Rattle.ordering.specs.Agrees.{Agrees, AllAgree}
use Rattle.ordering.proofs.CutLemmas.{was_fresh, is_other, still_fresh, each_none, whole, whole_closed, whole_seen}

-- ---- updates of different cells commute

put_twice : {A : Type 0} (f : ℕ → A) (m n : ℕ) (x y : A) → (m ≡ n → ⊥) → put_at (put_at f m x) n y ≡ put_at (put_at f n y) m x
put_twice {A} f m n x y other = fun_ext (λ k. at k)
  where
    at : (k : ℕ) → put_at (put_at f m x) n y k ≡ put_at (put_at f n y) m x k
    at k = elim (cases_eq k n) [
      | inl e ↦ ap (λ b. cond b y (put_at f m x k)) (eq-eqb k n e)
          ∙ sym (put_there (put_at f n y) m k x (λ d. other (sym d ∙ e)) ∙ ap (λ b. cond b y (f k)) (eq-eqb k n e))
      | inr d ↦ put_there (put_at f m x) n k y d ∙ ap (λ z. cond (eqb k m) x z) (sym (put_there f n k y d))
    ]

pub commute : (v : View) (a b : Update) → (cell_of a ≡ cell_of b → ⊥) → updated (updated v a) b ≡ updated (updated v b) a
commute v (SetInode m x) (SetInode n y) d = ap (λ (f : ℕ → Inode). record v { inode = f }) (put_twice v.inode m n x y (λ e. d (ap Record e)))
commute v (SetNumber m x) (SetNumber n y) d = ap (λ (f : ℕ → Bool). record v { number_marked = f }) (put_twice v.number_marked m n x y (λ e. d (ap NumberBit e)))
commute v (SetBlock m x) (SetBlock n y) d = ap (λ (f : ℕ → Bool). record v { block_marked = f }) (put_twice v.block_marked m n x y (λ e. d (ap BlockBit e)))
commute v (SetBytes m x) (SetBytes n y) d = ap (λ (f : ℕ → List ℕ). record v { bytes = f }) (put_twice v.bytes m n x y (λ e. d (ap Block e)))
commute v (SetInode m x) (SetNumber n y) d = refl
commute v (SetInode m x) (SetBlock n y) d = refl
commute v (SetInode m x) (SetBytes n y) d = refl
commute v (SetNumber m x) (SetInode n y) d = refl
commute v (SetNumber m x) (SetBlock n y) d = refl
commute v (SetNumber m x) (SetBytes n y) d = refl
commute v (SetBlock m x) (SetInode n y) d = refl
commute v (SetBlock m x) (SetNumber n y) d = refl
commute v (SetBlock m x) (SetBytes n y) d = refl
commute v (SetBytes m x) (SetInode n y) d = refl
commute v (SetBytes m x) (SetNumber n y) d = refl
commute v (SetBytes m x) (SetBlock n y) d = refl

-- no update of this cell is pending
abbrev Lacks : List Pending → Cell → Type 0
Lacks [] c = Unit {0}
Lacks (u ∷ q) c = (c ≡ cell_of u.change → ⊥) × Lacks q c

lacks_rest : (q : List Pending) (cut : List Bool) (c : Cell) → IsClosed q cut → IsTrue (fresh q cut c) → Lacks (rest q cut) c
lacks_rest [] cut c k f = tt
lacks_rest (u ∷ q) [] c k f = absurd k
lacks_rest (u ∷ q) (true ∷ cut) c k f = lacks_rest q cut c k.0 f
lacks_rest (u ∷ q) (false ∷ cut) c k f = (is_other (fresh q cut) (cell_of u.change) c f, lacks_rest q cut c k (was_fresh (fresh q cut) (cell_of u.change) c f))

before_seen : (v : View) (a : Update) (q : List Pending) (cut : List Bool) → Lacks q (cell_of a) → updated (seen v q cut) a ≡ seen (updated v a) q cut
before_seen v a [] cut k = refl
before_seen v a (u ∷ q) [] k = refl
before_seen v a (u ∷ q) (true ∷ cut) k = commute (seen v q cut) u.change a (λ e. k.0 (sym e)) ∙ ap (λ w. updated w u.change) (before_seen v a q cut k.1)
before_seen v a (u ∷ q) (false ∷ cut) k = before_seen v a q cut k.1

-- ---- joined cuts

pub joined_fresh : (q : List Pending) (cut next : List Bool) → IsClosed q cut → IsClosed (rest q cut) next → fresh q (joined q cut next) ≡ fresh (rest q cut) next
joined_fresh [] cut next k l = refl
joined_fresh (u ∷ q) [] next k l = absurd k
joined_fresh (u ∷ q) (true ∷ cut) next k l = joined_fresh q cut next k.0 l
joined_fresh (u ∷ q) (false ∷ cut) [] k l = absurd l
joined_fresh (u ∷ q) (false ∷ cut) (true ∷ next) k l = joined_fresh q cut next k l.0
joined_fresh (u ∷ q) (false ∷ cut) (false ∷ next) k l = ap (λ f. without f (cell_of u.change)) (joined_fresh q cut next k l)

joined_more : (q : List Pending) (cut next : List Bool) (c : Cell) → IsClosed q cut → IsClosed (rest q cut) next → IsTrue (fresh q cut c) → IsTrue (fresh q (joined q cut next) c)
joined_more [] cut next c k l f = refl
joined_more (u ∷ q) [] next c k l f = absurd k
joined_more (u ∷ q) (true ∷ cut) next c k l f = joined_more q cut next c k.0 l f
joined_more (u ∷ q) (false ∷ cut) [] c k l f = absurd l
joined_more (u ∷ q) (false ∷ cut) (true ∷ next) c k l f = joined_more q cut next c k l.0 (was_fresh (fresh q cut) (cell_of u.change) c f)
joined_more (u ∷ q) (false ∷ cut) (false ∷ next) c k l f =
    still_fresh (fresh q (joined q cut next)) (cell_of u.change) c (joined_more q cut next c k l (was_fresh (fresh q cut) (cell_of u.change) c f)) (is_other (fresh q cut) (cell_of u.change) c f)

pub joined_closed : (q : List Pending) (cut next : List Bool) → IsClosed q cut → IsClosed (rest q cut) next → IsClosed q (joined q cut next)
joined_closed [] cut next k l = tt
joined_closed (u ∷ q) [] next k l = absurd k
joined_closed (u ∷ q) (true ∷ cut) next k l = (joined_closed q cut next k.0 l, joined_more q cut next (cell_of u.change) k.0 l k.1, λ c h. joined_more q cut next c k.0 l (k.2 c h))
joined_closed (u ∷ q) (false ∷ cut) [] k l = absurd l
joined_closed (u ∷ q) (false ∷ cut) (true ∷ next) k l =
    let e = joined_fresh q cut next k l.0 in
    (joined_closed q cut next k l.0, ap (λ (f : Cell → Bool). f (cell_of u.change)) e ∙ l.1, λ c h. ap (λ (f : Cell → Bool). f c) e ∙ l.2 c h)
joined_closed (u ∷ q) (false ∷ cut) (false ∷ next) k l = joined_closed q cut next k l

pub joined_seen : (disk : View) (q : List Pending) (cut next : List Bool) → IsClosed q cut → IsClosed (rest q cut) next → seen disk q (joined q cut next) ≡ seen (seen disk q cut) (rest q cut) next
joined_seen disk [] cut next k l = refl
joined_seen disk (u ∷ q) [] next k l = absurd k
joined_seen disk (u ∷ q) (true ∷ cut) next k l =
    ap (λ v. updated v u.change) (joined_seen disk q cut next k.0 l) ∙ before_seen (seen disk q cut) u.change (rest q cut) next (lacks_rest q cut (cell_of u.change) k.0 k.1)
joined_seen disk (u ∷ q) (false ∷ cut) [] k l = absurd l
joined_seen disk (u ∷ q) (false ∷ cut) (true ∷ next) k l = ap (λ v. updated v u.change) (joined_seen disk q cut next k l.0)
joined_seen disk (u ∷ q) (false ∷ cut) (false ∷ next) k l = joined_seen disk q cut next k l

-- what holds of each cut still does after a flush
pub each_flushed : (disk : View) (q : List Pending) (cut : List Bool) (P : (Cell → Bool) → View → Type 0) → IsClosed q cut → EachCut disk q P → EachCut (seen disk q cut) (rest q cut) P
each_flushed disk q cut P k all next l =
    subst (λ f. P f (seen (seen disk q cut) (rest q cut) next)) (joined_fresh q cut next k l)
    (subst (λ v. P (fresh q (joined q cut next)) v) (joined_seen disk q cut next k l) (all (joined q cut next) (joined_closed q cut next k l)))

joined_whole : (q : List Pending) (cut : List Bool) → IsClosed q cut → joined q cut (whole (rest q cut)) ≡ whole q
joined_whole [] cut k = refl
joined_whole (u ∷ q) [] k = absurd k
joined_whole (u ∷ q) (true ∷ cut) k = ap (λ x. true ∷ x) (joined_whole q cut k.0)
joined_whole (u ∷ q) (false ∷ cut) k = ap (λ x. true ∷ x) (joined_whole q cut k)

-- a flush shows the users nothing
pub users_flushed : (disk : View) (q : List Pending) (cut : List Bool) → IsClosed q cut → users_view (seen disk q cut) (rest q cut) ≡ users_view disk q
users_flushed disk q cut k =
    sym (whole_seen (seen disk q cut) (rest q cut)) ∙ sym (joined_seen disk q cut (whole (rest q cut)) k (whole_closed (rest q cut)))
    ∙ ap (seen disk q) (joined_whole q cut k) ∙ whole_seen disk q

pub flush_agrees : (geo : Geometry) (disk : View) (q : List Pending) (ghost : Ghost) (cut : List Bool) → IsClosed q cut → AllAgree geo disk q ghost → AllAgree geo (seen disk q cut) (rest q cut) ghost
flush_agrees geo disk q ghost cut k all =
    subst (λ u. EachCut (seen disk q cut) (rest q cut) (Agrees geo u ghost)) (sym (users_flushed disk q cut k)) (each_flushed disk q cut (Agrees geo (users_view disk q) ghost) k all)

-- ---- with nothing pending

pub base_agrees : (geo : Geometry) (disk : View) (held safe : ℕ → Bool) → ObeysRules geo disk → ((f : ℕ) → IsTrue (safe f) → IsReachable geo disk f)
    → AllAgree geo disk [] (at_rest held safe)
base_agrees geo disk held safe o reached = each_none disk (Agrees geo disk (at_rest held safe)) (record {
  same = λ c f. same c;
  rules = o;
  numbers = record { free = λ n z f g. refl; used = λ n u f. refl };
  blocks = record {
    unclaimed = λ b n k f none g c. absurd (none (n, k, c));
    claimed = λ b n k m l f c d. let e = o.rule3.once m l n k b d c in (e.0, e.1, refl);
    marked = λ b n k c f. refl;
  };
  modes = record { mode = λ n f u v. refl; uses = λ n k b f u d h. h };
  tree = record {
    places = λ i d s b f p. inl p;
    directories = λ j d s b r f l p. p;
    numbers = λ i d s b l p f. refl;
    removed = λ g t f p. cc;
  };
  safe = reached;
})
  where
    same : (c : Cell) → SameAt disk disk c
    same (Record n) = refl
    same (NumberBit n) = refl
    same (BlockBit n) = refl
    same (Block n) = refl
