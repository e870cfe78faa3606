-- What agrees with the users' view still does after an update that changes no use, no mode and no name.
use Rattle.std.proofs.Common.{◌≡◌, ◌≢◌, ℕ, Bool, List, ◌⊎◌, inl, inr, sym, ◌∙◌, IsTrue, IsFalse, ◌∷◌}
use Rattle.model.specs.Layout.{Geometry}
use Rattle.model.specs.View.{View}
use Rattle.model.specs.Cells.{updated}
use Rattle.model.specs.Uses.{IsClaim, IsClaimed}
use Rattle.model.specs.Reach.{IsReachableDirectory}
use Rattle.model.specs.Rules.{ObeysRules}
use Rattle.model.proofs.SameTree.{back, reachable_kept}
use Rattle.model.proofs.SameShape.{SameShape, same_shape, use_kept, use_back, claim_kept, claim_back}
use Rattle.ordering.specs.Cuts.{Cell, Record, NumberBit, BlockBit, Block, SameAt, without, AreIn, Pending, cell_of, users_view}
use Rattle.ordering.proofs.CutLemmas.{was_fresh, still_fresh, each_step, same_skip, same_take}
use Rattle.ordering.specs.Places.{HasPlace}
use Rattle.ordering.specs.Ghosts.{Ghost, Gone}
use Rattle.ordering.specs.Agrees.{AllAgree, NumbersAgree, BlocksAgree, ModesAgree, TreeAgrees, Agrees}
use Rattle.ordering.proofs.Places.{place_kept, place_back}

-- the fewer cells and the more ghosts
pub record Keeps (geo : Geometry) (users : View) (ghost : Ghost) (set : Cell → Bool) (view : View) (ghost' : Ghost) (set' : Cell → Bool) : Type 0 where
  pub fewer : (c : Cell) → IsTrue (set' c) → IsTrue (set c)
  pub number : (b n k : ℕ) → IsClaim geo users n k b → IsTrue (set (NumberBit n)) → IsTrue (set' (NumberBit n))
  pub block : (b n k : ℕ) → IsClaim geo users n k b → IsTrue (set (BlockBit b)) → IsTrue (set' (BlockBit b))
  pub place : (i d s b : ℕ) → HasPlace geo users i d s b → IsTrue (set (NumberBit i)) → IsTrue (set' (NumberBit i))
  pub held : (b : ℕ) → IsFalse (ghost'.held b) → IsFalse (ghost.held b)
  pub given_up : (b n k : ℕ) → (IsClaimed geo users b → ⊥) → IsTrue (set' (BlockBit b)) → IsClaim geo view n k b → IsTrue (ghost.given_up b n k) → IsTrue (ghost'.given_up b n k)
  pub gone : (g : Gone) → IsTrue (ghost'.gone g) → IsTrue (ghost.gone g)
  pub gone_kept : (g : Gone) → IsTrue (set' (Record g.number)) → HasPlace geo view g.number g.directory g.slot g.block → IsTrue (ghost.gone g) → IsTrue (ghost'.gone g)
  pub entering : (j : ℕ) → IsTrue (ghost'.entering j) → IsTrue (ghost.entering j)
  pub safe : (f : ℕ) → IsTrue (ghost'.safe f) → IsTrue (ghost.safe f)

module _ (geo : Geometry) (users users' : View) (ghost ghost' : Ghost) (set set' : Cell → Bool) (view view' : View)
    (s : SameShape geo users users') (t : SameShape geo view view') (k : Keeps geo users ghost set view ghost' set') where
  pub blocks_frame : BlocksAgree geo users ghost set view → BlocksAgree geo users' ghost' set' view'
  blocks_frame h = record {
    unclaimed = λ b n p f none free c.
        let none' : IsClaimed geo users b → ⊥ = λ q. none (q.0, q.1, claim_kept geo users users' s q.0 q.1 b q.2) in
        let c' : IsClaim geo view n p b = claim_back geo view view' t n p b c in
        k.given_up b n p none' f c' (h.unclaimed b n p (k.fewer (BlockBit b) f) none' (k.held b free) c');
    claimed = λ b n p m l f c d.
        let old = claim_back geo users users' s n p b c in
        let e = h.claimed b n p m l (k.fewer (BlockBit b) f) old (claim_back geo view view' t m l b d) in
        (e.0, e.1, k.number b n p old e.2);
    marked = λ b n p c f. let old = claim_back geo users users' s n p b c in k.block b n p old (h.marked b n p old (k.fewer (Block b) f));
  }

  pub modes_frame : ModesAgree geo users set view → ModesAgree geo users' set' view'
  modes_frame h = record {
    mode = λ n f u v. sym (t.modes n) ∙ h.mode n (k.fewer (NumberBit n) f) (λ z. u (sym (s.modes n) ∙ z)) (λ z. v (sym (t.modes n) ∙ z)) ∙ s.modes n;
    uses = λ n p b f u d c.
        use_kept geo users users' s n p b (h.uses n p b (k.fewer (NumberBit n) f) (λ z. u (sym (s.modes n) ∙ z)) (t.directories n ∙ d) (use_back geo view view' t n p b c));
  }

  pub tree_frame : TreeAgrees geo users ghost set view → TreeAgrees geo users' ghost' set' view'
  tree_frame h = record {
    places = λ i d q b f p. let old = place_back geo view view' t.tree i d q b p in elim (h.places i d q b (k.fewer (Record i) f) old) [
      | inl o ↦ inl (place_kept geo users users' s.tree i d q b o)
      | inr g ↦ inr (g.0, k.gone_kept (record { number = i; directory = d; slot = q; block = b; witness = g.0 }) f old g.1)
    ];
    directories = λ j d q b r f low p.
        let r' : IsReachableDirectory geo users j ⊎ IsTrue (ghost.entering j) = elim r [ inl x ↦ inl (back geo users users' s.tree j x) | inr x ↦ inr (k.entering j x) ] in
        place_kept geo users users' s.tree j d q b (h.directories j d q b r' (k.fewer (NumberBit j) f) low (place_back geo view view' t.tree j d q b p));
    numbers = λ i d q b low p f.
        let old = place_back geo users users' s.tree i d q b p in k.place i d q b old (h.numbers i d q b low old (k.fewer (Block b) f));
    removed = λ g x f p. h.removed g (k.gone g x) (k.fewer (Block g.witness) f) (place_back geo view view' t.tree g.number g.directory g.slot g.block p);
  }

  pub frame : Agrees geo users ghost set view → ((c : Cell) → IsTrue (set' c) → SameAt view' users' c) → ObeysRules geo view' → NumbersAgree users' ghost' set'
      → Agrees geo users' ghost' set' view'
  frame a same rules numbers = record {
    same = same;
    rules = rules;
    numbers = numbers;
    blocks = blocks_frame a.blocks;
    modes = modes_frame a.modes;
    tree = tree_frame a.tree;
    safe = λ f h. reachable_kept geo view view' t.tree f (a.safe f (k.safe f h));
  }

-- where nothing is lost
pub keeps_all : (geo : Geometry) (users : View) (ghost : Ghost) (set : Cell → Bool) (view : View) → Keeps geo users ghost set view ghost set
keeps_all geo users ghost set view = record {
  fewer = λ c f. f;
  number = λ b n k c f. f;
  block = λ b n k c f. f;
  place = λ i d s b p f. f;
  held = λ b h. h;
  given_up = λ b n k none f c h. h;
  gone = λ g h. h;
  gone_kept = λ g f p h. h;
  entering = λ j h. h;
  safe = λ f h. h;
}

-- where one cell is lost that nothing rests on
pub keeps_without : (geo : Geometry) (users : View) (ghost : Ghost) (set : Cell → Bool) (view : View) (c : Cell)
    → ((b n k : ℕ) → IsClaim geo users n k b → NumberBit n ≡ c → ⊥) → ((b n k : ℕ) → IsClaim geo users n k b → BlockBit b ≡ c → ⊥)
    → ((i d s b : ℕ) → HasPlace geo users i d s b → NumberBit i ≡ c → ⊥) → Keeps geo users ghost set view ghost (without set c)
keeps_without geo users ghost set view c number block place = record {
  fewer = λ d f. was_fresh set c d f;
  number = λ b n k q f. still_fresh set c (NumberBit n) f (number b n k q);
  block = λ b n k q f. still_fresh set c (BlockBit b) f (block b n k q);
  place = λ i d s b p f. still_fresh set c (NumberBit i) f (place i d s b p);
  held = λ b h. h;
  given_up = λ b n k none f q h. h;
  gone = λ g h. h;
  gone_kept = λ g f p h. h;
  entering = λ j h. h;
  safe = λ f h. h;
}

-- the numbers, where one cell is lost
pub numbers_without : (users users' : View) (ghost : Ghost) (set : Cell → Bool) (c : Cell) → ((n : ℕ) → (users.inode n).mode ≡ (users'.inode n).mode)
    → ((n : ℕ) → (users.inode n).mode ≡ 0 → Record n ≡ c → ⊥) → ((n : ℕ) → (users.inode n).mode ≢ 0 → NumberBit n ≡ c → ⊥)
    → NumbersAgree users ghost set → NumbersAgree users' ghost (without set c)
numbers_without users users' ghost set c modes record_stays bit_stays h = record {
  free = λ n z f g. let z' = modes n ∙ z in still_fresh set c (Record n) (h.free n z' (was_fresh set c (NumberBit n) f) g) (record_stays n z');
  used = λ n u f. let u' : (users.inode n).mode ≢ 0 = λ z. u (sym (modes n) ∙ z) in still_fresh set c (NumberBit n) (h.used n u' (was_fresh set c (Record n) f)) (bit_stays n u');
}

pub numbers_same : (users users' : View) (ghost : Ghost) (set : Cell → Bool) → ((n : ℕ) → (users.inode n).mode ≡ (users'.inode n).mode)
    → NumbersAgree users ghost set → NumbersAgree users' ghost set
numbers_same users users' ghost set modes h = record { free = λ n z f g. h.free n (modes n ∙ z) f g; used = λ n u f. h.used n (λ z. u (sym (modes n) ∙ z)) f }

-- What an update must show that changes no use, no mode and no name: where it is left out, and where it is taken.
pub record IsSkipped (geo : Geometry) (users users' : View) (ghost : Ghost) (set : Cell → Bool) (view : View) (c : Cell) (ghost' : Ghost) : Type 0 where
  pub keeps : Keeps geo users ghost set view ghost' (without set c)
  pub numbers : NumbersAgree users' ghost' (without set c)

pub record IsTaken (geo : Geometry) (users users' : View) (ghost : Ghost) (set : Cell → Bool) (view view' : View) (ghost' : Ghost) : Type 0 where
  pub shape : SameShape geo view view'
  pub rules : ObeysRules geo view'
  pub keeps : Keeps geo users ghost set view ghost' set
  pub numbers : NumbersAgree users' ghost' set

pub shape_step : (geo : Geometry) (disk : View) (q : List Pending) (ghost ghost' : Ghost) (u : Pending)
    → SameShape geo (users_view disk q) (updated (users_view disk q) u.change)
    → ((set : Cell → Bool) (view : View) → Agrees geo (users_view disk q) ghost set view
    → IsSkipped geo (users_view disk q) (updated (users_view disk q) u.change) ghost set view (cell_of u.change) ghost')
    → ((set : Cell → Bool) (view : View) → Agrees geo (users_view disk q) ghost set view → IsTrue (set (cell_of u.change)) → AreIn u.after set
    → IsTaken geo (users_view disk q) (updated (users_view disk q) u.change) ghost set view (updated view u.change) ghost')
    → AllAgree geo disk q ghost → AllAgree geo disk (u ∷ q) ghost'
shape_step geo disk q ghost ghost' u shape skip take all =
    each_step disk q u (Agrees geo users ghost) (Agrees geo users' ghost')
    (λ set view a. let h = skip set view a in
    frame geo users users' ghost ghost' set (without set (cell_of u.change)) view view shape (same_shape geo view) h.keeps a
    (same_skip set view users u.change a.same) a.rules h.numbers)
    (λ set view a own met. let h = take set view a own met in
    frame geo users users' ghost ghost' set set view (updated view u.change) shape h.shape h.keeps a
    (same_take set view users u.change a.same) h.rules h.numbers)
    all
  where
    users : View
    users = users_view disk q

    users' : View
    users' = updated users u.change
