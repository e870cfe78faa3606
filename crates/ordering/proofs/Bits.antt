-- The kinds of update that set or clear a bit.
use Rattle.std.proofs.Common.{◌≡◌, ◌≢◌, ℕ, ◌/◌, Bool, true, false, not, ◌&&◌, cond, eqb, List, inl, inr, refl, sym, ap, ◌∙◌, subst, IsTrue, IsFalse, le_refl, arith, eqb-true, ne_eqb}
use Rattle.std.proofs.lemmas.Bool.{both_ways, and_parts, and_from, cases_Bool, cases_eq, not_from_false, false_from_ne_true, or_cases}
use Rattle.model.specs.Layout.{Geometry, is_number}
use Rattle.model.specs.View.{View, Inode}
use Rattle.model.specs.Cells.{SetNumber, SetBlock, updated}
use Rattle.model.specs.Uses.{use_at, has_position, is_directory, is_directory_at, is_sound, IsClaim}
use Rattle.model.specs.Slots.{slot_in}
use Rattle.model.specs.Rules.{ObeysRules}
use Rattle.model.proofs.Slots.{slots_of_uses}
use Rattle.model.proofs.Uses.{use_parts, used_has, uses_agree}
use Rattle.model.proofs.SameShape.{SameShape, shape_from, shape_rules}
use Rattle.ordering.specs.Cuts.{Cell, Record, NumberBit, BlockBit, Pending, users_view, AreIn}
use Rattle.ordering.specs.Places.{HasPlace}
use Rattle.ordering.specs.Ghosts.{Ghost}
use Rattle.ordering.specs.Agrees.{Agrees, AllAgree}
use Rattle.ordering.specs.Kinds.{Keeps, MayClearNumber, MayClearBlock, number_cleared, block_cleared}
use Rattle.ordering.proofs.CutLemmas.{users_cut, was_fresh, is_other, still_fresh}
use Rattle.ordering.proofs.Frames.{shape_step, keeps_all, keeps_without, numbers_without, numbers_same}

-- a view with the same records and bytes has the same shape
bits_shape : (geo : Geometry) (v w : View) → v.inode ≡ w.inode → v.bytes ≡ w.bytes → SameShape geo v w
bits_shape geo v w inodes bytes =
    shape_from geo v w (λ n. ap (λ (f : ℕ → Inode). (f n).mode) inodes) directories (λ n. ap (λ (f : ℕ → Inode). is_number geo n && is_sound geo (f n)) inodes) uses
    (λ d s. slots_of_uses geo v w d s (directories d) (uses d (s / 16)) (λ a dir low c. ap (λ (f : ℕ → List ℕ). slot_in geo (f a) s) bytes))
  where
    directories : (n : ℕ) → is_directory_at geo v n ≡ is_directory_at geo w n
    directories n = ap (λ (f : ℕ → Inode). is_number geo n && is_sound geo (f n) && is_directory (f n)) inodes

    uses : (n k : ℕ) → use_at geo v n k ≡ use_at geo w n k
    uses n k = uses_agree geo v w n k (λ number. ap (λ (f : ℕ → Inode). f n) inodes) (λ m a above c. ap (λ (f : ℕ → List ℕ). f a) bytes)

pub block_bit_shape : (geo : Geometry) (v : View) (b : ℕ) (marked : Bool) → SameShape geo v (updated v (SetBlock b marked))
block_bit_shape geo v b marked = bits_shape geo v (updated v (SetBlock b marked)) refl refl

pub number_bit_shape : (geo : Geometry) (v : View) (n : ℕ) (marked : Bool) → SameShape geo v (updated v (SetNumber n marked))
number_bit_shape geo v n marked = bits_shape geo v (updated v (SetNumber n marked)) refl refl

-- ---- what the rules say of a view

pub users_obey : (geo : Geometry) (disk : View) (q : List Pending) (ghost : Ghost) → AllAgree geo disk q ghost → ObeysRules geo (users_view disk q)
users_obey geo disk q ghost all = users_cut disk q (ObeysRules geo) (λ cut closed. (all cut closed).rules)

pub sound_used : (geo : Geometry) (x : Inode) → IsTrue (is_sound geo x) → x.mode ≡ 0 → ⊥
sound_used geo x h z = elim (or_cases (eqb x.mode 1) _ (and_parts _ _ h).0) [
  | inl one ↦ let e : x.mode ≡ 1 = eqb-true x.mode 1 one in omega (arith, e, z)
  | inr dir ↦ let e : x.mode ≡ 2 = eqb-true x.mode 2 (and_parts (eqb x.mode 2) _ (and_parts _ _ dir).0).0 in omega (arith, e, z)
]

pub claim_sound : (geo : Geometry) (v : View) (n k b : ℕ) → IsClaim geo v n k b → IsTrue (is_number geo n) × IsTrue (is_sound geo (v.inode n))
claim_sound geo v n k b c = and_parts (is_number geo n) (is_sound geo (v.inode n)) (use_parts geo v n k b c.0).sound

pub claim_used : (geo : Geometry) (v : View) (n k b : ℕ) → IsClaim geo v n k b → (v.inode n).mode ≡ 0 → ⊥
claim_used geo v n k b c z = sound_used geo (v.inode n) (claim_sound geo v n k b c).1 z

pub place_used : (geo : Geometry) (v : View) → ObeysRules geo v → (i d s b : ℕ) → HasPlace geo v i d s b → (v.inode i).mode ≡ 0 → ⊥
place_used geo v o i d s b p z = sound_used geo (v.inode i) (o.rule6.sound d s i p.reachable p.names) z

-- ---- a block's bit

cond_true : (x y : Bool) → IsTrue y → IsTrue (cond x true y)
cond_true true y t = refl
cond_true false y t = t

cond_else : (x y : Bool) → x ≡ false → IsTrue y → IsTrue (cond x false y)
cond_else true y f t = sym f
cond_else false y f t = t

pub set_block_keeps : (geo : Geometry) (disk : View) (q : List Pending) (ghost : Ghost) (after : List Cell) (b : ℕ)
    → IsFalse ((users_view disk q).block_marked b) → Keeps geo disk q ghost (record { change = SetBlock b true; after = after }) ghost
set_block_keeps geo disk q ghost after b unmarked all =
    let rules = users_obey geo disk q ghost all in
    shape_step geo disk q ghost ghost (record { change = SetBlock b true; after = after }) (block_bit_shape geo (users_view disk q) b true)
    (λ set view a. record {
      keeps = keeps_without geo (users_view disk q) ghost set view (BlockBit b) (λ a n k c e. cc)
          (λ c n k h e. let e' : c ≡ b = cc in both_ways ((users_view disk q).block_marked b) unmarked (subst (λ x. IsTrue ((users_view disk q).block_marked x)) e' (rules.rule3.marked n k c h)))
          (λ i d s a p e. cc);
      numbers = numbers_without (users_view disk q) (updated (users_view disk q) (SetBlock b true)) ghost set (BlockBit b) (λ n. refl) (λ n z e. cc) (λ n z e. cc) a.numbers;
    })
    (λ set view a own met. record {
      shape = block_bit_shape geo view b true;
      rules = shape_rules geo view (updated view (SetBlock b true)) (block_bit_shape geo view b true) a.rules a.rules.rule2
          (λ c n k h. cond_true (eqb c b) (view.block_marked c) (a.rules.rule3.marked n k c h)) (λ n h u. a.rules.rule4 n h u) (λ i r. le_refl (view.inode i).links);
      keeps = keeps_all geo (users_view disk q) ghost set view;
      numbers = numbers_same (users_view disk q) (updated (users_view disk q) (SetBlock b true)) ghost set (λ n. refl) a.numbers;
    })
    all

not_cleared : (x y : Bool) → IsTrue x → y ≡ false → IsTrue (x && not y)
not_cleared x y t f = and_from x (not y) t (not_from_false y f)

pub clear_block_keeps : (geo : Geometry) (disk : View) (q : List Pending) (ghost : Ghost) (after : List Cell) (b : ℕ)
    → MayClearBlock geo (users_view disk q) ghost after b → Keeps geo disk q ghost (record { change = SetBlock b false; after = after }) (block_cleared b ghost)
clear_block_keeps geo disk q ghost after b may all =
    shape_step geo disk q ghost (block_cleared b ghost) (record { change = SetBlock b false; after = after }) (block_bit_shape geo users b false)
    (λ set view a. record {
      keeps = record {
        fewer = λ c f. was_fresh set (BlockBit b) c f;
        number = λ c n k h f. still_fresh set (BlockBit b) (NumberBit n) f (λ e. cc);
        block = λ c n k h f. still_fresh set (BlockBit b) (BlockBit c) f (λ e. let e' : c ≡ b = cc in may.unclaimed (n, k, subst (λ x. IsClaim geo users n k x) e' h));
        place = λ i d s c p f. still_fresh set (BlockBit b) (NumberBit i) f (λ e. cc);
        held = λ c h. h;
        given_up = λ c n k none f h g. not_cleared (ghost.given_up c n k) (eqb c b) g (ne_eqb c b (λ e. is_other set (BlockBit b) (BlockBit c) f (ap BlockBit e)));
        gone = λ g h. h;
        gone_kept = λ g f p h. h;
        entering = λ j h. h;
        safe = λ f h. h;
      };
      numbers = let h = numbers_without users users' ghost set (BlockBit b) (λ n. refl) (λ n z e. cc) (λ n z e. cc) a.numbers in record { free = h.free; used = h.used };
    })
    (λ set view a own met. record {
      shape = block_bit_shape geo view b false;
      rules = shape_rules geo view (updated view (SetBlock b false)) (block_bit_shape geo view b false) a.rules a.rules.rule2
          (λ c n k h. cond_else (eqb c b) (view.block_marked c) (ne_eqb c b (λ e. none set view a own met n k (subst (λ x. IsClaim geo view n k x) e h))) (a.rules.rule3.marked n k c h))
          (λ n h u. a.rules.rule4 n h u) (λ i r. le_refl (view.inode i).links);
      keeps = record {
        fewer = λ c f. f;
        number = λ c n k h f. f;
        block = λ c n k h f. f;
        place = λ i d s c p f. f;
        held = λ c h. h;
        given_up = λ c n k unclaimed f h g. not_cleared (ghost.given_up c n k) (eqb c b) g (ne_eqb c b (λ e. none set view a own met n k (subst (λ x. IsClaim geo view n k x) e h)));
        gone = λ g h. h;
        gone_kept = λ g f p h. h;
        entering = λ j h. h;
        safe = λ f h. h;
      };
      numbers = record { free = a.numbers.free; used = a.numbers.used };
    })
    all
  where
    users : View
    users = users_view disk q

    users' : View
    users' = updated users (SetBlock b false)

    -- nobody claims the block in a cut that has its last bit
    none : (set : Cell → Bool) (view : View) → Agrees geo users ghost set view → IsTrue (set (BlockBit b)) → AreIn after set → (n k : ℕ) → IsClaim geo view n k b → ⊥
    none set view a own met n k h =
        let up = a.blocks.unclaimed b n k own may.unclaimed may.not_held h in
        let same : view.inode n ≡ users.inode n = a.same (Record n) (met (Record n) (may.record_first n k up)) in
        may.no_position n k up (subst (λ x. IsTrue (is_number geo n && is_sound geo x)) same (use_parts geo view n k b h.0).sound) (subst (λ x. IsTrue (has_position geo x k)) same (used_has geo view n k b h.0))

-- ---- a number's bit

pub set_number_keeps : (geo : Geometry) (disk : View) (q : List Pending) (ghost : Ghost) (after : List Cell) (n : ℕ)
    → IsTrue (is_number geo n) → IsFalse ((users_view disk q).number_marked n) → Keeps geo disk q ghost (record { change = SetNumber n true; after = after }) ghost
set_number_keeps geo disk q ghost after n number unmarked all =
    shape_step geo disk q ghost ghost (record { change = SetNumber n true; after = after }) (number_bit_shape geo users n true)
    (λ set view a. record {
      keeps = keeps_without geo users ghost set view (NumberBit n)
          (λ b m k c e. let e' : m ≡ n = cc in free m e' (claim_used geo users m k b c))
          (λ b m k c e. cc)
          (λ i d s b p e. let e' : i ≡ n = cc in free i e' (place_used geo users rules i d s b p));
      numbers = numbers_without users users' ghost set (NumberBit n) (λ m. refl) (λ m z e. cc) (λ m u e. let e' : m ≡ n = cc in free m e' u) a.numbers;
    })
    (λ set view a own met. record {
      shape = number_bit_shape geo view n true;
      rules = shape_rules geo view (updated view (SetNumber n true)) (number_bit_shape geo view n true) a.rules a.rules.rule2
          (λ b m k h. a.rules.rule3.marked m k b h) (λ m h u. cond_true (eqb m n) (view.number_marked m) (a.rules.rule4 m h u)) (λ i r. le_refl (view.inode i).links);
      keeps = keeps_all geo users ghost set view;
      numbers = numbers_same users users' ghost set (λ m. refl) a.numbers;
    })
    all
  where
    users : View
    users = users_view disk q

    users' : View
    users' = updated users (SetNumber n true)

    rules : ObeysRules geo users
    rules = users_obey geo disk q ghost all

    -- an unmarked number's record is free
    free : (m : ℕ) → m ≡ n → ((users.inode m).mode ≢ 0) → ⊥
    free m e u = both_ways (users.number_marked n) unmarked (rules.rule4 n number (λ z. u (ap (λ x. (users.inode x).mode) e ∙ z)))

pub clear_number_keeps : (geo : Geometry) (disk : View) (q : List Pending) (ghost : Ghost) (after : List Cell) (n : ℕ)
    → MayClearNumber (users_view disk q) ghost after n → Keeps geo disk q ghost (record { change = SetNumber n false; after = after }) (number_cleared n ghost)
clear_number_keeps geo disk q ghost after n may all =
    shape_step geo disk q ghost (number_cleared n ghost) (record { change = SetNumber n false; after = after }) (number_bit_shape geo users n false)
    (λ set view a. record {
      keeps = let h = keeps_without geo users ghost set view (NumberBit n)
          (λ b m k c e. let e' : m ≡ n = cc in free m e' (claim_used geo users m k b c))
          (λ b m k c e. cc)
          (λ i d s b p e. let e' : i ≡ n = cc in free i e' (place_used geo users rules i d s b p)) in
          record { fewer = h.fewer; number = h.number; block = h.block; place = h.place; held = h.held; given_up = h.given_up; gone = h.gone; gone_kept = h.gone_kept; entering = h.entering; safe = h.safe };
      numbers = record {
        free = λ m z f g.
            let other : m ≡ n → ⊥ = λ e. is_other set (NumberBit n) (NumberBit m) f (ap NumberBit e) in
            still_fresh set (NumberBit n) (Record m) (a.numbers.free m z (was_fresh set (NumberBit n) (NumberBit m) f) (not_zeroed m other g)) (λ e. cc);
        used = λ m u f. still_fresh set (NumberBit n) (NumberBit m) (a.numbers.used m u (was_fresh set (NumberBit n) (Record m) f)) (λ e. let e' : m ≡ n = cc in free m e' u);
      };
    })
    (λ set view a own met. record {
      shape = number_bit_shape geo view n false;
      rules = shape_rules geo view (updated view (SetNumber n false)) (number_bit_shape geo view n false) a.rules a.rules.rule2
          (λ b m k h. a.rules.rule3.marked m k b h)
          (λ m h u. cond_else (eqb m n) (view.number_marked m) (ne_eqb m n (λ e.
          let same : (view.inode n).mode ≡ (users.inode n).mode = ap (λ (x : Inode). x.mode) (a.same (Record n) (written set view a own met)) in
          u (ap (λ x. (view.inode x).mode) e ∙ same ∙ may.free))) (a.rules.rule4 m h u))
          (λ i r. le_refl (view.inode i).links);
      keeps = let h = keeps_all geo users ghost set view in
          record { fewer = h.fewer; number = h.number; block = h.block; place = h.place; held = h.held; given_up = h.given_up; gone = h.gone; gone_kept = h.gone_kept; entering = h.entering; safe = h.safe };
      numbers = record {
        free = λ m z f g. elim (cases_eq m n) [
          | inl e ↦ subst (λ x. IsTrue (set (Record x))) (sym e) (written set view a own met)
          | inr other ↦ a.numbers.free m z f (not_zeroed m other g)
        ];
        used = a.numbers.used;
      };
    })
    all
  where
    users : View
    users = users_view disk q

    users' : View
    users' = updated users (SetNumber n false)

    rules : ObeysRules geo users
    rules = users_obey geo disk q ghost all

    free : (m : ℕ) → m ≡ n → ((users.inode m).mode ≢ 0) → ⊥
    free m e u = u (ap (λ x. (users.inode x).mode) e ∙ may.free)

    not_zeroed : (m : ℕ) → (m ≡ n → ⊥) → IsFalse (ghost.zeroed m && not (eqb m n)) → IsFalse (ghost.zeroed m)
    not_zeroed m other g = false_from_ne_true (ghost.zeroed m) (λ t. both_ways (ghost.zeroed m && not (eqb m n)) g (not_cleared (ghost.zeroed m) (eqb m n) t (ne_eqb m n other)))

    -- the freed record is there
    written : (set : Cell → Bool) (view : View) → Agrees geo users ghost set view → IsTrue (set (NumberBit n)) → AreIn after set → IsTrue (set (Record n))
    written set view a own met = elim (cases_Bool (ghost.zeroed n)) [
      | inl t ↦ met (Record n) (may.freed t)
      | inr f ↦ a.numbers.free n may.free own f
    ]
