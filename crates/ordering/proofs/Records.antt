-- The kinds of update that write a record and keep its mode and its blocks.
use Rattle.std.proofs.Common.{◌≡◌, ℕ, ◌≤◌, Bool, not, eqb, List, inl, inr, refl, sym, ap, ◌∙◌, subst, IsTrue, arith, Contains, ne_eqb}
use Rattle.std.proofs.lemmas.Bool.{cases_eq, and_parts, and_from, not_from_false}
use Rattle.model.specs.Layout.{Geometry}
use Rattle.model.specs.View.{View, Inode}
use Rattle.model.specs.Cells.{SetInode, updated, put_at}
use Rattle.model.specs.Reach.{HasEntries}
use Rattle.model.proofs.EntryCounts.{entries_within}
use Rattle.model.proofs.SameTree.{tree_obeys, reachable_back, count_back}
use Rattle.model.proofs.SameShape.{SameShape, shape_rules}
use Rattle.model.proofs.SlotLemmas.{number_low}
use Rattle.model.proofs.Same.{reachable_number}
use Rattle.model.proofs.Places.{put_here, put_there, put_same}
use Rattle.model.proofs.NewRecord.{record_shape, records_obey, more_links}
use Rattle.model.proofs.UseLemmas.{uses_obey}
use Rattle.ordering.specs.Cuts.{Cell, Record, Block, Pending, users_view, AreIn}
use Rattle.ordering.specs.Ghosts.{Ghost, Gone}
use Rattle.ordering.specs.Agrees.{Agrees}
use Rattle.ordering.specs.Kinds.{Keeps, SameBody, MayRaise, MayLower, settled}
use Rattle.ordering.proofs.CutLemmas.{is_other}
use Rattle.ordering.specs.Places.{HasPlace}
use Rattle.ordering.proofs.Frames.{shape_step, keeps_all, keeps_without, numbers_without, numbers_same}
use Rattle.ordering.proofs.Bits.{sound_used}
use Rattle.ordering.proofs.Places.{places_stay}

pub body_shape : (geo : Geometry) (v : View) (n : ℕ) (x : Inode) → SameBody geo (v.inode n) x → SameShape geo v (updated v (SetInode n x))
body_shape geo v n x b = record_shape geo v n x b.sound b.still_sound b.mode b.blocks b.direct b.indirect b.double

pub raise_keeps : (geo : Geometry) (disk : View) (q : List Pending) (ghost : Ghost) (after : List Cell) (n : ℕ) (x : Inode)
    → MayRaise geo (users_view disk q) n x → Keeps geo disk q ghost (record { change = SetInode n x; after = after }) ghost
raise_keeps geo disk q ghost after n x may all =
    shape_step geo disk q ghost ghost (record { change = SetInode n x; after = after }) (body_shape geo users n x may.body)
    (λ set view a. record {
      keeps = keeps_without geo users ghost set view (Record n) (λ c m k h e. cc) (λ c m k h e. cc) (λ i d s c p e. cc);
      numbers = numbers_without users users' ghost set (Record n) (put_same users.inode n x (λ m (y : Inode). y.mode) may.body.mode)
          (λ m z e. let e' : m ≡ n = cc in sound_used geo (users.inode n) may.body.sound (subst (λ k. (users.inode k).mode ≡ 0) e' z)) (λ m z e. cc) a.numbers;
    })
    (λ set view a own met.
    let same : view.inode n ≡ users.inode n = a.same (Record n) own in
    let body : SameBody geo (view.inode n) x = subst (λ y. SameBody geo y x) (sym same) may.body in
    let s = body_shape geo view n x body in
    record {
      shape = s;
      rules = shape_rules geo view (updated view (SetInode n x)) s a.rules (records_obey geo view n x (inr may.body.still_sound) a.rules.rule2)
          (λ b m k h. a.rules.rule3.marked m k b h) (λ m h u. a.rules.rule4 m h u)
          (more_links geo view n x (λ r. subst (λ (y : Inode). y.links ≤ x.links) (sym same) may.links));
      keeps = keeps_all geo users ghost set view;
      numbers = numbers_same users users' ghost set (put_same users.inode n x (λ m (y : Inode). y.mode) may.body.mode) a.numbers;
    })
    all
  where
    users : View
    users = users_view disk q

    users' : View
    users' = updated users (SetInode n x)

-- nothing is gone of a number in a cut with the record that was written after all that took its names away
pub none_gone : (geo : Geometry) (users : View) (ghost : Ghost) (after : List Cell) (n : ℕ) → ((g : Gone) → IsTrue (ghost.gone g) → g.number ≡ n → Contains after (Block g.witness))
    → (set : Cell → Bool) (view : View) → Agrees geo users ghost set view → AreIn after set → (g : Gone) → g.number ≡ n → IsTrue (ghost.gone g) → HasPlace geo view g.number g.directory g.slot g.block → ⊥
none_gone geo users ghost after n witnesses set view a met g e t p = a.tree.removed g t (met (Block g.witness) (witnesses g t e)) p

pub only_there : (geo : Geometry) (users : View) (ghost : Ghost) (after : List Cell) (n : ℕ) → ((g : Gone) → IsTrue (ghost.gone g) → g.number ≡ n → Contains after (Block g.witness))
    → (set : Cell → Bool) (view : View) → Agrees geo users ghost set view → AreIn after set → IsTrue (set (Record n)) → (d s b : ℕ) → HasPlace geo view n d s b → HasPlace geo users n d s b
only_there geo users ghost after n witnesses set view a met own d s b p = elim (a.tree.places n d s b own p) [
  | inl h ↦ h
  | inr g ↦ absurd (none_gone geo users ghost after n witnesses set view a met (record { number = n; directory = d; slot = s; block = b; witness = g.0 }) refl g.1 p)
]

pub still_gone : (ghost : Ghost) (n : ℕ) (g : Gone) → (g.number ≡ n → ⊥) → IsTrue (ghost.gone g) → IsTrue ((settled n ghost).gone g)
still_gone ghost n g other t = and_from (ghost.gone g) (not (eqb g.number n)) t (not_from_false (eqb g.number n) (ne_eqb g.number n other))

pub was_gone : (ghost : Ghost) (n : ℕ) (g : Gone) → IsTrue ((settled n ghost).gone g) → IsTrue (ghost.gone g)
was_gone ghost n g t = (and_parts (ghost.gone g) (not (eqb g.number n)) t).0

pub lower_keeps : (geo : Geometry) (disk : View) (q : List Pending) (ghost : Ghost) (after : List Cell) (n : ℕ) (x : Inode)
    → MayLower geo (users_view disk q) ghost after n x → Keeps geo disk q ghost (record { change = SetInode n x; after = after }) (settled n ghost)
lower_keeps geo disk q ghost after n x may all =
    shape_step geo disk q ghost (settled n ghost) (record { change = SetInode n x; after = after }) (body_shape geo users n x may.body)
    (λ set view a. record {
      keeps = let h = keeps_without geo users ghost set view (Record n) (λ c m k h e. cc) (λ c m k h e. cc) (λ i d s c p e. cc) in record {
        fewer = h.fewer;
        number = h.number;
        block = h.block;
        place = h.place;
        held = h.held;
        given_up = h.given_up;
        gone = was_gone ghost n;
        gone_kept = λ g f p t. still_gone ghost n g (λ e. is_other set (Record n) (Record g.number) f (ap Record e)) t;
        entering = h.entering;
        safe = h.safe;
      };
      numbers = let h = numbers_without users users' ghost set (Record n) modes
          (λ m z e. let e' : m ≡ n = cc in sound_used geo (users.inode n) may.body.sound (subst (λ k. (users.inode k).mode ≡ 0) e' z)) (λ m z e. cc) a.numbers in record { free = h.free; used = h.used };
    })
    (λ set view a own met.
    let same : view.inode n ≡ users.inode n = a.same (Record n) own in
    let body : SameBody geo (view.inode n) x = subst (λ y. SameBody geo y x) (sym same) may.body in
    let s = body_shape geo view n x body in
    let w = updated view (SetInode n x) in
    record {
      shape = s;
      rules = tree_obeys geo view w s.tree a.rules (records_obey geo view n x (inr may.body.still_sound) a.rules.rule2)
          (uses_obey geo view w s.uses (λ b m k h. a.rules.rule3.marked m k b h) a.rules.rule3)
          (λ m h u. a.rules.rule4 m h (λ z. u (sym (s.modes m) ∙ z)))
          (λ i m r e. let before = reachable_back geo view w s.tree i r in
          let low : 1 ≤ i = omega (arith, number_low geo i (reachable_number geo view i before)) in
          let old = count_back geo view w s.tree i m low e in
          elim (cases_eq i n) [
            | inl q ↦
                let inside = entries_within geo view users n (subst (λ k. 1 ≤ k) q low) (places_stay geo view users n (only_there geo users ghost after n may.witnesses set view a met own)) old.0 (subst (λ k. HasEntries geo view k old.0) q old.1) in
                let enough = may.links inside.0 inside.1 in
                let links : (put_at view.inode n x i).links ≡ x.links = ap (λ k. (put_at view.inode n x k).links) q ∙ ap (λ (y : Inode). y.links) (put_here view.inode n x) in
                omega (arith, enough, inside.2, old.2, links)
            | inr other ↦
                let enough = a.rules.rule8 i old.0 before old.1 in
                let links : (put_at view.inode n x i).links ≡ (view.inode i).links = ap (λ (y : Inode). y.links) (put_there view.inode n i x other) in
                omega (arith, enough, old.2, links)
          ]);
      keeps = let h = keeps_all geo users ghost set view in record {
        fewer = h.fewer;
        number = h.number;
        block = h.block;
        place = h.place;
        held = h.held;
        given_up = h.given_up;
        gone = was_gone ghost n;
        gone_kept = λ g f p t. still_gone ghost n g (λ e. none_gone geo users ghost after n may.witnesses set view a met g e t p) t;
        entering = h.entering;
        safe = h.safe;
      };
      numbers = let h = numbers_same users users' ghost set modes a.numbers in record { free = h.free; used = h.used };
    })
    all
  where
    users : View
    users = users_view disk q

    users' : View
    users' = updated users (SetInode n x)

    modes : (m : ℕ) → (users.inode m).mode ≡ (users'.inode m).mode
    modes = put_same users.inode n x (λ m (y : Inode). y.mode) may.body.mode
