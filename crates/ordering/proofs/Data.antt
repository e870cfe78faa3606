-- The kinds of update that write a data block that is no directory's and no table.
use Rattle.std.proofs.Common.{◌≡◌, ℕ, Bool, ◌/◌, List, inl, inr, refl, sym, ap, ◌∙◌, subst, IsTrue, le_refl, arith}
use Rattle.std.proofs.lemmas.Bool.{both_ways, cases_Bool}
use Rattle.model.specs.Layout.{Geometry}
use Rattle.model.specs.View.{View}
use Rattle.model.specs.Cells.{SetBytes, updated}
use Rattle.model.specs.Shape.{is_table}
use Rattle.model.specs.Uses.{is_directory, is_directory_at, is_sound_at, IsClaim}
use Rattle.model.specs.Slots.{slot}
use Rattle.model.specs.Rules.{ObeysRules}
use Rattle.model.proofs.CellLemmas.{use_stays, slot_stays}
use Rattle.model.proofs.NamedLemmas.{no_directory_no_slot}
use Rattle.model.proofs.SameShape.{SameShape, shape_from, shape_rules}
use Rattle.ordering.specs.Cuts.{Cell, BlockBit, Block, Pending, users_view, AreIn}
use Rattle.ordering.specs.Ghosts.{Ghost}
use Rattle.ordering.specs.Agrees.{Agrees}
use Rattle.ordering.specs.Kinds.{Keeps, MayFill, MayWrite}
use Rattle.ordering.proofs.Frames.{shape_step, keeps_all, keeps_without, numbers_without, numbers_same}
use Rattle.std.proofs.lemmas.Bool.{and_parts}
use Rattle.ordering.proofs.Bits.{users_obey, claim_used}
use Rattle.std.proofs.Common.{eqb-true}

-- new bytes of a block that no directory claims, and no inode as a table
pub bytes_shape : (geo : Geometry) (v : View) (b : ℕ) (bytes : List ℕ) → ((i m : ℕ) → IsTrue (is_table geo m) → IsClaim geo v i m b → ⊥)
    → ((d k : ℕ) → IsTrue (is_directory_at geo v d) → IsClaim geo v d k b → ⊥) → SameShape geo v (updated v (SetBytes b bytes))
bytes_shape geo v b bytes no_table no_directory =
    shape_from geo v (updated v (SetBytes b bytes)) (λ n. refl) (λ n. refl) (λ n. refl) (use_stays geo v b bytes no_table) slots
  where
    slots : (d s : ℕ) → slot geo v d s ≡ slot geo (updated v (SetBytes b bytes)) d s
    slots d s = elim (cases_Bool (is_directory_at geo v d)) [
      | inl t ↦ slot_stays geo v b bytes no_table d s (λ c. no_directory d (s / 16) t c)
      | inr f ↦ no_directory_no_slot geo v d s f ∙ sym (no_directory_no_slot geo (updated v (SetBytes b bytes)) d s f)
    ]

pub directory_mode : (geo : Geometry) (v : View) (d : ℕ) → IsTrue (is_directory_at geo v d) → (v.inode d).mode ≡ 2
directory_mode geo v d t = eqb-true (v.inode d).mode 2 (and_parts (is_sound_at geo v d) (is_directory (v.inode d)) t).1

-- a write of a block that is nobody's directory block or table in the users' view and in each cut that has its last bytes
pub plain_write : (geo : Geometry) (disk : View) (q : List Pending) (ghost : Ghost) (after : List Cell) (b : ℕ) (bytes : List ℕ)
    → SameShape geo (users_view disk q) (updated (users_view disk q) (SetBytes b bytes))
    → ((set : Cell → Bool) (view : View) → Agrees geo (users_view disk q) ghost set view → IsTrue (set (Block b)) → AreIn after set
    → SameShape geo view (updated view (SetBytes b bytes)))
    → Keeps geo disk q ghost (record { change = SetBytes b bytes; after = after }) ghost
plain_write geo disk q ghost after b bytes shape shapes all =
    let users = users_view disk q in
    shape_step geo disk q ghost ghost (record { change = SetBytes b bytes; after = after }) shape
    (λ set view a. record {
      keeps = keeps_without geo users ghost set view (Block b) (λ c n k h e. cc) (λ c n k h e. cc) (λ i d s c p e. cc);
      numbers = numbers_without users (updated users (SetBytes b bytes)) ghost set (Block b) (λ n. refl) (λ n z e. cc) (λ n z e. cc) a.numbers;
    })
    (λ set view a own met. let s = shapes set view a own met in record {
      shape = s;
      rules = shape_rules geo view (updated view (SetBytes b bytes)) s a.rules a.rules.rule2 (λ c n k h. a.rules.rule3.marked n k c h) (λ n h u. a.rules.rule4 n h u) (λ i r. le_refl (view.inode i).links);
      keeps = keeps_all geo users ghost set view;
      numbers = numbers_same users (updated users (SetBytes b bytes)) ghost set (λ n. refl) a.numbers;
    })
    all

pub fill_keeps : (geo : Geometry) (disk : View) (q : List Pending) (ghost : Ghost) (after : List Cell) (b : ℕ) (bytes : List ℕ)
    → MayFill geo (users_view disk q) ghost after b → Keeps geo disk q ghost (record { change = SetBytes b bytes; after = after }) ghost
fill_keeps geo disk q ghost after b bytes may =
    plain_write geo disk q ghost after b bytes
    (bytes_shape geo (users_view disk q) b bytes (λ i m t c. may.free.unclaimed (i, m, c)) (λ d k t c. may.free.unclaimed (d, k, c)))
    (λ set view a own met.
    let none : (n k : ℕ) → IsClaim geo view n k b → ⊥ = λ n k c. both_ways (ghost.given_up b n k) (may.free.not_given_up n k) (a.blocks.unclaimed b n k (met (BlockBit b) may.bit) may.free.unclaimed may.free.not_held c) in
    bytes_shape geo view b bytes (λ i m t c. none i m c) (λ d k t c. none d k c))

pub write_keeps : (geo : Geometry) (disk : View) (q : List Pending) (ghost : Ghost) (after : List Cell) (n p b : ℕ) (bytes : List ℕ)
    → MayWrite geo (users_view disk q) n p b → Keeps geo disk q ghost (record { change = SetBytes b bytes; after = after }) ghost
write_keeps geo disk q ghost after n p b bytes may all =
    plain_write geo disk q ghost after b bytes
    (bytes_shape geo users b bytes
    (λ i m t c. both_ways (is_table geo p) may.no_table (subst (λ k. IsTrue (is_table geo k)) (rules.rule3.once i m n p b c may.claims).1 t))
    (λ d k t c. let e : d ≡ n = (rules.rule3.once d k n p b c may.claims).0 in two d e t))
    (λ set view a own met.
    let bit : IsTrue (set (BlockBit b)) = a.blocks.marked b n p may.claims own in
    bytes_shape geo view b bytes
    (λ i m t c. both_ways (is_table geo p) may.no_table (subst (λ k. IsTrue (is_table geo k)) (a.blocks.claimed b n p i m bit may.claims c).1 t))
    (λ d k t c.
    let e = a.blocks.claimed b n p d k bit may.claims c in
    let mine : (view.inode n).mode ≡ 2 = ap (λ x. (view.inode x).mode) (sym e.0) ∙ directory_mode geo view d t in
    let same : (view.inode n).mode ≡ (users.inode n).mode = a.modes.mode n e.2 (λ z. claim_used geo users n p b may.claims z) (λ z. claim_used geo view d k b c (ap (λ x. (view.inode x).mode) e.0 ∙ z)) in
    let one : (users.inode n).mode ≡ 1 = may.file in
    omega (arith, mine, same, one)))
    all
  where
    users : View
    users = users_view disk q

    rules : ObeysRules geo users
    rules = users_obey geo disk q ghost all

    two : (d : ℕ) → d ≡ n → IsTrue (is_directory_at geo users d) → ⊥
    two d e t =
        let mine : (users.inode n).mode ≡ 2 = ap (λ x. (users.inode x).mode) (sym e) ∙ directory_mode geo users d t in
        let one : (users.inode n).mode ≡ 1 = may.file in omega (arith, mine, one)
