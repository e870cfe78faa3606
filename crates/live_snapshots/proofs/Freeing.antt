-- Updates that free numbers and blocks, one after the other.
use Rattle.std.proofs.Common.{◌≡◌, ◌<◌, ◌≤◌, ◌+◌, ◌-◌, ℕ, zero, suc, Bool, true, false, not, ◌&&◌, ◌||◌, cond, eqb, eqb-true, eq-eqb, List, [], Option, Some, None, IsTrue, ◌⊎◌, inl, inr, refl, sym, ap, ◌∙◌, subst, arith}
use Rattle.std.specs.Option.{option_map_or}
use Rattle.model.specs.Layout.{Geometry, is_data_address, is_number}
use Rattle.model.specs.View.{Inode, View, free_inode}
use Rattle.model.specs.Cells.{Update, SetInode, SetNumber, SetBlock, updated, updated_all}
use Rattle.model.specs.Shape.{most_blocks, position_count, tables}
use Rattle.model.specs.Uses.{blocks_of, claim_at, has_position, is_sound}
use Rattle.model.proofs.UseLemmas.{claim_parts}
use Rattle.model.proofs.Shape.{more_reach, tables_range}
use Rattle.model.proofs.Steps.{use_sound}
use Rattle.model.proofs.Uses.{has_below, sound_few, use_has, use_number}
use Rattle.machine.specs.Below.{any_below}
use Rattle.machine.specs.Cells.{claims}
use Rattle.queue_model.proofs.Lists.{bool_same}
use Rattle.updates.specs.declared.change.Update as program
use Rattle.metadata.specs.Staged.{changes}
use Rattle.metadata.proofs.Steps.{updated_push}
use Rattle.live_snapshots.specs.Orphans.{Adds, Frees, FreesToo, is_claimed_at, is_claimed_below}

-- ---- what is freed

pub frees_none : (geo : Geometry) → Frees geo (λ i. false) (λ a. false) []
frees_none geo = record {
  cells = λ k d low. absurd (omega (arith, low));
  inode = λ view i. refl;
  number_marked = λ view i. sym (and_true (view.number_marked i));
  block_marked = λ view a. sym (and_true (view.block_marked a));
  bytes = λ view. refl;
}
  where
    and_true : (b : Bool) → (b && true) ≡ b
    and_true true = refl
    and_true false = refl

-- the same with sets that have the same members
pub frees_as : (geo : Geometry) (ns bs ns' bs' : ℕ → Bool) (us : List program.Update) → ((i : ℕ) → ns i ≡ ns' i) → ((a : ℕ) → bs a ≡ bs' a) → Frees geo ns bs us → Frees geo ns' bs' us
frees_as geo ns bs ns' bs' us same_numbers same_blocks is = record {
  cells = is.cells;
  inode = λ view i. is.inode view i ∙ ap (λ b. cond b free_inode (view.inode i)) (same_numbers i);
  number_marked = λ view i. is.number_marked view i ∙ ap (λ b. view.number_marked i && not b) (same_numbers i);
  block_marked = λ view a. is.block_marked view a ∙ ap (λ b. view.block_marked a && not b) (same_blocks a);
  bytes = is.bytes;
}

-- a record, or a bit, with one more update
one_more : (m e : Bool) (x y : Inode) → cond e x (cond m x y) ≡ cond (m || e) x y
one_more true true x y = refl
one_more true false x y = refl
one_more false true x y = refl
one_more false false x y = refl

one_less : (b m e : Bool) → cond e false (b && not m) ≡ (b && not (m || e))
one_less true true true = refl
one_less true true false = refl
one_less true false true = refl
one_less true false false = refl
one_less false true true = refl
one_less false true false = refl
one_less false false true = refl
one_less false false false = refl

module _ (geo : Geometry) (ns bs : ℕ → Bool) (old : List program.Update) (is : Frees geo ns bs old) where
  -- the view then
  view_then : (u : Update) (new : List program.Update) → Adds u old new → (view : View) → updated_all view (changes new) ≡ updated (updated_all view (changes old)) u
  view_then u new more view = ap (updated_all view) more.list ∙ updated_push view (changes old) u

  -- a block's bit more
  pub block_more : (b : ℕ) (new : List program.Update) → IsTrue (is_data_address geo b) → Adds (SetBlock b false) old new → Frees geo ns (λ a. bs a || eqb a b) new
  block_more b new address more = record {
    cells = more.each geo address tt is.cells;
    inode = λ view i. ap (λ (v : View). v.inode i) (view_then (SetBlock b false) new more view) ∙ is.inode view i;
    number_marked = λ view i. ap (λ (v : View). v.number_marked i) (view_then (SetBlock b false) new more view) ∙ is.number_marked view i;
    block_marked = λ view a.
        ap (λ (v : View). v.block_marked a) (view_then (SetBlock b false) new more view) ∙ ap (λ t. cond (eqb a b) false t) (is.block_marked view a)
        ∙ one_less (view.block_marked a) (bs a) (eqb a b);
    bytes = λ view. ap (λ (v : View). v.bytes) (view_then (SetBlock b false) new more view) ∙ is.bytes view;
  }

  -- a number's record and bit more
  pub number_more : (n : ℕ) (mid new : List program.Update) → IsTrue (is_number geo n) → Adds (SetInode n free_inode) old mid → Adds (SetNumber n false) mid new → Frees geo (λ i. ns i || eqb i n) bs new
  number_more n mid new number first second = record {
    cells = second.each geo number tt (first.each geo number (λ one. refl) is.cells);
    inode = λ view i.
        ap (λ (v : View). v.inode i) (view_of_both view) ∙ ap (λ t. cond (eqb i n) free_inode t) (is.inode view i)
        ∙ one_more (ns i) (eqb i n) free_inode (view.inode i);
    number_marked = λ view i.
        ap (λ (v : View). v.number_marked i) (view_of_both view) ∙ ap (λ t. cond (eqb i n) false t) (is.number_marked view i)
        ∙ one_less (view.number_marked i) (ns i) (eqb i n);
    block_marked = λ view a. ap (λ (v : View). v.block_marked a) (view_of_both view) ∙ is.block_marked view a;
    bytes = λ view. ap (λ (v : View). v.bytes) (view_of_both view) ∙ is.bytes view;
  }
    where
      view_of_both : (view : View) → updated_all view (changes new) ≡ updated (updated (updated_all view (changes old)) (SetInode n free_inode)) (SetNumber n false)
      view_of_both view =
          ap (updated_all view) second.list ∙ updated_push view (changes mid) (SetNumber n false)
          ∙ ap (λ v. updated v (SetNumber n false)) (view_then (SetInode n free_inode) mid first view)

-- ---- the blocks of a number, position by position

or_false : (b : Bool) → (b || false) ≡ b
or_false true = refl
or_false false = refl

or_then : (x y z : Bool) → ((x || y) || z) ≡ (x || (y || z))
or_then true y z = refl
or_then false y z = refl

module _ (geo : Geometry) (view : View) (n : ℕ) where
  abbrev claimed : ℕ → ℕ → Bool
  claimed = is_claimed_below geo view n

  abbrev Goes : ℕ → List program.Update → List program.Update → Type 0
  Goes end old new = FreesToo geo (λ i. eqb i n) (claimed end) old new

  -- the number alone
  pub number_goes : (old mid new : List program.Update) → IsTrue (is_number geo n) → Adds (SetInode n free_inode) old mid → Adds (SetNumber n false) mid new → Goes 0 old new
  unfolding any_below
  number_goes old mid new number first second ns bs is =
      frees_as geo (λ i. ns i || eqb i n) bs (λ i. ns i || eqb i n) (λ a. bs a || claimed 0 a) new (λ i. refl) (λ a. sym (or_false (bs a)))
      (number_more geo ns bs old is n mid new number first second)

  -- what goes at one position, where a block is claimed
  pub block_goes : (k b : ℕ) (old new : List program.Update) → claim_at geo view n k ≡ Some b → IsTrue (is_data_address geo b) → Adds (SetBlock b false) old new
      → FreesToo geo (λ i. false) (is_claimed_at geo view n k) old new
  block_goes k b old new claim address more ns bs is =
      frees_as geo ns (λ a. bs a || eqb a b) (λ i. ns i || false) (λ a. bs a || is_claimed_at geo view n k a) new (λ i. sym (or_false (ns i)))
      (λ a. ap (λ t. bs a || t) (other_way a ∙ sym (ap (λ (o : Option ℕ). option_map_or (λ c. eqb c a) o false) claim)))
      (block_more geo ns bs old is b new address more)
    where
      other_way : (a : ℕ) → eqb a b ≡ eqb b a
      other_way a = bool_same (eqb a b) (eqb b a) (λ t. eq-eqb b a (sym (eqb-true a b t))) (λ t. eq-eqb a b (sym (eqb-true b a t)))

  -- or none
  pub nothing_goes : (k : ℕ) (old : List program.Update) → claim_at geo view n k ≡ None → FreesToo geo (λ i. false) (is_claimed_at geo view n k) old old
  nothing_goes k old none ns bs is =
      frees_as geo ns bs (λ i. ns i || false) (λ a. bs a || is_claimed_at geo view n k a) old (λ i. sym (or_false (ns i)))
      (λ a. sym (or_false (bs a)) ∙ ap (λ t. bs a || t) (sym (ap (λ (o : Option ℕ). option_map_or (λ c. eqb c a) o false) none))) is

  -- one position more
  pub goes_on : (k : ℕ) (old mid new : List program.Update) → Goes k old mid → FreesToo geo (λ i. false) (is_claimed_at geo view n k) mid new → Goes (suc k) old new
  unfolding any_below
  goes_on k old mid new goes more ns bs is =
      frees_as geo (λ i. (ns i || eqb i n) || false) (λ a. (bs a || claimed k a) || is_claimed_at geo view n k a) (λ i. ns i || eqb i n) (λ a. bs a || claimed (suc k) a) new
      (λ i. or_false (ns i || eqb i n)) (λ a. or_then (bs a) (claimed k a) (is_claimed_at geo view n k a))
      (more (λ i. ns i || eqb i n) (λ a. bs a || claimed k a) (goes ns bs is))

  -- more positions, at which nothing is claimed
  pub goes_past : (d k : ℕ) (old new : List program.Update) → ((j : ℕ) → k ≤ j → j < d + k → claim_at geo view n j ≡ None) → Goes k old new → Goes (d + k) old new
  goes_past zero k old new none goes = let e : k ≡ zero + k = omega arith in subst (λ j. Goes j old new) e goes
  goes_past (suc d) k old new none goes =
      let e : suc (d + k) ≡ suc d + k = omega arith in
      subst (λ j. Goes j old new) e
      (goes_on (d + k) old new new (goes_past d k old new (λ j low high. none j low (omega (arith, high))) goes) (nothing_goes (d + k) new (none (d + k) (omega arith) (omega arith))))

  pub goes_to : (k m : ℕ) (old new : List program.Update) → k ≤ m → ((j : ℕ) → k ≤ j → j < m → claim_at geo view n j ≡ None) → Goes k old new → Goes m old new
  goes_to k m old new low none goes =
      let e : (m - k) + k ≡ m = omega (arith, low) in
      subst (λ j. Goes j old new) e (goes_past (m - k) k old new (λ j l h. none j l (omega (arith, h, e))) goes)

  -- a position that the inode does not have claims nothing
  unclaimed : (k : ℕ) → (IsTrue (is_sound geo (view.inode n)) → IsTrue (has_position geo (view.inode n) k) → ⊥) → claim_at geo view n k ≡ None
  unclaimed k none = by (claim_at geo view n k) refl
    where
      by : (o : Option ℕ) → claim_at geo view n k ≡ o → claim_at geo view n k ≡ None
      by None e = e
      by (Some b) e =
          let u = (use_number geo view n k b (claim_parts geo view n k b e).0).1 in
          absurd (none (use_sound geo view (view.inode n) k b u) (use_has geo view (view.inode n) k b u))

  -- between its blocks and its tables, and behind them
  pub to_tables : (end : ℕ) (old new : List program.Update) → end ≤ most_blocks geo → (blocks_of (view.inode n).size ≤ end) ⊎ (most_blocks geo ≤ end) → Goes end old new → Goes (most_blocks geo) old new
  to_tables end old new inside all = goes_to end (most_blocks geo) old new inside (λ k l h. unclaimed k (λ sound has.
      let below = has_below geo (view.inode n) k h has in elim all [ inl e ↦ omega (arith, e, below, l) | inr e ↦ omega (arith, e, h, l) ]))

  pub all_go : (end : ℕ) (old new : List program.Update) → end ≤ most_blocks geo → (blocks_of (view.inode n).size ≤ end) ⊎ (most_blocks geo ≤ end) → most_blocks geo + tables end ≤ position_count geo
      → Goes (most_blocks geo + tables end) old new → FreesToo geo (λ i. eqb i n) (claims geo view n) old new
  unfolding claims
  all_go end old new inside all within = goes_to (most_blocks geo + tables end) (position_count geo) old new within (λ k l h. unclaimed k (λ sound has.
      let few = sound_few geo (view.inode n) sound in
      let fewer : blocks_of (view.inode n).size ≤ end = elim all [ inl e ↦ e | inr e ↦ omega (arith, e, few) ] in
      let past = (tables_range geo end k inside (omega (arith, l))).0 (more_reach geo (blocks_of (view.inode n).size) end k fewer has) in omega (arith, past, l)))
