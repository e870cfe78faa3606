-- What goes is what the law of given-up blocks asks for, and what a snapshot keeps of it is held.
use Rattle.std.proofs.Common.{◌≡◌, ◌<◌, ◌≤◌, ℕ, Bool, true, false, not, ◌&&◌, ◌||◌, eqb, List, [], ◌∷◌, length, Option, Some, None, refl, sym, ap, ◌∙◌, subst, inl, inr, IsTrue, IsFalse, arith, Contains, is_some, eq-eqb, ne_eqb, ltb, leb, ltb-true, cond, set as slice_set, get_or-set_same, get_or-set_other, length-set, slice_index_or}
use mathlib.Core.Path.{fun_ext}
use Rattle.std.specs.List.{All}
use Rattle.std.proofs.lemmas.List.Elements.{All-contains_itself, All-weaker}
use Rattle.std.proofs.lemmas.Bool.{and_from, and_parts, both_ways, cases_eq, false_from_ne_true}
use Rattle.findings.specs.Numbers.{found_below}
use Rattle.findings.proofs.FoundBelow.{found_members, members_found}
use Rattle.findings.proofs.Sorted.{Contains-here, Contains-there}
use Rattle.model.specs.Cells.{SetInode, updated}
use Rattle.model.specs.Layout.{Geometry, block_count, header_blocks, is_data_address, is_number, place_in_group}
use Rattle.model.specs.Rules.{ObeysRules}
use Rattle.model.specs.Shape.{most_blocks, position_count, reaches}
use Rattle.model.specs.Uses.{IsClaim, blocks_of, claim_at, has_position, is_sound, record_use, use_at}
use Rattle.model.specs.View.{Inode, View, free_inode}
use Rattle.model.proofs.UseLemmas.{claim_from, claim_parts}
use Rattle.model.proofs.Shape.{more_reach, reach_parts}
use Rattle.model.proofs.Steps.{use_at_is}
use Rattle.model.proofs.Uses.{same_field, sound_few, use_has, use_number}
use Rattle.model.proofs.NewRecord.{record_uses}
use Rattle.model.proofs.Places.{put_here}
use Rattle.machine.specs.Cells.{block_of, claims}
use Rattle.machine.specs.State.{State, is_kept}
use Rattle.machine.proofs.Tests.{claims_tested, test_claims}
use Rattle.plans_data.specs.Append.{sized}
use Rattle.plans_data.specs.Freeing.{AreGivenUp, held_with}
use Rattle.plans_data.specs.Lists.{gives_up, given_up_with}
use Rattle.plans_data.proofs.Blocks.{block_is}
use Rattle.plans_data.proofs.Numbers.{sound_file}
use Rattle.plans_data.proofs.Clearing.{among, among_contains, contains_among}
use Rattle.live_states.specs.Holdings.{Has, Holdings, held_by, holding, is_kept_by, with_held}
use Rattle.live_states.proofs.Standing.{kept_same}
use Rattle.live_removals.specs.Blocks.{freed, goes_at, gone, held_back, is_loose}

-- A record with so many blocks left, which are no more, and at the positions that it has the same pointers.
pub record IsCut (geo : Geometry) (old new : Inode) (left : ℕ) : Type 0 where
  pub count : blocks_of new.size ≡ left
  pub fewer : left ≤ blocks_of old.size
  pub uses : (view : View) (k : ℕ) → IsTrue (has_position geo new k) → record_use geo view new k ≡ record_use geo view old k

-- a free record has no position
pub free_is_cut : (geo : Geometry) (old : Inode) → IsCut geo old free_inode 0
free_is_cut geo old = record {
  count = refl;
  fewer = omega arith;
  uses = λ view k has. absurd (let few = (reach_parts geo 0 k has).1 in omega (arith, few));
}

pub true_not : (a : Bool) → IsTrue (not a) → IsFalse a
true_not true t = sym t
true_not false t = refl

not_true : (a : Bool) → IsFalse a → IsTrue (not a)
not_true a f = ap not f

same_truth : (a b : Bool) → (IsTrue a → IsTrue b) → (IsTrue b → IsTrue a) → a ≡ b
same_truth true b f g = sym (f refl)
same_truth false true f g = g refl
same_truth false false f g = refl

-- a data block is a block of the volume
data_below : (geo : Geometry) (a : ℕ) → IsTrue (is_data_address geo a) → a < block_count geo
data_below geo a t =
    let h = and_parts (ltb 0 a) (ltb a (block_count geo)) (and_parts (ltb 0 a && ltb a (block_count geo)) (leb (header_blocks geo) (place_in_group geo a)) t).0 in
    ltb-true a (block_count geo) h.1

or_true : (x : Bool) → (x || true) ≡ true
or_true true = refl
or_true false = refl

or_false : (x : Bool) → (x || false) ≡ x
or_false true = refl
or_false false = refl

-- marks of blocks, one after the other
mark_one : (held : List Bool) (b a : ℕ) → b < length held → slice_index_or (slice_set held b true) a false ≡ (slice_index_or held a false || eqb a b)
mark_one held b a low = elim (cases_eq a b) [
  | inl e ↦ ap (λ (x : ℕ). slice_index_or (slice_set held b true) x false) e ∙ get_or-set_same held b true false low ∙ sym (or_true (slice_index_or held a false)) ∙ ap (λ t. slice_index_or held a false || t) (sym (eq-eqb a b e))
  | inr d ↦ get_or-set_other held b a true false d ∙ sym (or_false (slice_index_or held a false)) ∙ ap (λ t. slice_index_or held a false || t) (sym (ne_eqb a b d))
]

or_then : (x y z : Bool) → (x || y || z) ≡ (x || (y || z))
or_then true y z = refl
or_then false y z = refl

marks_more : (bs : List ℕ) (held : List Bool) (a : ℕ) → ((b : ℕ) → Contains bs b → b < length held) → slice_index_or (holding bs held) a false ≡ (slice_index_or held a false || among a bs)
marks_more [] held a low = sym (or_false (slice_index_or held a false))
marks_more (b ∷ bs) held a low =
    marks_more bs (slice_set held b true) a (λ x c. omega (arith, low x (Contains-there b bs x c), length-set held b true))
    ∙ ap (λ t. t || among a bs) (mark_one held b a (low b (Contains-here b bs)))
    ∙ or_then (slice_index_or held a false) (eqb a b) (among a bs)

-- a sound record's size that is no larger
module _ (geo : Geometry) (old : Inode) (size : ℕ) (old_sound : IsTrue (is_sound geo old)) (file : old.mode ≡ 1) (no_more : size ≤ old.size) where
  fewer : blocks_of size ≤ blocks_of old.size
  fewer = omega (arith, no_more)

  few : blocks_of size ≤ most_blocks geo
  few = omega (arith, fewer, sound_few geo old old_sound)

  pub sized_is_cut : IsCut geo old (sized old size) (blocks_of size)
  sized_is_cut = record {
    count = refl;
    fewer = fewer;
    uses = λ view k has. same_field geo view (sized old size) old (sound_file geo (sized old size) file few) old_sound k has (more_reach geo (blocks_of size) (blocks_of old.size) k fewer has) refl;
  }

module _ (geo : Geometry) (view : View) (n : ℕ) where
  claims_it : (k : ℕ) → IsTrue (is_some (claim_at geo view n k)) → IsClaim geo view n k (block_of geo view n k)
  claims_it k t = by (claim_at geo view n k) refl t
    where
      by : (o : Option ℕ) → claim_at geo view n k ≡ o → IsTrue (is_some o) → IsClaim geo view n k (block_of geo view n k)
      by None e t = absurd (both_ways false refl t)
      by (Some b) e t = let c = claim_parts geo view n k b e in subst (λ x. IsClaim geo view n k x) (sym (block_is geo view n k b c)) c

  below : (k a : ℕ) → IsClaim geo view n k a → k < position_count geo
  below k a c = (reach_parts geo (blocks_of (view.inode n).size) k (use_has geo view (view.inode n) k a (use_number geo view n k a c.0).1)).0

  -- a block that goes is claimed at a position that does not stay, and is of the kind
  pub gone_is : (which : ℕ → Bool) (left a : ℕ) → Contains (gone which geo view n left) a → ((k : ℕ) × IsClaim geo view n k a × IsFalse (reaches geo left k)) × IsTrue (which a)
  gone_is which left a c =
      let h = found_members (goes_at which geo view n left) (block_of geo view n) (position_count geo) a c in
      let k = h.number in
      let parts = and_parts (is_some (claim_at geo view n k) && not (reaches geo left k)) (which (block_of geo view n k)) h.passes in
      let first = and_parts (is_some (claim_at geo view n k)) (not (reaches geo left k)) parts.0 in
      ((k, subst (λ x. IsClaim geo view n k x) h.is (claims_it k first.0), true_not (reaches geo left k) first.1), subst (λ x. IsTrue (which x)) h.is parts.1)

  -- and each such block goes
  pub is_gone : (which : ℕ → Bool) (left a k : ℕ) → IsClaim geo view n k a → IsFalse (reaches geo left k) → IsTrue (which a) → Contains (gone which geo view n left) a
  is_gone which left a k c f t =
      let e = block_is geo view n k a c in
      subst (λ x. Contains (gone which geo view n left) x) e (members_found (goes_at which geo view n left) (block_of geo view n) (position_count geo) k (below k a c)
      (and_from (is_some (claim_at geo view n k) && not (reaches geo left k)) (which (block_of geo view n k))
      (and_from (is_some (claim_at geo view n k)) (not (reaches geo left k)) (ap is_some (claim_from geo view n k a c)) (not_true (reaches geo left k) f))
      (subst (λ x. IsTrue (which x)) (sym e) t)))

module _ (geo : Geometry) (old : State) (holdings : Holdings) (has : Has holdings old) (n : ℕ) (new : Inode) (left : ℕ) (cut : IsCut geo (old.view.inode n) new left) where
  abbrev view : View
  view = old.view

  abbrev after : View
  after = updated old.view (SetInode n new)

  same_positions : (k : ℕ) → has_position geo new k ≡ reaches geo left k
  same_positions k = ap (λ m. reaches geo m k) cut.count

  same_test : (k : ℕ) → goes_at (is_loose holdings) geo view n left k ≡ gives_up geo old n new k
  same_test k =
      ap (λ t. is_some (claim_at geo view n k) && not t && not (is_kept_by holdings (block_of geo view n k))) (sym (same_positions k))
      ∙ ap (λ t. is_some (claim_at geo view n k) && not (has_position geo new k) && not t) (sym (kept_same holdings old has (block_of geo view n k)))

  pub freed_is : freed geo view holdings n left ≡ given_up_with geo old n new
  freed_is = ap (λ (t : ℕ → Bool). found_below t (block_of geo view n) (position_count geo)) (fun_ext same_test)

  pub freed_are_given_up : AreGivenUp geo old n new (freed geo view holdings n left)
  freed_are_given_up a = (
    (λ c.
        let h = gone_is geo view n (is_loose holdings) left a c in
        let at = h.0 in
        ((at.0, at.1, same_positions at.0 ∙ at.2), kept_same holdings old has a ∙ true_not (is_kept_by holdings a) h.1)),
    (λ h.
        let at = h.0 in
        is_gone geo view n (is_loose holdings) left a at.0 at.1 (sym (same_positions at.0) ∙ at.2) (not_true (is_kept_by holdings a) (sym (kept_same holdings old has a) ∙ h.1))),
  )

  -- ---- what is held then

  here : after.inode n ≡ new
  here = put_here view.inode n new

  -- a position that the new record has is used as before
  same_at : (k : ℕ) → IsTrue (has_position geo new k) → use_at geo after n k ≡ use_at geo view n k
  same_at k had =
      record_uses geo view n new n k ∙ ap (λ x. cond (is_number geo n) (record_use geo view x k) None) here ∙ ap (λ o. cond (is_number geo n) o None) (cut.uses view k had)
      ∙ sym (use_at_is geo view n k)

  claim_was : (k a : ℕ) → IsClaim geo after n k a → IsClaim geo view n k a × IsTrue (has_position geo new k)
  claim_was k a c =
      let had : IsTrue (has_position geo new k) = sym (ap (λ x. has_position geo x k) here) ∙ use_has geo after (after.inode n) k a (use_number geo after n k a c.0).1 in
      ((sym (same_at k had) ∙ c.0, c.1), had)

  module _ (rules : ObeysRules geo old.view) where
    let_go : (a k : ℕ) → IsClaim geo view n k a → IsFalse (reaches geo left k) → IsTrue (claims geo view n a && not (claims geo after n a))
    let_go a k c f =
        and_from (claims geo view n a) (not (claims geo after n a)) (test_claims geo view n k a c)
        (not_true (claims geo after n a) (false_from_ne_true (claims geo after n a) (λ t.
        let other = claims_tested geo after n a t in
        let was = claim_was other.0 a other.1 in
        let same : other.0 ≡ k = (rules.rule3.once n other.0 n k a was.0 c).1 in
        both_ways (has_position geo new k) (same_positions k ∙ f) (subst (λ j. IsTrue (has_position geo new j)) same was.1))))

    lets_go_at : (a : ℕ) → IsTrue (claims geo view n a && not (claims geo after n a)) → (k : ℕ) × IsClaim geo view n k a × IsFalse (reaches geo left k)
    lets_go_at a t =
        let parts = and_parts (claims geo view n a) (not (claims geo after n a)) t in
        let c = claims_tested geo view n a parts.0 in
        (c.0, c.1, false_from_ne_true (reaches geo left c.0) (λ s. both_ways (claims geo after n a) (true_not (claims geo after n a) parts.1) (test_claims geo after n c.0 a (same_at c.0 (same_positions c.0 ∙ s) ∙ (c.1).0, (c.1).1))))

    among_held : (a : ℕ) → among a (held_back geo view holdings n left) ≡ (claims geo view n a && not (claims geo after n a) && is_kept old a)
    among_held a = same_truth (among a (held_back geo view holdings n left)) (claims geo view n a && not (claims geo after n a) && is_kept old a)
        (λ t. let h = gone_is geo view n (is_kept_by holdings) left a (among_contains a (held_back geo view holdings n left) t) in
        let at = h.0 in
        and_from (claims geo view n a && not (claims geo after n a)) (is_kept old a) (let_go a at.0 at.1 at.2) (kept_same holdings old has a ∙ h.1))
        (λ t. let parts = and_parts (claims geo view n a && not (claims geo after n a)) (is_kept old a) t in
        let at = lets_go_at a parts.0 in
        contains_among a (held_back geo view holdings n left) (is_gone geo view n (is_kept_by holdings) left a at.0 at.1 at.2 (sym (kept_same holdings old has a) ∙ parts.1)))

    pub held_now : block_count geo ≤ length holdings.held → (holdings' : Holdings) → holdings'.held ≡ holdings.held → held_with geo old n new ≡ held_by (with_held holdings' (held_back geo view holdings n left))
    held_now wide holdings' same = fun_ext (λ a.
        ap (λ b. old.held a || b) (sym (among_held a))
        ∙ ap (λ (h : ℕ → Bool). h a || among a (held_back geo view holdings n left)) has.held
        ∙ sym (marks_more (held_back geo view holdings n left) holdings.held a (λ b c. let at = (gone_is geo view n (is_kept_by holdings) left b c).0 in omega (arith, wide, data_below geo b at.1.1)))
        ∙ ap (λ (l : List Bool). slice_index_or (holding (held_back geo view holdings n left) l) a false) (sym same))

-- all that goes is blocks of the volume
pub gone_below_count : (which : ℕ → Bool) (geo : Geometry) (view : View) (n left : ℕ) → All (λ a. a < block_count geo) (gone which geo view n left)
gone_below_count which geo view n left =
    All-weaker (Contains (gone which geo view n left)) (λ a. a < block_count geo) (λ b c. let at = (gone_is geo view n which left b c).0 in data_below geo b at.1.1) (gone which geo view n left)
    (All-contains_itself (gone which geo view n left))
