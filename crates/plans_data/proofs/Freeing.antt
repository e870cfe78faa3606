-- A number is freed with its blocks: each update is of its kind, and nothing is left over.
use Rattle.std.proofs.Common.{◌≡◌, ℕ, Bool, true, false, not, ◌&&◌, ◌||◌, eqb, List, [], ◌∷◌, inl, inr, refl, sym, ap, ◌∙◌, subst, IsTrue, arith, eqb-true, eq-eqb}
use mathlib.Core.Path.{fun_ext}
use Rattle.std.proofs.lemmas.Bool.{both_ways, and_parts, and_from, or_left}
use Rattle.model.specs.Layout.{Geometry}
use Rattle.model.specs.View.{View, Inode, free_inode}
use Rattle.model.specs.Cells.{SetInode, SetNumber, updated, updated_all}
use Rattle.model.specs.Uses.{has_position}
use Rattle.model.specs.Rules.{ObeysRules}
use Rattle.model.proofs.Shape.{reach_parts}
use Rattle.model.proofs.SameShape.{claim_back}
use Rattle.model.proofs.Places.{put_here}
use Rattle.machine.specs.State.{State, is_kept}
use Rattle.machine.specs.Cells.{claims}
use Rattle.machine.specs.Effects.{lets_go}
use Rattle.ordering.specs.Cuts.{Cell, Record, Pending, users_view}
use Rattle.ordering.specs.Ghosts.{Ghost, Gone}
use Rattle.ordering.specs.Agrees.{AllAgree}
use Rattle.ordering.specs.Kinds.{number_cleared}
use Rattle.ordering.specs.Rewrites.{freed}
use Rattle.ordering.specs.Histories.{Frees, ClearsNumber}
use Rattle.ordering.proofs.Bits.{users_obey, number_bit_shape}
use Rattle.plans_data.specs.Issues.{Issues}
use Rattle.plans_data.specs.Now.{now, becomes}
use Rattle.plans_data.specs.Freeing.{MayFreeing, held_with, within, but_of, freeing}
use Rattle.plans_data.proofs.Chains.{Goes, stand, step}
use Rattle.plans_data.proofs.Clearing.{among, cleared_marks, clear_all, all_cleared, none_left}
use Rattle.plans_data.proofs.LetsGo.{Shrinks, same_claims, among_let_go, went, given_unclaimed, given_not_held}

-- a free record has no position
pub uses_nothing : (geo : Geometry) (k : ℕ) → IsTrue (has_position geo free_inode k) → ⊥
uses_nothing geo k has = let few = (reach_parts geo 0 k has).1 in omega (arith, few)

pub free_shrinks : (geo : Geometry) (old : State) (n : ℕ) → Shrinks geo old n free_inode
free_shrinks geo old n = record {
  sound = λ t. absurd (both_ways false refl t);
  kept = λ k t u. absurd (both_ways false refl t);
  used = λ k u. absurd (uses_nothing geo k u);
}

module _ (geo : Geometry) (disk : View) (q : List Pending) (old : State) (gone : Gone → Bool) (safe : ℕ → Bool) (n : ℕ) (blocks : List ℕ) (after : List Cell)
    (may : MayFreeing geo (now disk q old) gone n blocks after) (all : AllAgree geo disk q (within old.held gone safe)) where
  abbrev s : State
  s = now disk q old

  abbrev ghost : Ghost
  ghost = within old.held gone safe

  abbrev users : View
  users = users_view disk q

  rules : ObeysRules geo users
  rules = users_obey geo disk q ghost all

  abbrev held : ℕ → Bool
  held = held_with geo s n free_inode

  abbrev given : ℕ → ℕ → ℕ → Bool
  given b m k = eqb m n && among b blocks

  abbrev ghost1 : Ghost
  ghost1 = freed held given n ghost

  abbrev q1 : List Pending
  q1 = record { change = SetInode n free_inode; after = after } ∷ q

  abbrev q2 : List Pending
  q2 = record { change = SetNumber n false; after = Record n ∷ [] } ∷ q1

  freed_step : Goes geo disk q ghost q1 ghost1
  freed_step = step geo disk q ghost q ghost (record { change = SetInode n free_inode; after = after }) ghost1 (stand geo disk q ghost all)
      (Frees held given after n free_inode (record {
        no_place = may.no_place;
        witnesses = may.witnesses;
        free = refl;
        blocks = record {
          number = may.number;
          sound = inl refl;
          came = λ k t u. absurd (uses_nothing geo k u);
          once = λ k j b u v x y. absurd (uses_nothing geo k u);
          went = λ k b c. elim (went geo s n free_inode blocks rules (free_shrinks geo s n) may.given_up k b c) [
            | inl stays ↦ inl stays
            | inr gives ↦ inr (elim gives [ inl h ↦ inl h | inr t ↦ inr (and_from (eqb n n) (among b blocks) (eq-eqb n n refl) t.0) ])
          ];
          held = λ b t. or_left (old.held b) _ t;
          given_up = λ b m k t. absurd (both_ways false refl t);
        };
      }))

  number_step : Goes geo disk q ghost q2 (number_cleared n ghost1)
  number_step = step geo disk q ghost q1 ghost1 (record { change = SetNumber n false; after = Record n ∷ [] }) (number_cleared n ghost1) freed_step
      (ClearsNumber (Record n ∷ []) n (record { free = ap (λ (x : Inode). x.mode) (put_here users.inode n free_inode); freed = λ t. (0, omega arith, refl) }))

  here : (users_view disk q2).inode n ≡ free_inode
  here = put_here users.inode n free_inode

  all_steps : Goes geo disk q ghost (freeing n blocks after q) (all_cleared blocks (number_cleared n ghost1))
  all_steps = clear_all geo disk q ghost q2 (number_cleared n ghost1) n blocks number_step (record {
    unclaimed = λ b t h. given_unclaimed geo s n free_inode blocks rules (free_shrinks geo s n) may.given_up b t h.0 h.1
        (claim_back geo (users_view disk q1) (users_view disk q2) (number_bit_shape geo (users_view disk q1) n false) h.0 h.1 b h.2);
    not_held = given_not_held geo s n free_inode blocks rules (free_shrinks geo s n) may.given_up may.held;
    owner = λ b m k t. eqb-true m n (and_parts (eqb m n) (among b blocks) t).0;
    no_position = λ b m k t sound used.
        let same : m ≡ n = eqb-true m n (and_parts (eqb m n) (among b blocks) t).0 in
        uses_nothing geo k (ap (λ x. has_position geo x k) (sym (ap (users_view disk q2).inode same ∙ here)) ∙ used);
  })

  ends : all_cleared blocks (number_cleared n ghost1) ≡ within held (but_of n gone) safe
  ends =
      none_left blocks (number_cleared n ghost1) (λ b m k t. (and_parts (eqb m n) (among b blocks) t).1)
      ∙ ap (λ f. record (within held (but_of n gone) safe) { zeroed = f }) (fun_ext (λ m. neither (eqb m n)))
    where
      neither : (e : Bool) → ((e || false) && not e) ≡ false
      neither true = refl
      neither false = refl

  pub freeing_issues : Issues geo disk q ghost (freeing n blocks after q) (within held (but_of n gone) safe)
  freeing_issues = subst (λ g. Issues geo disk q ghost (freeing n blocks after q) g) ends all_steps.issues

  abbrev freed_view : View
  freed_view = updated_all users (SetInode n free_inode ∷ SetNumber n false ∷ [])

  -- the number's bit changes no claim
  number_claims : (a : ℕ) → claims geo (updated users (SetInode n free_inode)) n a ≡ claims geo freed_view n a
  number_claims a = same_claims geo (updated users (SetInode n free_inode)) freed_view n a ((number_bit_shape geo (updated users (SetInode n free_inode)) n false).uses n)

  freed_marks : (a : ℕ) → (users.block_marked a && not (among a blocks)) ≡ (users.block_marked a && not (claims geo users n a && not (claims geo freed_view n a) && not (is_kept old a)))
  freed_marks a =
      ap (λ t. users.block_marked a && not t) (among_let_go geo s n free_inode blocks rules (free_shrinks geo s n) may.given_up a)
      ∙ ap (λ t. users.block_marked a && not (claims geo users n a && not t && not (is_kept old a))) (number_claims a)

  freed_held : (a : ℕ) → held a ≡ (old.held a || claims geo users n a && not (claims geo freed_view n a) && is_kept old a)
  freed_held a = ap (λ t. old.held a || claims geo users n a && not t && is_kept old a) (number_claims a)

  pub freeing_lets_go : becomes disk (freeing n blocks after q) held old ≡ lets_go geo s n (updated_all users (SetInode n free_inode ∷ SetNumber n false ∷ []))
  freeing_lets_go =
      ap (λ v. record old { view = v; held = held }) (cleared_marks disk n blocks q2)
      ∙ ap (λ f. record old { view = record (users_view disk q2) { block_marked = f }; held = held }) (fun_ext freed_marks)
      ∙ ap (λ g. record old { view = record (users_view disk q2) { block_marked = λ a. users.block_marked a && not (claims geo users n a && not (claims geo freed_view n a) && not (is_kept old a)) }; held = g }) (fun_ext freed_held)
