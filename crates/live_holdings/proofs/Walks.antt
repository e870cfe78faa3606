-- A walk over the marked numbers, from one to the next, to those that no snapshot keeps.
use Rattle.std.proofs.Common.{◌≡◌, ◌<◌, ◌≤◌, ◌+◌, ℕ, zero, suc, Bool, false, not, ◌&&◌, List, [], ◌∷◌, ◌++◌, length, All, Contains, sym, ap, ◌∙◌, subst, inl, inr, IsTrue, IsFalse, arith, add-one, slice_index_or}
use Rattle.std.proofs.lemmas.Bool.{and_from, cases_lt}
use Rattle.std.proofs.lemmas.List.Elements.{All-contains_itself, All-weaker}
use Rattle.findings.proofs.FoundBelow.{found-no, found-none, found-yes, found_members}
use Rattle.frozen.specs.Kept.{Kept}
use Rattle.machine.specs.Standing.{Standing, others}
use Rattle.machine.proofs.Tests.{and_false}
use Rattle.marks.specs.Marks.{IsNextMarked, NothingMarkedFrom}
use Rattle.live_states.specs.Holdings.{Holdings, held_by, kept_by}
use Rattle.live_states.specs.Snapshots.{let_go_blocks}
use Rattle.live_holdings.specs.Alone.{alone_below}

-- what is let go stands in the list of marks
pub let_go_low : (holdings : Holdings) (s : ℕ) → All (λ a. a < length holdings.held) (let_go_blocks holdings s)
let_go_low holdings s =
    All-weaker (Contains (let_go_blocks holdings s)) (λ a. a < length holdings.held)
    (λ a c. let f = found_members (λ b. held_by holdings b && not (kept_by (others holdings.snapshots.standing s) b)) (λ b. b) (length holdings.held) a c in subst (λ b. b < length holdings.held) f.is f.below)
    (let_go_blocks holdings s) (All-contains_itself (let_go_blocks holdings s))

module _ (marks : List Bool) (standing : List (Standing Kept)) where
  abbrev test : ℕ → Bool
  test a = slice_index_or marks a false && not (kept_by standing a)

  skip : (from to : ℕ) → from ≤ to → ((n : ℕ) → from ≤ n → n < to → slice_index_or marks n false ≡ false) → alone_below marks standing to ≡ alone_below marks standing from
  skip from zero low none = ap (alone_below marks standing) (omega (arith, low))
  skip from (suc to) low none = elim (cases_lt to from) [
    | inl above ↦ ap (alone_below marks standing) (omega (arith, low, above))
    | inr below ↦ found-no test (λ a. a) to (ap (λ m. m && not (kept_by standing to)) (none to below (omega arith))) ∙ skip from to below (λ n a b. none n a (omega (arith, b)))
  ]

  pub alone_none : alone_below marks standing 0 ≡ []
  alone_none = found-none test (λ a. a)

  -- with the next marked one, where no snapshot keeps it
  pub alone_next : (from number : ℕ) → IsNextMarked marks from number → IsFalse (kept_by standing number) → alone_below marks standing from ++ number ∷ [] ≡ alone_below marks standing (number + 1)
  alone_next from number next free =
      ap (λ (ns : List ℕ). ns ++ number ∷ []) (sym (skip from number next.above next.least))
      ∙ sym (found-yes test (λ a. a) number (and_from (slice_index_or marks number false) (not (kept_by standing number)) next.marked (ap not free))) ∙ ap (alone_below marks standing) (sym (add-one number))

  -- and where one does
  pub kept_next : (from number : ℕ) → IsNextMarked marks from number → IsTrue (kept_by standing number) → alone_below marks standing from ≡ alone_below marks standing (number + 1)
  kept_next from number next kept =
      sym (skip from number next.above next.least)
      ∙ sym (found-no test (λ a. a) number (ap (λ k. slice_index_or marks number false && not k) kept ∙ and_false (slice_index_or marks number false))) ∙ ap (alone_below marks standing) (sym (add-one number))

  -- and where there is no next one
  pub alone_all : (from : ℕ) → from ≤ length marks → NothingMarkedFrom marks from → alone_below marks standing from ≡ alone_below marks standing (length marks)
  alone_all from low none = sym (skip from (length marks) low (λ n a b. none n a))
