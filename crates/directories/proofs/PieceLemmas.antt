-- Pieces follow one another, and each number below the end is one of some piece's.
use Rattle.std.proofs.Common.{◌≡◌, ◌<◌, ◌≤◌, ◌+◌, ℕ, zero, suc, false, ◌&&◌, ◌||◌, eqb, leb, ltb, List, [], ◌∷◌, ◌++◌, length, Some, slice_get, ◌⊎◌, inl, inr, refl, sym, ap, subst, arith, IsTrue}
use mathlib.Core.Path.{fun_ext}
use Rattle.std.proofs.lemmas.Bool.{and_from, cases_lt, le-leb, lt-ltb}
use Rattle.std.proofs.lemmas.Bool.Decides.{nat_tests}
use Rattle.std.proofs.lemmas.Option.{none-some, same_Some}
use Rattle.model.specs.Layout.{Geometry, inode_count}
use Rattle.model.proofs.SlotLemmas.{number_below}
use Rattle.directories.specs.declared.cutting.Piece.{Piece}
use Rattle.directories.specs.Pieces.{AreCut, HasEveryNumber, between, both_sets, in_piece, no_number}

pub cut_more : (first : ℕ) (pieces : List Piece) (piece : Piece) → AreCut first pieces piece.first → piece.first ≤ piece.past → AreCut first (pieces ++ piece ∷ []) piece.past
cut_more first [] piece cut low = (sym cut, subst (λ (n : ℕ). n ≤ piece.past) (sym cut) low, refl)
cut_more first (p ∷ ps) piece cut low = (cut.0, cut.1, cut_more p.past ps piece cut.2 low)

pub cut_low : (first : ℕ) (pieces : List Piece) (past : ℕ) → AreCut first pieces past → first ≤ past
cut_low first [] past cut = omega (arith, cut)
cut_low first (p ∷ ps) past cut = let rest = cut_low p.past ps past cut.2 in omega (arith, cut.1, rest)

-- a number of a piece
pub is_in : (piece : Piece) (i : ℕ) → piece.first ≤ i → i < piece.past → IsTrue (in_piece piece i)
is_in piece i low high = and_from (leb piece.first i) (ltb i piece.past) (le-leb piece.first i low) (lt-ltb i piece.past high)

-- the piece of a number
pub piece_of : (first : ℕ) (pieces : List Piece) (past : ℕ) → AreCut first pieces past → (i : ℕ) → first ≤ i → i < past
    → (k : ℕ) × (piece : Piece) × (slice_get pieces k ≡ Some piece) × IsTrue (in_piece piece i)
piece_of first [] past cut i low high = absurd (omega (arith, cut, low, high))
piece_of first (p ∷ ps) past cut i low high = elim (cases_lt i p.past) [
  | inl here ↦ (0, p, refl, is_in p i (omega (arith, cut.0, low)) here)
  | inr later ↦ let rest = piece_of p.past ps past cut.2 i (omega (arith, later)) high in (suc rest.0, rest.1, rest.2, rest.3)
]

-- ---- the numbers of the pieces so far
-- where the pieces after the first k begin
abbrev pub reach : ℕ → ℕ → List Piece → ℕ
reach zero first pieces = first
reach (suc k) first [] = first
reach (suc k) first (p ∷ ps) = reach k p.past ps

pub reach_next : (k first : ℕ) (pieces : List Piece) (past : ℕ) → AreCut first pieces past → (piece : Piece) → slice_get pieces k ≡ Some piece
    → (piece.first ≡ reach k first pieces) × (piece.first ≤ piece.past) × (reach (suc k) first pieces ≡ piece.past)
reach_next k first [] past cut piece at = absurd (none-some piece at)
reach_next zero first (p ∷ ps) past cut piece at =
    let same : p ≡ piece = same_Some p piece at in
    subst (λ (q : Piece). (q.first ≡ first) × (q.first ≤ q.past) × (p.past ≡ q.past)) same (cut.0, omega (arith, cut.0, cut.1), refl)
reach_next (suc k) first (p ∷ ps) past cut piece at = reach_next k p.past ps past cut.2 piece at

pub reach_all : (k first : ℕ) (pieces : List Piece) (past : ℕ) → AreCut first pieces past → length pieces ≤ k → reach k first pieces ≡ past
reach_all zero first [] past cut all = cut
reach_all (suc k) first [] past cut all = cut
reach_all zero first (p ∷ ps) past cut all = absurd (omega (arith, all))
reach_all (suc k) first (p ∷ ps) past cut all = reach_all k p.past ps past cut.2 (omega (arith, all))

pub none_between : no_number ≡ between 0 0
none_between = fun_ext (λ i. none i)
  where
    none : (i : ℕ) → no_number i ≡ between 0 0 i
    none i = grind (arith, nat_tests)

pub one_piece_more : (e : ℕ) (piece : Piece) → piece.first ≡ e → piece.first ≤ piece.past → both_sets (between 0 e) (in_piece piece) ≡ between 0 piece.past
one_piece_more e piece same low = fun_ext (λ i. at e piece.first piece.past i same low)
  where
    at : (e first past i : ℕ) → first ≡ e → first ≤ past → ((leb 0 i && ltb i e) || (leb first i && ltb i past)) ≡ (leb 0 i && ltb i past)
    at e first past i same low = grind (arith, nat_tests)

-- the numbers of the whole volume
pub every_number : (geo : Geometry) (past : ℕ) → past ≡ inode_count geo → HasEveryNumber geo (between 0 past)
every_number geo past same i number = and_from (leb 0 i) (ltb i past) (le-leb 0 i (omega arith)) (lt-ltb i past (let low = number_below geo i number in omega (arith, low, same)))

-- ---- a loop over the numbers of a piece, from its first on
pub piece_none : (first i : ℕ) → between first first i ≡ false
piece_none first i = grind (arith, nat_tests)

pub piece_more : (first k i : ℕ) → first ≤ k → (between first k i || eqb i k) ≡ between first (k + 1) i
piece_more first k i low = grind (arith, nat_tests)

pub piece_same : (first k i : ℕ) → (i ≡ k → ⊥) → between first k i ≡ between first (k + 1) i
piece_same first k i apart = grind (arith, nat_tests)

-- it ends at the piece's end, or where it began
pub piece_whole : (piece : Piece) (k : ℕ) → piece.past ≤ k → (k ≤ piece.past) ⊎ (k ≡ piece.first) → (i : ℕ) → between piece.first k i ≡ in_piece piece i
piece_whole piece k low (inl high) i = ap (λ (n : ℕ). between piece.first n i) (omega (arith, low, high))
piece_whole piece k low (inr same) i = neither piece.first k piece.past i low same
  where
    neither : (first k past i : ℕ) → past ≤ k → k ≡ first → (leb first i && ltb i k) ≡ (leb first i && ltb i past)
    neither first k past i low same = grind (arith, nat_tests)
