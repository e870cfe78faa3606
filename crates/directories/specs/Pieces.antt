-- Sets of inode numbers, pieces of them that follow one another, and tables of the directories among them.
use Rattle.std.specs.Prelude.{◌≡◌, ℕ, ◌≤◌, Bool, false, ◌&&◌, ◌||◌, nat_le, nat_lt, List, [], ◌∷◌, length, Some, slice_get, IsTrue}
use Rattle.model.specs.Layout.{Geometry, is_number}
use Rattle.model.specs.View.{View}
use Rattle.model.specs.Uses.{is_directory_at}
use Rattle.model.proofs.Tables.{IsTableOf}
use Rattle.directories.specs.declared.cutting.Piece.{Piece}

-- a set of inode numbers, by the test of its members
abbrev pub Numbers : Type 0
Numbers = ℕ → Bool

-- no number, and the numbers of two sets
abbrev pub no_number : Numbers
no_number i = false

abbrev pub both_sets : Numbers → Numbers → Numbers
both_sets numbers others i = numbers i || others i

-- the numbers from one on and below another
abbrev pub between : ℕ → ℕ → Numbers
between first past i = nat_le first i && nat_lt i past

-- the numbers of a piece
abbrev pub in_piece : Piece → Numbers
in_piece piece = between piece.first piece.past

-- the set has every number of the volume that is given out
abbrev pub HasEveryNumber : Geometry → Numbers → Type 0
HasEveryNumber geo numbers = (i : ℕ) → IsTrue (is_number geo i) → IsTrue (numbers i)

-- Pieces follow one another from `first` on, and the last ends below `past`.
abbrev pub AreCut : ℕ → List Piece → ℕ → Type 0
AreCut first [] past = first ≡ past
AreCut first (piece ∷ pieces) past = (piece.first ≡ first) × (first ≤ piece.past) × AreCut piece.past pieces past

-- These are the parts of pieces of all numbers below `past`, in order, where `is_part` says what the part of some numbers is.
pub record AreOfPieces {P : Type 0} (is_part : Numbers → P → Type 0) (past : ℕ) (parts : List P) : Type 0 where
  pub pieces : List Piece
  pub cut : AreCut 0 pieces past
  pub count : length parts ≡ length pieces
  pub each : (k : ℕ) (piece : Piece) (part : P) → slice_get pieces k ≡ Some piece → slice_get parts k ≡ Some part → is_part (in_piece piece) part

-- whether the number is that of a sound directory, and one of the set
abbrev pub is_directory_among : Geometry → View → Numbers → ℕ → Bool
is_directory_among geo view numbers d = is_directory_at geo view d && numbers d

-- In order of their numbers, each sound directory of the set, and nothing else, has a value, and Is says of each what it is.
abbrev pub IsTable : {V : Type 0} → Geometry → View → (ℕ → V → Type 0) → Numbers → List (ℕ × V) → Type 0
IsTable geo view Is numbers table = IsTableOf Is (is_directory_among geo view numbers) table
