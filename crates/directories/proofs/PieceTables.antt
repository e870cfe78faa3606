-- Tables of the directories among some inode numbers: of no number, of two sets, of a piece, and that there is one table only.
use Rattle.std.proofs.Common.{◌≡◌, ◌≤◌, ◌+◌, ℕ, Bool, true, false, ◌&&◌, ◌||◌, eqb, List, [], ◌⊎◌, inl, inr, refl, sym, ap, ◌∙◌, subst, IsTrue, IsFalse}
use Rattle.std.specs.List.Sorted.{IsStrictlySortedBy}
use Rattle.std.specs.Map.{keys_of}
use Rattle.std.specs.Ordering.{nat_cmp}
use Rattle.std.proofs.lemmas.Bool.{and_parts, cases_Bool, cases_eq, eqb-true, false≢true}
use Rattle.model.specs.Layout.{Geometry, is_number}
use Rattle.model.specs.View.{View}
use Rattle.model.specs.Uses.{is_directory_at}
use Rattle.model.specs.Tables.{Puts}
use Rattle.model.proofs.SlotLemmas.{directory_number}
use Rattle.model.proofs.Tables.{Joins, table_both, table_more, table_none, table_once, table_same}
use Rattle.directories.specs.declared.cutting.Piece.{Piece}
use Rattle.directories.specs.Pieces.{IsTable, Numbers, between, both_sets, in_piece, is_directory_among, no_number}
use Rattle.directories.proofs.PieceLemmas.{piece_more, piece_none, piece_same, piece_whole}

module _ {V : Type 0} (geo : Geometry) (view : View) (Is : ℕ → V → Type 0) where
  -- the table of no number
  pub no_numbers : (table : List (ℕ × V)) → table ≡ [] → IsStrictlySortedBy nat_cmp (keys_of table) → IsTable geo view Is no_number table
  no_numbers table e sorted =
      table_none Is (is_directory_among geo view no_number) table e sorted (λ d t. false≢true (and_parts (is_directory_at geo view d) false t).1)

  -- the table of the numbers of both
  pub both_numbers : (numbers others : Numbers) (left right whole : List (ℕ × V)) → Joins left right whole → IsTable geo view Is numbers left → IsTable geo view Is others right
      → IsTable geo view Is (both_sets numbers others) whole
  both_numbers numbers others left right whole joins h k =
      table_same Is (λ d. is_directory_among geo view numbers d || is_directory_among geo view others d) (is_directory_among geo view (both_sets numbers others)) whole
      (λ d. spread (is_directory_at geo view d) (numbers d) (others d))
      (table_both Is (is_directory_among geo view numbers) (is_directory_among geo view others) left right whole joins h k)
    where
      spread : (x y z : Bool) → (x && y || x && z) ≡ (x && (y || z))
      spread true y z = refl
      spread false y z = refl

  -- the same table, of numbers that are given out as these are
  pub same_numbers : (numbers others : Numbers) (table : List (ℕ × V)) → ((i : ℕ) → IsTrue (is_number geo i) → numbers i ≡ others i)
      → IsTable geo view Is numbers table → IsTable geo view Is others table
  same_numbers numbers others table same h = table_same Is (is_directory_among geo view numbers) (is_directory_among geo view others) table same_set h
    where
      same_set : (d : ℕ) → is_directory_among geo view numbers d ≡ is_directory_among geo view others d
      same_set d = elim (cases_Bool (is_directory_at geo view d)) [
        | inl t ↦ ap (λ b. is_directory_at geo view d && b) (same d (directory_number geo view d t))
        | inr f ↦ ap (λ b. b && numbers d) f ∙ sym (ap (λ b. b && others d) f)
      ]

  -- the numbers of the volume decide the table
  pub numbers_once : ((d : ℕ) (x y : V) → Is d x → Is d y → x ≡ y) → (numbers others : Numbers) (left right : List (ℕ × V))
      → ((i : ℕ) → IsTrue (is_number geo i) → numbers i ≡ others i) → IsTable geo view Is numbers left → IsTable geo view Is others right → left ≡ right
  numbers_once unique numbers others left right same h k = table_once Is unique (is_directory_among geo view others) left right (same_numbers numbers others left same h) k

  -- ---- the numbers from the first one on, one after another
  pub from_first : (first : ℕ) (table : List (ℕ × V)) → table ≡ [] → IsStrictlySortedBy nat_cmp (keys_of table) → IsTable geo view Is (between first first) table
  from_first first table e sorted =
      table_none Is (is_directory_among geo view (between first first)) table e sorted
      (λ d t. false≢true (sym (piece_none first d) ∙ (and_parts (is_directory_at geo view d) (between first first d) t).1))

  -- one directory more
  pub directory_more : (first k next : ℕ) (value : V) (old new : List (ℕ × V)) → next ≡ k + 1 → first ≤ k → IsTrue (is_directory_at geo view k) → Is k value → Puts k value old new
      → IsTable geo view Is (between first k) old → IsTable geo view Is (between first next) new
  directory_more first k next value old new step low dir is puts h =
      subst (λ n. IsTable geo view Is (between first n) new) (sym step)
      (table_same Is (λ d. is_directory_among geo view (between first k) d || eqb d k) (is_directory_among geo view (between first (k + 1))) new
      (λ d. one_more d)
      (table_more Is (is_directory_among geo view (between first k)) k value old new is puts h))
    where
      with_one : (p b c e : Bool) → (e ≡ true → p ≡ true) → (b || e) ≡ c → ((p && b) || e) ≡ (p && c)
      with_one true b c e h same = same
      with_one false b c true h same = absurd (false≢true (h refl))
      with_one false b c false h same = refl

      one_more : (d : ℕ) → (is_directory_among geo view (between first k) d || eqb d k) ≡ is_directory_among geo view (between first (k + 1)) d
      one_more d = with_one (is_directory_at geo view d) (between first k d) (between first (k + 1) d) (eqb d k)
          (λ e. ap (is_directory_at geo view) (eqb-true d k e) ∙ dir) (piece_more first k d low)

  -- a number that is no sound directory's
  pub other_more : (first k next : ℕ) (table : List (ℕ × V)) → next ≡ k + 1 → IsFalse (is_directory_at geo view k)
      → IsTable geo view Is (between first k) table → IsTable geo view Is (between first next) table
  other_more first k next table step none h =
      subst (λ n. IsTable geo view Is (between first n) table) (sym step)
      (table_same Is (is_directory_among geo view (between first k)) (is_directory_among geo view (between first (k + 1))) table (λ d. same d) h)
    where
      same : (d : ℕ) → is_directory_among geo view (between first k) d ≡ is_directory_among geo view (between first (k + 1)) d
      same d = elim (cases_eq d k) [
        | inl e ↦ (let f : is_directory_at geo view d ≡ false = ap (is_directory_at geo view) e ∙ none in
            ap (λ b. b && between first k d) f ∙ sym (ap (λ b. b && between first (k + 1) d) f))
        | inr apart ↦ ap (λ b. is_directory_at geo view d && b) (piece_same first k d apart)
      ]

  -- all numbers of the piece
  pub piece_table : (piece : Piece) (k : ℕ) (table : List (ℕ × V)) → piece.past ≤ k → (k ≤ piece.past) ⊎ (k ≡ piece.first)
      → IsTable geo view Is (between piece.first k) table → IsTable geo view Is (in_piece piece) table
  piece_table piece k table low ends h =
      table_same Is (is_directory_among geo view (between piece.first k)) (is_directory_among geo view (in_piece piece)) table
      (λ d. ap (λ b. is_directory_at geo view d && b) (piece_whole piece k low ends d)) h
