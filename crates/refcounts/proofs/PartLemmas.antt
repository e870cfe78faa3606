-- The lists of a part grow.
use Rattle.std.proofs.Common.{◌≡◌, ◌<◌, ◌≤◌, ◌+◌, ◌/◌, ℕ, zero, suc, Bool, true, false, cond, ◌&&◌, eqb, List, [], ◌∷◌, ◌++◌, length, map, All, take, get_or, ◌⊎◌, inl, inr, refl, sym, ap, ◌∙◌, subst, arith, IsTrue}
use Rattle.std.proofs.lemmas.Bool.{and_from, and_parts, cases_Bool, cases_eq, ne_eqb}
use Rattle.std.proofs.lemmas.Bool.Decides.{nat_tests}
use Rattle.std.proofs.Math.Seq.{take-suc}
use Rattle.std.specs.declared.vec.Vec.{Vec}
use Rattle.std.specs.declared.alloc.Global.{Global}
use Rattle.model.specs.Layout.{Geometry, IsGeometry, is_number}
use Rattle.model.specs.Named.{named_from, times}
use Rattle.model.specs.Reach.{entries_in, entries_of}
use Rattle.model.specs.Uses.{is_directory_at}
use Rattle.model.specs.View.{View}
use Rattle.model.proofs.Addresses.{number_in_group}
use Rattle.model.proofs.Counting.{times-append, times_are_entries}
use Rattle.model.proofs.SlotLemmas.{directory_number, number_low, number_below}
use Rattle.directories.specs.declared.cutting.Piece.{Piece}
use Rattle.directories.specs.Pieces.{between, in_piece}
use Rattle.directories.proofs.PieceLemmas.{piece_none, piece_same, piece_whole}
use Rattle.sets.specs.Members.{is_among}
use Rattle.refcounts.specs.Parts.{Grow, IsPart, Name, Reads, is_read, numbers_at}
use Rattle.refcounts.proofs.SetLemmas.{no_set, one_more, same_sets}

-- 1 for a yes
abbrev pub once : Bool → ℕ
once b = cond b 1 0

pub times_one : (i n : ℕ) → times i (n ∷ []) ≡ once (eqb n i)
unfolding times
times_one i n = omega arith

-- one number more
pub times_next : (i k : ℕ) (numbers : List ℕ) → k < length numbers → times i (take (k + 1) numbers) ≡ times i (take k numbers) + once (eqb (get_or numbers k 0) i)
times_next i k numbers low =
    ap (λ n. times i (take n numbers)) next ∙ ap (times i) (take-suc numbers k 0 low)
    ∙ times-append i (take k numbers) (get_or numbers k 0 ∷ []) ∙ ap (λ n. times i (take k numbers) + n) (times_one i (get_or numbers k 0))
  where
    next : k + 1 ≡ suc k
    next = omega arith

pub all_empty : (lists : List (Vec ℕ Global)) → All (λ v. v.items ≡ []) lists → (g : ℕ) → numbers_at (map (λ v. v.items) lists) g ≡ []
all_empty [] all g = refl
all_empty (v ∷ vs) all zero = all 0 v (omega arith)
all_empty (v ∷ vs) all (suc g) = all_empty vs (λ k d low. all (suc k) d (omega (arith, low))) g

pub grow_none : (geo : Geometry) (old : List (List ℕ)) → Grow geo [] old old
unfolding times
grow_none geo old i low = omega arith

-- a number is added to the list of its group
pub grow_more : (geo : Geometry) (numbers : List ℕ) (k n : ℕ) (old mid new : List (List ℕ)) → n ≡ get_or numbers k 0 → k < length numbers → length mid ≡ length old
    → Grow geo (take k numbers) old mid
    → (n / geo.inodes < length mid → numbers_at new (n / geo.inodes) ≡ numbers_at mid (n / geo.inodes) ++ n ∷ [])
    → ((g : ℕ) → (g ≡ n / geo.inodes → ⊥) → numbers_at new g ≡ numbers_at mid g)
    → Grow geo (take (k + 1) numbers) old new
grow_more geo numbers k n old mid new at low same before own others i inside =
    let next : times i (take (k + 1) numbers) ≡ times i (take k numbers) + once (eqb n i) = subst (λ m. times i (take (k + 1) numbers) ≡ times i (take k numbers) + once (eqb m i)) (sym at) (times_next i k numbers low) in
    let was = before i inside in
    elim (cases_eq (i / geo.inodes) (n / geo.inodes)) [
      | inl e ↦
          let list : numbers_at new (i / geo.inodes) ≡ numbers_at mid (i / geo.inodes) ++ n ∷ [] =
          subst (λ g. numbers_at new g ≡ numbers_at mid g ++ n ∷ []) (sym e) (own (subst (λ g. g < length mid) e (omega (arith, inside, same)))) in
          let added : times i (numbers_at new (i / geo.inodes)) ≡ times i (numbers_at mid (i / geo.inodes)) + once (eqb n i) =
          ap (times i) list ∙ times-append i (numbers_at mid (i / geo.inodes)) (n ∷ []) ∙ ap (λ t. times i (numbers_at mid (i / geo.inodes)) + t) (times_one i n) in
          omega (arith, added, next, was)
      | inr d ↦
          let added : times i (numbers_at new (i / geo.inodes)) ≡ times i (numbers_at mid (i / geo.inodes)) = ap (times i) (others (i / geo.inodes) d) in
          let apart : once (eqb n i) ≡ 0 = ap once (ne_eqb n i (λ e. d (ap (λ m. m / geo.inodes) (sym e)))) in
          omega (arith, added, apart, next, was)
    ]

-- what is read of a directory, and of a number that is not read
pub reads_all : (geo : Geometry) (view : View) (reached : List ℕ) (d : ℕ) (numbers : List ℕ) (old new : List (List ℕ)) → is_among reached d ≡ true → is_directory_at geo view d ≡ true
    → numbers ≡ named_from geo view 0 d → Grow geo numbers old new → Reads geo view reached d old new
reads_all geo view reached d numbers old new among is named grown i some inside =
    grown i inside
    ∙ ap (λ n. times i (numbers_at old (i / geo.inodes)) + n)
    (ap (times i) named ∙ times_are_entries geo view i d some ∙ ap (λ b. cond b (entries_in geo view i d) 0) (sym (and_from (is_among reached d) (is_directory_at geo view d) among is)))

pub reads_none : (geo : Geometry) (view : View) (reached : List ℕ) (d : ℕ) (lists : List (List ℕ)) → is_read geo view reached d ≡ false → Reads geo view reached d lists lists
reads_none geo view reached d lists none i some inside = sym (nothing (times i (numbers_at lists (i / geo.inodes))) (cond (is_read geo view reached d) (entries_in geo view i d) 0) (ap (λ b. cond b (entries_in geo view i d) 0) none))
  where
    nothing : (a b : ℕ) → b ≡ 0 → a + b ≡ a
    nothing a b e = omega (arith, e)

-- ---- one directory of a piece after another
-- those from the first number on and below n that are read
abbrev pub below : Geometry → View → List ℕ → ℕ → ℕ → ℕ → Bool
below geo view reached first n d = between first n d && is_read geo view reached d

module _ (geo : Geometry) (ok : IsGeometry geo) (view : View) (reached : List ℕ) where
  -- before the first
  pub name_first : (first : ℕ) (lists : List (List ℕ)) → ((g : ℕ) → numbers_at lists g ≡ []) → Name geo view (below geo view reached first first) lists
  unfolding times
  name_first first lists none i number =
      ap (times i) (none (i / geo.inodes))
      ∙ sym (no_set geo view i (below geo view reached first first) (λ d low. ap (λ b. b && is_read geo view reached d) (piece_none first d)))

  -- one number more
  pub name_next : (first n : ℕ) (old new : List (List ℕ)) → first ≤ n → length old ≡ geo.groups → Reads geo view reached n old new → Name geo view (below geo view reached first n) old
      → Name geo view (below geo view reached first (n + 1)) new
  name_next first n old new low groups reads before i of =
      reads i (omega (arith, number_low geo i of)) (omega (arith, groups, number_in_group geo ok i of))
      ∙ ap (λ t. t + cond (is_read geo view reached n) (entries_in geo view i n) 0) (before i of)
      ∙ elim (cases_Bool (is_read geo view reached n)) [
        | inl t ↦
            ap (λ b. entries_of geo view (below geo view reached first n) i + cond b (entries_in geo view i n) 0) (sym now)
            ∙ sym (one_more geo view i (below geo view reached first n) (below geo view reached first (n + 1)) n (number_below geo n (read_number n t)) was (λ e differs. others e differs))
        | inr f ↦
            ap (λ b. entries_of geo view (below geo view reached first n) i + cond b (entries_in geo view i n) 0) f ∙ nothing (entries_of geo view (below geo view reached first n) i)
            ∙ same_sets geo view i (below geo view reached first n) (below geo view reached first (n + 1)) (λ e _. all_same f e)
      ]
    where
      nothing : (a : ℕ) → a + 0 ≡ a
      nothing a = omega arith

      read_number : (d : ℕ) → is_read geo view reached d ≡ true → IsTrue (is_number geo d)
      read_number d h = directory_number geo view d (and_parts (is_among reached d) (is_directory_at geo view d) h).1

      now : below geo view reached first (n + 1) n ≡ is_read geo view reached n
      now = ap (λ b. b && is_read geo view reached n) (here first n low)
        where
          here : (first n : ℕ) → first ≤ n → between first (n + 1) n ≡ true
          here first n low = grind (arith, nat_tests)

      was : below geo view reached first n n ≡ false
      was = ap (λ b. b && is_read geo view reached n) (not_yet first n)
        where
          not_yet : (first n : ℕ) → between first n n ≡ false
          not_yet first n = grind (arith, nat_tests)

      others : (e : ℕ) → (e ≡ n → ⊥) → below geo view reached first n e ≡ below geo view reached first (n + 1) e
      others e differs = ap (λ b. b && is_read geo view reached e) (piece_same first n e differs)

      and_no : (p r : Bool) → r ≡ false → (p && r) ≡ false
      and_no true r f = f
      and_no false r f = refl

      all_same : is_read geo view reached n ≡ false → (e : ℕ) → below geo view reached first n e ≡ below geo view reached first (n + 1) e
      all_same f e = elim (cases_eq e n) [
        | inl same ↦ (let g : is_read geo view reached e ≡ false = ap (is_read geo view reached) same ∙ f in
            and_no (between first n e) (is_read geo view reached e) g ∙ sym (and_no (between first (n + 1) e) (is_read geo view reached e) g))
        | inr differs ↦ others e differs
      ]

  -- all numbers of the piece
  pub name_all : (piece : Piece) (n : ℕ) (lists : List (List ℕ)) → piece.past ≤ n → (n ≤ piece.past) ⊎ (n ≡ piece.first) → Name geo view (below geo view reached piece.first n) lists
      → IsPart geo view reached (in_piece piece) lists
  name_all piece n lists low ends named i number =
      named i number
      ∙ same_sets geo view i (below geo view reached piece.first n) (λ d. in_piece piece d && is_read geo view reached d)
      (λ d _. ap (λ b. b && is_read geo view reached d) (piece_whole piece n low ends d))
