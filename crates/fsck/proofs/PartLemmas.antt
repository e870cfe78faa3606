-- The parts of a phase, as workers make them and as they are merged.
use Rattle.std.proofs.Common.{◌≡◌, ◌<◌, ℕ, zero, suc, Result, Vec, List, [], ◌∷◌, ◌++◌, length, map, None, Some, slice_get, refl, sym, ap, ◌∙◌, subst, All, arith, length-append}
use Rattle.std.specs.declared.alloc.Global.{Global}
use Rattle.std.proofs.lemmas.List.{length-map, length_push}
use Rattle.std.proofs.lemmas.Option.{none-some, same_Some, slice_get_within}
use Rattle.std.proofs.lemmas.Result.{IfOk-weaker}
use Rattle.std.proofs.lemmas.List.Elements.{All-push}
use Rattle.layout.specs.declared.refusal.Refusal.{Refusal}
use Rattle.findings.specs.Groups.{IsEach}
use Rattle.model.specs.Layout.{Geometry, inode_count}
use Rattle.directories.specs.declared.cutting.Piece.{Piece}
use Rattle.directories.specs.Pieces.{AreCut, AreOfPieces, HasEveryNumber, Numbers, between, both_sets, in_piece}
use Rattle.directories.proofs.PieceLemmas.{every_number, one_piece_more, reach, reach_all, reach_next}
use Rattle.findings.proofs.JoinLemmas.{stands_at}
use Rattle.workers.specs.Turns.{AreDone}
use Rattle.workers.proofs.EveryPart.{every_part}
use Rattle.fsck.specs.Parts.{IsOfPiece, MakesItsOwn, MakesParts, MakesPieces}

-- what workers that are alike, and stay so, have made of all groups
pub made_alike : {W P : Type 0} (gives : W → ℕ → P → W → Type 0) (is_of : W → ℕ → P → Type 0) (work : W)
    → MakesItsOwn gives is_of
    → (units groups : ℕ) → units ≡ groups → {befores : List W} {parts : List P} {afters : List W}
    → All (λ one. one ≡ work) befores → AreDone gives units befores parts afters → IsEach (is_of work) groups parts
made_alike {W} {P} gives is_of work makes units groups same alike done = record {
  count = done.count ∙ same;
  each = every_part (λ one. one ≡ work) (λ unit part. is_of work unit part)
      (λ before unit part after like gave.
      let made = makes before unit part after gave in (subst (λ (one : W). is_of one unit part) like made.0, made.1 ∙ like))
      alike done;
}

-- and what one worker has made of them
pub made_alone : {W P : Type 0} (gives : W → ℕ → P → W → Type 0) (is_of : W → ℕ → P → Type 0) (work : W)
    → MakesItsOwn gives is_of
    → (units groups : ℕ) → units ≡ groups → {parts : List P} {after : W}
    → AreDone gives units (work ∷ []) parts (after ∷ []) → IsEach (is_of work) groups parts
made_alone gives is_of work makes units groups same done =
    made_alike gives is_of work makes units groups same (All-push (λ one. one ≡ work) [] work (λ _ _ none. absurd (omega arith)) refl) done

-- what was made of each unit that is a group
pub each_of_groups : {P : Type 0} (is_of wanted : ℕ → P → Type 0) (groups : ℕ) (parts : List P)
    → ((unit : ℕ) (part : P) → unit < groups → is_of unit part → wanted unit part) → IsEach is_of groups parts → IsEach wanted groups parts
each_of_groups {P} is_of wanted groups parts told each = record {
  count = each.count;
  each = λ unit part at. told unit part (subst (λ (n : ℕ). unit < n) each.count (place_low parts unit part at)) (each.each unit part at);
}
  where
    place_low : (xs : List P) (i : ℕ) (x : P) → slice_get xs i ≡ Some x → i < length xs
    place_low [] i x at = absurd (none-some x at)
    place_low (y ∷ xs) zero x at = omega arith
    place_low (y ∷ xs) (suc i) x at = let low = place_low xs i x at in omega (arith, low)

pub made_of_groups : {P : Type 0} (is_of wanted : ℕ → P → Type 0) (groups : ℕ) (result : Result (Vec P Global) Refusal)
    → ((unit : ℕ) (part : P) → unit < groups → is_of unit part → wanted unit part) → MakesParts is_of groups result → MakesParts wanted groups result
made_of_groups is_of wanted groups result told made = record {
  made = IfOk-weaker result (λ parts. IsEach is_of groups parts.items) (λ parts. IsEach wanted groups parts.items) (λ parts. each_of_groups is_of wanted groups parts.items told) made.made;
  error = made.error;
}

-- the same number of units
pub of_units : {P : Type 0} (is_of : ℕ → P → Type 0) (units groups : ℕ) (result : Result (Vec P Global) Refusal) → units ≡ groups → MakesParts is_of units result → MakesParts is_of groups result
of_units is_of units groups result same made = subst (λ (n : ℕ). MakesParts is_of n result) same made

-- and what is kept of each
pub each_kept : {X Y : Type 0} (f : X → Y) (wanted : ℕ → Y → Type 0) (groups : ℕ) (xs : List X) → IsEach (λ unit x. wanted unit (f x)) groups xs → IsEach wanted groups (map f xs)
each_kept {X} {Y} f wanted groups xs each = record {
  count = length-map xs f ∙ each.count;
  each = λ unit y at. let from = from_map xs unit y at in subst (wanted unit) from.2 (each.each unit from.0 from.1);
}
  where
    from_map : (xs : List X) (i : ℕ) (y : Y) → slice_get (map f xs) i ≡ Some y → (x : X) × (slice_get xs i ≡ Some x) × (f x ≡ y)
    from_map [] i y at = absurd (none-some y at)
    from_map (x ∷ xs) zero y at = (x, refl, same_Some (f x) y at)
    from_map (x ∷ xs) (suc i) y at = from_map xs i y at

-- ---- the parts of pieces
-- the part of the piece that stands at its unit, and any part where none stands there
pub of_piece : {P : Type 0} (is_part : Numbers → P → Type 0) (pieces : List Piece) (unit : ℕ) (here : Piece) (part : P) → slice_get pieces unit ≡ Some here → is_part (in_piece here) part
    → IsOfPiece is_part pieces unit part
of_piece is_part pieces unit here part at is piece other = subst (λ (p : Piece). is_part (in_piece p) part) (same_Some here piece (sym at ∙ other)) is

pub of_no_piece : {P : Type 0} (is_part : Numbers → P → Type 0) (pieces : List Piece) (unit : ℕ) (part : P) → slice_get pieces unit ≡ None → IsOfPiece is_part pieces unit part
of_no_piece is_part pieces unit part none piece at = absurd (none-some piece (sym none ∙ at))

-- each unit's part is of its piece
pub of_pieces : {P : Type 0} (is_part : Numbers → P → Type 0) (past : ℕ) (pieces : List Piece) (parts : List P) → AreCut 0 pieces past
    → IsEach (IsOfPiece is_part pieces) (length pieces) parts → AreOfPieces is_part past parts
of_pieces is_part past pieces parts cut each = record { pieces = pieces; cut = cut; count = each.count; each = λ k piece part a b. each.each k part b piece a }

pub made_of_pieces : {P : Type 0} (is_part : Numbers → P → Type 0) (geo : Geometry) (pieces : List Piece) (result : Result (Vec P Global) Refusal) → AreCut 0 pieces (inode_count geo)
    → MakesParts (IsOfPiece is_part pieces) (length pieces) result → MakesPieces is_part geo result
made_of_pieces {P} is_part geo pieces result cut made = record {
  made = IfOk-weaker result (λ parts. IsEach (IsOfPiece is_part pieces) (length pieces) parts.items) (λ parts. AreOfPieces is_part (inode_count geo) parts.items)
      (λ parts each. of_pieces is_part (inode_count geo) pieces parts.items cut each) made.made;
  error = made.error;
}

-- the part of the piece that comes next
after_taken : {P : Type 0} (taken : List P) (part : P) (rest : List P) → slice_get (taken ++ part ∷ rest) (length taken) ≡ Some part
after_taken [] part rest = refl
after_taken (p ∷ taken) part rest = after_taken taken part rest

-- the parts of the pieces before have been joined, so this is the part of their numbers
abbrev pub joined_so_far : {P : Type 0} (is_part : Numbers → P → Type 0) → List Piece → ℕ → P → Type 0
joined_so_far is_part pieces n whole = is_part (between 0 (reach n 0 pieces)) whole

-- with that part, those of one piece more are joined
pub one_more : {P : Type 0} (is_part : Numbers → P → Type 0) (past : ℕ) (parts taken : List P) (part : P) (rest : List P) (whole more : P) (are : AreOfPieces is_part past parts)
    → taken ++ part ∷ rest ≡ parts → joined_so_far is_part are.pieces (length taken) whole
    → ((numbers others : Numbers) → is_part numbers whole → is_part others part → is_part (both_sets numbers others) more)
    → joined_so_far is_part are.pieces (length (taken ++ part ∷ [])) more
one_more is_part past parts taken part rest whole more are all told merged =
    let k = length taken in
    let at : slice_get parts k ≡ Some part = subst (λ ps. slice_get ps k ≡ Some part) all (after_taken taken part rest) in
    let piece = stands_at are.pieces k (subst (λ (n : ℕ). k < n) are.count (slice_get_within parts k part at)) in
    let next = reach_next k 0 are.pieces past are.cut piece.0 piece.1 in
    let longer : suc k ≡ length (taken ++ part ∷ []) = omega (arith, length_push taken part) in
    subst (λ (n : ℕ). joined_so_far is_part are.pieces n more) longer
    (subst (λ (e : ℕ). is_part (between 0 e) more) (sym next.2)
    (subst (λ (numbers : Numbers). is_part numbers more) (one_piece_more (reach k 0 are.pieces) piece.0 next.0 next.1)
    (merged (between 0 (reach k 0 are.pieces)) (in_piece piece.0) told (are.each k piece.0 part piece.1 at))))

-- and in the end those of every number
pub all_taken : {P : Type 0} (is_part : Numbers → P → Type 0) (geo : Geometry) (parts taken rest : List P) (are : AreOfPieces is_part (inode_count geo) parts) → taken ++ rest ≡ parts → length rest ≡ 0
    → HasEveryNumber geo (between 0 (reach (length taken) 0 are.pieces))
all_taken is_part geo parts taken rest are all none =
    every_number geo (reach (length taken) 0 are.pieces)
    (reach_all (length taken) 0 are.pieces (inode_count geo) are.cut (omega (arith, are.count, ap length all, length-append taken rest, none)))
