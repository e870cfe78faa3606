-- What is cut off is the first part, and what stands behind it has the others.
use Rattle.std.proofs.Common.{◌∷◌, [], ℕ, List, Option, Bor, sym, ap, ◌∙◌}
use Rattle.std.specs.Option.{option_map_or}
use Rattle.live_paths.specs.Parts.{pieces}
use Rattle.live_paths.proofs.PartLemmas.{first_part, rest_good, rest_is, split_parts}
use Rattle.live_paths.proofs.path.Path.split_first.Goals as goal

-- the pieces behind the first one
abbrev behind : Option (Bor (List ℕ)) → List (List ℕ)
behind o = option_map_or (λ rest. pieces rest.now) o []

pub invariant_of-result : goal.invariant_of-result
invariant_of-result c =
    rest_good c.self.inside.tail.now c.split_first_piece.result.0.now (behind c.split_first_piece.result.1) (sym c.is_empty.ensures ∙ c.if-is_empty.false) c.split_first_piece.ensures.pieces
    c.self.invariant c.in-Some.tail.now (ap behind c.in-Some.is)

pub returns-in-Some-clause-parts : goal.returns-in-Some-clause-parts
returns-in-Some-clause-parts c =
    let tail = c.self.inside.tail.now in
    let first = c.split_first_piece.result.0.now in
    let rest = behind c.split_first_piece.result.1 in
    let some = sym c.is_empty.ensures ∙ c.if-is_empty.false in
    sym c.self.view_is ∙ split_parts tail first rest some c.split_first_piece.ensures.pieces
    ∙ ap (λ (ps : List (List ℕ)). first ∷ ps) (rest_is tail first rest some c.split_first_piece.ensures.pieces c.self.invariant c.in-Some.tail.now (ap behind c.in-Some.is))

pub returns-in-Some-clause-part : goal.returns-in-Some-clause-part
returns-in-Some-clause-part c =
    first_part c.self.inside.tail.now c.split_first_piece.result.0.now (behind c.split_first_piece.result.1) (sym c.is_empty.ensures ∙ c.if-is_empty.false) c.split_first_piece.ensures.pieces c.self.invariant

pub returns-in-None-clause-parts : goal.returns-in-None-clause-parts
returns-in-None-clause-parts c =
    sym c.self.view_is ∙ split_parts c.self.inside.tail.now c.split_first_piece.result.0.now (behind c.split_first_piece.result.1) (sym c.is_empty.ensures ∙ c.if-is_empty.false) c.split_first_piece.ensures.pieces
    ∙ ap (λ (o : Option (Bor (List ℕ))). c.split_first_piece.result.0.now ∷ behind o) c.in-None.is

pub returns-in-None-clause-part : goal.returns-in-None-clause-part
returns-in-None-clause-part c =
    first_part c.self.inside.tail.now c.split_first_piece.result.0.now (behind c.split_first_piece.result.1) (sym c.is_empty.ensures ∙ c.if-is_empty.false) c.split_first_piece.ensures.pieces c.self.invariant
