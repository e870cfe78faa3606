use Rattle.std.proofs.Common.{List, ℕ, ◌∷◌, [], None, Option, ap, ◌∙◌, Bor}
use Rattle.std.specs.List.{last_or}
use Rattle.std.specs.Option.{option_map_or}
use Rattle.live_paths.specs.Parts.{pieces}
use Rattle.live_paths.proofs.PartLemmas.{last_more}
use Rattle.live_paths.proofs.path.last_piece.Goals as goal

pub pieces-preserved : goal.pieces-preserved
pieces-preserved c =
    let piece = c.split_first_piece.result.0.now in
    c.pieces.invariant
    ∙ ap (last_or None) (c.split_first_piece.ensures.pieces ∙ ap (λ (o : Option (Bor (List ℕ))). piece ∷ option_map_or (λ rest. pieces rest.now) o []) c.in-Some.is)
    ∙ last_more c.in-Some.after.now piece
