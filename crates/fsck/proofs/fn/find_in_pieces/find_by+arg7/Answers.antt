use Rattle.std.proofs.Common.{List, Option, subst}
use Rattle.phase_blocks.specs.declared.parts.Claim.{Claim}
use Rattle.fsck.specs.Parts.{MakesParts, are_maps_of}
use Rattle.fsck.proofs.fn.find_in_pieces.find_by+arg7.Goals as goal

pub returns : goal.returns
returns g c =
    let kept = c.captures.frozen.now in
    subst (λ (owners : List (List (Option Claim))). MakesParts (λ unit found. are_maps_of kept owners unit found.items) kept.geometry.groups c.maps_by_crew.result) c.as_slice.ensures.value c.maps_by_crew.ensures
