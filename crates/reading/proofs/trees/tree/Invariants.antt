use Rattle.std.proofs.Common.{List, ℕ}
use Rattle.std.specs.List.{All}
use Rattle.frozen.specs.Kept.{IsKeptOf}
use Rattle.model.specs.Image.{image_view}
use Rattle.reading.specs.Trees.{IsListing}
use Rattle.reading.proofs.trees.tree.Given as goal

abbrev pub invariant-loop-turn : goal.invariant-loop-turn
invariant-loop-turn l = (image : List (List ℕ)) → IsKeptOf l.fn.frozen image → All (IsListing l.fn.frozen.geometry (image_view l.fn.frozen.geometry image)) l.listings.items
