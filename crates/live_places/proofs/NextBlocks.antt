-- Blocks that are the next ones from an address on, each behind the one before.
use Rattle.std.proofs.Common.{◌≡◌, ◌<◌, ◌+◌, ℕ, List, [], ◌∷◌, length, arith}
use Rattle.model.specs.Layout.{Geometry}
use Rattle.model.specs.View.{View}
use Rattle.model.specs.Shape.{new_tables}
use Rattle.metadata.specs.Free.{IsNextBlock}
use Rattle.plans_data.specs.Append.{AreApart, IsNoneOf}
use Rattle.plans_data.specs.Plans.{AllFree, IsChoice}
use Rattle.live_places.specs.Chosen.{AreNextBlocks}

module _ (geo : Geometry) (view : View) where
  -- an address before them is none of them
  pub next_others : (from a : ℕ) (xs : List ℕ) → a < from → AreNextBlocks geo view from xs → IsNoneOf a xs
  next_others from a [] low next = tt
  next_others from a (x ∷ xs) low next = ((λ e. omega (arith, low, next.0.above, e)), next_others (x + 1) a xs (omega (arith, low, next.0.above)) next.1)

  next_free : (from : ℕ) (xs : List ℕ) → AreNextBlocks geo view from xs → AllFree geo view xs
  next_free from [] next = tt
  next_free from (x ∷ xs) next = (next.0.free, next_free (x + 1) xs next.1)

  next_apart : (from : ℕ) (xs : List ℕ) → AreNextBlocks geo view from xs → AreApart xs
  next_apart from [] next = tt
  next_apart from (x ∷ xs) next = (next_others (x + 1) x xs (omega arith) next.1, next_apart (x + 1) xs next.1)

  -- the next block and the next ones behind it may be chosen for block k, if they are as many as come with it
  pub next_choice : (from k b : ℕ) (tables : List ℕ) → IsNextBlock geo view from b → length tables ≡ length (new_tables geo k) → AreNextBlocks geo view (b + 1) tables → IsChoice geo view k b tables
  next_choice from k b tables first many next = record {
    free = first.free;
    many = many;
    tables = next_free (b + 1) tables next;
    apart = next_apart from (b ∷ tables) (first, next);
  }
