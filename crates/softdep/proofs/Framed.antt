-- What a flush leaves of the frame of an image: its superblock, and the magic and the number of each group's block of maps.
use Rattle.std.proofs.Common.{◌≡◌, ℕ, ◌+◌, ◌<◌, ◌≤◌, true, false, Bool, List, [], ◌∷◌, ◌++◌, inl, inr, sym, ap, ◌∙◌, subst, length, arith, slice_set, IsTrue}
use Rattle.std.specs.List.{All}
use Rattle.std.proofs.lemmas.Bool.{cases_eq}
use Rattle.std.proofs.lemmas.List.{length-set}
use Rattle.model.specs.Layout.{Geometry, group_block, is_data_address}
use Rattle.model.specs.Image.{IsBlock, IsSuper, IsGroupBlock, IsImage, block_at}
use Rattle.model.specs.Cells.{put_at}
use Rattle.model.proofs.Places.{put_here, put_there}
use Rattle.ordering.specs.Cuts.{Cell, Record, NumberBit, BlockBit, Block, Pending, cell_of}
use Rattle.queue_model.specs.Blocks.{home_of}
use Rattle.queue_model.specs.Entries.{Entry, Queue}
use Rattle.queue_model.proofs.Lists.{contains_head}
use Rattle.updates.specs.Places.{IsCell}
use Rattle.softdep_queue.specs.declared.table.Table.{Table}
use Rattle.softdep_queue.specs.Ties.{WereTaken}
use Rattle.softdep_queue.specs.Taking.{TakesAll}
use Rattle.softdep.proofs.Flushed.{block_written}
use Rattle.softdep.proofs.Puts.{AreOf}

one_more : (x : ℕ) → 1 + x ≡ 0 → ⊥
one_more x e = omega (arith, e)

some_more : (x y : ℕ) → (1 + x) + 1 + y ≡ 0 → ⊥
some_more x y e = omega (arith, e)

-- no cell stands in the superblock
home_is_not_super : (geo : Geometry) (c : Cell) → IsCell geo c → home_of geo c ≡ 0 → ⊥
home_is_not_super geo (Record n) t e = some_more _ _ e
home_is_not_super geo (NumberBit n) t e = one_more _ e
home_is_not_super geo (BlockBit a) t e = one_more _ e
home_is_not_super geo (Block a) t e = let bad : false ≡ true = subst (λ x. IsTrue (is_data_address geo x)) e t in cc

-- so a block of which something was taken is another one
pub above_super : (geo : Geometry) (queue : Queue) (q : List Pending) (loose : List Bool) (a : ℕ) (t : Table) (old new : List ℕ) (count : ℕ) → TakesAll geo queue q loose a t old new count → 1 ≤ count → a ≡ 0 → ⊥
above_super geo queue q loose a t old new count takes some zero = first takes.last.es takes.last.takes.each takes.last.own takes.last.count
  where
    first : (es : List Entry) → WereTaken (home_of geo) queue (es ++ takes.last.older) → AreOf geo a es → length es ≡ count → ⊥
    first [] each own n = omega (arith, some, n)
    first (e ∷ es) each own n = home_is_not_super geo (cell_of e.change) (takes.last.takes.ties.node (home_of geo (cell_of e.change)) e each.0).cell (own e (contains_head e es) ∙ zero)

-- an image with another block in place of one that is not the superblock, and that has what a group's block of maps needs
pub framed : (geo : Geometry) (image image' : List (List ℕ)) (a : ℕ) (new : List ℕ) → IsImage geo image → All IsBlock image' → image' ≡ slice_set image a new → a < length image → (a ≡ 0 → ⊥)
    → ((g : ℕ) → g < geo.groups → a ≡ group_block geo g → IsGroupBlock g new) → IsImage geo image'
framed geo image image' a new is whole set low above maps = record {
  geometry = is.geometry;
  count = ap length set ∙ length-set image a new ∙ is.count;
  blocks = whole;
  first = subst (IsSuper geo) (sym (other 0 (λ z. above (sym z)))) is.first;
  group_blocks = λ g l. elim (cases_eq a (group_block geo g)) [
    | inl e ↦ subst (IsGroupBlock g) (sym (ap (block_at image') (sym e) ∙ here)) (maps g l e)
    | inr d ↦ subst (IsGroupBlock g) (sym (other (group_block geo g) (λ z. d (sym z)))) (is.group_blocks g l)
  ];
}
  where
    blocks : block_at image' ≡ put_at (block_at image) a new
    blocks = ap block_at set ∙ block_written image a new low

    here : block_at image' a ≡ new
    here = ap (λ (f : ℕ → List ℕ). f a) blocks ∙ put_here (block_at image) a new

    other : (k : ℕ) → (k ≡ a → ⊥) → block_at image' k ≡ block_at image k
    other k d = ap (λ (f : ℕ → List ℕ). f k) blocks ∙ put_there (block_at image) a k new d
