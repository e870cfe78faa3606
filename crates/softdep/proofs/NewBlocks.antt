-- The block that a flush writes shows all that may go there.
use Rattle.std.proofs.Common.{◌≡◌, ℕ, zero, suc, ◌<◌, Bool, true, false, ◌&&◌, eqb, List, [], ◌∷◌, ◌++◌, refl, sym, ap, ◌∙◌, subst, length, arith, slice_set, eq-eqb}
use Rattle.model.specs.Layout.{Geometry}
use Rattle.model.specs.View.{View, view_of}
use Rattle.model.specs.Image.{block_at, image_view}
use Rattle.model.specs.Cells.{put_at}
use Rattle.ordering.specs.Cuts.{Cell, Pending, IsClosed, SameAt, cell_of, rest, seen}
use Rattle.ordering.specs.ClosedSets.{pending_at, takes}
use Rattle.queue_model.specs.Blocks.{home_of}
use Rattle.queue_model.specs.Flush.{ready}
use Rattle.queue_model.specs.Entries.{Entry, Queue, Represents, has_id, marks, AreTaken, NoOtherMayGo, view_after}
use Rattle.queue_model.proofs.TakenLemmas.{closed, cut_view}
use Rattle.power_cut.specs.Epochs.{Shows, beyond}
use Rattle.power_cut.proofs.TakenTwice.{first_shows, later_shows}
use Rattle.power_cut.proofs.Unions.{through, cell_same}
use Rattle.updates.specs.Alone.{IsPutAll}
use Rattle.softdep_queue.specs.declared.table.Table.{Table}
use Rattle.softdep_queue.specs.Ties.{of_block}
use Rattle.softdep_queue.specs.Taking.{HasTaken, changes_of}
use Rattle.softdep_queue.specs.Moving.{of_home}
use Rattle.softdep_queue.proofs.Blocks.{of_append, of_own, by_block}
use Rattle.softdep_queue.proofs.LooseCuts.{older_taken, own_marks, loose_closed}
use Rattle.softdep_queue.proofs.Left.{view_left}
use Rattle.softdep.proofs.Flushed.{block_written}
use Rattle.softdep.proofs.Puts.{turned}

-- of a cell of a block a cut takes what its part of this block takes
part_takes : (home : Cell → ℕ) (a : ℕ) (q : List Pending) (cut : List Bool) (c : Cell) → home c ≡ a → (k : ℕ) → k < length q → cell_of (pending_at q k).change ≡ c → takes cut k ≡ takes (of_home home a q cut) k
part_takes home a [] cut c at k low is = absurd (omega (arith, low))
part_takes home a (u ∷ q) [] c at k low is = refl
part_takes home a (u ∷ q) (b ∷ cut) c at zero low is = all b (eqb (home (cell_of u.change)) a) (eq-eqb (home (cell_of u.change)) a (ap home is ∙ at))
  where
    all : (x y : Bool) → y ≡ true → x ≡ (x && y)
    all true true h = refl
    all true false h = absurd (let bad : false ≡ true = h in cc)
    all false y h = refl
part_takes home a (u ∷ q) (b ∷ cut) c at (suc k) low is = part_takes home a q cut c at k (omega (arith, low)) is

module _ (geo : Geometry) (t : Table) (queue : Queue) (q : List Pending) (loose : List Bool) (a number : ℕ) (taken : HasTaken geo t queue q loose a number) where
  abbrev home : Cell → ℕ
  home = home_of geo

  abbrev r : Represents (home_of geo) queue q
  r = taken.takes.ties.represents

  abbrev mine : List Entry
  mine = of_block (home_of geo) a taken.older

  all_of : of_block (home_of geo) a (taken.es ++ taken.older) ≡ taken.es ++ of_block (home_of geo) a taken.older
  all_of = of_append home a taken.es taken.older ∙ ap (λ l. l ++ mine) (of_own home a taken.es taken.own)

  each : AreTaken queue a (taken.es ++ of_block (home_of geo) a taken.older)
  each = subst (AreTaken queue a) all_of (by_block home queue (taken.es ++ taken.older) taken.takes.each a)

  older_each : AreTaken queue a (of_block (home_of geo) a taken.older)
  older_each = by_block home queue taken.older (older_taken home queue taken.es taken.older taken.takes.each) a

  -- the part of what is loose that is of the block
  part_is : of_home (home_of geo) a q loose ≡ marks (has_id (of_block (home_of geo) a taken.older)) taken.takes.ties.represents.entries
  part_is = ap (of_home home a q) (sym taken.cut) ∙ sym (own_marks home queue q r a taken.older (older_taken home queue taken.es taken.older taken.takes.each))

  -- a block that shows what is loose shows the part of it that is of the block
  part_shows : (durable : View) (bytes : List ℕ) → Shows geo a bytes (seen durable q loose) → Shows geo a bytes (view_after durable (of_block (home_of geo) a taken.older))
  part_shows durable bytes shows blocks c e =
      let view = (cut_view home a queue q r durable mine older_each).0 in
      through (view_of geo (put_at blocks a bytes)) (seen durable q loose) (view_after durable mine) c (shows blocks c e)
      (subst (λ v. SameAt (seen durable q loose) v c) (sym view) (cell_same durable q loose (marks (has_id mine) taken.takes.ties.represents.entries) c loose_whole (closed home a queue q r mine older_each)
      (λ k low is. part_takes home a q loose c e k low is ∙ ap (λ cut. takes cut k) part_is)))
    where
      loose_whole : IsClosed q loose
      loose_whole = subst (IsClosed q) taken.cut (loose_closed home queue q r taken.older (older_taken home queue taken.es taken.older taken.takes.each))

  pub new_shows : (durable : View) (old new : List ℕ) → IsPutAll geo (changes_of taken.es) old new → Shows geo a old (seen durable q loose) → Shows geo a new (seen durable q (ready (home_of geo) a q))
  new_shows durable old new put shows =
      (later_shows geo durable queue q a mine taken.es old new r each none (part_shows durable old shows) (turned geo a taken.es old new taken.own put)).0
    where
      none : NoOtherMayGo queue a (taken.es ++ of_block (home_of geo) a taken.older)
      none = subst (NoOtherMayGo queue a) all_of taken.all

-- what the device answers then, over what it answered before
pub new_view : (geo : Geometry) (t : Table) (queue : Queue) (q : List Pending) (loose : List Bool) (a number : ℕ) (taken : HasTaken geo t queue q loose a number) (image image' : List (List ℕ)) (new : List ℕ)
    → IsPutAll geo (changes_of taken.es) (block_at image a) new → image' ≡ slice_set image a new → a < length image → image_view geo image' ≡ seen (image_view geo image) (rest q loose) (beyond loose (ready (home_of geo) a q))
new_view geo t queue q loose a number taken image image' new put is low =
    ap (image_view geo) is ∙ ap (view_of geo) (block_written image a new low) ∙ turned geo a taken.es (block_at image a) new taken.own put (block_at image) refl
    ∙ subst (λ l. view_after (image_view geo image) taken.es ≡ seen (image_view geo image) (rest q l) (beyond l (ready (home_of geo) a q))) taken.cut
    (view_left (home_of geo) queue q taken.takes.ties.represents a taken.es taken.older taken.takes.each taken.own taken.all (image_view geo image))

-- a block that the device answers shows what is loose
pub block_shows : (geo : Geometry) (blocks : ℕ → List ℕ) (a : ℕ) (view : View) → view_of geo blocks ≡ view → Shows geo a (blocks a) view
block_shows geo blocks a view is = subst (Shows geo a (blocks a)) is (first_shows geo blocks a)
