-- What users see of a directory that is made in one that gets a block for its entry.
use Rattle.std.proofs.Common.{◌≡◌, ◌+◌, ℕ, Bool, true, List, refl, sym, subst}
use Rattle.model.specs.Layout.{Geometry}
use Rattle.model.specs.View.{View}
use Rattle.model.specs.Cells.{SetInode, SetNumber, SetBlock, SetBytes, updated}
use Rattle.ordering.specs.Cuts.{Cell, Pending, users_view}
use Rattle.ordering.specs.Ghosts.{at_rest}
use Rattle.ordering.specs.Agrees.{AllAgree}
use Rattle.machine.specs.State.{State}
use Rattle.machine.specs.Cells.{Enters}
use Rattle.machine.specs.Paths.{holder, name_in}
use Rattle.machine.specs.Effects.{with_links, new_directory, MakesDirectory}
use Rattle.plans_data.specs.Append.{Holder}
use Rattle.plans_naming.specs.Entries.{UnmarkedAreNotHeld}
use Rattle.plans_naming.specs.Make.{CanMakeGrown, making_grown}
use Rattle.plans_naming.proofs.MakeGrown.{making_grown_enters}

pub making_grown_makes : (geo : Geometry) (old : State) (path words : List ℕ) (i a : ℕ) (dots : List ℕ) (b : ℕ) (kept : Holder) (s : ℕ) (entry : List ℕ) (after : List Cell)
    → CanMakeGrown geo old.view i a dots (holder geo old.view path) b kept s (name_in path) entry after
    → (disk : View) (q : List Pending) → users_view disk q ≡ old.view → (safe : ℕ → Bool) → UnmarkedAreNotHeld old.view old.held
    → AllAgree geo disk q (at_rest old.held safe)
    → MakesDirectory geo old path words i (record old { view = users_view disk (making_grown geo i a words dots (holder geo old.view path) (old.view.inode (holder geo old.view path)) b kept s entry after q) })
making_grown_makes geo old path words i a dots b kept s entry after can disk q same safe marked all = record {
  free = record { number = can.make.number; unmarked = can.make.unmarked };
  block = a;
  free_block = record { address = can.make.address; unmarked = can.make.block_unmarked };
  bytes = dots;
  dots = can.make.are_dots;
  view = users_view disk (making_grown geo i a words dots d (old.view.inode d) b kept s entry after q);
  enters = subst (λ (v : View). Enters geo
      (updated (updated (updated (updated (updated v (SetNumber i true)) (SetBlock a true)) (SetInode d (with_links (v.inode d) ((v.inode d).links + 1)))) (SetBytes a dots)) (SetInode i (new_directory a words)))
      d (name_in path) i (users_view disk (making_grown geo i a words dots d (v.inode d) b kept s entry after q))) same
      (making_grown_enters geo disk q old.held safe (subst (λ v. UnmarkedAreNotHeld v old.held) (sym same) marked) i a words dots d b kept s (name_in path) entry after
      (subst (λ v. CanMakeGrown geo v i a dots d b kept s (name_in path) entry after) (sym same) can) all);
  whole = refl;
}
  where
    d : ℕ
    d = holder geo old.view path
