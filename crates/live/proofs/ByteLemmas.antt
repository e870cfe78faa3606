-- The bytes of a block, as users see them.
use Rattle.std.proofs.Common.{◌≡◌, ℕ, cond, eqb, eq-eqb, ne_eqb, List, [], ◌∷◌, Some, inl, inr, refl, sym, ap, ◌∙◌}
use Rattle.std.specs.Prelude.{unwrap_or}
use Rattle.std.proofs.lemmas.Bool.{cases_eq, cond-false, cond-true}
use Rattle.model.specs.Cells.{SetBlock, SetBytes, SetInode, SetNumber, Update, updated}
use Rattle.model.specs.View.{View}
use Rattle.ordering.specs.Cuts.{Block, Pending, cell_of, same_cell, users_view}
use Rattle.softdep_queue.specs.Contents.{bytes_of, last_bytes}

-- the last update of the block gives them, and else the device has them
pub users_bytes : (disk : View) (q : List Pending) (a : ℕ) → (users_view disk q).bytes a ≡ unwrap_or (last_bytes q a) (disk.bytes a)
users_bytes disk [] a = refl
users_bytes disk (u ∷ q) a = step u.change (users_bytes disk q a)
  where
    step : (x : Update) → (users_view disk q).bytes a ≡ unwrap_or (last_bytes q a) (disk.bytes a)
        → (updated (users_view disk q) x).bytes a ≡ unwrap_or (cond (same_cell (cell_of x) (Block a)) (bytes_of x) (last_bytes q a)) (disk.bytes a)
    step (SetInode n inode) e = e
    step (SetNumber n marked) e = e
    step (SetBlock b marked) e = e
    step (SetBytes b bytes) e = elim (cases_eq a b) [
      | inl s ↦ cond-true (eqb a b) bytes ((users_view disk q).bytes a) (eq-eqb a b s)
          ∙ sym (ap (λ o. unwrap_or o (disk.bytes a)) (cond-true (eqb b a) (Some bytes) (last_bytes q a) (eq-eqb b a (sym s))))
      | inr d ↦ cond-false (eqb a b) bytes ((users_view disk q).bytes a) (ne_eqb a b d) ∙ e
          ∙ sym (ap (λ o. unwrap_or o (disk.bytes a)) (cond-false (eqb b a) (Some bytes) (last_bytes q a) (ne_eqb b a (λ s. d (sym s)))))
    ]
