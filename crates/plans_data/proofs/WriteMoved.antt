-- A block of a file that the snapshot keeps moves.
use Rattle.std.proofs.Common.{ℕ, Bool, List, length, sym, ◌∙◌, subst}
use Rattle.model.specs.Layout.{Geometry}
use Rattle.model.specs.View.{View, Inode}
use Rattle.model.specs.Rules.{ObeysRules}
use Rattle.model.specs.Uses.{IsClaim}
use Rattle.machine.specs.State.{State}
use Rattle.machine.specs.Cells.{block_of}
use Rattle.machine.specs.Effects.{Writes, Moved, size_after}
use Rattle.ordering.specs.Cuts.{Pending, users_view}
use Rattle.ordering.specs.Ghosts.{Ghost, at_rest}
use Rattle.ordering.specs.Agrees.{AllAgree}
use Rattle.ordering.proofs.Bits.{users_obey}
use Rattle.plans_data.specs.Issues.{Issues}
use Rattle.plans_data.specs.Now.{now, becomes}
use Rattle.plans_data.specs.Append.{Holder, cells_of, pointed}
use Rattle.plans_data.specs.Write.{MayWriteMoved, held_besides, relocated}
use Rattle.plans_data.proofs.Blocks.{block_claimed, same_blocks, no_less}
use Rattle.plans_data.proofs.Filling.{filling}
use Rattle.plans_data.proofs.Holders.{kept_points, leaves_mark}
use Rattle.plans_data.proofs.Moved.{MayMove, change, move, moves, moved_view}
use Rattle.plans_data.proofs.Moving.{Moves, moved_state}
use Rattle.plans_data.proofs.Placed.{placed_whole}
use Rattle.plans_data.proofs.WriteAppended.{spare_at_rest}

module _ (geo : Geometry) (disk : View) (q : List Pending) (old : State) (safe : ℕ → Bool) (n k b : ℕ) (piece bytes : List ℕ)
    (all : AllAgree geo disk q (at_rest old.held safe)) where
  abbrev users : View
  users = users_view disk q

  abbrev was : Inode
  was = users.inode n

  abbrev ghost : Ghost
  ghost = at_rest old.held safe

  abbrev size : ℕ
  size = size_after users n k piece

  abbrev held : ℕ → Bool
  held = held_besides geo (now disk q old) n k

  rules : ObeysRules geo users
  rules = users_obey geo disk q ghost all

  module _ (h : Holder) (may : MayWriteMoved geo (now disk q old) n k b piece bytes h) where
    pub claim : IsClaim geo users n k (block_of geo users n k)
    claim = block_claimed geo users rules n k may.write.sound may.inside

    pub may_move : MayMove geo disk q old safe n k b bytes size h
    may_move = record {
      whole = may.whole;
      sound = may.write.sound;
      file = may.write.file;
      inside = may.inside;
      blocks = same_blocks was.size k (length piece) may.inside may.write.few;
      more = no_less was.size k (length piece);
      free = may.free;
      kept = may.kept;
      all = all;
      filled = filling geo disk q ghost b bytes all (spare_at_rest (now disk q old) safe may.held) may.free.unmarked;
    }

    abbrev then : View
    then = users_view disk (relocated geo n was k b bytes size h q)

    pub moves_now : Moves geo users then n k b
    moves_now = subst (λ v. Moves geo users v n k b) (sym (moved_view geo disk q old safe n k b bytes size h may_move)) (moves geo disk q old safe n k b bytes size h may_move)

    pub moved_issues : Issues geo disk q ghost (relocated geo n was k b bytes size h q) (at_rest held safe)
    moved_issues = (move geo disk q old safe n k b bytes size h may_move).issues

    pub moved_writes : Writes geo (now disk q old) n k piece (becomes disk (relocated geo n was k b bytes size h q) held old)
    moved_writes = record {
      bytes = bytes;
      overwritten = may.write.overwritten;
      stores = Moved then may.inside may.keeps
          (record {
            block = b;
            free = may.free;
            cells = cells_of geo k b h;
            pointed = pointed geo was k b h;
            points = kept_points geo users n k b h may.kept;
            apart = leaves_mark geo b k b h (change geo disk q old safe n k b bytes size h may_move).apart;
            whole = moved_view geo disk q old safe n k b bytes size h may_move ∙ placed_whole geo disk q n k b bytes size h;
          })
          (moved_state geo (now disk q old) then n k b rules moves_now claim may.free.unmarked may.keeps);
    }
