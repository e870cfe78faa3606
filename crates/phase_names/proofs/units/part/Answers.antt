-- The numbers of the piece, one after another.
use Rattle.std.proofs.Common.{◌+◌, ℕ, List, inl, inr, refl, sym, ◌∙◌, subst, arith}
use Rattle.frozen.specs.Kept.{frozen_view}
use Rattle.directories.specs.Pieces.{IsTable, between}
use Rattle.directories.proofs.PieceTables.{directory_more, from_first, other_more, piece_table}
use Rattle.phase_names.specs.Told.{IsTold, Told}
use Rattle.phase_names.proofs.units.part.Goals as goal
use Rattle.phase_names.proofs.units.part.Goals.{then-is_directory_at+in_ok-look_at+in_ok-add, else-is_directory_at}

pub loop-number-init : goal.loop-number-init
loop-number-init c =
    let geo = c.args.frozen.now.geometry in
    let view = frozen_view c.args.frozen.now in
    record {
      part = from_first geo view (IsTold geo view) c.args.piece.now.first c.new-part.result c.new-part.ensures.empty (c.new-part.ensures.part geo view).in_order;
      ends = inr refl;
    }

pub loop-number-preserved : goal.loop-number-preserved
loop-number-preserved c =
    let geo = c.args.frozen.now.geometry in
    let view = frozen_view c.args.frozen.now in
    let first = c.args.piece.now.first in
    let k = c.loop-number.number in
    record {
      part = elim c.if-is_directory_at.branch [
        | then-is_directory_at+in_ok-look_at+in_ok-add w ↦
            subst (λ (table : List (ℕ × Told)). IsTable geo view (IsTold geo view) (between first (k + 1)) table) (sym w.part-is)
            (directory_more geo view (IsTold geo view) first k (k + 1) w.in_ok-look_at.field-0 c.loop-number.part w.add.new.self refl (omega (arith, c.loop-number.auto.number))
            (sym c.is_directory_at.ensures ∙ w.if-is_directory_at.true) w.in_ok-look_at.ensures.told w.in_ok-add.ensures.added c.loop-number.invariant.part)
        | else-is_directory_at w ↦
            subst (λ (table : List (ℕ × Told)). IsTable geo view (IsTold geo view) (between first (k + 1)) table) (sym w.part-is)
            (other_more geo view (IsTold geo view) first k (k + 1) c.loop-number.part refl (sym c.is_directory_at.ensures ∙ w.if-is_directory_at.false) c.loop-number.invariant.part)
      ];
      ends = inl (omega (arith, c.loop-number-test.true));
    }

pub returns-clause-part : goal.returns-clause-part
returns-clause-part c =
    let geo = c.args.frozen.now.geometry in
    let view = frozen_view c.args.frozen.now in
    piece_table geo view (IsTold geo view) c.args.piece.now c.loop-number.number c.loop-number.part (omega (arith, c.loop-number-test.false)) c.loop-number.invariant.ends c.loop-number.invariant.part
