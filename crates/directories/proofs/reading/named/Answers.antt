-- The loop goes over the numbers of the piece.
use Rattle.std.proofs.Common.{◌≡◌, ◌+◌, inl, inr, refl, sym, subst, arith}
use Rattle.std.proofs.lemmas.Bool.{cases_Bool}
use Rattle.frozen.specs.Kept.{frozen_view}
use Rattle.model.specs.Named.{named_from}
use Rattle.model.specs.Uses.{is_directory_at}
use Rattle.directories.specs.Pieces.{IsTable, between}
use Rattle.directories.proofs.PieceTables.{directory_more, from_first, other_more, piece_table}
use Rattle.directories.proofs.reading.named.Goals as goal

pub loop-number-init : goal.loop-number-init
loop-number-init c =
    let geo = c.args.frozen.now.geometry in
    let view = frozen_view c.args.frozen.now in
    record {
      table = from_first geo view (λ d numbers. numbers ≡ named_from geo view c.args.first d) c.args.piece.now.first c.new-named.result c.new-named.ensures.empty
          (c.new-named.ensures.part geo view c.args.first).in_order;
      ends = inr refl;
    }

pub loop-number-preserved : goal.loop-number-preserved
loop-number-preserved c =
    let geo = c.args.frozen.now.geometry in
    let view = frozen_view c.args.frozen.now in
    let told = c.in_ok-add_inode.ensures in
    let first = c.args.piece.now.first in
    let k = c.loop-number.number in
    record {
      ends = inl (omega (arith, c.loop-number-test.true));
      table = elim (cases_Bool (is_directory_at geo view k)) [
        | inl t ↦ directory_more geo view (λ d numbers. numbers ≡ named_from geo view c.args.first d) first k (k + 1) (named_from geo view c.args.first k)
            c.loop-number.named c.add_inode.new.named refl (omega (arith, c.loop-number.auto.number)) t refl (told.directory t) c.loop-number.invariant.table
        | inr f ↦ other_more geo view (λ d numbers. numbers ≡ named_from geo view c.args.first d) first k (k + 1) c.add_inode.new.named refl f
            (subst (λ table. IsTable geo view (λ d numbers. numbers ≡ named_from geo view c.args.first d) (between first k) table) (sym (told.other f)) c.loop-number.invariant.table)
      ];
    }

pub returns-clause-named : goal.returns-clause-named
returns-clause-named c =
    let geo = c.args.frozen.now.geometry in
    let view = frozen_view c.args.frozen.now in
    piece_table geo view (λ d numbers. numbers ≡ named_from geo view c.args.first d) c.args.piece.now c.loop-number.number c.loop-number.named
    (omega (arith, c.loop-number-test.false)) c.loop-number.invariant.ends c.loop-number.invariant.table
