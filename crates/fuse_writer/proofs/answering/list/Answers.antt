use Rattle.std.proofs.Common.{refl, ap, arith}
use Rattle.std.proofs.lemmas.Result.{err_from_is_err_and}
use Rattle.fuse_writer.proofs.DoingLemmas.{does_memory, does_no_memory, does_same, does_say}
use Rattle.fuse_writer.proofs.RequestLemmas.{lists_long, lists_short}
use Rattle.fuse_writer.proofs.DoingLemmas.{listing_left}
use Rattle.fuse_reader.specs.Said as said
use Rattle.fuse_writer.proofs.answering.list.Goals as goal

pub returns-in_err-directory-clause-does : goal.returns-in_err-directory-clause-does
returns-in_err-directory-clause-does g c =
    listing_left _ _ _ _ _ _ (c.in_err-directory.ensures _) (err_from_is_err_and c.from_residual.result c.from_residual.ensures.1)

pub returns-then-size-gt-MOST_BYTES-clause-does : goal.returns-then-size-gt-MOST_BYTES-clause-does
returns-then-size-gt-MOST_BYTES-clause-does g c =
    does_same _ _ _ _ _ _ _ (lists_long c.args.mounted.now.asking.volume.kept c.args.mounted.now.session c.args.node c.args.from c.args.size _ c.in_ok-directory.ensures (omega (arith, c.if-size-gt-MOST_BYTES.true))) (does_say _ _ _ _ _ _ refl refl refl)

pub returns-in-Ok-clause-does : goal.returns-in-Ok-clause-does
returns-in-Ok-clause-does g c =
    does_same _ _ _ _ _ _ _ (lists_short c.args.mounted.now.asking.volume.kept c.args.mounted.now.session c.args.node c.args.from c.args.size _ c.in_ok-directory.ensures (omega (arith, c.if-size-gt-MOST_BYTES.false))) (does_memory _ _ _ _ _ _ _ (does_say _ _ _ _ _ _ refl (ap said.Told (rw c.metadata.ensures at c.in-Ok.ensures.listed)) refl))

pub returns-in-Err-clause-does : goal.returns-in-Err-clause-does
returns-in-Err-clause-does g c =
    does_same _ _ _ _ _ _ _ (lists_short c.args.mounted.now.asking.volume.kept c.args.mounted.now.session c.args.node c.args.from c.args.size _ c.in_ok-directory.ensures (omega (arith, c.if-size-gt-MOST_BYTES.false))) (does_no_memory _ _ _ _ _ _ refl refl refl)
