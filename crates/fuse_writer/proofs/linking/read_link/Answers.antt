use Rattle.std.proofs.Common.{refl, sym, ◌∙◌}
use Rattle.std.proofs.lemmas.Result.{err_from_is_err_and}
use Rattle.fuse_writer.proofs.DoingLemmas.{does_same, does_say, listing_left}
use Rattle.fuse_writer.proofs.LinkLemmas.{reads_no_link, reads_of_link}
use Rattle.fuse_writer.proofs.linking.read_link.Goals as goal

pub returns-in_err-number-clause-does : goal.returns-in_err-number-clause-does
returns-in_err-number-clause-does g c =
    listing_left _ _ _ _ _ _ (c.in_err-number.ensures _) (err_from_is_err_and c.from_residual.result c.from_residual.ensures.1)

pub returns-then-kind-ne-SYMBOLIC_LINK-clause-does : goal.returns-then-kind-ne-SYMBOLIC_LINK-clause-does
returns-then-kind-ne-SYMBOLIC_LINK-clause-does g c =
    does_same _ _ _ _ _ _ _ (reads_no_link c.args.mounted.now.asking.volume.kept c.args.mounted.now.session c.args.node c.in_ok-number.number c.in_ok-number.ensures
    (λ e. c.if-kind-ne-SYMBOLIC_LINK.true (c.kind_at-kind.ensures ∙ e))) (does_say _ _ _ _ _ _ refl refl refl)

pub returns-clause-does : goal.returns-clause-does
returns-clause-does g c =
    does_same _ _ _ _ _ _ _ (reads_of_link c.args.mounted.now.asking.volume.kept c.args.mounted.now.session c.args.node c.in_ok-number.number c.in_ok-number.ensures
    (sym c.kind_at-kind.ensures ∙ c.if-kind-ne-SYMBOLIC_LINK.false)) c.read_target.ensures.does
