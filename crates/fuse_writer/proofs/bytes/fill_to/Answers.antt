use Rattle.fuse_writer.proofs.DoingLemmas.{on_equal, on_same}
use Rattle.fuse_writer.proofs.WriteLemmas.{fills_allowed, fills_no_more, fills_not_allowed}
use Rattle.fuse_writer.proofs.bytes.fill_to.Goals as goal

pub returns-then-size-own-clause-filled : goal.returns-then-size-own-clause-filled
returns-then-size-own-clause-filled g c = λ next refused.
    on_equal _ _ _ _ (fills_no_more c.args.mounted.now.session.rules c.args.handle c.args.own c.args.size next refused c.if-size-own.true)

pub returns-then-not-mounted-clause-filled : goal.returns-then-not-mounted-clause-filled
returns-then-not-mounted-clause-filled g c = λ next refused.
    on_equal _ _ _ _ (fills_not_allowed c.args.mounted.now.session.rules c.args.handle c.args.own c.args.size next refused c.if-size-own.false c.if-not-mounted.true)

pub returns-clause-filled : goal.returns-clause-filled
returns-clause-filled g c = λ next refused.
    on_same _ _ _ _ _ _ _ (fills_allowed c.args.mounted.now.session.rules c.args.handle c.args.own c.args.size next refused c.if-size-own.false c.if-not-mounted.false)
    (c.fill_between.ensures.filled next refused)
