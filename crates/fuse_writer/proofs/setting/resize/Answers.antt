use Rattle.std.proofs.Common.{refl}
use Rattle.fuse_writer.proofs.DoingLemmas.{on_done, on_same}
use Rattle.fuse_writer.proofs.SettingLemmas.{resizes_less, resizes_more}
use Rattle.fuse_writer.proofs.setting.resize.Goals as goal

pub returns-then-size-own-clause-does : goal.returns-then-size-own-clause-does
returns-then-size-own-clause-does g c = λ done refused.
    on_same _ _ _ _ _ _ _ (resizes_less c.args.mounted.now.session.rules c.args.handle c.args.own c.args.size done refused c.if-size-own.true)
    (on_done _ _ _ _ _ _ _ c.ask_done.ensures.asked (λ geo. refl) c.ask_done.ensures.session done refused)

pub returns-clause-does : goal.returns-clause-does
returns-clause-does g c = λ done refused.
    on_same _ _ _ _ _ _ _ (resizes_more c.args.mounted.now.session.rules c.args.handle c.args.own c.args.size done refused c.if-size-own.false)
    (c.fill_to.ensures.filled done refused)
