use Rattle.std.proofs.Common.{◌≡◌, ℕ, IfErr, IfOk, subst}
use Rattle.live.specs.Alive.{Alive}
use Rattle.snapshot.specs.declared.answer.Answer.TheVariants.{Number}
use Rattle.snapshot.specs.declared.command.Command.TheVariants.{Flush}
use Rattle.snapshot.specs.Asked.{asked}
use Rattle.snapshot.specs.Goes.{Applies}
use Rattle.snapshot.specs.Refusing.{IsCause}
use Rattle.snapshot.proofs.CallLemmas.{applies, beside_kept}
use Rattle.snapshot.proofs.volume.Volume.user_answer.Goals as goal
use Rattle.snapshot.specs.Between.{could_go}

pub invariant_of-self : goal.invariant_of-self
invariant_of-self g c = λ h.
    let old = c.self.inside.live in
    let new = c.user_reply-reply.new.live in
    let held = g.D.Device.held in
    let image = g.D.Device.image in
    let command = asked old.kept.geometry c.args.command.now in
    let reply = c.user_reply-reply.result in
    beside_kept (held old.device) (held new.device) (image old.device) (image new.device) old new command reply (c.self.invariant (c.user_reply-reply.ensures.honest h))
    (applies (held old.device) (held new.device) (image old.device) (image new.device) old new (c.device.ensures.stands h) command reply (c.user_reply-reply.ensures.replied h))

pub returns-clause-applied : goal.returns-clause-applied
returns-clause-applied g c =
    let old = c.self.inside.live in
    let new = c.user_reply-reply.new.live in
    let honest = g.D.Device.honest in
    let held = g.D.Device.held in
    let image = g.D.Device.image in
    let reply = c.user_reply-reply.result in
    subst (λ (l : Alive _). honest new.device → Applies (held l.device) (image l.device) l (asked l.kept.geometry c.args.command.now) reply (held new.device) (image new.device) new) c.self.view_is
    (λ h. applies (held old.device) (held new.device) (image old.device) (image new.device) old new (c.device.ensures.stands h) (asked old.kept.geometry c.args.command.now) reply (c.user_reply-reply.ensures.replied h))

pub returns-clause-flushed : goal.returns-clause-flushed
returns-clause-flushed g c =
    subst (λ (l : Alive _). (a : ℕ) → c.args.command.now ≡ Flush a → g.D.Device.honest c.user_reply-reply.new.live.device → IfOk c.user_reply-reply.result (λ answer. answer ≡ Number (could_go l a))) c.self.view_is
    (λ a asks h. c.user_reply-reply.ensures.flushed a asks)

pub returns-clause-error : goal.returns-clause-error
returns-clause-error g c = subst (λ (l : Alive _). IfErr c.user_reply-reply.result (IsCause l c.args.command.now)) c.self.view_is c.user_reply-reply.ensures.error
