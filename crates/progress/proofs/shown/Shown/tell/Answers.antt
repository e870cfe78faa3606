use Rattle.std.proofs.Common.{sym, subst, refl}
use Rattle.std.specs.Time.{instant_nanos}
use Rattle.progress.specs.Times.{AllowMore, AreApart}
use Rattle.progress.proofs.PaceLemmas.{apart_more, allow_more}
use Rattle.progress.proofs.shown.Shown.tell.Goals as goal

pub invariant_of-self-2 : goal.invariant_of-self-2
invariant_of-self-2 g c =
    let self = c.args.self.now in
    let old = self.history.items in
    let due = (c.in-Some.ensures.due.0 refl).0 in
    let next = instant_nanos c.in-Some.next in
    record {
      apart = subst AreApart (sym c.and-self.ensures) (apart_more old c.args.now c.args.step (instant_nanos self.next) self.next_is_apart due self.apart);
      next_is_apart = subst (λ h. AllowMore h next) (sym c.and-self.ensures) (allow_more old c.args.now c.args.step (instant_nanos self.next) self.next_is_apart due next c.in-Some.ensures.later);
    }
