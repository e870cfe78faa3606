-- The handle's file is let go, and the law of closes does the rest.
use Rattle.std.proofs.Common.{inl, inr, sym, ◌∙◌}
use Rattle.frozen.specs.Kept.{frozen_view}
use Rattle.live_removals.proofs.OpenFiles.{close_planned, close_refused, lets_go_blocks, number_is}
use Rattle.live_removals.proofs.Showing.{shows_itself}
use Rattle.live_removals.proofs.shortening.close.Goals as goal

pub let_go-requires : goal.let_go-requires
let_go-requires c = number_is c.args.metadata.now c.args.holdings.now c.args.handle c.in-Some.number (sym c.file_of.ensures ∙ c.in-Some.is) c.requires.volume

pub returns-in_ok-let_go-in-Some-clause-planned : goal.returns-in_ok-let_go-in-Some-clause-planned
returns-in_ok-let_go-in-Some-clause-planned c =
    close_planned c.args.metadata.now c.args.holdings.now c.args.handle c.in-Some.number (sym c.file_of.ensures ∙ c.in-Some.is) c.requires.volume c.requires.wide
    c.in_ok-let_go-in-Some.field-0.plan c.in_ok-let_go-in-Some.field-0.holds.items c.in_ok-let_go-in-Some.ensures

pub returns-in_ok-let_go-in-Some-clause-holds : goal.returns-in_ok-let_go-in-Some-clause-holds
returns-in_ok-let_go-in-Some-clause-holds c =
    let kept = c.args.metadata.now in
    lets_go_blocks kept c.args.holdings.now c.args.handle c.in-Some.number (sym c.file_of.ensures ∙ c.in-Some.is) (frozen_view kept)
    c.in_ok-let_go-in-Some.field-0.plan c.in_ok-let_go-in-Some.field-0.holds.items (c.in_ok-let_go-in-Some.ensures (frozen_view kept) (shows_itself kept))

pub returns-in-None-clause-refused : goal.returns-in-None-clause-refused
returns-in-None-clause-refused c = inr (λ old shows has. inl (close_refused c.args.metadata.now.geometry c.args.holdings.now c.args.handle old has (sym c.file_of.ensures ∙ c.in-None.is)))
