-- The size is no larger than the kept record's, which is the one that users see; the law of truncations does the rest.
use Rattle.std.proofs.Common.{◌≡◌, ◌<◌, ◌≤◌, IsTrue, inl, inr, sym, ap, ◌∙◌, subst, arith}
use Rattle.model.specs.Layout.{is_number}
use Rattle.model.specs.View.{Inode}
use Rattle.frozen.specs.Kept.{Kept, frozen_view}
use Rattle.live_removals.proofs.OpenFiles.{number_is, shortens_blocks, truncate_planned, truncate_refused, truncate_too_large}
use Rattle.live_removals.proofs.Showing.{shows_itself}
use Rattle.live_removals.proofs.shortening.truncate.Goals as goal

pub record-requires : goal.record-requires
record-requires c =
    subst (λ (k : Kept). IsTrue (is_number k.geometry c.in-Some.number)) (sym c.frozen.ensures.same)
    (number_is c.args.metadata.now c.args.holdings.now c.args.handle c.in-Some.number (sym c.file_of.ensures ∙ c.in-Some.is) c.requires.volume)

pub shortened-requires : goal.shortened-requires
shortened-requires c = number_is c.args.metadata.now c.args.holdings.now c.args.handle c.in-Some.number (sym c.file_of.ensures ∙ c.in-Some.is) c.requires.volume

pub returns-in_ok-shortened-in-Some-clause-planned : goal.returns-in_ok-shortened-in-Some-clause-planned
returns-in_ok-shortened-in-Some-clause-planned c =
    let kept = c.args.metadata.now in
    let n = c.in-Some.number in
    let same : c.record.result.size ≡ ((frozen_view kept).inode n).size = ap (λ (i : Inode). i.size) (c.record.ensures ∙ ap (λ (k : Kept). (frozen_view k).inode c.in-Some.number) c.frozen.ensures.same) in
    let inside : c.record-in-Some-1.inside.size ≡ c.record.result.size = ap (λ (i : Inode). i.size) c.record-in-Some-1.view_is in
    let small : c.args.size ≤ ((frozen_view kept).inode n).size = omega (arith, c.if-size-record.true, same, inside) in
    truncate_planned kept c.args.holdings.now c.args.handle n (sym c.file_of.ensures ∙ c.in-Some.is) c.requires.volume c.requires.wide
    c.in_ok-shortened-in-Some.field-0.plan c.in_ok-shortened-in-Some.field-0.holds.items c.args.size small c.in_ok-shortened-in-Some.ensures

pub returns-in_ok-shortened-in-Some-clause-holds : goal.returns-in_ok-shortened-in-Some-clause-holds
returns-in_ok-shortened-in-Some-clause-holds c =
    let kept = c.args.metadata.now in
    shortens_blocks kept c.args.holdings.now c.args.handle c.in-Some.number (sym c.file_of.ensures ∙ c.in-Some.is) (frozen_view kept) c.args.size
    c.in_ok-shortened-in-Some.field-0.plan c.in_ok-shortened-in-Some.field-0.holds.items (c.in_ok-shortened-in-Some.ensures (frozen_view kept) (shows_itself kept))

pub returns-in-Some-2-clause-refused : goal.returns-in-Some-2-clause-refused
returns-in-Some-2-clause-refused c =
    let kept = c.args.metadata.now in
    let n = c.in-Some.number in
    let same : c.record.result.size ≡ ((frozen_view kept).inode n).size = ap (λ (i : Inode). i.size) (c.record.ensures ∙ ap (λ (k : Kept). (frozen_view k).inode c.in-Some.number) c.frozen.ensures.same) in
    let inside : c.record-in-Some-1.inside.size ≡ c.record.result.size = ap (λ (i : Inode). i.size) c.record-in-Some-1.view_is in
    let large : ((frozen_view kept).inode n).size < c.args.size = omega (arith, c.if-size-record.false, same, inside) in
    inr (λ old shows has. inl (truncate_too_large kept.geometry c.args.holdings.now c.args.handle old has c.args.size n (sym c.file_of.ensures ∙ c.in-Some.is) (subst (λ (i : Inode). i.size < c.args.size) (shows.inode n) large)))

pub returns-in-None-clause-refused : goal.returns-in-None-clause-refused
returns-in-None-clause-refused c = inr (λ old shows has. inl (truncate_refused c.args.metadata.now.geometry c.args.holdings.now c.args.handle old has c.args.size (sym c.file_of.ensures ∙ c.in-None.is)))
