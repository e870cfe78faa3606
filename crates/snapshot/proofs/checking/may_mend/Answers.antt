use Rattle.std.proofs.Common.{inl, inr, refl, sym, ◌∙◌}
use Rattle.snapshot.specs.Asked.{check_of}
use Rattle.snapshot.proofs.Installs.{is_some_of, none_of, not_some_of, refused_damaged, refused_planned}
use Rattle.snapshot.proofs.checking.may_mend.Goals as goal

pub returns-then-is_some-clause-refused : goal.returns-then-is_some-clause-refused
returns-then-is_some-clause-refused g c =
    let live = c.args.live.now in
    refused_planned live.kept live.holdings (check_of live.kept.geometry c.args.checked.now) c.requires
    (is_some_of live.holdings.repairs c.repair_count.result c.repair_count.ensures (sym c.is_some.ensures ∙ c.if-is_some.true))

pub returns-then-is_some-clause-error : goal.returns-then-is_some-clause-error
returns-then-is_some-clause-error g c = inl refl

pub returns-then-not-is_mendable-clause-refused : goal.returns-then-not-is_mendable-clause-refused
returns-then-not-is_mendable-clause-refused g c =
    let live = c.args.live.now in
    refused_damaged live.kept live.holdings (check_of live.kept.geometry c.args.checked.now) c.requires
    (not_some_of live.holdings.repairs c.repair_count.result c.repair_count.ensures (sym c.is_some.ensures ∙ c.if-is_some.false))
    (sym c.is_mendable.ensures ∙ c.if-not-is_mendable.true)

pub returns-then-not-is_mendable-clause-error : goal.returns-then-not-is_mendable-clause-error
returns-then-not-is_mendable-clause-error g c = inr refl

pub returns-clause-unplanned : goal.returns-clause-unplanned
returns-clause-unplanned g c =
    let repairs = c.args.live.now.holdings.repairs in
    none_of repairs (not_some_of repairs c.repair_count.result c.repair_count.ensures (sym c.is_some.ensures ∙ c.if-is_some.false))

pub returns-clause-soft : goal.returns-clause-soft
returns-clause-soft g c = sym c.is_mendable.ensures ∙ c.if-not-is_mendable.false
