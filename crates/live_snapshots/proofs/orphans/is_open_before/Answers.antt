-- The handles before are looked at one after the other.
use Rattle.std.proofs.Common.{Some, eqb, sym, ap, ◌∙◌, arith}
use Rattle.std.specs.Option.{option_eq}
use Rattle.machine.proofs.Decisions.{any_here, any_none}
use Rattle.live_holdings.proofs.Tables.{is_on, on_is_eq}
use Rattle.live_holdings.specs.Handles.{handle_at}
use Rattle.live_snapshots.proofs.orphans.is_open_before.Goals as goal

pub returns-then-eq : goal.returns-then-eq
returns-then-eq c =
    let n = c.args.number in
    let holdings = c.args.holdings.now in
    let h = c.loop-earlier.earlier in
    sym (any_here c.args.handle (λ k. is_on n (handle_at holdings k)) h c.loop-earlier-test.true (on_is_eq n (handle_at holdings h) ∙ ap (λ o. option_eq eqb o (Some n)) (sym c.file_of.ensures) ∙ sym c.eq.ensures ∙ c.if-eq.true))

pub returns : goal.returns
returns c =
    let n = c.args.number in
    let holdings = c.args.holdings.now in
    sym (any_none c.args.handle (λ k. is_on n (handle_at holdings k)) (λ k low. c.loop-earlier.invariant k (omega (arith, low, c.loop-earlier-test.false))))
