use Rattle.std.proofs.Common.{◌≡◌, ◌+◌, ◌-◌, suc, ap, arith, refl, ◌∙◌}
use Rattle.std.proofs.lemmas.Result.{err_from_is_err_and}
use Rattle.fuse_writer.specs.Requests.{settles_all}
use Rattle.fuse_writer.proofs.DoingLemmas.{on_equal, on_err, on_ok, on_then}
use Rattle.fuse_writer.proofs.EndLemmas.{left_at, settle_end, settle_more}
use Rattle.fuse_writer.proofs.settling.settle_all.Goals as goal

pub loop-number-init : goal.loop-number-init
loop-number-init g c =
    let whole : c.args.count ≡ (c.args.from + c.args.count) - c.args.from = omega arith in
    let s = c.args.mounted.now.session in
    record { start = refl; on = λ next refused. on_equal _ _ _ _ (ap (λ m. settles_all s c.args.from m next refused) whole) }

pub loop-number-preserved : goal.loop-number-preserved
loop-number-preserved g c =
    let l = c.loop-number in
    let mid = c.settle.new.mounted in
    let n = (c.args.from + c.args.count) - (l.number + 1) in
    let left : suc ((c.args.from + c.args.count) - (l.number + 1)) ≡ (c.args.from + c.args.count) - l.number = omega arith in
    record {
      start = c.settle.ensures.start ∙ l.invariant.start;
      on = λ next refused. on_ok _ _ _ _ _ _ _ _ _ c.in_ok-settle.was
          (settle_more next refused _ _ l.mounted.asking mid.asking _ l.mounted.session mid.session l.number _ _ n (l.invariant.on next refused) left c.settle.ensures.does);
    }

pub returns-in_err-settle-clause-does : goal.returns-in_err-settle-clause-does
returns-in_err-settle-clause-does g c = λ next refused.
    let l = c.loop-number in
    let mid = c.settle.new.mounted in
    let n = (c.args.from + c.args.count) - (l.number + 1) in
    let left : suc ((c.args.from + c.args.count) - (l.number + 1)) ≡ (c.args.from + c.args.count) - l.number = omega arith in
    left_at _ _ _ _ _ _ refused next _ _ (err_from_is_err_and c.from_residual.result c.from_residual.ensures.1) c.in_err-settle.ensures.same
    (on_err _ _ _ _ _ _ _ _ _ c.in_err-settle.was
    (settle_more next refused _ _ l.mounted.asking mid.asking _ l.mounted.session mid.session l.number _ _ n (l.invariant.on next refused) left c.settle.ensures.does))

pub returns-clause-does : goal.returns-clause-does
returns-clause-does g c = λ next refused.
    let l = c.loop-number in
    let none : (c.args.from + c.args.count) - l.number ≡ 0 = omega arith in
    on_then _ _ _ _ _ _ _ _ _ (l.invariant.on next refused) (settle_end next refused l.mounted.asking l.mounted.session l.number _ none)
