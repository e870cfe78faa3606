use Rattle.std.proofs.Common.{◌≡◌, ◌+◌, ◌-◌, suc, ap, arith, refl, ◌∙◌}
use Rattle.std.proofs.lemmas.Result.{err_from_is_err_and}
use Rattle.fuse_writer.specs.Requests.{closes_often}
use Rattle.fuse_writer.proofs.DoingLemmas.{on_equal, on_err, on_left, on_ok, on_then}
use Rattle.fuse_writer.proofs.EndLemmas.{often_more, often_none}
use Rattle.fuse_writer.proofs.answering.close_often.Goals as goal

pub loop-closed-init : goal.loop-closed-init
loop-closed-init g c =
    let whole : c.args.count ≡ c.args.count - 0 = omega arith in
    let s = c.args.mounted.now.session in
    record { start = refl; on = λ next refused. on_equal _ _ _ _ (ap (λ m. closes_often s c.args.number m next refused) whole) }

pub loop-closed-preserved : goal.loop-closed-preserved
loop-closed-preserved g c =
    let l = c.loop-closed in
    let mid = c.close.new.mounted in
    let n = c.args.count - (l._closed + 1) in
    let left : suc (c.args.count - (l._closed + 1)) ≡ c.args.count - l._closed = omega arith in
    record {
      start = c.close.ensures.start ∙ l.invariant.start;
      on = λ next refused. on_ok _ _ _ _ _ _ _ _ _ c.in_ok-close.was
          (often_more c.args.number next refused _ _ l.mounted.asking mid.asking _ l.mounted.session mid.session _ _ n (l.invariant.on next refused) left c.close.ensures.does c.close.ensures.session);
    }

pub returns-in_err-close-clause-does : goal.returns-in_err-close-clause-does
returns-in_err-close-clause-does g c = λ next refused.
    let l = c.loop-closed in
    let mid = c.close.new.mounted in
    let n = c.args.count - (l._closed + 1) in
    let left : suc (c.args.count - (l._closed + 1)) ≡ c.args.count - l._closed = omega arith in
    on_left _ _ _ _ _ _ _ _ _ (err_from_is_err_and c.from_residual.result c.from_residual.ensures.1) (on_err _ _ _ _ _ _ _ _ _ c.in_err-close.was
    (often_more c.args.number next refused _ _ l.mounted.asking mid.asking _ l.mounted.session mid.session _ _ n (l.invariant.on next refused) left c.close.ensures.does c.close.ensures.session))

pub returns-clause-does : goal.returns-clause-does
returns-clause-does g c = λ next refused.
    let l = c.loop-closed in
    let none : c.args.count - l._closed ≡ 0 = omega arith in
    on_then _ _ _ _ _ _ _ _ _ (l.invariant.on next refused) (often_none c.args.number next refused l.mounted.asking l.mounted.session _ none)

pub returns-in_err-close-clause-start : goal.returns-in_err-close-clause-start
returns-in_err-close-clause-start g c = c.close.ensures.start ∙ c.loop-closed.invariant.start

pub returns-clause-start : goal.returns-clause-start
returns-clause-start g c = c.loop-closed.invariant.start
