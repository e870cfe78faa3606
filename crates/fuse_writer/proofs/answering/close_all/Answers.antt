use Rattle.std.proofs.Common.{◌≡◌, ◌+◌, ◌-◌, suc, ap, arith, refl, subst, ◌∙◌}
use Rattle.std.proofs.lemmas.Result.{err_from_is_err_and}
use Rattle.fuse_writer.specs.Requests.{closes_all}
use Rattle.fuse_writer.proofs.DoingLemmas.{on_equal, on_err, on_left, on_ok, on_then}
use Rattle.fuse_writer.proofs.EndLemmas.{all_more, all_none}
use Rattle.fuse_writer.proofs.answering.close_all.Goals as goal

pub loop-number-init : goal.loop-number-init
loop-number-init g c =
    let whole : c.args.inodes ≡ c.args.inodes - 0 = omega arith in
    let s = c.args.mounted.now.session in
    record { start = refl; on = λ next refused. on_equal _ _ _ _ (ap (λ m. closes_all s 0 m next refused) whole) }

pub loop-number-preserved : goal.loop-number-preserved
loop-number-preserved g c =
    let l = c.loop-number in
    let mid = c.close_often.new.mounted in
    let n = c.args.inodes - (l.number + 1) in
    let left : suc (c.args.inodes - (l.number + 1)) ≡ c.args.inodes - l.number = omega arith in
    record {
      start = c.close_often.ensures.start ∙ l.invariant.start;
      on = λ next refused. on_ok _ _ _ _ _ _ _ _ _ c.in_ok-close_often.was
          (all_more next refused _ _ l.mounted.asking mid.asking _ l.mounted.session mid.session l.number _ _ _ n (l.invariant.on next refused) left c.count_of-count.ensures c.close_often.ensures.does);
    }

pub returns-in_err-close_often-clause-does : goal.returns-in_err-close_often-clause-does
returns-in_err-close_often-clause-does g c = λ next refused.
    let l = c.loop-number in
    let mid = c.close_often.new.mounted in
    let n = c.args.inodes - (l.number + 1) in
    let left : suc (c.args.inodes - (l.number + 1)) ≡ c.args.inodes - l.number = omega arith in
    (on_left _ _ _ _ _ _ _ _ _ (err_from_is_err_and c.from_residual.result c.from_residual.ensures.1) (on_err _ _ _ _ _ _ _ _ _ c.in_err-close_often.was
    (all_more next refused _ _ l.mounted.asking mid.asking _ l.mounted.session mid.session l.number _ _ _ n (l.invariant.on next refused) left c.count_of-count.ensures c.close_often.ensures.does)))

pub returns-clause-does : goal.returns-clause-does
returns-clause-does g c = λ next refused.
    let l = c.loop-number in
    let none : c.args.inodes - l.number ≡ 0 = omega arith in
    (on_then _ _ _ _ _ _ _ _ _ (l.invariant.on next refused) (all_none next refused l.mounted.asking l.mounted.session l.number _ none))
