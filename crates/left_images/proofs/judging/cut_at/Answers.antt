use Rattle.std.proofs.Common.{rules, ◌≡◌, length, take, ap, ◌∙◌, sym}
use Rattle.device.specs.Cached.{held_by}
use Rattle.left_images.proofs.JudgedLemmas.{one_judged}
use Rattle.left_images.proofs.judging.cut_at.Goals as goal

pub loop-number-preserved : goal.loop-number-preserved
loop-number-preserved g c =
    let cache = c.args.device.now in
    let made : c.in_ok-ok_or.field-0.now ≡ take c.args.steps cache.steps = search rules in
    one_judged g.J.Judge.tells cache c.args.steps c.args.most c.loop-number.number c.loose_after-loose.result c.loop-number.worst c.worse-worst.result c.in_ok-judge.field-0
    c.in_ok-picks.picks.items c.as_slice.result.now c.in_ok-left.left c.loop-number.invariant
    (ap (λ ss. length (held_by cache.first ss).now.loose) (sym made) ∙ c.loose_after-loose.ensures cache.first) c.in_ok-picks.ensures c.in_ok-left.ensures.left c.as_slice.ensures.value c.in_ok-judge.ensures c.worse-worst.ensures
