use Rattle.std.proofs.Common.{◌≡◌, suc, ◌+◌, ◌∷◌, [], length, sym, ap, ◌∙◌, subst, length-append, arith}
use Rattle.left_images.specs.Judged.{AreCutsFrom, IsCut}
use Rattle.left_images.proofs.JudgedLemmas.{cuts-push}
use Rattle.left_images.proofs.judging.cuts.Goals as goal

pub loop-at-preserved : goal.loop-at-preserved
loop-at-preserved g c =
    let cache = c.args.device.now in
    let cut = c.in_ok-cut_at-2.field-0 in
    let cs = c.loop-at.cuts.items in
    let count = c.loop-at.invariant.count in
    record {
      count = ap length c.in_ok-push-2.ensures.items ∙ length-append cs (cut ∷ []) ∙ ap (λ n. n + 1) count ∙ (let e : suc c.loop-at.at + 1 ≡ suc (c.loop-at.at + 1) = omega arith in e);
      are = subst (λ all. AreCutsFrom g.J.Judge.tells cache c.args.most 0 all) (sym c.in_ok-push-2.ensures.items)
          (cuts-push g.J.Judge.tells cache c.args.most 0 cs cut c.loop-at.invariant.are (subst (λ n. IsCut g.J.Judge.tells cache n c.args.most cut) (let e : c.loop-at.at + 1 ≡ 0 + length cs = omega (arith, count) in e) c.in_ok-cut_at-2.ensures));
    }
