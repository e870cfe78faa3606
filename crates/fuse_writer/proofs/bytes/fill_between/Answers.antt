use Rattle.std.proofs.Common.{◌≡◌, ◌+◌, ◌-◌, ◌/◌, suc, take, replicate, ap, arith, subst, ◌∙◌}
use Rattle.std.proofs.lemmas.List.{take-replicate}
use Rattle.std.proofs.lemmas.Result.{err_from_is_err_and}
use Rattle.fuse_writer.specs.Doings.{Does, LeadsOn, go_on_or}
use Rattle.fuse_writer.specs.Requests.{count_in, fills_blocks}
use Rattle.fuse_writer.proofs.DoingLemmas.{on_err, on_left, on_ok}
use Rattle.fuse_writer.proofs.WriteLemmas.{fill_more, fill_none}
use Rattle.fuse_writer.proofs.bytes.fill_between.Goals as goal

pub returns-in_err-write_part-clause-filled : goal.returns-in_err-write_part-clause-filled
returns-in_err-write_part-clause-filled g c = λ next refused.
    let l = c.loop-index in
    let n = c.blocks_of_size-last.result - (l.index + 1) in
    let left : suc (c.blocks_of_size-last.result - (l.index + 1)) ≡ c.blocks_of_size-last.result - l.index = omega arith in
    let mid = c.write_part.new.mounted in
    let are : take c.count_in-count.result (replicate 1024 0) ≡ replicate (count_in l.index c.args.span.from c.args.span.to) 0 =
    take-replicate c.count_in-count.result 1024 0 c.count_in-count.ensures.within ∙ ap (λ m. replicate m 0) c.count_in-count.ensures.count in
    let p = err_from_is_err_and c.from_residual.result c.from_residual.ensures.1 in
    subst (λ m. LeadsOn (fills_blocks c.args.handle c.args.span.from c.args.span.to (c.args.span.from / 1024) (m - c.args.span.from / 1024) next refused) c.args.mounted.now.asking
    c.args.mounted.now.session (go_on_or c.from_residual.result next refused) mid.asking mid.session) c.blocks_of_size-last.ensures
    (on_left _ _ _ _ _ _ _ _ _ p (on_err _ _ _ _ _ _ _ _ _ c.in_err-write_part.was
    (fill_more l.mounted.asking mid.asking l.mounted.session mid.session c.args.handle c.args.span.from c.args.span.to l.index _ are _ _ _ _ c.write_part.ensures.written _ n left next refused (l.invariant.on next refused))))

pub loop-index-preserved : goal.loop-index-preserved
loop-index-preserved g c =
    let l = c.loop-index in
    let n = c.blocks_of_size-last.result - (l.index + 1) in
    let left : suc (c.blocks_of_size-last.result - (l.index + 1)) ≡ c.blocks_of_size-last.result - l.index = omega arith in
    let mid = c.write_part.new.mounted in
    let are : take c.count_in-count.result (replicate 1024 0) ≡ replicate (count_in l.index c.args.span.from c.args.span.to) 0 =
    take-replicate c.count_in-count.result 1024 0 c.count_in-count.ensures.within ∙ ap (λ m. replicate m 0) c.count_in-count.ensures.count in
    record {
      start = c.write_part.ensures.start ∙ l.invariant.start;
      session = c.write_part.ensures.session ∙ l.invariant.session;
      on = λ next refused. on_ok _ _ _ _ _ _ _ _ _ c.in_ok-write_part.was
          (fill_more l.mounted.asking mid.asking l.mounted.session mid.session c.args.handle c.args.span.from c.args.span.to l.index _ are _ _ _ _ c.write_part.ensures.written _ n left next refused (l.invariant.on next refused));
    }

pub returns-clause-filled : goal.returns-clause-filled
returns-clause-filled g c = λ next refused said new last does.
    let l = c.loop-index in
    let none : c.blocks_of_size-last.result - l.index ≡ 0 = omega arith in
    subst (λ m. Does (fills_blocks c.args.handle c.args.span.from c.args.span.to (c.args.span.from / 1024) (m - c.args.span.from / 1024) next refused) c.args.mounted.now.asking
    c.args.mounted.now.session said new last) c.blocks_of_size-last.ensures
    (l.invariant.on next refused said new last
    (fill_none l.mounted.asking l.mounted.session c.args.handle c.args.span.from c.args.span.to l.index _ next refused none said new last does))
