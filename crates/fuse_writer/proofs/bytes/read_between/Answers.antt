use Rattle.std.proofs.Common.{◌≡◌, ◌+◌, ◌-◌, ◌/◌, suc, [], length, arith, refl, subst, ◌∙◌}
use Rattle.std.proofs.lemmas.Result.{err_from_is_err_and}
use Rattle.fuse_writer.specs.Doings.{LeadsOn}
use Rattle.fuse_writer.specs.Requests.{reads_blocks}
use Rattle.fuse_writer.proofs.BytesLemmas.{few_read, read_all}
use Rattle.fuse_writer.proofs.DoingLemmas.{on_then}
use Rattle.fuse_writer.proofs.bytes.read_between.Goals as goal

pub returns-in_err-read_part-clause-does : goal.returns-in_err-read_part-clause-does
returns-in_err-read_part-clause-does g c =
    let p = err_from_is_err_and c.from_residual.result c.from_residual.ensures.1 in
    let l = c.loop-index in
    let mid = c.read_part.new.mounted in
    let n = c.blocks_of_size-last.result - (l.index + 1) in
    let left : suc (c.blocks_of_size-last.result - (l.index + 1)) ≡ c.blocks_of_size-last.result - l.index = omega arith in
    rw (p.1, p.2) (λ next refused.
    let h = subst (λ m. LeadsOn (reads_blocks c.args.handle c.args.from c.args.to l.index m l.bytes.items next refused) l.mounted.asking l.mounted.session (refused c.in_err-read_part.field-0.0)
    mid.asking mid.session) left (c.in_err-read_part.ensures.refused n next refused) in
    subst (λ m. LeadsOn (reads_blocks c.args.handle c.args.from c.args.to (c.args.from / 1024) (m - c.args.from / 1024) [] next refused) c.args.mounted.now.asking c.args.mounted.now.session
    (refused c.in_err-read_part.field-0.0) mid.asking mid.session) c.blocks_of_size-last.ensures (on_then _ _ _ _ _ _ _ _ _ (l.invariant.on next refused) h))

pub returns-clause-does : goal.returns-clause-does
returns-clause-does g c = λ next refused.
    let l = c.loop-index in
    let none : c.blocks_of_size-last.result - l.index ≡ 0 = omega arith in
    subst (λ m. LeadsOn (reads_blocks c.args.handle c.args.from c.args.to (c.args.from / 1024) (m - c.args.from / 1024) [] next refused) c.args.mounted.now.asking c.args.mounted.now.session
    (next l.bytes.items) l.mounted.asking l.mounted.session) c.blocks_of_size-last.ensures
    (on_then _ _ _ _ _ _ _ _ _ (l.invariant.on next refused) (read_all l.mounted.asking l.mounted.session c.args.handle c.args.from c.args.to l.index _ l.bytes.items next refused none))

pub loop-index-preserved : goal.loop-index-preserved
loop-index-preserved g c =
    let l = c.loop-index in
    let mid = c.read_part.new.mounted in
    let all = c.read_part.new.bytes in
    let n = c.blocks_of_size-last.result - (l.index + 1) in
    let left : suc (c.blocks_of_size-last.result - (l.index + 1)) ≡ c.blocks_of_size-last.result - l.index = omega arith in
    record {
      start = c.read_part.ensures.start ∙ l.invariant.start;
      session = c.read_part.ensures.session ∙ l.invariant.session;
      few = omega (arith, l.invariant.few, c.in_ok-read_part.ensures.few, l.auto.index);
      on = λ next refused. on_then _ _ _ _ _ _ _ _ _ (l.invariant.on next refused)
          (subst (λ m. LeadsOn (reads_blocks c.args.handle c.args.from c.args.to l.index m l.bytes.items next refused) l.mounted.asking l.mounted.session
          (reads_blocks c.args.handle c.args.from c.args.to (l.index + 1) n all.items next refused) mid.asking mid.session) left (c.in_ok-read_part.ensures.read n next refused));
    }

pub returns-clause-few : goal.returns-clause-few
returns-clause-few g c = few_read (length c.loop-index.bytes.items) (c.args.from / 1024) c.loop-index.index c.blocks_of_size-last.result c.args.from c.args.to refl
    c.blocks_of_size-last.ensures c.loop-index.auto.index-end c.requires.ordered c.requires.small c.loop-index.invariant.few
