use Rattle.std.proofs.Common.{◌≡◌, ◌+◌, ◌-◌, suc, drop, take, length, length-drop, min, ap, arith, refl, rules, subst, ◌∙◌}
use Rattle.std.proofs.lemmas.List.{drop_min, take_all, take_min}
use Rattle.std.proofs.lemmas.Result.{err_from_is_err_and}
use Rattle.fuse_wire.specs.declared.errors.Errno.TheVariants as errors
use Rattle.fuse_writer.specs.Doings.{Does, LeadsOn, go_on_or}
use Rattle.fuse_writer.specs.Requests.{puts_blocks}
use Rattle.fuse_writer.proofs.DoingLemmas.{on_equal, on_err, on_left, on_ok}
use Rattle.fuse_writer.proofs.LinkLemmas.{put_more, put_no_piece, put_none}
use Rattle.fuse_writer.proofs.linking.put_blocks.Goals as goal

pub loop-index-init : goal.loop-index-init
loop-index-init g c =
    let whole : c.blocks_of_size-last.result ≡ c.blocks_of_size-last.result - 0 = omega arith in
    record {
      start = refl;
      session = refl;
      on = λ next refused. on_equal _ _ _ _ (ap (λ m. puts_blocks c.args.handle 0 m c.args.bytes.now next refused) whole);
    }

pub loop-index-preserved : goal.loop-index-preserved
loop-index-preserved g c =
    let l = c.loop-index in
    let n = c.blocks_of_size-last.result - (l.index + 1) in
    let left : suc (c.blocks_of_size-last.result - (l.index + 1)) ≡ c.blocks_of_size-last.result - l.index = omega arith in
    let mid = c.write_piece.new.mounted in
    let counted : c.min-count.result ≡ min 1024 (length l.rest.now) = search rules in
    let items : c.in-Ok.piece.items ≡ take c.min-count.result l.rest.now = search rules in
    let are : c.in-Ok.piece.items ≡ take 1024 l.rest.now = items ∙ ap (λ k. take k l.rest.now) counted ∙ take_min 1024 l.rest.now in
    let whole : take (length l.rest.now - c.min-count.result) (drop c.min-count.result l.rest.now) ≡ drop 1024 l.rest.now =
    take_all (length l.rest.now - c.min-count.result) (drop c.min-count.result l.rest.now) (omega (arith, length-drop c.min-count.result l.rest.now))
    ∙ ap (λ k. drop k l.rest.now) counted ∙ drop_min 1024 l.rest.now in
    record {
      start = c.write_piece.ensures.start ∙ l.invariant.start;
      session = c.write_piece.ensures.session ∙ l.invariant.session;
      on = λ next refused. on_ok _ _ _ _ _ _ _ _ _ c.in_ok-write_piece.was
          (put_more c.args.handle l.index l.rest.now next refused _ _ l.mounted.asking mid.asking _ l.mounted.session mid.session c.in-Ok.piece.items _ _ _ n (l.invariant.on next refused) left are whole c.write_piece.ensures.written);
    }

pub returns-in_default-clause-does : goal.returns-in_default-clause-does
returns-in_default-clause-does g c = λ next refused.
    let l = c.loop-index in
    let n = c.blocks_of_size-last.result - (l.index + 1) in
    let left : suc (c.blocks_of_size-last.result - (l.index + 1)) ≡ c.blocks_of_size-last.result - l.index = omega arith in
    let mid = l.mounted in
    subst (λ m. LeadsOn (puts_blocks c.args.handle 0 m c.args.bytes.now next refused) c.args.mounted.now.asking c.args.mounted.now.session
    (refused errors.NoMemory) mid.asking mid.session) c.blocks_of_size-last.ensures
    (put_no_piece c.args.handle l.index l.rest.now next refused _ _ l.mounted.asking _ l.mounted.session _ n (l.invariant.on next refused) left)

pub returns-in_err-write_piece-clause-does : goal.returns-in_err-write_piece-clause-does
returns-in_err-write_piece-clause-does g c = λ next refused.
    let l = c.loop-index in
    let n = c.blocks_of_size-last.result - (l.index + 1) in
    let left : suc (c.blocks_of_size-last.result - (l.index + 1)) ≡ c.blocks_of_size-last.result - l.index = omega arith in
    let mid = c.write_piece.new.mounted in
    let counted : c.min-count.result ≡ min 1024 (length l.rest.now) = search rules in
    let items : c.in-Ok.piece.items ≡ take c.min-count.result l.rest.now = search rules in
    let are : c.in-Ok.piece.items ≡ take 1024 l.rest.now = items ∙ ap (λ k. take k l.rest.now) counted ∙ take_min 1024 l.rest.now in
    subst (λ m. LeadsOn (puts_blocks c.args.handle 0 m c.args.bytes.now next refused) c.args.mounted.now.asking c.args.mounted.now.session
    (go_on_or c.from_residual.result next refused) mid.asking mid.session) c.blocks_of_size-last.ensures
    (on_left _ _ _ _ _ _ _ _ _ (err_from_is_err_and c.from_residual.result c.from_residual.ensures.1) (on_err _ _ _ _ _ _ _ _ _ c.in_err-write_piece.was
    (put_more c.args.handle l.index l.rest.now next refused _ _ l.mounted.asking mid.asking _ l.mounted.session mid.session c.in-Ok.piece.items _ _ _ n (l.invariant.on next refused) left are refl c.write_piece.ensures.written)))

pub returns-clause-does : goal.returns-clause-does
returns-clause-does g c = λ next refused said new last does.
    let l = c.loop-index in
    let none : c.blocks_of_size-last.result - l.index ≡ 0 = omega arith in
    subst (λ m. Does (puts_blocks c.args.handle 0 m c.args.bytes.now next refused) c.args.mounted.now.asking
    c.args.mounted.now.session said new last) c.blocks_of_size-last.ensures
    (l.invariant.on next refused said new last
    (put_none c.args.handle l.index l.rest.now next refused l.mounted.asking l.mounted.session _ none said new last does))
