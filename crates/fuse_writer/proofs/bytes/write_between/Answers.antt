use Rattle.std.proofs.Common.{◌≡◌, ◌+◌, ◌-◌, ◌/◌, drop, suc, take, length, length-drop, min, ap, arith, refl, rules, subst, ◌∙◌}
use Rattle.std.proofs.lemmas.List.{take_all}
use Rattle.fuse_wire.specs.declared.bodies.Body.TheVariants as bodies
use Rattle.fuse_reader.specs.Said.{Refused, told}
use Rattle.fuse_writer.specs.Doings.{Does}
use Rattle.fuse_writer.specs.Requests.{count_in, writes_blocks}
use Rattle.fuse_writer.proofs.WriteLemmas.{write_all, write_on, write_refused, wrote_none, wrote_some}
use Rattle.fuse_writer.proofs.bytes.write_between.Goals as goal

pub returns-then-done-eq0-clause-does : goal.returns-then-done-eq0-clause-does
returns-then-done-eq0-clause-does g c =
    let l = c.loop-index in
    let n = c.blocks_of_size-last.result - (l.index + 1) in
    let left : suc (c.blocks_of_size-last.result - (l.index + 1)) ≡ c.blocks_of_size-last.result - l.index = omega arith in
    let mid = c.write_part.new.mounted in
    let counted : c.min-count.result ≡ min (count_in l.index c.args.span.from c.args.span.to) (length l.rest.now) = search rules in
    subst (λ m. Does (writes_blocks c.args.handle c.args.span.from c.args.span.to (c.args.span.from / 1024) (m - c.args.span.from / 1024) c.args.bytes.now 0) c.args.mounted.now.asking c.args.mounted.now.session (Refused c.in-Err.error)
    mid.asking mid.session) c.blocks_of_size-last.ensures (l.invariant.on _ _ _
    (subst (λ m. Does (writes_blocks c.args.handle c.args.span.from c.args.span.to l.index m l.rest.now l.done) l.mounted.asking l.mounted.session (Refused c.in-Err.error) mid.asking mid.session) left
    (write_refused l.mounted.asking mid.asking l.mounted.session mid.session c.args.handle c.args.span.from c.args.span.to l.index l.rest.now l.done c.min-count.result _ counted refl _ c.write_part.ensures.written _ c.in-Err.is n _ (wrote_none mid.asking mid.session l.done _ c.if-done-eq0.true))))

pub returns-in-Err-clause-does : goal.returns-in-Err-clause-does
returns-in-Err-clause-does g c =
    let l = c.loop-index in
    let n = c.blocks_of_size-last.result - (l.index + 1) in
    let left : suc (c.blocks_of_size-last.result - (l.index + 1)) ≡ c.blocks_of_size-last.result - l.index = omega arith in
    let mid = c.write_part.new.mounted in
    let counted : c.min-count.result ≡ min (count_in l.index c.args.span.from c.args.span.to) (length l.rest.now) = search rules in
    subst (λ m. Does (writes_blocks c.args.handle c.args.span.from c.args.span.to (c.args.span.from / 1024) (m - c.args.span.from / 1024) c.args.bytes.now 0) c.args.mounted.now.asking c.args.mounted.now.session (told (bodies.Written l.done))
    mid.asking mid.session) c.blocks_of_size-last.ensures (l.invariant.on _ _ _
    (subst (λ m. Does (writes_blocks c.args.handle c.args.span.from c.args.span.to l.index m l.rest.now l.done) l.mounted.asking l.mounted.session (told (bodies.Written l.done)) mid.asking mid.session) left
    (write_refused l.mounted.asking mid.asking l.mounted.session mid.session c.args.handle c.args.span.from c.args.span.to l.index l.rest.now l.done c.min-count.result _ counted refl _ c.write_part.ensures.written _ c.in-Err.is n _ (wrote_some mid.asking mid.session l.done _ c.if-done-eq0.false))))

pub loop-index-preserved : goal.loop-index-preserved
loop-index-preserved g c =
    let l = c.loop-index in
    let n = c.blocks_of_size-last.result - (l.index + 1) in
    let left : suc (c.blocks_of_size-last.result - (l.index + 1)) ≡ c.blocks_of_size-last.result - l.index = omega arith in
    let mid = c.write_part.new.mounted in
    let counted : c.min-count.result ≡ min (count_in l.index c.args.span.from c.args.span.to) (length l.rest.now) = search rules in
    let whole : take (length l.rest.now - c.min-count.result) (drop c.min-count.result l.rest.now) ≡ drop c.min-count.result l.rest.now =
    take_all (length l.rest.now - c.min-count.result) (drop c.min-count.result l.rest.now) (omega (arith, length-drop c.min-count.result l.rest.now)) in
    record {
      start = c.write_part.ensures.start ∙ l.invariant.start;
      sum = omega (arith, l.invariant.sum, counted, ap length whole, length-drop c.min-count.result l.rest.now);
      on = λ said new last does. l.invariant.on said new last
          (subst (λ m. Does (writes_blocks c.args.handle c.args.span.from c.args.span.to l.index m l.rest.now l.done) l.mounted.asking l.mounted.session said new last) left
          (write_on l.mounted.asking mid.asking l.mounted.session mid.session c.args.handle c.args.span.from c.args.span.to l.index l.rest.now l.done c.min-count.result _ counted refl _ c.write_part.ensures.written _ c.in-Ok.is _ whole n said new last does));
    }

pub returns-clause-does : goal.returns-clause-does
returns-clause-does g c =
    let l = c.loop-index in
    let none : c.blocks_of_size-last.result - l.index ≡ 0 = omega arith in
    subst (λ m. Does (writes_blocks c.args.handle c.args.span.from c.args.span.to (c.args.span.from / 1024) (m - c.args.span.from / 1024) c.args.bytes.now 0) c.args.mounted.now.asking c.args.mounted.now.session
    (told (bodies.Written l.done)) l.mounted.asking l.mounted.session) c.blocks_of_size-last.ensures
    (l.invariant.on _ _ _ (write_all l.mounted.asking l.mounted.session c.args.handle c.args.span.from c.args.span.to l.index _ l.rest.now l.done none))

pub overflow_add-done : goal.overflow_add-done
overflow_add-done g c =
    let l = c.loop-index in
    let counted : c.min-count.result ≡ min (count_in l.index c.args.span.from c.args.span.to) (length l.rest.now) = search rules in
    omega (arith, l.invariant.sum, counted, c.requires)

pub loop-index-init : goal.loop-index-init
loop-index-init g c = record { start = refl; sum = omega arith; on = λ said new last does. does }
