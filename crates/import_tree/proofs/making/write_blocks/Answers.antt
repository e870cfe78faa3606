use Rattle.std.proofs.Common.{◌≡◌, ◌+◌, ◌-◌, ◌*◌, ℕ, drop, sym, ap, ◌∙◌, subst, arith, rules}
use Rattle.std.specs.Slice.Iter.{chunks_rest, chunks_size}
use Rattle.std.specs.declared.slice.Chunks.{Chunks}
use Rattle.import_tree.specs.Putting.{AddsPart}
use Rattle.import_tree.proofs.CutLemmas.{cut_end, cut_step}
use Rattle.import_tree.proofs.PutLemmas.{no_part, then_flushed, wrote_more}
use Rattle.import_tree.proofs.making.write_blocks.Goals as goal

pub loop-piece-preserved : goal.loop-piece-preserved
loop-piece-preserved g c =
    let inv = c.loop-piece.invariant in
    let held = g.D.Device.held in
    let image = g.D.Device.image in
    let old = c.args.volume.now in
    let mid = c.loop-piece.volume in
    let wrote = c.write_piece.new.volume in
    let new = c.count.new.volume in
    let bytes = c.args.bytes.now in
    let first = c.args.first in
    let index = c.loop-piece.next.index in
    let more = c.in_ok-next.ensures.next in
    let n = index - first in
    let next = c.in_ok-next.next.index - first in
    let on : next ≡ n + 1 = omega (arith, more, inv.3) in
    let cut = cut_step bytes n next _ _ _ c.in-Some.piece c.in-Some.is c.next.ensures.steps inv.2 inv.4 on in (
      search rules,
      search rules,
      cut.size,
      omega (arith, more, inv.3),
      cut.rest,
      cut.within,
      λ h. inv.6 (c.write_piece.ensures.honest (c.count.ensures.honest h)),
      λ h. let then = c.count.ensures.honest h in
          then_flushed (held old.device) (held wrote.device) (held new.device) (image old.device) (image wrote.device) (image new.device) old wrote new c.args.handle first next bytes
          (wrote_more (held old.device) (held mid.device) (held wrote.device) (image old.device) (image mid.device) (image wrote.device) old mid wrote c.args.handle first n index next bytes c.in-Some.piece.now
          (omega (arith, inv.3)) on cut.piece_is (inv.7 (c.write_piece.ensures.honest then)) (c.in_ok-next.ensures.written then)) (c.in_ok-count.ensures.written h),
    )

pub loop-piece-init : goal.loop-piece-init
loop-piece-init g c =
    let old = c.args.volume.now in
    let start = c.into_iter-piece-iterator.ensures.into_iter_gives in
    let none : (c.args.first - c.args.first) * 1024 ≡ 0 = omega arith in (
      search rules,
      search rules,
      ap (λ (s : Chunks ℕ). chunks_size s) start ∙ c.chunks-piece-items.ensures.size,
      omega arith,
      ap (λ (s : Chunks ℕ). chunks_rest s) start ∙ c.chunks-piece-items.ensures.rest ∙ sym (ap (λ k. drop k c.args.bytes.now) none),
      omega arith,
      λ h. h,
      λ h. no_part (g.D.Device.held old.device) (g.D.Device.image old.device) old c.args.handle c.args.first (c.args.first - c.args.first) c.args.bytes.now (omega arith),
    )

pub returns-clause-next : goal.returns-clause-next
returns-clause-next g c =
    let inv = c.loop-piece.invariant in
    omega (arith, inv.3, cut_end c.args.bytes.now (c.loop-piece.next.index - c.args.first) _ _ _ c.in-None.is c.next.ensures.steps inv.4 inv.5)

pub returns-clause-written : goal.returns-clause-written
returns-clause-written g c = λ honest.
    let inv = c.loop-piece.invariant in
    let held = g.D.Device.held in
    let image = g.D.Device.image in
    let old = c.args.volume.now in
    let new = c.loop-piece.volume in
    subst (λ n. AddsPart c.args.handle c.args.first c.args.bytes.now n (held old.device) (image old.device) old (held new.device) (image new.device) new)
    (cut_end c.args.bytes.now (c.loop-piece.next.index - c.args.first) _ _ _ c.in-None.is c.next.ensures.steps inv.4 inv.5) (inv.7 honest)
