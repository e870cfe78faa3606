use Rattle.std.proofs.Common.{◌≡◌, ◌≤◌, ◌*◌, ◌+◌, ◌-◌, sym, ap₂, ◌∙◌, arith, take, drop, length, subst}
use Rattle.model.specs.Image.{IsBlock}
use Rattle.device.proofs.MemoryLemmas.{cut_more, part_is_block}
use Rattle.device.proofs.memory.blocks_of.Goals as goal

pub loop-i-preserved : goal.loop-i-preserved
loop-i-preserved c =
    let low : 1024 * (c.loop-i.i + 1) ≤ length c.args.bytes.now = omega arith in
    let count : (c.loop-i.i + 1) * 1024 - c.loop-i.i * 1024 ≡ 1024 = omega arith in
    let start : c.loop-i.i * 1024 ≡ 1024 * c.loop-i.i = omega arith in
    let part : c.copy_from_slice.new.self ≡ take 1024 (drop (1024 * c.loop-i.i) c.args.bytes.now) =
    c.copy_from_slice.ensures.after ∙ ap₂ (λ n from. take n (drop from c.args.bytes.now)) count start in
    cut_more c.args.bytes.now c.loop-i.blocks.items c.push.new.self.items c.loop-i.i c.copy_from_slice.new.self c.loop-i.invariant
    (subst IsBlock (sym part) (part_is_block c.args.bytes.now c.loop-i.i low (λ i. omega (arith, c.type_inv.bytes i)))) part c.in_ok-push.ensures.items
