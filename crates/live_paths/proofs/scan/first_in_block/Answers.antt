-- What is read of a slot is what the directory has there.
use Rattle.std.proofs.Common.{◌≡◌, ◌+◌, ◌*◌, ◌/◌, sym, ap, ◌∙◌, arith}
use Rattle.model.specs.Layout.{inode_count}
use Rattle.model.specs.Slots.{number_in, slot_of}
use Rattle.model.proofs.Shape.{numbers}
use Rattle.live_paths.specs.Sought.{is_sought, kept_slot}
use Rattle.live_paths.proofs.ScanLemmas.{absent_none, none_more}
use Rattle.live_paths.proofs.scan.first_in_block.Goals as goal

-- a position is a small number
pub overflow_mul-start : goal.overflow_mul-start
overflow_mul-start c = let small = (numbers c.args.frozen.now.geometry).1 in omega (arith, small.most, small.few, c.requires.position)

pub overflow_add-slot-end : goal.overflow_add-slot-end
overflow_add-slot-end c = let small = (numbers c.args.frozen.now.geometry).1 in omega (arith, small.most, small.few, c.requires.position)

pub returns-then-is_met-clause-found : goal.returns-then-is_met-clause-found
returns-then-is_met-clause-found c =
    let s = c.loop-slot.slot in
    let at : s / 16 ≡ c.args.position = omega arith in
    let block = c.in_ok-block.block.now in
    let count : c.inodes-inodes.result ≡ inode_count c.args.frozen.now.geometry = c.inodes-inodes.ensures.count ∙ ap inode_count c.geometry.ensures.geometry in
    let here : kept_slot c.args.frozen.now c.args.directory s ≡ slot_of c.inodes-inodes.result block s = c.in_ok-block.ensures.slots s at ∙ ap (λ n. slot_of n block s) (sym count) in
    record {
      behind = omega arith;
      below = omega arith;
      met = ap (is_sought c.args.sought.now s) here ∙ sym c.is_met.ensures ∙ c.if-is_met.true;
      number = ap number_in (here ∙ sym c.slot_in.ensures) ∙ sym c.number_in-number.ensures;
      before = c.loop-slot.invariant;
    }

pub loop-slot-preserved : goal.loop-slot-preserved
loop-slot-preserved c =
    let s = c.loop-slot.slot in
    let at : s / 16 ≡ c.args.position = omega arith in
    let block = c.in_ok-block.block.now in
    let count : c.inodes-inodes.result ≡ inode_count c.args.frozen.now.geometry = c.inodes-inodes.ensures.count ∙ ap inode_count c.geometry.ensures.geometry in
    let here : kept_slot c.args.frozen.now c.args.directory s ≡ slot_of c.inodes-inodes.result block s = c.in_ok-block.ensures.slots s at ∙ ap (λ n. slot_of n block s) (sym count) in
    none_more c.args.frozen.now c.args.directory c.args.sought.now (16 * c.args.position) s c.loop-slot.invariant
    (ap (is_sought c.args.sought.now s) here ∙ sym c.is_met.ensures ∙ c.if-is_met.false)

pub returns-in_err-block-clause-none : goal.returns-in_err-block-clause-none
returns-in_err-block-clause-none c = rw c.from_residual.ensures (
    absent_none c.args.frozen.now c.args.directory c.args.sought.now (16 * c.args.position) (16 * (c.args.position + 1))
    (λ s low high. let at : s / 16 ≡ c.args.position = omega (arith, low, high) in c.in_err-block.ensures.slots s at)
    )
