-- Each slot is that of the directory.
use Rattle.std.proofs.Common.{◌≡◌, ◌+◌, ◌*◌, ◌/◌, ap, sym, ◌∙◌, arith, subst}
use Rattle.frozen.specs.Kept.{frozen_view}
use Rattle.model.specs.Layout.{Geometry, inode_count}
use Rattle.model.specs.Slots.{slot_of}
use Rattle.model.proofs.Shape.{numbers}
use Rattle.phase_names.specs.Walks.{IsWalked}
use Rattle.phase_names.proofs.slots.Walk.add_block.Goals as goal

-- a position is a small number
pub overflow_mul-first : goal.overflow_mul-first
overflow_mul-first c = let small = (numbers c.args.frozen.now.geometry).1 in omega (arith, small.most, small.few, c.requires.position)

pub overflow_add-slot-end : goal.overflow_add-slot-end
overflow_add-slot-end c = let small = (numbers c.args.frozen.now.geometry).1 in omega (arith, small.most, small.few, c.requires.position)

pub add_slot-requires : goal.add_slot-requires
add_slot-requires c =
    let here : c.loop-slot.slot / 16 ≡ c.args.position = omega arith in
    let count : c.inodes-inodes.result ≡ inode_count c.args.frozen.now.geometry = c.inodes-inodes.ensures.count ∙ ap (λ (g : Geometry). inode_count g) c.geometry.ensures.geometry in
    c.slot_in.ensures ∙ ap (λ n. slot_of n c.args.block.now c.loop-slot.slot) count ∙ sym (c.requires.block c.loop-slot.slot here)

pub returns-clause-walked : goal.returns-clause-walked
returns-clause-walked c = λ h.
    let all : c.loop-slot.slot ≡ 16 * (c.args.position + 1) = omega arith in
    subst (λ n. IsWalked c.args.frozen.now.geometry (frozen_view c.args.frozen.now) c.args.directory n c.loop-slot.self) all (c.loop-slot.invariant h)
