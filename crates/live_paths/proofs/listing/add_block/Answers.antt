-- A block that is left out has no names, and each slot of a block behind the dots adds its name.
use Rattle.std.proofs.Common.{◌≡◌, ◌/◌, ◌++◌, Vec, Global, map, sym, ap, ◌∙◌, arith}
use Rattle.std.specs.Option.{option_copied, option_map_or}
use Rattle.frozen.specs.Kept.{frozen_view}
use Rattle.dirent.specs.Seen.{seen}
use Rattle.model.specs.Layout.{inode_count}
use Rattle.model.specs.Slots.{Absent, slot_in, slot_of}
use Rattle.model.proofs.Shape.{numbers}
use Rattle.machine.specs.Effects as machine
use Rattle.live_paths.specs.Listed.{name_of}
use Rattle.live_paths.specs.declared.listing.Named.{Named}
use Rattle.live_paths.proofs.ListedLemmas.{block_absent, dots_more, slot_more}
use Rattle.live_paths.proofs.listing.add_block.Goals as goal
use Rattle.live_paths.proofs.listing.add_block.Goals.{then-slot-ge-FIRST_NAME+in_ok-add_name, else-slot-ge-FIRST_NAME}

-- a position is a small number
pub overflow_mul-start : goal.overflow_mul-start
overflow_mul-start c = let small = (numbers c.args.frozen.now.geometry).1 in omega (arith, small.most, small.few, c.requires)

pub overflow_add-slot-end : goal.overflow_add-slot-end
overflow_add-slot-end c = let small = (numbers c.args.frozen.now.geometry).1 in omega (arith, small.most, small.few, c.requires)

pub returns-in_default : goal.returns-in_default
returns-in_default c = λ e.
    let geo = c.args.frozen.now.geometry in
    let view = frozen_view c.args.frozen.now in
    e ∙ sym (block_absent geo view c.args.directory c.args.position
    (λ s at. c.directory_block.ensures.slots s at ∙ ap (λ o. option_map_or (λ b. slot_in geo b s) (option_copied o) Absent) c.in_default.is))

pub loop-slot-preserved : goal.loop-slot-preserved
loop-slot-preserved c = λ e.
    let geo = c.args.frozen.now.geometry in
    let view = frozen_view c.args.frozen.now in
    let s = c.loop-slot.slot in
    let so_far = c.loop-slot.invariant e in
    elim c.if-slot-ge-FIRST_NAME.branch [
      | then-slot-ge-FIRST_NAME+in_ok-add_name w ↦
          let at : s / 16 ≡ c.args.position = omega arith in
          let count : c.inodes-inodes.result ≡ inode_count geo = c.inodes-inodes.ensures.count ∙ ap inode_count c.geometry.ensures.geometry in
          let is : seen w.slot_in.result ≡ slot_in geo c.in-Some.block.now s = w.slot_in.ensures ∙ ap (λ n. slot_of n c.in-Some.block.now s) count in
          slot_more geo view c.args.directory s c.in-Some.block.now (option_copied c.directory_block.result) (map name_of c.loop-slot.names.items) (map name_of c.if-slot-ge-FIRST_NAME.names.items)
          (omega (arith, w.if-slot-ge-FIRST_NAME.true)) (ap option_copied c.in-Some.is) (c.directory_block.ensures.slots s at) so_far
          (ap (λ (v : Vec Named Global). map name_of v.items) w.names-is ∙ w.in_ok-add_name.ensures ∙ ap (λ x. map name_of c.loop-slot.names.items ++ machine.named x) is)
      | else-slot-ge-FIRST_NAME w ↦
          ap (λ (v : Vec Named Global). map name_of v.items) w.names-is ∙ dots_more geo view c.args.directory s (map name_of c.loop-slot.names.items) (omega (arith, w.if-slot-ge-FIRST_NAME.false)) so_far
    ]
