-- A block that is left out names nothing, and each slot of a block from the first on adds what it names.
use Rattle.std.proofs.Common.{◌≡◌, ◌/◌, ◌++◌, ℕ, Vec, Global, sym, ap, ◌∙◌, arith, add-one}
use Rattle.std.specs.Option.{option_copied, option_map_or}
use Rattle.frozen.specs.Kept.{frozen_view}
use Rattle.dirent.specs.Seen.{seen}
use Rattle.model.specs.Layout.{inode_count}
use Rattle.model.specs.Named.{named_below, number_of}
use Rattle.model.specs.Slots.{Absent, slot_in, slot_of}
use Rattle.model.proofs.NamedLemmas.{named_before}
use Rattle.model.proofs.Shape.{numbers}
use Rattle.directories.proofs.SlotLemmas.{block_absent, slot_more}
use Rattle.directories.proofs.reading.add_block.Goals as goal
use Rattle.directories.proofs.reading.add_block.Goals.{then-slot-first+in_ok-add_number, else-slot-first}

-- a position is a small number
pub overflow_mul-start : goal.overflow_mul-start
overflow_mul-start c = let small = (numbers c.args.frozen.now.geometry).1 in omega (arith, small.most, small.few, c.requires)

pub overflow_add-slot-end : goal.overflow_add-slot-end
overflow_add-slot-end c = let small = (numbers c.args.frozen.now.geometry).1 in omega (arith, small.most, small.few, c.requires)

pub returns-in_default-clause-added : goal.returns-in_default-clause-added
returns-in_default-clause-added c = λ e.
    let geo = c.args.frozen.now.geometry in
    let view = frozen_view c.args.frozen.now in
    e ∙ sym (block_absent geo view c.args.directory c.args.first c.args.position
    (λ s at. c.directory_block.ensures.slots s at ∙ ap (λ o. option_map_or (λ b. slot_in geo b s) (option_copied o) Absent) c.in_default.is))

pub loop-slot-preserved : goal.loop-slot-preserved
loop-slot-preserved c = λ e.
    let geo = c.args.frozen.now.geometry in
    let view = frozen_view c.args.frozen.now in
    let s = c.loop-slot.slot in
    let so_far = c.loop-slot.invariant e in
    elim c.if-slot-first.branch [
      | then-slot-first+in_ok-add_number w ↦
          let at : s / 16 ≡ c.args.position = omega arith in
          let same_count : c.inodes-inodes.result ≡ inode_count geo = c.inodes-inodes.ensures.count ∙ ap inode_count c.geometry.ensures.geometry in
          let is : seen w.slot_in.result ≡ slot_in geo c.in-Some.block.now s = w.slot_in.ensures ∙ ap (λ n. slot_of n c.in-Some.block.now s) same_count in
          slot_more geo view c.args.directory c.args.first s c.in-Some.block.now (option_copied c.directory_block.result) c.loop-slot.numbers.items c.if-slot-first.numbers.items
          (omega (arith, w.if-slot-first.true)) (ap option_copied c.in-Some.is) (c.directory_block.ensures.slots s at) so_far
          (ap (λ (v : Vec ℕ Global). v.items) w.numbers-is ∙ w.in_ok-add_number.ensures.added ∙ ap (λ x. c.loop-slot.numbers.items ++ number_of x) is)
      | else-slot-first w ↦
          ap (λ (v : Vec ℕ Global). v.items) w.numbers-is ∙ so_far ∙ sym (named_before geo view c.args.directory c.args.first s (omega (arith, w.if-slot-first.false)))
          ∙ ap (λ n. named_below geo view c.args.first c.args.directory n) (sym (add-one s))
    ]
