use Rattle.std.proofs.Common.{◌/◌, ◌%◌, List, ℕ, Bor, ap, ◌∙◌, arith}
use Rattle.file_device.specs.Runs.{IsEarlier, filled}
use Rattle.file_device.proofs.EarlierLemmas.{length-slots_from, replaced_nowhere, replaced_there}
use Rattle.file_device.proofs.RunLemmas.{none_of, some_of}
use Rattle.file_device.proofs.run.earlier.Earlier.replace.Goals as goal

pub returns-then-is_none : goal.returns-then-is_none
returns-then-is_none c =
    replaced_nowhere c.args.address (c.args.address / 31) 0 (c.args.address % 31) c.args.block.now c.args.self.now.slots.value.all (omega arith) (omega arith)
    (omega (arith, length-slots_from 0 c.args.self.now.slots.value.all, c.block.ensures.slots))
    (c.block.ensures.none (none_of c.block.result c.is_none.result c.is_none.ensures c.if-is_none.true))

pub returns : goal.returns
returns c =
    let there = some_of (λ (old : Bor (List ℕ)). IsEarlier c.args.self.now c.args.address old.now) c.block.result c.is_none.result c.block.ensures.kept c.is_none.ensures c.if-is_none.false in
    ap filled c.keep.ensures
    ∙ replaced_there c.args.address (c.args.address / 31) 0 (c.args.address % 31) there.0.now c.args.block.now c.args.self.now.slots.value.all (omega arith) (omega arith)
    (omega (arith, length-slots_from 0 c.args.self.now.slots.value.all, c.block.ensures.slots)) there.1
