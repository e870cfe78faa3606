use Rattle.std.proofs.Common.{◌%◌, List, ℕ, sym, ap, subst, rules, arith}
use Rattle.std.specs.Arc.{arc_value}
use Rattle.model.specs.Cells.{SetInode}
use Rattle.model.specs.View.{Inode}
use Rattle.ordering.specs.Cuts.{cell_of}
use Rattle.cgmaps.specs.Maps.{ChangesBit}
use Rattle.updates.specs.declared.change.Change.{Change}
use Rattle.updates.specs.Values.{change}
use Rattle.updates.specs.Places.{FitsVolume, IsCell}
use Rattle.updates.specs.Alone.{ChangesAlone}
use Rattle.std.proofs.lemmas.Grind.{common_steps}
use Rattle.updates.proofs.CellPuts.{PutsCell, record_put, number_put, block_put, bytes_put, group_block_kept}
use Rattle.updates.proofs.change.Change.put.Goals as goal

pub put_record-requires-clause-fits : goal.put_record-requires-clause-fits
put_record-requires-clause-fits c =
    subst (λ (r : Inode). FitsVolume c.args.geometry.now (SetInode c.in-SetInode.number r)) (sym c.deref.ensures) (subst (λ s. FitsVolume c.args.geometry.now (change s)) c.in-SetInode.is c.requires.fits)

pub returns-in-SetInode-clause-view : goal.returns-in-SetInode-clause-view
returns-in-SetInode-clause-view c =
    let geo = c.args.geometry.now in
    let old = c.args.block.now in
    let new = c.put_record.new.block in
    let P : Change → Type 0 = λ s. IsCell geo (cell_of (change s)) → PutsCell geo old new (change s) in
    subst P (sym c.in-SetInode.is)
    (λ t. subst (λ (r : Inode). PutsCell geo old new (SetInode c.in-SetInode.number r)) c.deref.ensures
    (record_put geo c.inodes_a_group-inodes.ensures.geometry old new c.in-SetInode.number c.deref.result.now t c.put_record.ensures.written c.put_record.ensures.others))
    c.requires.cell

pub returns-in-SetNumber-clause-view : goal.returns-in-SetNumber-clause-view
returns-in-SetNumber-clause-view c =
    let geo = c.args.geometry.now in
    let old = c.args.block.now in
    let new = c.put_bit.new.block in
    let n = c.in-SetNumber.number in
    let marked = c.in-SetNumber.marked in
    let P : Change → Type 0 = λ s. IsCell geo (cell_of (change s)) → PutsCell geo old new (change s) in
    let Q : ℕ → Type 0 = λ k. ChangesBit old new 32 k marked in
    subst P (sym c.in-SetNumber.is)
    (λ t. number_put geo c.inodes_a_group-inodes.ensures.geometry old new n marked t (subst Q (ap (λ k. n % k) c.inodes_a_group-inodes.ensures.count) c.put_bit.ensures))
    c.requires.cell

pub returns-in-Some-clause-view : goal.returns-in-Some-clause-view
returns-in-Some-clause-view c =
    let geo = c.args.geometry.now in
    let old = c.args.block.now in
    let new = c.put_bit-in-Some.new.block in
    let a = c.in-SetBlock.address in
    let marked = c.in-SetBlock.marked in
    let P : Change → Type 0 = λ s. IsCell geo (cell_of (change s)) → PutsCell geo old new (change s) in
    let Q : ℕ → Type 0 = λ k. ChangesBit old new 160 k marked in
    subst P (sym c.in-SetBlock.is)
    (λ t. block_put geo c.inodes_a_group-inodes.ensures.geometry old new a marked t (subst Q c.in-Some.ensures.bit.0 c.put_bit-in-Some.ensures))
    c.requires.cell

pub returns-in-SetBytes-clause-view : goal.returns-in-SetBytes-clause-view
returns-in-SetBytes-clause-view c =
    let geo = c.args.geometry.now in
    let old = c.args.block.now in
    let a = c.in-SetBytes.field-0 in
    let bytes = arc_value c.in-SetBytes.bytes in
    let P : Change → Type 0 = λ s. IsCell geo (cell_of (change s)) → PutsCell geo old bytes (change s) in
    let Q : List ℕ → Type 0 = λ new. PutsCell geo old new (change c.args.self.now) in
    subst Q (sym c.deref-in-SetBytes.ensures)
    (subst P (sym c.in-SetBytes.is) (λ t. bytes_put geo c.inodes_a_group-inodes.ensures.geometry old bytes a t) c.requires.cell)

pub returns-in-SetInode-clause-group_block : goal.returns-in-SetInode-clause-group_block
returns-in-SetInode-clause-group_block c =
    let alone : ChangesAlone c.args.geometry.now (change c.args.self.now) c.args.block.now c.put_record.new.block = first_of (search rules, grind (arith, common_steps)) in
    group_block_kept c.args.geometry.now c.inodes_a_group-inodes.ensures.geometry c.args.block.now c.put_record.new.block (change c.args.self.now) c.requires.cell alone

pub returns-in-SetNumber-clause-group_block : goal.returns-in-SetNumber-clause-group_block
returns-in-SetNumber-clause-group_block c =
    let alone : ChangesAlone c.args.geometry.now (change c.args.self.now) c.args.block.now c.put_bit.new.block = first_of (search rules, grind (arith, common_steps)) in
    group_block_kept c.args.geometry.now c.inodes_a_group-inodes.ensures.geometry c.args.block.now c.put_bit.new.block (change c.args.self.now) c.requires.cell alone

pub returns-in-Some-clause-group_block : goal.returns-in-Some-clause-group_block
returns-in-Some-clause-group_block c =
    let alone : ChangesAlone c.args.geometry.now (change c.args.self.now) c.args.block.now c.put_bit-in-Some.new.block = first_of (search rules, grind (arith, common_steps)) in
    group_block_kept c.args.geometry.now c.inodes_a_group-inodes.ensures.geometry c.args.block.now c.put_bit-in-Some.new.block (change c.args.self.now) c.requires.cell alone

pub returns-in-SetBytes-clause-group_block : goal.returns-in-SetBytes-clause-group_block
returns-in-SetBytes-clause-group_block c =
    let alone : ChangesAlone c.args.geometry.now (change c.args.self.now) c.args.block.now c.deref-in-SetBytes.result.now = first_of (search rules, grind (arith, common_steps)) in
    group_block_kept c.args.geometry.now c.inodes_a_group-inodes.ensures.geometry c.args.block.now c.deref-in-SetBytes.result.now (change c.args.self.now) c.requires.cell alone
