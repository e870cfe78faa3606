-- What the cells, changes and updates of the program stand for.
use Rattle.std.specs.Arc.{arc_value}
use Rattle.std.specs.Prelude.{map, unwrap_or}
use Rattle.model.specs.Cells as model
use Rattle.ordering.specs.Cuts as cuts
use Rattle.queue_model.specs.Files.{Written}
use Rattle.updates.specs.declared.cell.Cell.{Cell}
use Rattle.updates.specs.declared.cell.Cell.TheVariants.{Record, NumberBit, BlockBit, Block}
use Rattle.updates.specs.declared.change.Change.{Change}
use Rattle.updates.specs.declared.change.Change.TheVariants.{SetInode, SetNumber, SetBlock, SetBytes}
use Rattle.updates.specs.declared.change.Update.{Update}

abbrev pub cell : Cell → cuts.Cell
cell (Record n) = cuts.Record n
cell (NumberBit n) = cuts.NumberBit n
cell (BlockBit a) = cuts.BlockBit a
cell (Block a) = cuts.Block a

abbrev pub change : Change → model.Update
change (SetInode n inode) = model.SetInode n inode.value
change (SetNumber n marked) = model.SetNumber n marked
change (SetBlock a marked) = model.SetBlock a marked
change (SetBytes a bytes) = model.SetBytes a (arc_value bytes)

-- an update of no file's contents names file 0
abbrev pub written : Update → Written
written u = record {
  update = record { change = change u.change; after = map cell u.after.items };
  file = unwrap_or u.file 0;
}
