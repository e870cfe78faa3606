use Rattle.cgmaps.proofs.BitWrites.{number_write, block_write}
use Rattle.cgmaps.proofs.changed_bits_are_updates_of_a_cell.Goals as goal

pub returns : goal.returns
returns c = record { numbers = number_write; blocks = block_write }
