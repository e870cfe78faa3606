use Rattle.plans_data.proofs.CarriedWrites.{carries_write, carries_extension, carries_move}
use Rattle.plans_data.proofs.commands.writes_are_carried_out.Goals as goal

pub returns : goal.returns
returns c = record { in_place = carries_write; extended = carries_extension; moved = carries_move }
