use Rattle.script_lines.proofs.CarriedLemmas.{none_on, then_on}
use Rattle.script_lines.proofs.stops.carry_out.Goals as goal
