use Rattle.machine.proofs.WholeCycles.{carried_out, carried_out_on_image, carried_out_in_run}
use Rattle.machine.proofs.checks_carried_out_end_exact.Goals as goal

pub returns : goal.returns
returns c = record { cycle = carried_out; mounted = carried_out_on_image; in_one_run = carried_out_in_run }
