use Rattle.plans_data.proofs.Stands.{stands_mounted, stands_flushed, stands_fewer, stands_other, safe_cut}
use Rattle.plans_data.proofs.standing.a_volume_stands.Goals as goal

pub returns : goal.returns
returns c = record { mounted = stands_mounted; flushed = stands_flushed; fewer_safe = stands_fewer; other = stands_other; safe = safe_cut }
