use Rattle.machine.proofs.SnapshotSeen.{snapshot_shows, snapshot_reads, reachable_stays}
use Rattle.machine.proofs.snapshots_show_what_users_saw.Goals as goal

pub returns : goal.returns
returns c = record { image = snapshot_shows; read = snapshot_reads; named = reachable_stays }
