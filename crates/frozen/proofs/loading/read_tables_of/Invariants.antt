use Rattle.std.proofs.Common.{◌≡◌}
use Rattle.frozen.specs.Kept.{KeepsFrame, KeepsMore}
use Rattle.frozen.specs.Loading.{AreBlocksOf}
use Rattle.device.specs.Reading.{ReadsOnly}
use Rattle.frozen.proofs.KeepingLemmas.{KeepsTablesUpTo}
use Rattle.frozen.proofs.loading.read_tables_of.Given as goal

abbrev pub invariant-loop-position : goal.invariant-loop-position
invariant-loop-position g l = record {
  frame : KeepsFrame l.held;
  more : KeepsMore l.fn.held l.held;
  tables : KeepsTablesUpTo l.held l.number l.position;
  blocks : g.D.Device.honest l.device → AreBlocksOf l.fn.held.blocks (g.D.Device.image l.fn.device) → AreBlocksOf l.held.blocks (g.D.Device.image l.fn.device);
  reads : ReadsOnly g.D.Device.honest g.D.Device.image g.D.Device.held l.fn.device l.device;
  failures : g.D.Device.failures l.device ≡ g.D.Device.failures l.fn.device;
}
