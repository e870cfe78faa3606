-- What is left to be put makes of the device now what all bytes make of it as it was.
use Rattle.std.proofs.Common.{◌≡◌, length, drop}
use Rattle.device.specs.Bytes.{with_bytes}
use Rattle.device.proofs.bytes.set_bytes.Given as goal

abbrev pub invariant-loop-byte : goal.invariant-loop-byte
invariant-loop-byte g l = record {
  put : g.D.Device.honest l.device → with_bytes (g.D.Device.image l.device) (drop l.byte-index l.bytes) ≡ with_bytes (g.D.Device.image l.fn.device) l.bytes;
  count : length (g.D.Device.image l.device) ≡ length (g.D.Device.image l.fn.device);
  quiet : g.D.Device.failures l.device ≡ g.D.Device.failures l.fn.device;
  honest : g.D.Device.honest l.device → g.D.Device.honest l.fn.device;
}
