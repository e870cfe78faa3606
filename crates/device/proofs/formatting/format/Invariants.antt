use Rattle.std.proofs.Common.{◌≡◌, ◌<◌, ◌≤◌, ◌-◌, ℕ, length}
use Rattle.model.specs.Layout.{block_count}
use Rattle.model.specs.Image.{block_at}
use Rattle.layout.specs.Fresh.{fresh_bytes, zero_block}
use Rattle.device.specs.declared.formatting.Before.TheVariants.{Zeroes}
use Rattle.device.proofs.formatting.format.Given as goal

abbrev pub invariant-loop-address : goal.invariant-loop-address
invariant-loop-address g l = record {
  on_volume : l.address ≤ block_count l.geometry;
  written : (k : ℕ) → k < l.address → block_at (g.D.Device.image l.device) k ≡ fresh_bytes l.geometry k;
  zeroes : l.before ≡ Zeroes → (k : ℕ) → l.address ≤ k → k < length (g.D.Device.image l.device) → block_at (g.D.Device.image l.device) k ≡ zero_block;
  count : length (g.D.Device.image l.device) ≡ length (g.D.Device.image l.fn.device);
  failures : g.D.Device.failures l.device ≡ g.D.Device.failures l.fn.device;
  honest : g.D.Device.honest l.device → g.D.Device.honest l.fn.device;
}

abbrev pub decreases-loop-address : goal.decreases-loop-address
decreases-loop-address g l = block_count l.geometry - l.address
