use Rattle.std.proofs.Common.{◌≡◌, All, map}
use Rattle.frozen.specs.Installed.{FitsIn, standing, with_blocks}
use Rattle.frozen.proofs.held.Held.install.Given as goal

abbrev pub invariant-loop-placed : goal.invariant-loop-placed
invariant-loop-placed l = record {
  left : with_blocks l.self (map standing l.placed-iterator.rest.items) ≡ with_blocks l.fn.self (map standing l.fn.blocks.items);
  fits : All (FitsIn l.self.geometry) l.placed-iterator.rest.items;
}
