use Rattle.std.proofs.Common.{◌≡◌, length, map, take}
use Rattle.fuse_wire.specs.Forgets.{forgets_of}
use Rattle.fuse_nodes.specs.Runs.{after_all}
use Rattle.fuse_reader.specs.Turns.{forgot_by}
use Rattle.fuse_reader.proofs.forgetting.forget_all.Given as goal

abbrev pub invariant-loop-place : goal.invariant-loop-place
invariant-loop-place l = record {
  nodes : l.nodes ≡ after_all (map forgot_by (take l.place (forgets_of l.forgets))) l.fn.nodes;
  length : length l.nodes ≡ length l.fn.nodes;
}
