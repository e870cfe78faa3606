use Rattle.std.proofs.Common.{◌≡◌, ◌++◌, map}
use Rattle.joint_devices.proofs.joint.Joint.new.Given as goal

abbrev pub invariant-loop-other : goal.invariant-loop-other
invariant-loop-other g l = record {
  rest : l.yielded ++ l.other-iterator.rest.items ≡ l.fn.others.items;
  noted : map (λ (r : _). r.0) l.readers.items ≡ l.yielded;
}
