use Rattle.std.proofs.Common.{ℕ, ◌↔◌, Contains, take}
use Rattle.model.specs.Growth.{Adds}
use Rattle.phase_names.specs.Entries.{AtBelow, IsExtraAt, inodes_of}
use Rattle.phase_names.proofs.entries.add_extra_names.Given as goal

abbrev pub invariant-loop-entry : goal.invariant-loop-entry
invariant-loop-entry l = record {
  seen : (i : ℕ) → Contains l.seen.keys i ↔ Contains (inodes_of (take l.entry-index l.entries)) i;
  found : Adds (AtBelow (IsExtraAt l.entries) l.entry-index) l.fn.found.items l.found.items;
}
