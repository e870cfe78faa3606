use Rattle.std.proofs.Common.{◌≡◌, ◌++◌, map}
use Rattle.archives.specs.Entries.{views}
use Rattle.import_tree.specs.Placing.{placed, shown}
use Rattle.import_tree.proofs.archived.add_entries.Given as goal

abbrev pub invariant-loop-entry : goal.invariant-loop-entry
invariant-loop-entry l = record {
  split : l.fn.entries.items ≡ l.yielded ++ l.entry-iterator.rest.items;
  done : map shown l.items.items ≡ map shown l.fn.items.items ++ map (placed l.path) (views l.yielded);
}
