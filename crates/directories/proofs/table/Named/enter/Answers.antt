use Rattle.std.proofs.Common.{subst}
use Rattle.model.specs.Tables.{Puts}
use Rattle.model.proofs.Tables.{puts_inserted, puts_seen, seen_values}
use Rattle.directories.proofs.TableLemmas.{items}
use Rattle.directories.proofs.table.Named.enter.Goals as goal

pub returns-clause-entered : goal.returns-clause-entered
returns-clause-entered c =
    let e = c.in_ok-insert.ensures in
    subst (λ table. Puts c.args.directory c.args.numbers.items table (seen_values items c.insert.new.self.entries)) c.self.view_is
    (puts_seen items c.args.directory c.args.numbers c.self.inside.by_directory.entries c.insert.new.self.entries
    (puts_inserted c.args.directory c.args.numbers c.self.inside.by_directory.entries c.insert.new.self.entries e.ordered e.updates.1 e.updates.2))
