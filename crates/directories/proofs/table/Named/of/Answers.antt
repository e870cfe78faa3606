use Rattle.std.proofs.Common.{◌≡◌, Some, None, sym, ap, ◌∙◌, rules}
use Rattle.directories.specs.Named.{numbers_in}
use Rattle.model.specs.Tables.{value_in}
use Rattle.directories.proofs.TableLemmas.{numbers_here, numbers_nowhere}
use Rattle.directories.proofs.table.Named.of.Goals as goal

pub returns-in-Some : goal.returns-in-Some
returns-in-Some c =
    let found : value_in c.self.inside.by_directory.entries c.args.directory ≡ Some c.in-Some.numbers.now = search rules in
    c.as_slice.ensures.value ∙ sym (numbers_here c.self.inside.by_directory.entries c.args.directory c.in-Some.numbers.now found) ∙ ap (λ table. numbers_in table c.args.directory) c.self.view_is

pub returns-in-None : goal.returns-in-None
returns-in-None c =
    let none : value_in c.self.inside.by_directory.entries c.args.directory ≡ None = search rules in
    sym (numbers_nowhere c.self.inside.by_directory.entries c.args.directory none) ∙ ap (λ table. numbers_in table c.args.directory) c.self.view_is
