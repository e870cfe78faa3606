use Rattle.std.proofs.Common.{◌≡◌, sym, ◌∙◌}
use Rattle.model.specs.Named.{named_from}
use Rattle.directories.proofs.PieceTables.{numbers_once}
use Rattle.directories.proofs.tables_are_told_by_their_numbers.Goals as goal

pub returns : goal.returns
returns c = λ geo ok view first numbers others left right same h k.
    numbers_once geo view (λ d named. named ≡ named_from geo view first d) (λ d x y e f. e ∙ sym f) numbers others left right same h k
