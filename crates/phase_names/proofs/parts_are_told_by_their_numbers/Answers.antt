use Rattle.directories.proofs.PieceTables.{numbers_once}
use Rattle.phase_names.specs.Told.{IsTold}
use Rattle.phase_names.proofs.ToldLemmas.{told_once}
use Rattle.phase_names.proofs.parts_are_told_by_their_numbers.Goals as goal

pub returns : goal.returns
returns c = λ geo ok view numbers others left right same h k.
    numbers_once geo view (IsTold geo view) (told_once geo view) numbers others left right same h k
