use Rattle.fsck.specs.Parts.{is_counts_part}
use Rattle.fsck.proofs.PartLemmas.{made_of_pieces}
use Rattle.fsck.proofs.crew.counts_by_crew.Goals as goal

pub returns : goal.returns
returns g c =
    let kept = c.args.frozen.now in
    made_of_pieces (is_counts_part kept c.args.reached.now) kept.geometry c.args.pieces.now c.parts_of_crew.result c.requires.pieces.0 c.parts_of_crew.ensures
