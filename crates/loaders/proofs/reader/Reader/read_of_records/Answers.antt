-- One call behind another.
use Rattle.std.proofs.Common.{sym, subst}
use Rattle.loaders.specs.Readers.{ReadsAhead}
use Rattle.loaders.proofs.AheadLemmas.{ahead_on}
use Rattle.loaders.proofs.reader.Reader.read_of_records.Goals as goal
use Rattle.loaders.proofs.reader.Reader.read_of_records.Goals.{else-mode_of-eq-DIRECTORY, then-mode_of-eq-DIRECTORY+in_ok-read_directory}

pub returns-in_err-read_directory-clause-ahead : goal.returns-in_err-read_directory-clause-ahead
returns-in_err-read_directory-clause-ahead g c = ahead_on c.loop-bytes.invariant.ahead c.in_err-read_directory.ensures.ahead

pub loop-bytes-preserved : goal.loop-bytes-preserved
loop-bytes-preserved g c =
    let d = g.D.Device in
    let inv = c.loop-bytes.invariant in
    record {
      ahead = elim c.if-mode_of-eq-DIRECTORY.branch [
        | then-mode_of-eq-DIRECTORY+in_ok-read_directory w ↦ subst (ReadsAhead d.honest d.image d.held c.args.self.now) (sym w.self-is) (ahead_on inv.ahead w.in_ok-read_directory.ensures.ahead)
        | else-mode_of-eq-DIRECTORY w ↦ subst (ReadsAhead d.honest d.image d.held c.args.self.now) (sym w.self-is) inv.ahead
      ];
    }
