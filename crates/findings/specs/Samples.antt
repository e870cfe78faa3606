-- The lengths of some reports.
use Rattle.std.specs.Prelude.{◌≡◌, [], ◌∷◌, length}
use Rattle.std.proofs.Common.{refl}
use Rattle.findings.specs.declared.finding.Finding.TheVariants.{LostBlock, LostInode, CountHigh}
use Rattle.std.specs.Fmt.{digits}
use Rattle.findings.specs.Report.{report_of}

pub clean : length (report_of []) ≡ 133
unfolding digits
clean = refl

pub one_lost_block : length (report_of (LostBlock 9 ∷ [])) ≡ 147
unfolding digits
one_lost_block = refl

pub lost_tree : length (report_of (LostInode 6 ∷ LostInode 7 ∷ CountHigh 2 3 2 ∷ [])) ≡ 195
unfolding digits
lost_tree = refl
