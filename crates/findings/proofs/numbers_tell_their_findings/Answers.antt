use Rattle.std.proofs.Common.{◌++◌, refl}
use Rattle.model.specs.Layout.{inode_count}
use Rattle.findings.specs.Numbers.{lost_below, unmarked_below}
use Rattle.findings.proofs.FoundBelow.{numbers_found}
use Rattle.findings.proofs.numbers_tell_their_findings.Goals as goal

pub returns : goal.returns
returns c = λ geo view. numbers_found geo view (lost_below geo view (inode_count geo) ++ unmarked_below geo view (inode_count geo)) refl
