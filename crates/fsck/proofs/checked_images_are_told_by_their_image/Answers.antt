use Rattle.fsck.proofs.FindingLemmas.{same_checked}
use Rattle.fsck.proofs.checked_images_are_told_by_their_image.Goals as goal

pub returns : goal.returns
returns c = same_checked
