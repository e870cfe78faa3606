use Rattle.fsck.proofs.FindingLemmas.{image_checked}
use Rattle.fsck.proofs.a_checked_image_is_the_images.Goals as goal

pub returns : goal.returns
returns c = image_checked
