use Rattle.courses.proofs.ServiceLemmas.{image_begins}
use Rattle.courses.proofs.services.mounted_images_are_beginnings.Goals as goal

pub returns : goal.returns
returns c = image_begins
