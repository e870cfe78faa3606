use Rattle.layout.proofs.FreshImage.{fresh_is_image, fresh_holds, fresh_image_obeys}
use Rattle.layout.proofs.fresh.fresh_blocks_are_the_fresh_image.Goals as goal

pub returns : goal.returns
returns c = record { image = fresh_is_image; view = fresh_holds; rules = fresh_image_obeys }
