use Rattle.left_images.proofs.EachLemmas.{each_is_judged}
use Rattle.left_images.proofs.each_image_that_may_be_left_is_judged.Goals as goal

pub returns : goal.returns
returns g c cache steps most = each_is_judged g.J.Judge.tells cache steps most
