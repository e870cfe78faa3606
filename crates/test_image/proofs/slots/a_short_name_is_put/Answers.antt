use Rattle.std.proofs.Common.{refl}
use Rattle.test_image.proofs.slots.a_short_name_is_put.Goals as goal

pub put-requires-clause-fits : goal.put-requires-clause-fits
put-requires-clause-fits g c = rw c.read-slots.ensures.value refl
