-- Each part is as all workers promise.
use Rattle.std.proofs.Common.{◌≡◌, ◌*◌, slice_index}
use Rattle.workers.proofs.EveryPart.{every_part_alike}
use Rattle.test_base.proofs.at_work.squares_of.Goals as goal

pub returns : goal.returns
returns g c = every_part_alike (λ work. work.numbers.now) (λ numbers unit part. part ≡ slice_index numbers unit * slice_index numbers unit) c.args.numbers.now c.in_ok-works.ensures c.in_ok-parts.ensures.done
