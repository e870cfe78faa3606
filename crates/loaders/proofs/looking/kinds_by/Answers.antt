use Rattle.loaders.specs.Looking.{TellsKinds}
use Rattle.workers.proofs.EveryPart.{every_part_alike}
use Rattle.loaders.proofs.looking.kinds_by.Goals as goal

pub in_a_row-requires-clause-told : goal.in_a_row-requires-clause-told
in_a_row-requires-clause-told g c =
    every_part_alike (λ work. work.held.now) (λ held unit part. TellsKinds held unit part.items) c.args.held.now c.in_ok-works.ensures.alike c.in_ok-parts.ensures.done
