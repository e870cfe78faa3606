use Rattle.std.proofs.Common.{◌-◌, ◌%◌, ap, ◌∙◌}
use Rattle.frozen.proofs.LoadLemmas.{no_maps}
use Rattle.frozen.proofs.loading.check_maps.Goals as goal

pub returns-else-place-blocks_a_group-eq0-clause-ok : goal.returns-else-place-blocks_a_group-eq0-clause-ok
returns-else-place-blocks_a_group-eq0-clause-ok c = λ g e.
    absurd (no_maps c.args.geometry.now c.blocks_a_group.ensures.geometry c.args.address g
    (λ zero. c.if-place-blocks_a_group-eq0.false (ap (λ n. (c.args.address - 1) % n) c.blocks_a_group.ensures.count ∙ zero)) e)
