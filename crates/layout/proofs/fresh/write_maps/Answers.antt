use Rattle.std.proofs.Common.{ap, ap₂, ◌∙◌}
use Rattle.std.specs.Prelude.{slice_set}
use Rattle.layout.specs.Fresh.{group_bytes, first_group_bytes, put_u32}
use Rattle.layout.proofs.fresh.write_maps.Goals as goal

pub returns-then-group-eq0-clause-first : goal.returns-then-group-eq0-clause-first
unfolding group_bytes first_group_bytes
returns-then-group-eq0-clause-first c = λ zero.
    ap (λ block. slice_set (slice_set block 32 4) 160 1)
    (c.put_u32-2.ensures ∙ ap₂ (put_u32 4) zero (c.put_u32.ensures ∙ ap (put_u32 0 0x53554347) c.requires))

pub returns-else-group-eq0-clause-rest : goal.returns-else-group-eq0-clause-rest
unfolding group_bytes
returns-else-group-eq0-clause-rest c = λ other.
    c.put_u32-2.ensures ∙ ap (put_u32 4 c.args.group) (c.put_u32.ensures ∙ ap (put_u32 0 0x53554347) c.requires)
