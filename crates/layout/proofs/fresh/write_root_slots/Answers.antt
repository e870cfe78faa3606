use Rattle.std.proofs.Common.{ap, ◌∙◌}
use Rattle.std.specs.Prelude.{slice_set}
use Rattle.layout.specs.Fresh.{put_u32}
use Rattle.layout.proofs.fresh.write_root_slots.Goals as goal

pub returns : goal.returns
returns c =
    ap (λ block. slice_set (slice_set (slice_set block 68 2) 72 46) 73 46)
    (c.put_u32-2.ensures ∙ ap (λ block. put_u32 64 2 (slice_set (slice_set block 4 1) 8 46)) (c.put_u32.ensures ∙ ap (put_u32 0 2) c.requires))
