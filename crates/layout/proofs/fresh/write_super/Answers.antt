use Rattle.std.proofs.Common.{ap, ap₂, ◌∙◌}
use Rattle.layout.specs.Fresh.{super_bytes, put_u32}
use Rattle.layout.proofs.fresh.write_super.Goals as goal

pub returns : goal.returns
unfolding super_bytes
returns c =
    c.put_u32-5.ensures ∙ ap₂ (put_u32 16) c.inodes_a_group.ensures.count
    (c.put_u32-4.ensures ∙ ap₂ (put_u32 12) c.blocks_a_group.ensures.count
    (c.put_u32-3.ensures ∙ ap₂ (put_u32 8) c.groups.ensures.count
    (c.put_u32-2.ensures ∙ ap₂ (put_u32 4) c.version.ensures.version (c.put_u32.ensures ∙ ap (put_u32 0 0x53555631) c.requires))))
