-- Between an address from the first data block on and the next group all is zeroes.
use Rattle.std.proofs.Common.{◌+◌, ◌-◌, ◌*◌, ◌/◌, ◌<◌, subst, arith}
use Rattle.layout.proofs.FreshGaps.{zeroes_behind}
use Rattle.layout.proofs.fresh.next_fresh_block.Goals as goal

pub data_start-requires : goal.data_start-requires
data_start-requires c = omega (arith, c.blocks_a_group-blocks.ensures.geometry.some_group)

pub returns-clause-zeroes : goal.returns-clause-zeroes
returns-clause-zeroes c k low high =
    zeroes_behind c.args.geometry.now c.blocks_a_group-blocks.ensures.geometry c.args.address (omega (arith, c.if-address-data_start.false, c.data_start.ensures.address)) k low
    (subst (λ n. k < 1 + ((c.args.address - 1) / n + 1) * n) c.blocks_a_group-blocks.ensures.count high)
