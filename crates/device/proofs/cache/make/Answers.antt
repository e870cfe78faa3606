use Rattle.std.proofs.Common.{[], ◌∷◌, All, length, subst, arith}
use Rattle.std.proofs.lemmas.List.Elements.{All-head}
use Rattle.device.specs.Media.{writes_in}
use Rattle.device.specs.Memory.{IsWriteTo}
use Rattle.device.proofs.cache.make.Goals as goal

pub index_mut-requires : goal.index_mut-requires
index_mut-requires c =
    let n = length c.args.blocks.now.items in
    let all = subst (λ s. All (IsWriteTo n) (writes_in (s ∷ []))) c.in-Wrote.is c.requires in
    omega (arith, (All-head (IsWriteTo n) (c.in-Wrote.address, c.in-Wrote.block) [] all).address)
