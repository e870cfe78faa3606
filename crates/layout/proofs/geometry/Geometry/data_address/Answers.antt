use Rattle.std.proofs.Common.{sym, subst, IsTrue, arith, ◌≡◌, ◌+◌}
use Rattle.model.specs.Layout.{is_data_address, data_address}
use Rattle.model.proofs.Addresses.{address_is_data}
use Rattle.layout.proofs.geometry.Geometry.data_address.Goals as goal

pub returns-clause-is_data : goal.returns-clause-is_data
returns-clause-is_data c =
    let e : c.group_block.result + c.header_blocks.result + c.args.bit ≡ data_address c.args.self.now c.args.group c.args.bit = omega (arith, c.group_block.ensures.address, c.header_blocks.ensures.count) in
    subst (λ a. IsTrue (is_data_address c.args.self.now a)) (sym e)
    (address_is_data c.args.self.now c.group_block.ensures.geometry c.args.group c.args.bit c.requires.bit c.requires.group)
