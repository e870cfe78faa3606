use Rattle.std.proofs.Common.{◌≡◌, length, ap}
use Rattle.file_device.specs.declared.run.Blocks.{Blocks}
use Rattle.file_device.proofs.RunLemmas.{kept_in}
use Rattle.file_device.proofs.run.Run.block.Goals as goal

pub returns-clause-kept : goal.returns-clause-kept
returns-clause-kept c =
    let room : length c.deref.result.now.all ≡ 32 = search in
    kept_in c.args.self.now c.args.address c.deref.result.now.all (ap (λ (b : Blocks). b.all) c.deref.ensures) room c.if-address-self.false c.if-at-self.false
