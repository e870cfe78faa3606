use Rattle.std.proofs.Common.{◌≡◌, refl, sym, ap, ◌∙◌, [], slice_set}
use Rattle.std.proofs.lemmas.Bool.Decides.{Decides-eqb}
use Rattle.std.proofs.lemmas.List.{set-get_or}
use Rattle.std.proofs.lemmas.Slice.Eq.{slice_eq-Decides}
use Rattle.layout.specs.Fresh.{zero_block}
use Rattle.device.proofs.formatting.put.Goals as goal

pub returns-in-Zeroes-clause-put : goal.returns-in-Zeroes-clause-put
returns-in-Zeroes-clause-put g c =
    let image = g.D.Device.image c.args.device.now in
    let zeroes : c.args.block.now ≡ zero_block = (slice_eq-Decides Decides-eqb _ _ _ c.if-eq.ensures).0 refl in
    sym (ap (λ block. slice_set image c.args.address block) (zeroes ∙ sym (c.requires.zeroes c.in-Zeroes.is)) ∙ set-get_or image c.args.address [])
