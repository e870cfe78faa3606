use Rattle.std.proofs.Common.{◌∙◌, sym, subst}
use Rattle.std.proofs.lemmas.Result.{err_from_is_err_and}
use Rattle.model.specs.Image.{IsBlock, IsGroupBlock}
use Rattle.frozen.proofs.LoadLemmas.{block_refused}
use Rattle.frozen.proofs.loading.keep_block.Goals as goal

pub returns-in_err-check_maps-clause-refused : goal.returns-in_err-check_maps-clause-refused
returns-in_err-check_maps-clause-refused g c =
    let p = err_from_is_err_and c.from_residual-in_err-check_maps.result c.from_residual-in_err-check_maps.ensures.1 in
    rw (p.1, p.2)
    (block_refused (g.D.Device.honest c.read.new.self) c.args.geometry.now (g.D.Device.image c.args.device.now) c.args.address c.read.new.to c.in_err-check_maps.field-0.0
    c.in_ok-read.ensures.block c.in_err-check_maps.ensures.refused)

pub returns-clause-kept : goal.returns-clause-kept
returns-clause-kept g c =
    let same = sym c.in_ok-new.ensures.ok in (
      sym c.place_of.ensures.exactly ∙ sym c.is_some.ensures ∙ c.if-is_some.false,
      subst IsBlock same c.check_maps.ensures.whole,
      λ h e. subst (IsGroupBlock h) same (c.in_ok-check_maps.ensures.ok h e),
    )
