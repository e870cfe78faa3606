use Rattle.std.proofs.Common.{◌∙◌, sym}
use Rattle.frozen.specs.Kept.{frozen_view}
use Rattle.rules.proofs.Loaded.{breaks, not_obeyed, obeyed}
use Rattle.rules.proofs.loading.load_sound.Goals as goal

pub returns-then-is_some-clause-refused : goal.returns-then-is_some-clause-refused
returns-then-is_some-clause-refused g c =
    let kept = c.in_ok-frozen.frozen in
    breaks (g.D.Device.honest c.load.new.device) (g.D.Device.image c.args.device.now) kept c.in_ok-frozen.ensures.ok
    (not_obeyed kept.geometry (frozen_view kept) c.in_ok-obeys.field-0 c.in_ok-obeys.ensures.obeys (sym c.is_some.ensures ∙ c.if-is_some.true))

pub returns-clause-obeys : goal.returns-clause-obeys
returns-clause-obeys g c =
    let kept = c.in_ok-frozen.frozen in
    obeyed kept.geometry (frozen_view kept) c.in_ok-obeys.field-0 c.in_ok-obeys.ensures.obeys (sym c.is_some.ensures ∙ c.if-is_some.false)
