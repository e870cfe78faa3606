use Rattle.std.proofs.Common.{sym, subst}
use Rattle.frozen.specs.Installed.{IsPlain}
use Rattle.frozen.specs.Kept.{Kept, KeepsMetadata, frozen_view}
use Rattle.frozen.proofs.KindLemmas.{no_kinds}
use Rattle.frozen.proofs.LettingGo.{keeps_without}
use Rattle.frozen.proofs.frozen.Frozen.let_go.Goals as goal

pub invariant_of-self : goal.invariant_of-self
invariant_of-self c =
    let kept : Kept = c.self.inside.held in
    let plain : IsPlain kept c.args.address = subst (λ (k : Kept). IsPlain k c.args.address) (sym c.self.view_is) c.requires in (
      subst KeepsMetadata (sym c.let_go.ensures) (keeps_without kept c.self.invariant.0.frame c.args.address plain.of_data c.self.invariant.0 plain),
      no_kinds c.let_go.new.self.geometry (frozen_view c.let_go.new.self) c.clear.new.self.items c.clear.ensures.items,
    )
