use Rattle.std.proofs.Common.{ℕ, List, ◌≡◌, unwrap_or, replicate, sym, subst}
use Rattle.std.specs.Arc.{arc_value}
use Rattle.std.proofs.lemmas.Result.{IfOk-weaker}
use Rattle.model.specs.Cells.{Update}
use Rattle.updates.specs.Values.{change}
use Rattle.updates.specs.Alone.{IsPutInto}
use Rattle.frozen.specs.Kept.{KeepsMetadata, kept_at}
use Rattle.metadata.proofs.metadata.Metadata.changed.Goals as goal

pub returns-in-Some-clause-changed : goal.returns-in-Some-clause-changed
returns-in-Some-clause-changed c =
    let kept = c.args.self.now in
    let u : Update = change c.args.change.now in
    let keeps : KeepsMetadata kept = subst KeepsMetadata c.self.view_is c.self.invariant.metadata in
    let before : List ℕ = unwrap_or (kept_at kept.blocks c.args.address) (replicate 1024 0) in
    IfOk-weaker c.share_again.result (λ shared. arc_value shared ≡ arc_value c.in-Some.block.now) (λ shared. IsPutInto kept.geometry u before (arc_value shared))
    (λ shared e. subst (IsPutInto kept.geometry u before) (sym e) (c.in-Some.ensures kept.geometry keeps.frame.geometry c.requires.cell before))
    c.share_again.ensures.bytes
