-- The table over a table that is claimed is claimed too.
use Rattle.std.specs.Prelude.{option_to_list}
use Rattle.std.proofs.Common.{◌≡◌, None, Some, sym, ap, ◌∙◌}
use Rattle.model.specs.Layout.{Geometry}
use Rattle.model.specs.Shape.{table_of}
use Rattle.frozen.specs.Kept.{frozen_view}
use Rattle.live_plans.proofs.LinkLemmas.{none_over, over_there}
use Rattle.live_plans.proofs.linking.table_over.Goals as goal

pub returns-in_err-place-clause-over : goal.returns-in_err-place-clause-over
returns-in_err-place-clause-over c = λ i has.
    let kept = c.args.frozen.now in
    let none : table_of kept.geometry c.args.table ≡ None = sym (ap (λ (g : Geometry). table_of g c.args.table) c.geometry.ensures.geometry) ∙ sym c.in_err-place.ensures.table in
    ap option_to_list c.from_residual.ensures ∙ sym (none_over kept.geometry (frozen_view kept) i c.args.table none)

pub returns-clause-over : goal.returns-clause-over
returns-clause-over c = λ i has.
    let kept = c.args.frozen.now in
    let up : table_of kept.geometry c.args.table ≡ Some c.in_ok-place.place.table = sym (ap (λ (g : Geometry). table_of g c.args.table) c.geometry.ensures.geometry) ∙ sym c.in_ok-place.ensures.table in
    (over_there kept.geometry (frozen_view kept) i c.requires.table.0 c.args.table c.in_ok-place.place.table has.claimed.0 c.claim_of.result c.requires.table.1 up has.claimed.1 (c.claim_of.ensures i has.number has.same)).0

pub returns-clause-address : goal.returns-clause-address
returns-clause-address c = λ i has.
    let kept = c.args.frozen.now in
    let up : table_of kept.geometry c.args.table ≡ Some c.in_ok-place.place.table = sym (ap (λ (g : Geometry). table_of g c.args.table) c.geometry.ensures.geometry) ∙ sym c.in_ok-place.ensures.table in
    (over_there kept.geometry (frozen_view kept) i c.requires.table.0 c.args.table c.in_ok-place.place.table has.claimed.0 c.claim_of.result c.requires.table.1 up has.claimed.1 (c.claim_of.ensures i has.number has.same)).1
