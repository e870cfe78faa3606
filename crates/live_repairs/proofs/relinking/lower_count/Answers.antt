-- The links that are left are those that the record has, without those that are too many.
use Rattle.std.proofs.Common.{◌≡◌, ◌-◌, ap, ◌∙◌, subst, arith}
use Rattle.std.proofs.lemmas.Result.{IfOk-weaker}
use Rattle.frozen.specs.Kept.{Kept, frozen_view}
use Rattle.metadata.specs.Shown.{Shows}
use Rattle.model.specs.View.{Inode, View}
use Rattle.live_repairs.specs.Repaired.{Relinks}
use Rattle.live_repairs.proofs.relinking.lower_count.Goals as goal

pub returns : goal.returns
returns c =
    let kept = c.args.metadata.now in
    let n = c.args.number in
    let holdings = c.args.holdings.now in
    IfOk-weaker c.relink.result (λ planned. (view : View) → Shows kept view → Relinks kept.geometry view holdings n c.saturating_sub-links.result planned.plan planned.holds.items)
    (λ planned. (view : View) → Shows kept view → Relinks kept.geometry view holdings n ((view.inode n).links - c.args.fewer) planned.plan planned.holds.items)
    (λ planned relinks view shows.
    let links : c.record.inside.links ≡ (view.inode n).links =
    ap (λ (i : Inode). i.links) (c.record.view_is ∙ c.record-record.ensures ∙ ap (λ (k : Kept). (frozen_view k).inode n) c.frozen.ensures.same ∙ shows.inode n) in
    subst (λ l. Relinks kept.geometry view holdings n l planned.plan planned.holds.items) (omega (arith, c.saturating_sub-links.ensures, c.from.ensures, links)) (relinks view shows))
    c.relink.ensures
