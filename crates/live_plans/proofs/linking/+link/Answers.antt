-- The pointer goes where there is a place for it, or into a new table, which goes there.
use Rattle.std.proofs.Common.{◌≡◌, ◌∷◌, [], ◌++◌, ℕ, List, Some, sym, ap, ◌∙◌, subst, drop, map, IfOk}
use Rattle.std.proofs.lemmas.List.{map-append}
use Rattle.model.specs.Layout.{Geometry}
use Rattle.model.specs.Shape.{table_of}
use Rattle.frozen.specs.Kept.{Kept, frozen_view}
use Rattle.ordering.specs.Cuts.{Block, Cell}
use Rattle.plans_data.specs.Plans.{holder_of}
use Rattle.updates.specs.declared.cell.Cell.TheVariants as variants
use Rattle.updates.specs.Values.{cell}
use Rattle.live_plans.specs.declared.linking.Linked.{Linked}
use Rattle.live_plans.specs.Linked.{CanLink, IsLinked}
use Rattle.live_plans.proofs.LinkLemmas.{links_new}
use Rattle.live_plans.proofs.linking.+link.Goals as goal

pub link_there-requires-clause-tables : goal.link_there-requires-clause-tables
link_there-requires-clause-tables t c =
    subst (λ (kept : Kept). CanLink kept c.args.new.now.number c.args.new.now.position []) (sym c.frozen.ensures.same)
    (subst (λ (ts : List ℕ). CanLink c.args.metadata.now c.args.new.now.number c.args.new.now.position ts) c.in_default.ensures c.requires.tables)

pub returns-in_default-clause-links : goal.returns-in_default-clause-links
returns-in_default-clause-links t c =
    let kept = c.args.metadata.now in
    let n = c.args.new.now.number in
    let k = c.args.new.now.position in
    let b = c.args.new.now.block in
    subst (λ (ts : List ℕ). IfOk c.link_there.result (λ (l : Linked). IsLinked kept.geometry n c.args.new.now.owner k b (holder_of kept.geometry (frozen_view kept) n k b ts) c.args.plan.now c.link_there.new.plan l.record (map cell l.after.items)))
    (sym c.in_default.ensures)
    (subst (λ (held : Kept). IfOk c.link_there.result (λ (l : Linked). IsLinked held.geometry n c.args.new.now.owner k b (holder_of held.geometry (frozen_view held) n k b []) c.args.plan.now c.link_there.new.plan l.record (map cell l.after.items)))
    c.frozen.ensures.same c.link_there.ensures.links)

pub returns-clause-links : goal.returns-clause-links
returns-clause-links t c =
    let kept = c.args.metadata.now in
    let n = c.args.new.now.number in
    let k = c.args.new.now.position in
    let b = c.args.new.now.block in
    let x = c.in-Some.table in
    let m = c.in-Some-pointer_place.place.table in
    let given = c.in_ok-linked.linked.record in
    let cells = map cell c.in_ok-linked.linked.after.items in
    let one : table_of kept.geometry k ≡ Some m =
    sym (ap (λ (g : Geometry). table_of g k) (c.geometry.ensures.geometry ∙ ap (λ (held : Kept). held.geometry) c.frozen-2.ensures.same)) ∙ sym c.in-Some-pointer_place.ensures.table in
    let items : map cell c.push.new.self.items ≡ cells ++ Block b ∷ [] = ap (map cell) c.in_ok-push.ensures.ok ∙ map-append cell c.in_ok-linked.linked.after.items (variants.Block b ∷ []) in
    subst (λ (ts : List ℕ). IsLinked kept.geometry n c.args.new.now.owner k b (holder_of kept.geometry (frozen_view kept) n k b ts) c.args.plan.now c.link.new.plan given (map cell c.push.new.self.items)) (sym c.in-Some.ensures)
    (subst (λ (cs : List Cell). IsLinked kept.geometry n c.args.new.now.owner k b (holder_of kept.geometry (frozen_view kept) n k b (x ∷ drop 1 c.args.new.now.tables)) c.args.plan.now c.link.new.plan given cs) (sym items)
    (links_new kept.geometry (frozen_view kept) n c.args.new.now.owner k b m x (drop 1 c.args.new.now.tables) c.args.plan.now c.start_table.new.plan c.link.new.plan given cells one c.requires.block c.in_ok-start_table.ensures
    (subst (λ (ts : List ℕ). IsLinked kept.geometry n c.args.new.now.owner m x (holder_of kept.geometry (frozen_view kept) n m x ts) c.start_table.new.plan c.link.new.plan given cells) c.rest.ensures c.in_ok-linked.ensures.links)))
