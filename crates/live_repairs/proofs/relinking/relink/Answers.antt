-- The inode goes with its blocks, or its record gets the links.
use Rattle.std.proofs.Common.{◌≡◌, ◌≢◌, ◌⊎◌, ◌∷◌, map, inl, inr, refl, sym, ap, ◌∙◌, subst, IsTrue}
use Rattle.frozen.specs.Kept.{Kept, frozen_view}
use Rattle.model.specs.Cells.{SetInode}
use Rattle.model.specs.Layout.{Geometry}
use Rattle.model.specs.View.{Inode}
use Rattle.machine.specs.Effects.{with_links}
use Rattle.updates.specs.Values.{cell}
use Rattle.live_states.specs.Drafts.{Draft, GoesOn}
use Rattle.live_states.specs.Holdings.{is_open_by}
use Rattle.live_removals.specs.Removed.{no_updates}
use Rattle.live_plans.proofs.Fitting.{written_fits}
use Rattle.live_repairs.proofs.Linking.{relink_goes, relink_stays}
use Rattle.live_repairs.proofs.relinking.relink.Goals.{else-links-eq0-via-then-links-eq0+else-not-is_open, else-links-eq0-via-else-links-eq0}
use Rattle.live_repairs.proofs.relinking.relink.Goals as goal

pub returns-then-not-is_open : goal.returns-then-not-is_open
returns-then-not-is_open c = λ view shows.
    let kept = c.args.metadata.now in
    let n = c.args.number in
    let same = c.frozen-frozen.ensures.same in
    let start : c.new-plan.result ≡ no_updates kept.geometry c.args.number =
    c.new-plan.ensures ∙ ap (λ (g : Geometry). no_updates g c.args.number) (c.geometry.ensures.geometry ∙ ap (λ (k : Kept). k.geometry) same) in
    relink_goes kept view shows c.args.holdings.now n c.args.links c.new-plan.result c.free.new.plan c.in_ok-holds.holds.items start
    (map cell c.new-after.result.items) (ap (map cell) c.new-after.ensures.items) c.frozen-frozen.ensures.metadata c.frozen-frozen.result.now same
    c.if-links-eq0.true (sym c.is_open.ensures ∙ c.if-not-is_open.true) c.in_ok-holds.ensures.plan c.in_ok-holds.ensures.holds

pub set_record-requires-clause-fits : goal.set_record-requires-clause-fits
set_record-requires-clause-fits c =
    let kept = c.args.metadata.now in
    let same = c.frozen-frozen.ensures.same in
    let was : Inode = record { mode = c.record.inside.mode; links = c.record.inside.links; size = c.record.inside.size; direct = c.record.inside.direct; indirect = c.record.inside.indirect; double = c.record.inside.double; attributes = c.record.inside.attributes } in
    written_fits kept c.new-plan.result.geometry c.args.number (record was { links = c.args.links }) was (ap (λ (d : Draft). d.geometry) c.new-plan.ensures ∙ c.geometry.ensures.geometry ∙ ap (λ (k : Kept). k.geometry) same)
    (c.record.view_is ∙ c.record-record.ensures ∙ ap (λ (k : Kept). (frozen_view k).inode c.args.number) same) refl

pub returns : goal.returns
returns c = λ view shows.
    let kept = c.args.metadata.now in
    let n = c.args.number in
    let links = c.args.links in
    let same = c.frozen-frozen.ensures.same in
    let start : c.new-plan.result ≡ no_updates kept.geometry c.args.number =
    c.new-plan.ensures ∙ ap (λ (g : Geometry). no_updates g c.args.number) (c.geometry.ensures.geometry ∙ ap (λ (k : Kept). k.geometry) same) in
    let was : Inode = record { mode = c.record.inside.mode; links = c.record.inside.links; size = c.record.inside.size; direct = c.record.inside.direct; indirect = c.record.inside.indirect; double = c.record.inside.double; attributes = c.record.inside.attributes } in
    let is : was ≡ view.inode n =
    c.record.view_is ∙ c.record-record.ensures ∙ ap (λ (k : Kept). (frozen_view k).inode n) same ∙ shows.inode n in
    let why : (links ≢ 0) ⊎ IsTrue (is_open_by c.args.holdings.now n) =
    elim c.else-links-eq0.branch [
      | else-links-eq0-via-then-links-eq0+else-not-is_open w ↦ inr (sym w.is_open.ensures ∙ w.if-not-is_open.false)
      | else-links-eq0-via-else-links-eq0 w ↦ inl w.if-links-eq0.false
    ] in
    relink_stays kept view shows c.args.holdings.now n links c.new-plan.result c.without_holds.result.plan c.without_holds.result.holds.items start
    (map cell c.new-after.result.items) (ap (map cell) c.new-after.ensures.items) why was is
    (subst (λ (d : Draft). GoesOn c.new-plan.result d (λ q. record { change = SetInode n (with_links was links); after = map cell c.new-after.result.items } ∷ q)) (sym c.without_holds.ensures.plan) c.in_ok-set_record.ensures)
    c.without_holds.ensures.holds
