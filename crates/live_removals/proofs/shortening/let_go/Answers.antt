-- The file has a link or another handle, so nothing is updated; or its record is freed.
use Rattle.std.proofs.Common.{◌≡◌, ◌≢◌, ◌⊎◌, List, [], map, inl, inr, sym, ap, ◌∙◌, subst, arith, IsTrue}
use Rattle.frozen.specs.Kept.{Kept, frozen_view}
use Rattle.model.specs.Layout.{Geometry}
use Rattle.model.specs.View.{Inode}
use Rattle.plans_data.specs.Freeing.{freeing}
use Rattle.updates.specs.declared.cell.Cell.{Cell}
use Rattle.updates.specs.Values.{cell}
use Rattle.live_states.specs.Drafts.{Draft, GoesOn}
use Rattle.live_states.specs.Holdings.{is_kept_by, is_open_by}
use Rattle.live_holdings.specs.Handles.{closed}
use Rattle.live_removals.specs.Blocks.{freed, is_loose}
use Rattle.live_removals.specs.Removed.{no_updates}
use Rattle.live_removals.specs.Shortened.{Goes, Stays}
use Rattle.live_removals.proofs.Showing.{gone_shown}
use Rattle.live_removals.proofs.shortening.let_go.Goals.{then-record-gt0-via-then-record-gt0, then-record-gt0-via-else-record-gt0+then-is_open_besides}
use Rattle.live_removals.proofs.shortening.let_go.Goals as goal

pub returns-then-record-gt0 : goal.returns-then-record-gt0
returns-then-record-gt0 c = λ view shows.
    let kept = c.args.metadata.now in
    let n = c.args.number in
    let same = c.frozen-frozen.ensures.same in
    let start : c.new-plan.result ≡ no_updates kept.geometry n =
    c.new-plan.ensures ∙ ap (λ (g : Geometry). no_updates g n) (c.geometry.ensures.geometry ∙ ap (λ (k : Kept). k.geometry) same) in
    let links : c.record-2.inside.links ≡ (view.inode n).links =
    ap (λ (i : Inode). i.links) (c.record-2.view_is ∙ c.record.ensures ∙ ap (λ (k : Kept). (frozen_view k).inode n) same ∙ shows.inode n) in
    let why : ((view.inode n).links ≢ 0) ⊎ IsTrue (is_open_by (closed c.args.holdings.now c.args.handle) n) =
    elim c.then-record-gt0.branch [
      | then-record-gt0-via-then-record-gt0 w ↦ inl (λ none. omega (arith, w.if-record-gt0.true, links, none))
      | then-record-gt0-via-else-record-gt0+then-is_open_besides w ↦ inr (sym w.is_open_besides.ensures ∙ w.if-is_open_besides.true)
    ] in
    Stays why (c.without_holds.ensures.plan ∙ start) c.without_holds.ensures.holds

pub returns : goal.returns
returns c = λ view shows.
    let kept = c.args.metadata.now in
    let f = c.frozen-frozen.result.now in
    let holdings = c.args.holdings.now in
    let n = c.args.number in
    let same = c.frozen-frozen.ensures.same in
    let keeps = c.frozen-frozen.ensures.metadata in
    let start : c.new-plan.result ≡ no_updates kept.geometry c.args.number =
    c.new-plan.ensures ∙ ap (λ (g : Geometry). no_updates g c.args.number) (c.geometry.ensures.geometry ∙ ap (λ (k : Kept). k.geometry) same) in
    let links : c.record.result.links ≡ (view.inode n).links = ap (λ (i : Inode). i.links) (c.record.ensures ∙ ap (λ (k : Kept). (frozen_view k).inode n) same ∙ shows.inode n) in
    let held : c.record-2.inside.links ≡ c.record.result.links = ap (λ (i : Inode). i.links) c.record-2.view_is in
    Goes (omega (arith, c.if-record-gt0.false, links, held)) (sym c.is_open_besides.ensures ∙ c.if-is_open_besides.false)
    (subst (λ (d : Draft). GoesOn d c.free.new.plan (freeing n (freed kept.geometry view holdings n 0) [])) start
    (subst (λ bs. GoesOn c.new-plan.result c.free.new.plan (freeing n bs [])) (gone_shown kept view keeps shows (is_loose holdings) f same n 0)
    (subst (λ (cs : List Cell). GoesOn c.new-plan.result c.free.new.plan (freeing n (freed f.geometry (frozen_view f) holdings n 0) (map cell cs))) c.new-after.ensures.items c.in_ok-holds.ensures.plan)))
    (c.in_ok-holds.ensures.holds ∙ gone_shown kept view keeps shows (is_kept_by holdings) f same n 0)
