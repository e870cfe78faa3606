-- The block is filled, then the pointer is put, and then the record.
use Rattle.std.proofs.Common.{◌≡◌, ◌+◌, ℕ, map, sym, ap, ap₂, ◌∙◌, subst, arith, All}
use Rattle.std.proofs.lemmas.Result.{on_ok_weaker}
use Rattle.model.specs.Layout.{Geometry}
use Rattle.model.specs.Cells.{SetInode}
use Rattle.model.specs.View.{Fits, Inode}
use Rattle.frozen.specs.Kept.{frozen_view}
use Rattle.plans_data.specs.Append.{filled, sized}
use Rattle.plans_data.specs.Plans.{holder_of}
use Rattle.updates.specs.Places.{FitsVolume, IsCell}
use Rattle.updates.specs.Values.{cell}
use Rattle.live_states.specs.Drafts.{GoesOn}
use Rattle.live_plans.specs.Linked.{CanLink, IsLinked}
use Rattle.live_plans.proofs.Fitting.{kept_fits}
use Rattle.live_plans.proofs.GrowLemmas.{can_grow, few_before, grows}
use Rattle.live_plans.proofs.growing.grow.Goals as goal

pub overflow_add-size : goal.overflow_add-size
overflow_add-size c =
    let kept = c.args.metadata.now in
    let few = few_before kept.geometry (frozen_view kept) c.args.new.now.directory c.args.new.now.parent c.requires.parent.0 c.requires.parent.1 c.requires.place.none c.requires.room in
    let size : c.parent.inside.size ≡ c.args.new.now.parent.size = ap (λ (n : Inode). n.size) c.parent.view_is in
    omega (arith, few.1, size)

pub link-requires-clause-position : goal.link-requires-clause-position
link-requires-clause-position c =
    let kept = c.args.metadata.now in
    let few = few_before kept.geometry (frozen_view kept) c.args.new.now.directory c.args.new.now.parent c.requires.parent.0 c.requires.parent.1 c.requires.place.none c.requires.room in
    omega (arith, few.0, c.blocks-2.ensures)

pub link-requires-clause-tables : goal.link-requires-clause-tables
link-requires-clause-tables c =
    let kept = c.args.metadata.now in
    subst (λ k. CanLink kept c.args.new.now.directory k c.args.tables) (sym c.blocks-2.ensures)
    (can_grow kept c.args.new.now.directory c.args.block c.args.new.now.parent c.requires.parent.0 c.args.tables c.requires.pointers c.requires.parent.1 c.requires.place c.requires.room)

-- the record fits the version of the layout as it did without the pointer
pub set_record-requires-clause-fits : goal.set_record-requires-clause-fits
set_record-requires-clause-fits c =
    let kept = c.args.metadata.now in
    let d = c.args.new.now.directory in
    let before : Inode = record { mode = c.grown.inside.mode; links = c.grown.inside.links; size = c.grown.inside.size; direct = c.grown.inside.direct; indirect = c.grown.inside.indirect; double = c.grown.inside.double; attributes = c.grown.inside.attributes } in
    let given : Inode = record before { size = c.parent.inside.size + 1024 } in
    let fits : Fits kept.geometry.version given = λ one.
    ap (λ (n : Inode). n.double) c.grown.view_is ∙ c.in_ok-linked.ensures.links.record_fits (kept_fits kept d c.args.new.now.parent c.requires.parent.0 c.requires.parent.1) one in
    subst (λ (g : Geometry). FitsVolume g (SetInode d given)) (sym (c.in_ok-linked.ensures.geometry ∙ c.in_ok-fill.ensures.geometry ∙ c.requires.geometry)) fits

pub set_record-requires-clause-after : goal.set_record-requires-clause-after
set_record-requires-clause-after c =
    subst (λ (g : Geometry). All (IsCell g) (map cell c.in_ok-linked.linked.after.items)) (sym (c.in_ok-linked.ensures.geometry ∙ c.in_ok-fill.ensures.geometry ∙ c.requires.geometry)) c.in_ok-linked.ensures.links.cells

pub returns-clause-grows : goal.returns-clause-grows
returns-clause-grows c =
    let kept = c.args.metadata.now in
    let d = c.args.new.now.directory in
    let b = c.args.block in
    let inode = c.args.new.now.parent in
    let before : Inode = record { mode = c.grown.inside.mode; links = c.grown.inside.links; size = c.grown.inside.size; direct = c.grown.inside.direct; indirect = c.grown.inside.indirect; double = c.grown.inside.double; attributes = c.grown.inside.attributes } in
    let given : Inode = record before { size = c.parent.inside.size + 1024 } in
    let size : c.parent.inside.size ≡ inode.size = ap (λ (n : Inode). n.size) c.parent.view_is in
    let same : given ≡ sized c.in_ok-linked.linked.record (inode.size + 1024) = ap₂ (λ (n : Inode) (s : ℕ). sized n (s + 1024)) c.grown.view_is size in
    on_ok_weaker c.set_record.result
    (λ sets view shows.
    grows kept view shows d b inode c.requires.parent.0 c.requires.parent.1 c.frozen.ensures.metadata
    c.frozen.ensures.metadata.frame.geometry
    c.requires.pointers c.args.tables c.requires.place c.requires.room c.args.plan.now c.fill.new.plan c.link.new.plan c.set_record.new.self given c.in_ok-linked.linked.record (map cell c.in_ok-linked.linked.after.items)
    (subst (λ bytes. GoesOn c.args.plan.now c.fill.new.plan (filled b bytes)) c.in_ok-zeroes.ensures.ok c.in_ok-fill.ensures)
    (subst (λ k. IsLinked kept.geometry d inode k b (holder_of kept.geometry (frozen_view kept) d k b c.args.tables) c.fill.new.plan c.link.new.plan c.in_ok-linked.linked.record (map cell c.in_ok-linked.linked.after.items))
    c.blocks-2.ensures c.in_ok-linked.ensures.links)
    same sets)
    c.set_record.ensures
