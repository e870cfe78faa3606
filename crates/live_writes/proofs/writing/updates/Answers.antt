-- The block gets its bytes, and then the file the block.
use Rattle.std.proofs.Common.{◌≡◌, [], map, max, refl, sym, ap, ◌∙◌, subst, IsTrue}
use Rattle.std.specs.Arc.{arc_value}
use Rattle.model.specs.Layout.{Geometry, is_data_address}
use Rattle.model.specs.View.{Inode}
use Rattle.frozen.specs.Kept.{Kept, frozen_view}
use Rattle.updates.specs.Values.{cell}
use Rattle.live_states.specs.Drafts.{Draft, GoesOn}
use Rattle.live_plans.specs.Linked.{CanLink}
use Rattle.live_plans.proofs.Fitting.{written_fits}
use Rattle.live_writes.specs.Aimed.{IsPlaced}
use Rattle.live_writes.specs.Written.{updates_at}
use Rattle.live_writes.specs.declared.aiming.Place.TheVariants.{InPlace}
use Rattle.live_writes.proofs.Facts.{link_behind, link_over, placed_seen}
use Rattle.live_writes.proofs.Pointing.{all_one, goes_behind, goes_elsewhere, goes_in_place}
use Rattle.live_writes.proofs.writing.updates.Goals.{in-InPlace+in_ok-replace-in-InPlace+in_ok-after-in-InPlace+in_ok-enlarge-in-InPlace, in-Behind+in_ok-fill-in-Behind+in_ok-repoint-in-Behind, in-Elsewhere+in_ok-fill-in-Elsewhere+in_ok-repoint-in-Elsewhere}
use Rattle.live_writes.proofs.writing.updates.Goals as goal

pub replace-requires : goal.replace-requires
replace-requires c =
    let kept = c.args.metadata.now in
    let target = c.args.target.now in
    let holdings = c.requires.fits.0 in
    let a = c.in-InPlace.block in
    let address = placed_seen kept holdings target.file target.index (InPlace a) (subst (IsPlaced kept holdings target.file target.index) c.in-InPlace.is (c.requires.fits.1).placed) in
    subst (λ (g : Geometry). IsTrue (is_data_address g a)) (sym (ap (λ (d : Draft). d.geometry) c.new-plan.ensures ∙ c.geometry.ensures.geometry ∙ ap (λ (f : Kept). f.geometry) c.frozen-frozen.ensures.same)) address

-- the record is the one that is kept
pub enlarge-requires-clause-fits : goal.enlarge-requires-clause-fits
enlarge-requires-clause-fits c =
    let kept = c.args.metadata.now in
    let i = c.args.target.now.file in
    written_fits kept c.replace.new.plan.geometry i c.record-owner.result c.record-owner.result
    (c.in_ok-replace-in-InPlace.ensures.geometry ∙ ap (λ (d : Draft). d.geometry) c.new-plan.ensures ∙ c.geometry.ensures.geometry ∙ ap (λ (f : Kept). f.geometry) c.frozen-frozen.ensures.same)
    (c.record-owner.ensures ∙ ap (λ (f : Kept). (frozen_view f).inode c.args.target.now.file) c.frozen-frozen.ensures.same) refl

pub enlarge-requires-clause-after : goal.enlarge-requires-clause-after
enlarge-requires-clause-after c =
    let kept = c.args.metadata.now in
    let target = c.args.target.now in
    let holdings = c.requires.fits.0 in
    let a = c.in-InPlace.block in
    let address = placed_seen kept holdings target.file target.index (InPlace a) (subst (IsPlaced kept holdings target.file target.index) c.in-InPlace.is (c.requires.fits.1).placed) in
    all_one c.replace.new.plan.geometry (map cell c.in_ok-after-in-InPlace.after.items) a (ap (map cell) c.in_ok-after-in-InPlace.ensures.items)
    (subst (λ (g : Geometry). IsTrue (is_data_address g a))
    (sym (c.in_ok-replace-in-InPlace.ensures.geometry ∙ ap (λ (d : Draft). d.geometry) c.new-plan.ensures ∙ c.geometry.ensures.geometry ∙ ap (λ (f : Kept). f.geometry) c.frozen-frozen.ensures.same)) address)

-- the record is the one that is kept
pub repoint-requires-clause-owner : goal.repoint-requires-clause-owner
repoint-requires-clause-owner c = c.record-owner.ensures ∙ ap (λ (f : Kept). (frozen_view f).inode c.args.target.now.file) c.frozen-frozen.ensures.same

pub repoint-requires-in-Elsewhere-clause-owner : goal.repoint-requires-in-Elsewhere-clause-owner
repoint-requires-in-Elsewhere-clause-owner c = c.record-owner.ensures ∙ ap (λ (f : Kept). (frozen_view f).inode c.args.target.now.file) c.frozen-frozen.ensures.same

pub repoint-requires-clause-tables : goal.repoint-requires-clause-tables
repoint-requires-clause-tables c =
    let kept = c.args.metadata.now in
    let target = c.args.target.now in
    let fits = c.requires.fits.1 in
    let b = c.in-Behind.block in
    let is = subst (IsPlaced kept c.requires.fits.0 target.file target.index) c.in-Behind.is fits.placed in
    link_behind kept target.file target.index c.requires.pointers fits.room b c.in-Behind.tables is.0 is.1

pub repoint-requires-in-Elsewhere-clause-tables : goal.repoint-requires-in-Elsewhere-clause-tables
repoint-requires-in-Elsewhere-clause-tables c =
    let kept = c.args.metadata.now in
    let target = c.args.target.now in
    let fits = c.requires.fits.1 in
    let is = subst (IsPlaced kept c.requires.fits.0 target.file target.index) c.in-Elsewhere.is fits.placed in
    subst (CanLink kept target.file target.index) (sym c.none.ensures) (link_over kept target.file target.index c.requires.pointers fits.room is.0)

pub returns : goal.returns
returns c =
    let kept = c.args.metadata.now in
    let target = c.args.target.now in
    let bytes = arc_value c.args.bytes in
    let size = c.max-size.result in
    let larger : size ≡ max ((frozen_view kept).inode target.file).size c.args.end = c.max-size.ensures ∙ ap (λ (n : Inode). max n.size c.args.end) (c.owner.view_is ∙ c.record-owner.ensures ∙ ap (λ (f : Kept). (frozen_view f).inode target.file) c.frozen-frozen.ensures.same) in
    let start : Draft = record { geometry = kept.geometry; file = target.file; updates = [] } in
    let begun : c.new-plan.result ≡ start = c.new-plan.ensures ∙ ap (λ (g : Geometry). record { geometry = g; file = target.file; updates = [] }) (c.geometry.ensures.geometry ∙ ap (λ (f : Kept). f.geometry) c.frozen-frozen.ensures.same) in
    subst (λ s. GoesOn start c.match-target.plan (updates_at kept target bytes s)) larger
    (subst (λ (d : Draft). GoesOn d c.match-target.plan (updates_at kept target bytes size)) begun
    (elim c.match-target.branch [
      | in-InPlace+in_ok-replace-in-InPlace+in_ok-after-in-InPlace+in_ok-enlarge-in-InPlace w ↦
          subst (λ (d : Draft). GoesOn c.new-plan.result d (updates_at kept target bytes size)) (sym w.plan-is)
          (goes_in_place kept target bytes size c.new-plan.result w.replace.new.plan w.enlarge.new.plan w.in-InPlace.block c.record-owner.result (map cell w.in_ok-after-in-InPlace.after.items) w.in-InPlace.is
          (c.record-owner.ensures ∙ ap (λ (f : Kept). (frozen_view f).inode c.args.target.now.file) c.frozen-frozen.ensures.same) (ap (map cell) w.in_ok-after-in-InPlace.ensures.items) w.in_ok-replace-in-InPlace.ensures w.in_ok-enlarge-in-InPlace.ensures)
      | in-Behind+in_ok-fill-in-Behind+in_ok-repoint-in-Behind w ↦
          subst (λ (d : Draft). GoesOn c.new-plan.result d (updates_at kept target bytes size)) (sym w.plan-is)
          (goes_behind kept target bytes size c.new-plan.result w.fill.new.plan w.repoint.new.plan w.in-Behind.block w.in-Behind.tables w.in-Behind.is w.in_ok-fill-in-Behind.ensures w.in_ok-repoint-in-Behind.ensures)
      | in-Elsewhere+in_ok-fill-in-Elsewhere+in_ok-repoint-in-Elsewhere w ↦
          subst (λ (d : Draft). GoesOn c.new-plan.result d (updates_at kept target bytes size)) (sym w.plan-is)
          (goes_elsewhere kept target bytes size c.new-plan.result w.fill-in-Elsewhere.new.plan w.repoint-in-Elsewhere.new.plan w.in-Elsewhere.old w.in-Elsewhere.block w.none.result w.in-Elsewhere.is w.none.ensures w.in_ok-fill-in-Elsewhere.ensures w.in_ok-repoint-in-Elsewhere.ensures)
    ]))
