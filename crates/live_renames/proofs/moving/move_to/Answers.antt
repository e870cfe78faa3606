-- A link more, the new entry, and the old name gone.
use Rattle.std.proofs.Common.{◌≡◌, ℕ, All, IsTrue, Ok, ap, map, subst, sym, ◌∙◌}
use Rattle.frozen.specs.Kept.{Kept, frozen_view}
use Rattle.machine.specs.Paths.{walk}
use Rattle.model.specs.Layout.{Geometry, is_number, root}
use Rattle.model.proofs.SlotLemmas.{directory_number}
use Rattle.updates.specs.Places.{IsCell}
use Rattle.updates.specs.Values.{cell}
use Rattle.live_paths.proofs.ShownLemmas.{self_shown}
use Rattle.live_places.specs.Chosen.{IsPlace}
use Rattle.live_states.specs.Drafts.{Draft}
use Rattle.live_renames.specs.Moved.{AreFirst}
use Rattle.live_renames.proofs.CauseLemmas.{part_short, walked_parts}
use Rattle.live_renames.proofs.GroundLemmas.{found_number}
use Rattle.live_renames.proofs.MoveLemmas.{entered_geometry, moved_with, record_there}
use Rattle.live_renames.proofs.moving.move_to.Goals as goal

pub raise-requires-clause-geometry : goal.raise-requires-clause-geometry
raise-requires-clause-geometry c = ap (λ (d : Draft). d.geometry) c.new-plan.ensures ∙ c.geometry.ensures.geometry ∙ ap (λ (k : Kept). k.geometry) c.frozen-frozen.ensures.same

pub raise-requires-clause-number : goal.raise-requires-clause-number
raise-requires-clause-number c =
    let kept = c.args.metadata.now in
    found_number kept.geometry (frozen_view kept) c.requires.ends.0 c.args.ends.now.found c.requires.ends.1.found

pub raise-requires-clause-links : goal.raise-requires-clause-links
raise-requires-clause-links c = c.requires.place.links

pub record-requires : goal.record-requires
record-requires c =
    let kept = c.args.metadata.now in
    subst (λ (k : Kept). IsTrue (is_number k.geometry c.args.ends.now.directory)) (sym c.frozen-frozen.ensures.same) (directory_number kept.geometry (frozen_view kept) c.args.ends.now.directory c.requires.place.directory)

pub enter-requires-clause-parent : goal.enter-requires-clause-parent
enter-requires-clause-parent c =
    let kept = c.args.metadata.now in
    let d = c.args.ends.now.directory in
    (((frozen_view kept).inode d).links, c.record.ensures ∙ record_there c.frozen-frozen.result.now kept d c.frozen-frozen.ensures.same)

pub enter-requires-clause-number : goal.enter-requires-clause-number
enter-requires-clause-number c =
    let kept = c.args.metadata.now in
    found_number kept.geometry (frozen_view kept) c.requires.ends.0 c.args.ends.now.found c.requires.ends.1.found

pub enter-requires-clause-name : goal.enter-requires-clause-name
enter-requires-clause-name c =
    let kept = c.args.metadata.now in
    part_short c.name.result.now (c.name.ensures.part (walked_parts kept.geometry (frozen_view kept) c.args.to.now c.args.ends.now.directory c.requires.ends.1.directory))

pub enter-requires-clause-place : goal.enter-requires-clause-place
enter-requires-clause-place c =
    let kept = c.args.metadata.now in
    c.requires.place.fits (frozen_view kept) (self_shown kept)

pub first_cells-requires-clause-walk : goal.first_cells-requires-clause-walk
first_cells-requires-clause-walk c =
    subst (λ (k : Kept). (x : ℕ) × (walk k.geometry (frozen_view k) root c.args.to.now ≡ Ok x)) (sym c.frozen-frozen.ensures.same) (c.args.ends.now.directory, c.requires.ends.1.directory)

pub first_cells-requires-clause-place : goal.first_cells-requires-clause-place
first_cells-requires-clause-place c =
    let kept = c.args.metadata.now in
    subst (λ (k : Kept). (x : ℕ) × IsPlace k.geometry (frozen_view k) x c.args.place) (sym c.frozen-frozen.ensures.same) (c.args.ends.now.directory, c.requires.place.fits (frozen_view kept) (self_shown kept))

pub leave-requires-clause-geometry : goal.leave-requires-clause-geometry
leave-requires-clause-geometry c =
    let kept = c.args.metadata.now in
    let ends = c.args.ends.now in
    let users = c.requires.volume.old.view in
    entered_geometry kept.geometry users ends.directory c.record.result ends.found.number c.name.result.now c.args.place c.raise.new.plan c.enter.new.plan (c.in_ok-enter.ensures users c.requires.volume.shows)
    ∙ c.in_ok-raise.ensures.geometry ∙ ap (λ (d : Draft). d.geometry) c.new-plan.ensures ∙ c.geometry.ensures.geometry ∙ ap (λ (k : Kept). k.geometry) c.frozen-frozen.ensures.same

pub leave-requires-clause-after : goal.leave-requires-clause-after
leave-requires-clause-after c =
    let kept = c.args.metadata.now in
    let ends = c.args.ends.now in
    let users = c.requires.volume.old.view in
    let geometry = entered_geometry kept.geometry users ends.directory c.record.result ends.found.number c.name.result.now c.args.place c.raise.new.plan c.enter.new.plan (c.in_ok-enter.ensures users c.requires.volume.shows)
    ∙ c.in_ok-raise.ensures.geometry ∙ ap (λ (d : Draft). d.geometry) c.new-plan.ensures ∙ c.geometry.ensures.geometry in
    subst (λ (geo : Geometry). All (IsCell geo) (map cell c.in_ok-after.after.items)) (sym geometry) c.in_ok-after.ensures.cells

pub returns : goal.returns
returns c =
    let kept = c.args.metadata.now in
    let ends = c.args.ends.now in
    let same = c.frozen-frozen.ensures.same in
    let after = map cell c.in_ok-after.after.items in
    moved_with kept c.requires.volume ends c.args.to.now c.args.place c.geometry.result c.new-plan.result c.raise.new.plan c.enter.new.plan c.leave.new.plan c.record.result c.name.result.now after
    c.new-plan.ensures (c.geometry.ensures.geometry ∙ ap (λ (k : Kept). k.geometry) same) c.in_ok-raise.ensures
    (c.record.ensures ∙ record_there c.frozen-frozen.result.now kept ends.directory same) c.name.ensures.name c.in_ok-enter.ensures
    (subst (λ (k : Kept). AreFirst k.geometry (frozen_view k) c.args.to.now c.args.place after) same c.in_ok-after.ensures.first) c.in_ok-leave.ensures
