-- The bits, the parent's record, the dots, the new record, and then the entry.
use Rattle.std.proofs.Common.{◌+◌, map, refl, sym, ap, ◌∙◌, subst}
use Rattle.std.specs.Arc.{arc_value}
use Rattle.frozen.specs.Kept.{Kept, frozen_view}
use Rattle.machine.specs.Effects.{AreDots, with_links}
use Rattle.model.specs.View.{Inode}
use Rattle.updates.specs.Values.{cell}
use Rattle.live_states.specs.Drafts.{Draft}
use Rattle.live_plans.proofs.Fitting.{written_fits}
use Rattle.live_creations.proofs.FirstUpdates.{makes_directory}
use Rattle.live_creations.proofs.making.made.Goals as goal

-- the parent has its record with other links, and the new directory no double indirect block
pub set_record-requires-clause-fits : goal.set_record-requires-clause-fits
set_record-requires-clause-fits c =
    let kept = c.args.metadata.now in
    let new = c.args.new.now in
    written_fits kept c.push-2.new.self.geometry new.directory new.parent ((frozen_view kept).inode new.directory)
    (c.in_ok-push-2.ensures.geometry ∙ c.in_ok-push.ensures.geometry ∙ ap (λ (d : Draft). d.geometry) c.new-plan.ensures ∙ c.geometry.ensures.geometry ∙ ap (λ (k : Kept). k.geometry) c.frozen.ensures.same)
    refl (ap (λ (i : Inode). i.double) c.requires.parent)

pub set_record-requires-2-clause-fits : goal.set_record-requires-2-clause-fits
set_record-requires-2-clause-fits c = λ one. ap (λ (i : Inode). i.double) c.new_directory.ensures

pub returns : goal.returns
returns c = λ view shows.
    let new = c.args.new.now in
    makes_directory c.args.metadata.now.geometry c.geometry.result view new c.args.own c.args.attributes.now (arc_value c.in_ok-dots.dots)
    c.new-plan.result c.push.new.self c.push-2.new.self c.set_record.new.self c.push-3.new.self c.set_record-2.new.self c.enter.new.plan
    (map cell c.new.result.items) (map cell c.new-2.result.items) (map cell c.new-3.result.items) (map cell c.in_ok-after.after.items) (map cell c.in_ok-after-2.after.items) c.new_directory.result
    c.new-plan.ensures (c.geometry.ensures.geometry ∙ ap (λ (k : Kept). k.geometry) c.frozen.ensures.same)
    (ap (map cell) c.new.ensures.items) (ap (map cell) c.new-2.ensures.items) (ap (map cell) c.new-3.ensures.items)
    (ap (map cell) c.in_ok-after.ensures.items) (ap (map cell) c.in_ok-after-2.ensures.items)
    (c.requires.parent ∙ ap (λ (i : Inode). with_links i (i.links + 1)) (shows.inode new.directory)) c.new_directory.ensures
    (subst (AreDots new.number new.directory) (sym c.in_ok-dots.ensures.ok) c.dots.ensures)
    c.in_ok-push.ensures c.in_ok-push-2.ensures c.in_ok-set_record.ensures c.in_ok-push-3.ensures c.in_ok-set_record-2.ensures (c.in_ok-enter.ensures view shows)
