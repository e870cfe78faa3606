-- The slot that was found is the directory's, and the record is the one that is kept.
use Rattle.std.proofs.Common.{◌∷◌, [], ◌++◌, ap, map, refl, subst, sym, ◌∙◌, IsTrue}
use Rattle.frozen.specs.Kept.{Kept, frozen_view}
use Rattle.model.specs.Layout.{is_data_address, is_number}
use Rattle.updates.specs.Values.{cell}
use Rattle.updates.specs.declared.cell.Cell.TheVariants.{Block}
use Rattle.live_plans.proofs.Fitting.{written_fits}
use Rattle.live_renames.proofs.GroundLemmas.{found_claim, found_directory, found_number, pushed}
use Rattle.live_renames.proofs.MoveLemmas.{left_goes_on, none_cells, record_there}
use Rattle.live_renames.proofs.moving.leave.Goals as goal

pub empty_slot-requires-clause-directory : goal.empty_slot-requires-clause-directory
empty_slot-requires-clause-directory c =
    let kept = c.args.metadata.now in
    found_directory kept.geometry (frozen_view kept) c.requires.found.0 c.args.found.now c.requires.found.1

pub empty_slot-requires-clause-claim : goal.empty_slot-requires-clause-claim
empty_slot-requires-clause-claim c =
    let kept = c.args.metadata.now in
    found_claim kept.geometry (frozen_view kept) c.requires.found.0 c.args.found.now c.requires.found.1

pub empty_slot-requires-clause-after : goal.empty_slot-requires-clause-after
empty_slot-requires-clause-after c = c.requires.after

pub record-record-requires : goal.record-record-requires
record-record-requires c =
    let kept = c.args.metadata.now in
    subst (λ (k : Kept). IsTrue (is_number k.geometry c.args.found.now.number)) (sym c.frozen.ensures.same) (found_number kept.geometry (frozen_view kept) c.requires.found.0 c.args.found.now c.requires.found.1)

pub set_record-requires-clause-number : goal.set_record-requires-clause-number
set_record-requires-clause-number c =
    let kept = c.args.metadata.now in
    subst (λ geo. IsTrue (is_number geo c.args.found.now.number)) (sym (c.in_ok-empty_slot.ensures.geometry ∙ c.requires.geometry)) (found_number kept.geometry (frozen_view kept) c.requires.found.0 c.args.found.now c.requires.found.1)

pub set_record-requires-clause-fits : goal.set_record-requires-clause-fits
set_record-requires-clause-fits c =
    let kept = c.args.metadata.now in
    let n = c.args.found.now.number in
    written_fits kept c.empty_slot.new.plan.geometry n c.record-record.result c.record-record.result (c.in_ok-empty_slot.ensures.geometry ∙ c.requires.geometry)
    (c.record-record.ensures ∙ record_there c.frozen.result.now kept n c.frozen.ensures.same) refl

pub set_record-requires-clause-after : goal.set_record-requires-clause-after
set_record-requires-clause-after c =
    let kept = c.args.metadata.now in
    let geo = c.empty_slot.new.plan.geometry in
    let address = subst (λ g. IsTrue (is_data_address g c.args.found.now.block)) (sym (c.in_ok-empty_slot.ensures.geometry ∙ c.requires.geometry)) (found_claim kept.geometry (frozen_view kept) c.requires.found.0 c.args.found.now c.requires.found.1).1 in
    (pushed geo c.new-emptied.result.items c.push.new.self.items (Block c.args.found.now.block) c.in_ok-push.ensures.ok address).cells (none_cells geo c.new-emptied.result.items c.new-emptied.ensures.items)

pub returns : goal.returns
returns c = λ view shows.
    let kept = c.args.metadata.now in
    let found = c.args.found.now in
    left_goes_on c.args.plan.now c.empty_slot.new.plan c.set_record.new.self found.number found.block found.slot (view.inode found.number) c.record-record.result (view.bytes found.block) (map cell c.args.after.items) (map cell c.push.new.self.items)
    (c.record-record.ensures ∙ record_there c.frozen.result.now kept found.number c.frozen.ensures.same ∙ shows.inode found.number)
    (ap (map cell) (c.in_ok-push.ensures.ok ∙ ap (λ xs. xs ++ Block found.block ∷ []) c.new-emptied.ensures.items))
    (c.in_ok-empty_slot.ensures.emptied view shows) c.in_ok-set_record.ensures
