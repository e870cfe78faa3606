-- Each test is one of the causes, in their order, and what is left is a plan.
use Rattle.std.proofs.Common.{◌≡◌, None, Ok, Some, eq-eqb, ne_eqb, inr, subst, sym}
use Rattle.std.proofs.lemmas.Result.{err_from_is_err_and}
use Rattle.frozen.specs.Kept.{frozen_view}
use Rattle.machine.specs.Below.{first_of}
use Rattle.machine.specs.Causes.{FirstRefusal}
use Rattle.machine.specs.Command.{Rename}
use Rattle.metadata.proofs.ShownLemmas.{shows_metadata}
use Rattle.live_paths.proofs.ShownLemmas.{self_shown}
use Rattle.live_renames.specs.Refused.{AreEnds, early, taken}
use Rattle.live_renames.specs.Renamed.{IsRenamed}
use Rattle.live_renames.proofs.CauseLemmas.{bad_other, bad_path, part_short, walked_parts, refused_across, refused_early, refused_within}
use Rattle.model.specs.Layout.{root}
use Rattle.machine.specs.Paths.{walk}
use Rattle.live_renames.proofs.PlannedLemmas.{across_planned, within_planned}
use Rattle.live_renames.proofs.GroundLemmas.{found_number}
use Rattle.live_renames.proofs.LateLemmas.{there}
use Rattle.live_renames.proofs.renaming.rename.Goals as goal

pub returns-in_err-from-clause-refused : goal.returns-in_err-from-clause-refused
returns-in_err-from-clause-refused c =
    let geo = c.args.metadata.now.geometry in
    let path = c.args.path.now in
    let other = c.args.other.now in
    let p = err_from_is_err_and c.from_residual.result c.from_residual.ensures.1 in
    rw (p.1, p.2) (inr (λ old shows. subst (λ r. FirstRefusal geo old (Rename path other) r) (sym c.in_err-from.ensures.1) (bad_path geo old path other c.in_err-from.ensures.0)))

pub returns-in_err-to-clause-refused : goal.returns-in_err-to-clause-refused
returns-in_err-to-clause-refused c =
    let geo = c.args.metadata.now.geometry in
    let path = c.args.path.now in
    let other = c.args.other.now in
    let p = err_from_is_err_and c.from_residual-in_err-to.result c.from_residual-in_err-to.ensures.1 in
    rw (p.1, p.2) (inr (λ old shows. subst (λ r. FirstRefusal geo old (Rename path other) r) (sym c.in_err-to.ensures.1) (bad_other geo old path other c.in_ok-from.from c.in_ok-from.ensures c.in_err-to.ensures.0)))

pub returns-in_err-ends-clause-refused : goal.returns-in_err-ends-clause-refused
returns-in_err-ends-clause-refused c =
    let kept = c.args.metadata.now in
    let ps = c.in_ok-from.from in
    let qs = c.in_ok-to.to in
    let r = c.in_err-ends.field-0.0 in
    let p = err_from_is_err_and c.from_residual-in_err-ends.result c.from_residual-in_err-ends.ensures.1 in
    rw (p.1, p.2) (inr (λ old shows.
    refused_early kept.geometry old c.args.path.now c.args.other.now ps c.in_ok-from.ensures qs c.in_ok-to.ensures r
    (there (λ geo v. first_of (early geo v ps qs) ≡ Some r) c.frozen.result.now kept c.frozen.ensures.same c.in_err-ends.ensures old.view (shows_metadata kept old.view c.frozen.ensures.metadata shows))))

pub permit-requires-clause-number : goal.permit-requires-clause-number
permit-requires-clause-number c =
    let kept = c.args.metadata.now in
    let are = there (λ geo v. AreEnds geo v c.in_ok-from.from c.in_ok-to.to c.in_ok-ends.ends) c.frozen.result.now kept c.frozen.ensures.same c.in_ok-ends.ensures (frozen_view kept) (self_shown kept) in
    found_number kept.geometry (frozen_view kept) c.in_ok-from.from c.in_ok-ends.ends.found are.found

pub permit-requires-clause-directory : goal.permit-requires-clause-directory
permit-requires-clause-directory c =
    let kept = c.args.metadata.now in
    (there (λ geo v. AreEnds geo v c.in_ok-from.from c.in_ok-to.to c.in_ok-ends.ends) c.frozen.result.now kept c.frozen.ensures.same c.in_ok-ends.ensures (frozen_view kept) (self_shown kept)).directory

pub returns-in_err-place-clause-refused : goal.returns-in_err-place-clause-refused
returns-in_err-place-clause-refused c =
    let kept = c.args.metadata.now in
    let ps = c.in_ok-from.from in
    let qs = c.in_ok-to.to in
    let ends = c.in_ok-ends.ends in
    let r = c.in_err-place.field-0.0 in
    let p = err_from_is_err_and c.from_residual-in_err-place.result c.from_residual-in_err-place.ensures.1 in
    rw (p.1, p.2) (inr (λ old shows.
    let shown = shows_metadata kept old.view c.frozen.ensures.metadata shows in
    let are = there (λ geo v. AreEnds geo v ps qs ends) c.frozen.result.now kept c.frozen.ensures.same c.in_ok-ends.ensures old.view shown in
    refused_across kept.geometry old c.args.path.now c.args.other.now ps c.in_ok-from.ensures qs c.in_ok-to.ensures ends are (ne_eqb ends.found.directory ends.directory c.if-ends.false) r (c.in_err-place.ensures.refused old.view shown)))

pub returns-in_err-refuse_taken-clause-refused : goal.returns-in_err-refuse_taken-clause-refused
returns-in_err-refuse_taken-clause-refused c =
    let kept = c.args.metadata.now in
    let ps = c.in_ok-from.from in
    let qs = c.in_ok-to.to in
    let ends = c.in_ok-ends.ends in
    let r = c.in_err-refuse_taken.field-0.0 in
    let p = err_from_is_err_and c.from_residual-in_err-refuse_taken.result c.from_residual-in_err-refuse_taken.ensures.1 in
    rw (p.1, p.2) (inr (λ old shows.
    let shown = shows_metadata kept old.view c.frozen.ensures.metadata shows in
    let are = there (λ geo v. AreEnds geo v ps qs ends) c.frozen.result.now kept c.frozen.ensures.same c.in_ok-ends.ensures old.view shown in
    refused_within kept.geometry old c.args.path.now c.args.other.now ps c.in_ok-from.ensures qs c.in_ok-to.ensures ends are (eq-eqb ends.found.directory ends.directory c.if-ends.true) r
    (sym (there (λ geo v. walk geo v root qs ≡ Ok ends.directory → Some r ≡ taken geo v qs) c.frozen-then-ends.result.now kept c.frozen-then-ends.ensures.same c.in_err-refuse_taken.ensures old.view shown are.directory))))

pub rename_in_slot-requires-clause-found : goal.rename_in_slot-requires-clause-found
rename_in_slot-requires-clause-found c =
    let kept = c.args.metadata.now in
    (c.in_ok-from.from, (there (λ geo v. AreEnds geo v c.in_ok-from.from c.in_ok-to.to c.in_ok-ends.ends) c.frozen.result.now kept c.frozen.ensures.same c.in_ok-ends.ensures (frozen_view kept) (self_shown kept)).found)

pub rename_in_slot-requires-clause-name : goal.rename_in_slot-requires-clause-name
rename_in_slot-requires-clause-name c =
    let kept = c.args.metadata.now in
    let are = there (λ geo v. AreEnds geo v c.in_ok-from.from c.in_ok-to.to c.in_ok-ends.ends) c.frozen.result.now kept c.frozen.ensures.same c.in_ok-ends.ensures (frozen_view kept) (self_shown kept) in
    part_short c.name.result.now (c.name.ensures.part (walked_parts kept.geometry (frozen_view kept) c.in_ok-to.to c.in_ok-ends.ends.directory are.directory))

pub move_to-requires-clause-volume : goal.move_to-requires-clause-volume
move_to-requires-clause-volume c = c.requires

pub move_to-requires-clause-ends : goal.move_to-requires-clause-ends
move_to-requires-clause-ends c =
    let kept = c.args.metadata.now in
    (c.in_ok-from.from, there (λ geo v. AreEnds geo v c.in_ok-from.from c.in_ok-to.to c.in_ok-ends.ends) c.frozen.result.now kept c.frozen.ensures.same c.in_ok-ends.ensures (frozen_view kept) (self_shown kept))

pub move_to-requires-clause-place : goal.move_to-requires-clause-place
move_to-requires-clause-place c = c.in_ok-place.ensures.place

pub returns-in_ok-rename_in_slot-clause-planned : goal.returns-in_ok-rename_in_slot-clause-planned
returns-in_ok-rename_in_slot-clause-planned c =
    let kept = c.args.metadata.now in
    let ps = c.in_ok-from.from in
    let qs = c.in_ok-to.to in
    let ends = c.in_ok-ends.ends in
    let draft = c.in_ok-rename_in_slot.field-0 in
    let are = there (λ geo v. AreEnds geo v ps qs ends) c.frozen.result.now kept c.frozen.ensures.same c.in_ok-ends.ensures in
    within_planned kept c.frozen.ensures.metadata c.args.path.now c.args.other.now ps qs c.in_ok-from.ensures c.in_ok-to.ensures ends are draft
    c.if-ends.true (eq-eqb ends.found.directory ends.directory c.if-ends.true)
    (λ view shown. sym (there (λ geo v. walk geo v root qs ≡ Ok ends.directory → None ≡ taken geo v qs) c.frozen-then-ends.result.now kept c.frozen-then-ends.ensures.same c.in_ok-refuse_taken.ensures view shown (are view shown).directory))
    (subst (λ n. IsRenamed kept ends.found n draft) c.name.ensures.name c.in_ok-rename_in_slot.ensures)

pub returns-in_ok-move_to-clause-planned : goal.returns-in_ok-move_to-clause-planned
returns-in_ok-move_to-clause-planned c =
    let kept = c.args.metadata.now in
    let ps = c.in_ok-from.from in
    let qs = c.in_ok-to.to in
    let ends = c.in_ok-ends.ends in
    let are = there (λ geo v. AreEnds geo v ps qs ends) c.frozen.result.now kept c.frozen.ensures.same c.in_ok-ends.ensures in
    across_planned kept c.frozen.ensures.metadata c.args.path.now c.args.other.now ps qs c.in_ok-from.ensures c.in_ok-to.ensures ends are c.in_ok-move_to.field-0
    c.in_ok-place.place c.if-ends.false (ne_eqb ends.found.directory ends.directory c.if-ends.false)
    c.in_ok-place.ensures.permitted c.in_ok-place.ensures.place c.in_ok-move_to.ensures
