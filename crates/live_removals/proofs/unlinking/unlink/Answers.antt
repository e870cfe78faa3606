-- What is lent is what is kept, and the law of unlinks does the rest.
use Rattle.std.proofs.Common.{◌≡◌, ℕ, List, [], Some, inl, inr, sym, ap, ◌∙◌, subst}
use Rattle.std.proofs.lemmas.Result.{err_from_is_err_and}
use Rattle.layout.specs.declared.refusal.Refusal.{Refusal}
use Rattle.model.specs.View.{View}
use Rattle.machine.specs.Command.{Done, Unlink}
use Rattle.frozen.specs.Kept.{Kept, frozen_view}
use Rattle.metadata.proofs.ShownLemmas.{shows_metadata}
use Rattle.live_paths.specs.Shown.{IsShownBy}
use Rattle.live_plans.proofs.FoundLemmas.{self_shown}
use Rattle.live_plans.specs.declared.locating.Found.{Found}
use Rattle.live_states.specs.Drafts.{Draft}
use Rattle.live_states.specs.Holdings.{with_held}
use Rattle.live_states.specs.Planned.{IsPlannedWith}
use Rattle.live_removals.specs.Entries.{IsFileAt, file_refusal}
use Rattle.live_removals.proofs.Leaving.{leaves_blocks}
use Rattle.live_removals.proofs.Naming.{entry_kept}
use Rattle.live_removals.proofs.Refusals.{unlink_bad, unlink_refusal}
use Rattle.live_removals.proofs.Showing.{shows_itself}
use Rattle.live_removals.proofs.Unlinks.{file_linked, unlink_planned, unnamed_planned}
use Rattle.live_removals.proofs.unlinking.unlink.Goals as goal

found_there : (held kept : Kept) (ps : List (List ℕ)) (found : Found) → held ≡ kept → ((view : View) → IsShownBy held view → IsFileAt held.geometry view ps found)
    → (view : View) → IsShownBy kept view → IsFileAt kept.geometry view ps found
found_there held kept ps found e = subst (λ (k : Kept). (view : View) → IsShownBy k view → IsFileAt k.geometry view ps found) e

refused_there : (held kept : Kept) (ps : List (List ℕ)) (r : Refusal) → held ≡ kept → ((view : View) → IsShownBy held view → file_refusal held.geometry view ps ≡ Some r)
    → (view : View) → IsShownBy kept view → file_refusal kept.geometry view ps ≡ Some r
refused_there held kept ps r e = subst (λ (k : Kept). (view : View) → IsShownBy k view → file_refusal k.geometry view ps ≡ Some r) e

pub returns-in_err-parsed-clause-refused : goal.returns-in_err-parsed-clause-refused
returns-in_err-parsed-clause-refused c =
    let p = err_from_is_err_and c.from_residual.result c.from_residual.ensures.1 in
    rw (p.1, p.2) (inr (λ old shows. inl (unlink_bad c.args.metadata.now.geometry old c.args.path.now c.in_err-parsed.ensures.0 ∙ ap Some (sym c.in_err-parsed.ensures.1))))

pub returns-in_err-found-clause-refused : goal.returns-in_err-found-clause-refused
returns-in_err-found-clause-refused c =
    let kept = c.args.metadata.now in
    let p = err_from_is_err_and c.from_residual-in_err-found.result c.from_residual-in_err-found.ensures.1 in
    rw (p.1, p.2) (inr (λ old shows. inl (unlink_refusal kept.geometry old c.args.path.now c.in_ok-parsed.parsed c.in_ok-parsed.ensures
    ∙ refused_there c.frozen.result.now kept c.in_ok-parsed.parsed c.in_err-found.field-0.0 c.frozen.ensures.same c.in_err-found.ensures.refused old.view (shows_metadata kept old.view c.frozen.ensures.metadata shows))))

pub unlinked-requires : goal.unlinked-requires
unlinked-requires c =
    let f = c.frozen.result.now in
    entry_kept f c.args.metadata.now c.in_ok-parsed.parsed c.in_ok-found.found c.frozen.ensures.same (c.in_ok-found.ensures.found (frozen_view f) (self_shown f)).at

pub unnamed-requires-clause-entry : goal.unnamed-requires-clause-entry
unnamed-requires-clause-entry c =
    let f = c.frozen.result.now in
    entry_kept f c.args.metadata.now c.in_ok-parsed.parsed c.in_ok-found.found c.frozen.ensures.same (c.in_ok-found.ensures.found (frozen_view f) (self_shown f)).at

pub unnamed-requires-clause-linked : goal.unnamed-requires-clause-linked
unnamed-requires-clause-linked c =
    let kept = c.args.metadata.now in
    let at = found_there c.frozen.result.now kept c.in_ok-parsed.parsed c.in_ok-found.found c.frozen.ensures.same c.in_ok-found.ensures.found in
    file_linked kept c.args.path.now c.in_ok-parsed.parsed c.in_ok-found.found c.frozen.ensures.metadata c.requires.volume.volume c.in_ok-parsed.ensures at

pub returns-in_ok-unnamed-clause-planned : goal.returns-in_ok-unnamed-clause-planned
returns-in_ok-unnamed-clause-planned c =
    let kept = c.args.metadata.now in
    let holdings = c.args.holdings.now in
    let at = found_there c.frozen.result.now kept c.in_ok-parsed.parsed c.in_ok-found.found c.frozen.ensures.same c.in_ok-found.ensures.found in
    let planned = unnamed_planned kept holdings c.args.path.now c.in_ok-parsed.parsed c.in_ok-found.found c.in_ok-unnamed.field-0 c.frozen.ensures.metadata c.requires.volume.volume c.in_ok-parsed.ensures at
    c.accepted_unlinks.ensures.decided (sym c.is_open.ensures ∙ c.if-is_open.true) c.in_ok-unnamed.ensures in
    subst (λ (d : Draft). IsPlannedWith kept holdings [] (Unlink c.args.path.now) Done d (with_held holdings c.without_holds.result.holds.items)) (sym c.without_holds.ensures.plan)
    (subst (λ (bs : List ℕ). IsPlannedWith kept holdings [] (Unlink c.args.path.now) Done c.in_ok-unnamed.field-0 (with_held holdings bs)) (sym c.without_holds.ensures.holds) planned)

pub returns-in_ok-unlinked-clause-planned : goal.returns-in_ok-unlinked-clause-planned
returns-in_ok-unlinked-clause-planned c =
    let kept = c.args.metadata.now in
    let at = found_there c.frozen.result.now kept c.in_ok-parsed.parsed c.in_ok-found.found c.frozen.ensures.same c.in_ok-found.ensures.found in
    unlink_planned kept c.args.holdings.now c.args.path.now c.in_ok-parsed.parsed c.in_ok-found.found c.in_ok-unlinked.field-0.plan c.frozen.ensures.metadata c.requires.volume.volume c.in_ok-parsed.ensures at
    c.accepted_unlinks.ensures.decided c.requires.wide (sym c.is_open.ensures ∙ c.if-is_open.false) c.in_ok-unlinked.field-0.holds.items c.in_ok-unlinked.ensures

pub returns-in_ok-unlinked-clause-holds : goal.returns-in_ok-unlinked-clause-holds
returns-in_ok-unlinked-clause-holds c =
    let kept = c.args.metadata.now in
    leaves_blocks kept.geometry (frozen_view kept) c.args.holdings.now c.in_ok-found.found 1 [] c.in_ok-unlinked.field-0.plan c.in_ok-unlinked.field-0.holds.items (c.in_ok-unlinked.ensures (frozen_view kept) (shows_itself kept))
