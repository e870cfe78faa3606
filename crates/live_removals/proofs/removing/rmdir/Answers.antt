-- What is lent is what is kept, and the law of removals does the rest.
use Rattle.std.proofs.Common.{◌≡◌, ℕ, List, Some, inl, inr, sym, ap, ◌∙◌, subst}
use Rattle.std.proofs.lemmas.Result.{err_from_is_err_and}
use Rattle.layout.specs.declared.refusal.Refusal.{Refusal}
use Rattle.model.specs.View.{View}
use Rattle.frozen.specs.Kept.{Kept, frozen_view}
use Rattle.metadata.proofs.ShownLemmas.{shows_metadata}
use Rattle.live_paths.specs.Shown.{IsShownBy}
use Rattle.live_plans.proofs.FoundLemmas.{self_shown}
use Rattle.live_plans.specs.declared.locating.Found.{Found}
use Rattle.live_removals.specs.Entries.{IsDirectoryAt, directory_refusal}
use Rattle.live_removals.proofs.Leaving.{leaves_blocks}
use Rattle.live_removals.proofs.Naming.{entry_kept}
use Rattle.live_removals.proofs.Refusals.{rmdir_bad, rmdir_refusal}
use Rattle.live_removals.proofs.Removals.{parent_linked, rmdir_planned}
use Rattle.live_removals.proofs.Showing.{shows_itself}
use Rattle.live_removals.proofs.removing.rmdir.Goals as goal

found_there : (held kept : Kept) (ps : List (List ℕ)) (found : Found) → held ≡ kept → ((view : View) → IsShownBy held view → IsDirectoryAt held.geometry view ps found)
    → (view : View) → IsShownBy kept view → IsDirectoryAt kept.geometry view ps found
found_there held kept ps found e = subst (λ (k : Kept). (view : View) → IsShownBy k view → IsDirectoryAt k.geometry view ps found) e

refused_there : (held kept : Kept) (ps : List (List ℕ)) (r : Refusal) → held ≡ kept → ((view : View) → IsShownBy held view → directory_refusal held.geometry view ps ≡ Some r)
    → (view : View) → IsShownBy kept view → directory_refusal kept.geometry view ps ≡ Some r
refused_there held kept ps r e = subst (λ (k : Kept). (view : View) → IsShownBy k view → directory_refusal k.geometry view ps ≡ Some r) e

pub returns-in_err-parsed-clause-refused : goal.returns-in_err-parsed-clause-refused
returns-in_err-parsed-clause-refused c =
    let p = err_from_is_err_and c.from_residual.result c.from_residual.ensures.1 in
    rw (p.1, p.2) (inr (λ old shows. inl (rmdir_bad c.args.metadata.now.geometry old c.args.path.now c.in_err-parsed.ensures.0 ∙ ap Some (sym c.in_err-parsed.ensures.1))))

pub returns-in_err-found-clause-refused : goal.returns-in_err-found-clause-refused
returns-in_err-found-clause-refused c =
    let kept = c.args.metadata.now in
    let p = err_from_is_err_and c.from_residual-in_err-found.result c.from_residual-in_err-found.ensures.1 in
    rw (p.1, p.2) (inr (λ old shows. inl (rmdir_refusal kept.geometry old c.args.path.now c.in_ok-parsed.parsed c.in_ok-parsed.ensures
    ∙ refused_there c.frozen.result.now kept c.in_ok-parsed.parsed c.in_err-found.field-0.0 c.frozen.ensures.same c.in_err-found.ensures.refused old.view (shows_metadata kept old.view c.frozen.ensures.metadata shows))))

pub removed-requires-clause-entry : goal.removed-requires-clause-entry
removed-requires-clause-entry c =
    let f = c.frozen.result.now in
    entry_kept f c.args.metadata.now c.in_ok-parsed.parsed c.in_ok-found.found c.frozen.ensures.same (c.in_ok-found.ensures.found (frozen_view f) (self_shown f)).at

pub removed-requires-clause-parent : goal.removed-requires-clause-parent
removed-requires-clause-parent c =
    let kept = c.args.metadata.now in
    let at = found_there c.frozen.result.now kept c.in_ok-parsed.parsed c.in_ok-found.found c.frozen.ensures.same c.in_ok-found.ensures.found in
    parent_linked kept c.args.path.now c.in_ok-parsed.parsed c.in_ok-found.found c.frozen.ensures.metadata c.requires.volume.volume c.in_ok-parsed.ensures at

pub returns-clause-planned : goal.returns-clause-planned
returns-clause-planned c =
    let kept = c.args.metadata.now in
    let at = found_there c.frozen.result.now kept c.in_ok-parsed.parsed c.in_ok-found.found c.frozen.ensures.same c.in_ok-found.ensures.found in
    rmdir_planned kept c.args.path.now c.in_ok-parsed.parsed c.in_ok-found.found c.frozen.ensures.metadata c.requires.volume.volume c.in_ok-parsed.ensures at c.accepted_removals.ensures.decided c.in_ok-removed.field-0.plan
    c.args.holdings.now c.requires.wide c.in_ok-removed.field-0.holds.items c.in_ok-removed.ensures

pub returns-clause-holds : goal.returns-clause-holds
returns-clause-holds c =
    let kept = c.args.metadata.now in
    let r = c.in_ok-removed.ensures (frozen_view kept) (shows_itself kept) in
    leaves_blocks kept.geometry (frozen_view kept) c.args.holdings.now c.in_ok-found.found 2 r.after r.left c.in_ok-removed.field-0.holds.items r.leaves
