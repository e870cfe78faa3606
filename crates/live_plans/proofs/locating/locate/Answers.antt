-- What is found in the directory that the walk leads to is where the path leads.
use Rattle.std.proofs.Common.{◌≡◌, ◌/◌, Some, Ok, sym, ap, ◌∙◌}
use Rattle.std.proofs.lemmas.Result.{err_from_is_err_and}
use Rattle.frozen.specs.Kept.{frozen_view}
use Rattle.model.specs.Layout.{root}
use Rattle.model.specs.Slots as model
use Rattle.machine.specs.Paths.{last_part, slot_of, walk}
use Rattle.live_plans.proofs.FoundLemmas.{entry_claims, same_claim, self_shown, target_ends, target_found, target_missing}
use Rattle.live_plans.proofs.locating.locate.Goals as goal

pub returns-in_err-directory-clause-refused : goal.returns-in_err-directory-clause-refused
returns-in_err-directory-clause-refused c =
    let p = err_from_is_err_and c.from_residual.result c.from_residual.ensures.1 in
    rw (p.1, p.2)
    (λ view shown. target_ends c.args.frozen.now.geometry view c.args.path.now c.requires c.in_err-directory.field-0.0 (sym (c.walk.ensures view shown) ∙ c.in_err-directory.was))

pub returns-in_default-clause-refused : goal.returns-in_default-clause-refused
returns-in_default-clause-refused c = λ view shown.
    let geo = c.args.frozen.now.geometry in
    let d = c.in_ok-directory.directory in
    target_missing geo view c.args.path.now c.requires d (sym (c.walk.ensures view shown) ∙ c.in_ok-directory.was)
    (ap (slot_of geo view d) (sym c.name.ensures.name) ∙ c.in_default.ensures.found view shown)

pub unreachable-requires : goal.unreachable-requires
unreachable-requires c =
    let kept = c.args.frozen.now in
    entry_claims kept.geometry (frozen_view kept) c.in_ok-directory.directory c.in-Some.entry.slot c.in-Some.entry.number c.name.result.now
    (c.in-Some.ensures.entry (frozen_view kept) (self_shown kept)) (sym c.claim_at.ensures ∙ c.in-None.is)

pub returns-clause-found : goal.returns-clause-found
returns-clause-found c = λ view shown.
    let kept = c.args.frozen.now in
    let parts = c.args.path.now in
    let d = c.in_ok-directory.directory in
    let s = c.in-Some.entry.slot in
    let walks : walk kept.geometry view root parts ≡ Ok d = sym (c.walk.ensures view shown) ∙ c.in_ok-directory.was in
    let stands : slot_of kept.geometry view d (last_part parts) ≡ Some s = ap (slot_of kept.geometry view d) (sym c.name.ensures.name) ∙ (c.in-Some.ensures.found view shown).0 in
    record {
      directory = walks;
      slot = stands;
      block = sym (same_claim kept.geometry (frozen_view kept) view shown d (s / 16)) ∙ sym c.claim_at.ensures ∙ c.in-Some-claim_at.is;
      entry = c.in-Some.ensures.entry view shown ∙ ap (model.Good c.in-Some.entry.number) c.name.ensures.name;
      number = target_found kept.geometry view parts c.requires d s c.in-Some.entry.number walks stands (c.in-Some.ensures.found view shown).1;
    }
