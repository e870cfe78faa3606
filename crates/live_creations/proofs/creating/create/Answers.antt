-- Each test is one of the causes, in their order, and what is left is a plan.
use Rattle.std.proofs.Common.{◌≡◌, Some, false, true, inr, inl, sym, ap, ◌∙◌, subst}
use Rattle.std.proofs.lemmas.Result.{err_from_is_err_and}
use Rattle.frozen.specs.Kept.{Kept, frozen_view}
use Rattle.machine.specs.Below.{first_of}
use Rattle.model.specs.Uses.{is_directory_at}
use Rattle.metadata.proofs.ShownLemmas.{shows_metadata}
use Rattle.live_plans.proofs.FoundLemmas.{self_shown}
use Rattle.live_creations.specs.Named.{IsNewIn, naming}
use Rattle.live_creations.proofs.Names.{part_short, there, walked_parts}
use Rattle.live_creations.proofs.Planning.{create_planned}
use Rattle.live_creations.proofs.Refusals.{create_bad, create_named, create_unnamed, no_inode, no_place, numbers_there, some_place, with_number}
use Rattle.live_creations.proofs.creating.create.Goals as goal

pub returns-in_err-parsed-clause-refused : goal.returns-in_err-parsed-clause-refused
returns-in_err-parsed-clause-refused c =
    let p = err_from_is_err_and c.from_residual.result c.from_residual.ensures.1 in
    rw (p.1, p.2) (inr (λ old shows. inl (create_bad c.args.metadata.now.geometry old c.args.path.now c.args.attributes.now c.in_err-parsed.ensures.0 ∙ ap Some (sym c.in_err-parsed.ensures.1))))

pub returns-in_err-directory-clause-refused : goal.returns-in_err-directory-clause-refused
returns-in_err-directory-clause-refused c =
    let kept = c.args.metadata.now in
    let ps = c.in_ok-parsed.parsed in
    let r = c.in_err-directory.field-0.0 in
    let p = err_from_is_err_and c.from_residual-in_err-directory.result c.from_residual-in_err-directory.ensures.1 in
    rw (p.1, p.2) (inr (λ old shows. inl (create_unnamed kept.geometry old c.args.path.now c.args.attributes.now ps c.in_ok-parsed.ensures r
    (there (λ geo v. first_of (naming geo v ps) ≡ Some r) c.frozen.result.now kept c.frozen.ensures.same c.in_err-directory.ensures.refused old.view (shows_metadata kept old.view c.frozen.ensures.metadata shows)))))

pub returns-in_default-clause-refused : goal.returns-in_default-clause-refused
returns-in_default-clause-refused c =
    let kept = c.args.metadata.now in
    let ps = c.in_ok-parsed.parsed in
    let d = c.in_ok-directory.directory in
    inr (λ old shows. inl (create_named kept.geometry old c.args.path.now c.args.attributes.now ps c.in_ok-parsed.ensures d
    (there (λ geo v. IsNewIn geo v ps d) c.frozen.result.now kept c.frozen.ensures.same c.in_ok-directory.ensures.named old.view (shows_metadata kept old.view c.frozen.ensures.metadata shows))
    ∙ no_inode kept.geometry old.view d (numbers_there kept old.view shows false c.in_default.ensures)))

pub returns-in_err-places-clause-refused : goal.returns-in_err-places-clause-refused
returns-in_err-places-clause-refused c =
    let kept = c.args.metadata.now in
    let ps = c.in_ok-parsed.parsed in
    let d = c.in_ok-directory.directory in
    let r = c.in_err-places.field-0.0 in
    let p = err_from_is_err_and c.from_residual-in_err-places.result c.from_residual-in_err-places.ensures.1 in
    rw (p.1, p.2) (inr (λ old shows.
    let shown = shows_metadata kept old.view c.frozen.ensures.metadata shows in
    inl (create_named kept.geometry old c.args.path.now c.args.attributes.now ps c.in_ok-parsed.ensures d (there (λ geo v. IsNewIn geo v ps d) c.frozen.result.now kept c.frozen.ensures.same c.in_ok-directory.ensures.named old.view shown)
    ∙ with_number kept.geometry old.view d (numbers_there kept old.view shows true c.in-Some.ensures.0)
    ∙ no_place kept.geometry old.view d r (c.in_err-places.ensures.refused old.view shown))))

pub created-requires-clause-entry : goal.created-requires-clause-entry
created-requires-clause-entry c =
    let kept = c.args.metadata.now in
    let view = frozen_view kept in
    let d = c.in_ok-directory.directory in
    let held = c.frozen.result.now in
    let chosen = c.in_ok-places.ensures.chosen view (self_shown kept) in
    record {
      directory = subst (λ (k : Kept). is_directory_at k.geometry (frozen_view k) d ≡ true) c.frozen.ensures.same c.in_ok-directory.ensures.directory;
      links = (view.inode d).links;
      parent = c.record.ensures ∙ ap (λ (k : Kept). (frozen_view k).inode d) c.frozen-2.ensures.same;
      number = c.in-Some.ensures.1.free.number;
      name = part_short c.name.result.now (c.name.ensures.part (walked_parts held.geometry (frozen_view held) c.in_ok-parsed.parsed d (c.in_ok-directory.ensures.named (frozen_view held) (self_shown held)).directory));
      place = chosen.2.place;
      room = chosen.0;
    }

pub returns-clause-planned : goal.returns-clause-planned
returns-clause-planned c =
    let kept = c.args.metadata.now in
    let ps = c.in_ok-parsed.parsed in
    let d = c.in_ok-directory.directory in
    let named = there (λ geo v. IsNewIn geo v ps d) c.frozen.result.now kept c.frozen.ensures.same c.in_ok-directory.ensures.named in
    create_planned kept c.args.path.now c.args.attributes.now ps
    (record { directory = d; parent = c.record.result; number = c.in-Some.number; name = c.name.result; place = c.in_ok-places.places.place })
    c.in_ok-created.field-0 c.frozen.ensures.metadata c.requires c.in_ok-parsed.ensures c.name.ensures.name
    (c.record.ensures ∙ ap (λ (k : Kept). (frozen_view k).inode d) c.frozen-2.ensures.same) c.in-Some.ensures.1.free named
    (λ view shown. (c.in_ok-places.ensures.chosen view shown).2.place)
    (λ old shows.
    let shown = shows_metadata kept old.view c.frozen.ensures.metadata shows in
    let chosen = c.in_ok-places.ensures.chosen old.view shown in (
      create_named kept.geometry old c.args.path.now c.args.attributes.now ps c.in_ok-parsed.ensures d (named old.view shown)
          ∙ with_number kept.geometry old.view d (numbers_there kept old.view shows true c.in-Some.ensures.0)
          ∙ some_place kept.geometry old.view d chosen.0 chosen.1,
      tt,
    ))
    c.in_ok-created.ensures
