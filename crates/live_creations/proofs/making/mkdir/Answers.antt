-- Each test is one of the causes, in their order, and what is left is a plan.
use Rattle.std.proofs.Common.{◌≡◌, ◌≤◌, ◌<◌, ◌+◌, Some, false, true, inr, inl, refl, sym, ap, ◌∙◌, subst, arith, IsTrue}
use Rattle.std.proofs.lemmas.Bool.{both_ways}
use Rattle.std.proofs.lemmas.Result.{err_from_is_err_and}
use Rattle.frozen.specs.Kept.{Kept, frozen_view}
use Rattle.machine.specs.Below.{first_of}
use Rattle.machine.specs.Effects.{with_links}
use Rattle.model.specs.Uses.{is_directory_at}
use Rattle.model.specs.View.{Inode}
use Rattle.metadata.proofs.ShownLemmas.{shows_metadata}
use Rattle.live_places.specs.Chosen.{IsOwn}
use Rattle.live_plans.proofs.FoundLemmas.{self_shown}
use Rattle.live_creations.specs.Named.{IsNewIn, naming}
use Rattle.live_creations.proofs.Names.{links_there, part_short, there, walked_parts}
use Rattle.live_creations.proofs.Planning.{has_places, mkdir_planned}
use Rattle.live_creations.proofs.Refusals.{mkdir_bad, mkdir_named, mkdir_unnamed, numbers_there, parent_many, parent_no_inode, parent_no_place, parent_place}
use Rattle.live_creations.proofs.making.mkdir.Goals as goal

pub returns-in_err-parsed-clause-refused : goal.returns-in_err-parsed-clause-refused
returns-in_err-parsed-clause-refused c =
    let p = err_from_is_err_and c.from_residual.result c.from_residual.ensures.1 in
    rw (p.1, p.2) (inr (λ old shows. inl (mkdir_bad c.args.metadata.now.geometry old c.args.path.now c.args.attributes.now c.in_err-parsed.ensures.0 ∙ ap Some (sym c.in_err-parsed.ensures.1))))

pub returns-in_err-directory-clause-refused : goal.returns-in_err-directory-clause-refused
returns-in_err-directory-clause-refused c =
    let kept = c.args.metadata.now in
    let ps = c.in_ok-parsed.parsed in
    let r = c.in_err-directory.field-0.0 in
    let p = err_from_is_err_and c.from_residual-in_err-directory.result c.from_residual-in_err-directory.ensures.1 in
    rw (p.1, p.2) (inr (λ old shows. inl (mkdir_unnamed kept.geometry old c.args.path.now c.args.attributes.now ps c.in_ok-parsed.ensures r
    (there (λ geo v. first_of (naming geo v ps) ≡ Some r) c.frozen.result.now kept c.frozen.ensures.same c.in_err-directory.ensures.refused old.view (shows_metadata kept old.view c.frozen.ensures.metadata shows)))))

pub returns-then-parent-ge-MOST_LINKS-clause-refused : goal.returns-then-parent-ge-MOST_LINKS-clause-refused
returns-then-parent-ge-MOST_LINKS-clause-refused c =
    let kept = c.args.metadata.now in
    let ps = c.in_ok-parsed.parsed in
    let d = c.in_ok-directory.directory in
    let many : 32767 ≤ c.parent.inside.links = c.if-parent-ge-MOST_LINKS.true in
    inr (λ old shows.
    let same = links_there c.frozen-2.result.now kept c.frozen-2.ensures.same old.view shows d c.record-parent.result c.record-parent.ensures in
    inl (mkdir_named kept.geometry old c.args.path.now c.args.attributes.now ps c.in_ok-parsed.ensures d
    (there (λ geo v. IsNewIn geo v ps d) c.frozen.result.now kept c.frozen.ensures.same c.in_ok-directory.ensures.named old.view (shows_metadata kept old.view c.frozen.ensures.metadata shows))
    ∙ parent_many kept.geometry old.view d (omega (arith, many, ap (λ (x : Inode). x.links) c.parent.view_is, same))))

pub returns-in_default-clause-refused : goal.returns-in_default-clause-refused
returns-in_default-clause-refused c =
    let kept = c.args.metadata.now in
    let ps = c.in_ok-parsed.parsed in
    let d = c.in_ok-directory.directory in
    let few : c.parent.inside.links < 32767 = c.if-parent-ge-MOST_LINKS.false in
    inr (λ old shows.
    let same = links_there c.frozen-2.result.now kept c.frozen-2.ensures.same old.view shows d c.record-parent.result c.record-parent.ensures in
    inl (mkdir_named kept.geometry old c.args.path.now c.args.attributes.now ps c.in_ok-parsed.ensures d
    (there (λ geo v. IsNewIn geo v ps d) c.frozen.result.now kept c.frozen.ensures.same c.in_ok-directory.ensures.named old.view (shows_metadata kept old.view c.frozen.ensures.metadata shows))
    ∙ parent_no_inode kept.geometry old.view d (omega (arith, few, ap (λ (x : Inode). x.links) c.parent.view_is, same)) (numbers_there kept old.view shows false c.in_default.ensures)))

pub returns-in_err-places-clause-refused : goal.returns-in_err-places-clause-refused
returns-in_err-places-clause-refused c =
    let kept = c.args.metadata.now in
    let ps = c.in_ok-parsed.parsed in
    let d = c.in_ok-directory.directory in
    let r = c.in_err-places.field-0.0 in
    let few : c.parent.inside.links < 32767 = c.if-parent-ge-MOST_LINKS.false in
    let p = err_from_is_err_and c.from_residual-in_err-places.result c.from_residual-in_err-places.ensures.1 in
    rw (p.1, p.2) (inr (λ old shows.
    let shown = shows_metadata kept old.view c.frozen.ensures.metadata shows in
    let same = links_there c.frozen-2.result.now kept c.frozen-2.ensures.same old.view shows d c.record-parent.result c.record-parent.ensures in
    inl (mkdir_named kept.geometry old c.args.path.now c.args.attributes.now ps c.in_ok-parsed.ensures d (there (λ geo v. IsNewIn geo v ps d) c.frozen.result.now kept c.frozen.ensures.same c.in_ok-directory.ensures.named old.view shown)
    ∙ parent_no_place kept.geometry old.view d (omega (arith, few, ap (λ (x : Inode). x.links) c.parent.view_is, same)) (numbers_there kept old.view shows true c.in-Some.ensures.0) r
    (c.in_err-places.ensures.refused old.view shown))))

pub unreachable-requires : goal.unreachable-requires
unreachable-requires c =
    let kept = c.args.metadata.now in
    let chosen = c.in_ok-places.ensures.chosen (frozen_view kept) (self_shown kept) in
    both_ways true (subst (IsOwn kept.geometry (frozen_view kept) true) c.in_default-own.is chosen.2.own) refl

pub made-requires-clause-entry : goal.made-requires-clause-entry
made-requires-clause-entry c =
    let kept = c.args.metadata.now in
    let view = frozen_view kept in
    let d = c.in_ok-directory.directory in
    let held = c.frozen.result.now in
    let chosen = c.in_ok-places.ensures.chosen view (self_shown kept) in
    record {
      directory = subst (λ (k : Kept). IsTrue (is_directory_at k.geometry (frozen_view k) d)) c.frozen.ensures.same c.in_ok-directory.ensures.directory;
      links = (view.inode d).links + 1;
      parent = ap (λ (x : Inode). with_links x (x.links + 1)) (c.parent.view_is ∙ c.record-parent.ensures ∙ ap (λ (k : Kept). (frozen_view k).inode d) c.frozen-2.ensures.same);
      number = c.in-Some.ensures.1.free.number;
      name = part_short c.name.result.now (c.name.ensures.part (walked_parts held.geometry (frozen_view held) c.in_ok-parsed.parsed d (c.in_ok-directory.ensures.named (frozen_view held) (self_shown held)).directory));
      place = chosen.2.place;
      room = chosen.0;
    }

pub made-requires-clause-parent : goal.made-requires-clause-parent
made-requires-clause-parent c =
    let d = c.in_ok-directory.directory in
    ap (λ (x : Inode). with_links x (x.links + 1)) (c.parent.view_is ∙ c.record-parent.ensures ∙ ap (λ (k : Kept). (frozen_view k).inode d) c.frozen-2.ensures.same)

pub made-requires-clause-own : goal.made-requires-clause-own
made-requires-clause-own c =
    let kept = c.args.metadata.now in
    let view = frozen_view kept in
    (has_places kept.geometry view c.in_ok-directory.directory c.in-Some-own.own c.in_ok-places.places c.in-Some-own.is (c.in_ok-places.ensures.chosen view (self_shown kept)).2).free.address

pub returns-clause-planned : goal.returns-clause-planned
returns-clause-planned c =
    let kept = c.args.metadata.now in
    let ps = c.in_ok-parsed.parsed in
    let d = c.in_ok-directory.directory in
    let few : c.parent.inside.links < 32767 = c.if-parent-ge-MOST_LINKS.false in
    let raised : Inode = record { mode = c.parent.inside.mode; links = c.parent.inside.links + 1; size = c.parent.inside.size; direct = c.parent.inside.direct; indirect = c.parent.inside.indirect; double = c.parent.inside.double; attributes = c.parent.inside.attributes } in
    let named = there (λ geo v. IsNewIn geo v ps d) c.frozen.result.now kept c.frozen.ensures.same c.in_ok-directory.ensures.named in
    mkdir_planned kept c.args.path.now c.args.attributes.now ps
    (record { directory = d; parent = raised; number = c.in-Some.number; name = c.name.result; place = c.in_ok-places.places.place })
    c.in-Some-own.own c.in_ok-made.field-0 c.frozen.ensures.metadata c.requires c.in_ok-parsed.ensures c.name.ensures.name
    (ap (λ (x : Inode). with_links x (x.links + 1)) (c.parent.view_is ∙ c.record-parent.ensures ∙ ap (λ (k : Kept). (frozen_view k).inode d) c.frozen-2.ensures.same))
    c.in-Some.ensures.1.free named
    (λ view shown. has_places kept.geometry view d c.in-Some-own.own c.in_ok-places.places c.in-Some-own.is (c.in_ok-places.ensures.chosen view shown).2)
    (λ old shows.
    let shown = shows_metadata kept old.view c.frozen.ensures.metadata shows in
    let chosen = c.in_ok-places.ensures.chosen old.view shown in
    let same = links_there c.frozen-2.result.now kept c.frozen-2.ensures.same old.view shows d c.record-parent.result c.record-parent.ensures in (
      mkdir_named kept.geometry old c.args.path.now c.args.attributes.now ps c.in_ok-parsed.ensures d (named old.view shown)
          ∙ parent_place kept.geometry old.view d (omega (arith, few, ap (λ (x : Inode). x.links) c.parent.view_is, same)) (numbers_there kept old.view shows true c.in-Some.ensures.0) chosen.0 chosen.1,
      tt,
    ))
    c.in_ok-made.ensures
