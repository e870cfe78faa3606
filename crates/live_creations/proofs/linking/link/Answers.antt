-- Each test is one of the causes, in their order, and what is left is a plan.
use Rattle.std.proofs.Common.{◌≡◌, ◌≤◌, ◌<◌, Some, false, inr, inl, refl, sym, ap, ◌∙◌, subst, arith, IsTrue}
use Rattle.std.proofs.lemmas.Bool.{both_ways}
use Rattle.std.proofs.lemmas.Result.{err_from_is_err_and}
use Rattle.frozen.specs.Kept.{Kept, frozen_view}
use Rattle.machine.specs.Below.{first_of}
use Rattle.model.specs.Layout.{is_number}
use Rattle.model.specs.Uses.{is_directory_at}
use Rattle.model.specs.View.{Inode}
use Rattle.metadata.proofs.ShownLemmas.{shows_metadata}
use Rattle.live_plans.proofs.FoundLemmas.{self_shown}
use Rattle.live_creations.specs.Named.{IsFile, IsNewIn, leading, naming}
use Rattle.live_creations.proofs.Names.{links_there, part_short, there, walked_parts}
use Rattle.live_creations.proofs.Planning.{file_number, link_planned}
use Rattle.live_creations.proofs.Refusals.{few_links, link_bad, link_bad_other, link_named, link_no_file, link_root, link_unnamed, many_links, no_place, some_place}
use Rattle.live_creations.proofs.linking.link.Goals as goal

pub returns-in_err-from-clause-refused : goal.returns-in_err-from-clause-refused
returns-in_err-from-clause-refused c =
    let p = err_from_is_err_and c.from_residual.result c.from_residual.ensures.1 in
    rw (p.1, p.2) (inr (λ old shows. inl (link_bad c.args.metadata.now.geometry old c.args.path.now c.args.other.now c.in_err-from.ensures.0 ∙ ap Some (sym c.in_err-from.ensures.1))))

pub returns-in_err-to-clause-refused : goal.returns-in_err-to-clause-refused
returns-in_err-to-clause-refused c =
    let p = err_from_is_err_and c.from_residual-in_err-to.result c.from_residual-in_err-to.ensures.1 in
    rw (p.1, p.2) (inr (λ old shows. inl (link_bad_other c.args.metadata.now.geometry old c.args.path.now c.args.other.now c.in_ok-from.from c.in_ok-from.ensures c.in_err-to.ensures.0 ∙ ap Some (sym c.in_err-to.ensures.1))))

pub returns-then-is_root-clause-refused : goal.returns-then-is_root-clause-refused
returns-then-is_root-clause-refused c =
    inr (λ old shows. inl (link_root c.args.metadata.now.geometry old c.args.path.now c.args.other.now c.in_ok-from.from c.in_ok-from.ensures c.in_ok-to.to c.in_ok-to.ensures (c.if-is_root.ensures.root.0 refl)))

pub returns-in_err-number-clause-refused : goal.returns-in_err-number-clause-refused
returns-in_err-number-clause-refused c =
    let kept = c.args.metadata.now in
    let ps = c.in_ok-from.from in
    let r = c.in_err-number.field-0.0 in
    let p = err_from_is_err_and c.from_residual-in_err-number.result c.from_residual-in_err-number.ensures.1 in
    rw (p.1, p.2) (inr (λ old shows. inl (link_no_file kept.geometry old c.args.path.now c.args.other.now ps c.in_ok-from.ensures c.in_ok-to.to c.in_ok-to.ensures (λ e. both_ways false refl (c.if-is_root.ensures.root.1 e)) r
    (there (λ geo v. first_of (leading geo v ps) ≡ Some r) c.frozen.result.now kept c.frozen.ensures.same c.in_err-number.ensures.refused old.view (shows_metadata kept old.view c.frozen.ensures.metadata shows)))))

pub returns-in_err-directory-clause-refused : goal.returns-in_err-directory-clause-refused
returns-in_err-directory-clause-refused c =
    let kept = c.args.metadata.now in
    let ps = c.in_ok-from.from in
    let qs = c.in_ok-to.to in
    let i = c.in_ok-number.number in
    let r = c.in_err-directory.field-0.0 in
    let p = err_from_is_err_and c.from_residual-in_err-directory.result c.from_residual-in_err-directory.ensures.1 in
    rw (p.1, p.2) (inr (λ old shows.
    let shown = shows_metadata kept old.view c.frozen.ensures.metadata shows in
    inl (link_unnamed kept.geometry old c.args.path.now c.args.other.now ps c.in_ok-from.ensures qs c.in_ok-to.ensures (λ e. both_ways false refl (c.if-is_root.ensures.root.1 e)) i
    (there (λ geo v. IsFile geo v ps i) c.frozen.result.now kept c.frozen.ensures.same c.in_ok-number.ensures.found old.view shown) r
    (there (λ geo v. first_of (naming geo v qs) ≡ Some r) c.frozen-2.result.now kept c.frozen-2.ensures.same c.in_err-directory.ensures.refused old.view shown))))

pub record-requires : goal.record-requires
record-requires c =
    let kept = c.args.metadata.now in
    let users = c.requires.old.view in
    let ps = c.in_ok-from.from in
    let i = c.in_ok-number.number in
    let file = there (λ geo v. IsFile geo v ps i) c.frozen.result.now kept c.frozen.ensures.same c.in_ok-number.ensures.found users (shows_metadata kept users c.frozen.ensures.metadata c.requires.shows) in
    subst (λ (k : Kept). IsTrue (is_number k.geometry i)) (sym c.frozen-3.ensures.same) (file_number kept c.requires c.args.path.now ps i c.in_ok-from.ensures file.leads)

pub choose-requires : goal.choose-requires
choose-requires c =
    let d = c.in_ok-directory.directory in
    subst (λ (k : Kept). IsTrue (is_directory_at k.geometry (frozen_view k) d)) c.frozen-2.ensures.same c.in_ok-directory.ensures.directory

pub returns-then-record-ge-MOST_LINKS-clause-refused : goal.returns-then-record-ge-MOST_LINKS-clause-refused
returns-then-record-ge-MOST_LINKS-clause-refused c =
    let kept = c.args.metadata.now in
    let ps = c.in_ok-from.from in
    let qs = c.in_ok-to.to in
    let i = c.in_ok-number.number in
    let d = c.in_ok-directory.directory in
    let many : 32767 ≤ c.record-2.inside.links = c.if-record-ge-MOST_LINKS.true in
    inr (λ old shows.
    let shown = shows_metadata kept old.view c.frozen.ensures.metadata shows in
    let same = links_there c.frozen-3.result.now kept c.frozen-3.ensures.same old.view shows i c.record.result c.record.ensures in
    inl (link_named kept.geometry old c.args.path.now c.args.other.now ps c.in_ok-from.ensures qs c.in_ok-to.ensures (λ e. both_ways false refl (c.if-is_root.ensures.root.1 e)) i
    (there (λ geo v. IsFile geo v ps i) c.frozen.result.now kept c.frozen.ensures.same c.in_ok-number.ensures.found old.view shown) d
    (there (λ geo v. IsNewIn geo v qs d) c.frozen-2.result.now kept c.frozen-2.ensures.same c.in_ok-directory.ensures.named old.view shown)
    ∙ many_links kept.geometry old.view i d (omega (arith, many, ap (λ (x : Inode). x.links) c.record-2.view_is, same))))

pub returns-in_err-places-clause-refused : goal.returns-in_err-places-clause-refused
returns-in_err-places-clause-refused c =
    let kept = c.args.metadata.now in
    let ps = c.in_ok-from.from in
    let qs = c.in_ok-to.to in
    let i = c.in_ok-number.number in
    let d = c.in_ok-directory.directory in
    let r = c.in_err-places.field-0.0 in
    let few : c.record-2.inside.links < 32767 = c.if-record-ge-MOST_LINKS.false in
    let p = err_from_is_err_and c.from_residual-in_err-places.result c.from_residual-in_err-places.ensures.1 in
    rw (p.1, p.2) (inr (λ old shows.
    let shown = shows_metadata kept old.view c.frozen.ensures.metadata shows in
    let same = links_there c.frozen-3.result.now kept c.frozen-3.ensures.same old.view shows i c.record.result c.record.ensures in
    inl (link_named kept.geometry old c.args.path.now c.args.other.now ps c.in_ok-from.ensures qs c.in_ok-to.ensures (λ e. both_ways false refl (c.if-is_root.ensures.root.1 e)) i
    (there (λ geo v. IsFile geo v ps i) c.frozen.result.now kept c.frozen.ensures.same c.in_ok-number.ensures.found old.view shown) d
    (there (λ geo v. IsNewIn geo v qs d) c.frozen-2.result.now kept c.frozen-2.ensures.same c.in_ok-directory.ensures.named old.view shown)
    ∙ few_links kept.geometry old.view i d (omega (arith, few, ap (λ (x : Inode). x.links) c.record-2.view_is, same))
    ∙ no_place kept.geometry old.view d r (c.in_err-places.ensures.refused old.view shown))))

pub linked-requires-clause-entry : goal.linked-requires-clause-entry
linked-requires-clause-entry c =
    let kept = c.args.metadata.now in
    let view = frozen_view kept in
    let users = c.requires.old.view in
    let ps = c.in_ok-from.from in
    let i = c.in_ok-number.number in
    let d = c.in_ok-directory.directory in
    let held = c.frozen-2.result.now in
    let chosen = c.in_ok-places.ensures.chosen view (self_shown kept) in
    let file = there (λ geo v. IsFile geo v ps i) c.frozen.result.now kept c.frozen.ensures.same c.in_ok-number.ensures.found users (shows_metadata kept users c.frozen.ensures.metadata c.requires.shows) in
    record {
      directory = subst (λ (k : Kept). IsTrue (is_directory_at k.geometry (frozen_view k) d)) c.frozen-2.ensures.same c.in_ok-directory.ensures.directory;
      links = (view.inode d).links;
      parent = c.record-3.ensures ∙ ap (λ (k : Kept). (frozen_view k).inode d) c.frozen-4.ensures.same;
      number = file_number kept c.requires c.args.path.now ps i c.in_ok-from.ensures file.leads;
      name = part_short c.name.result.now (c.name.ensures.part (walked_parts held.geometry (frozen_view held) c.in_ok-to.to d (c.in_ok-directory.ensures.named (frozen_view held) (self_shown held)).directory));
      place = chosen.2.place;
      room = chosen.0;
    }

pub returns-clause-planned : goal.returns-clause-planned
returns-clause-planned c =
    let kept = c.args.metadata.now in
    let ps = c.in_ok-from.from in
    let qs = c.in_ok-to.to in
    let i = c.in_ok-number.number in
    let d = c.in_ok-directory.directory in
    let few : c.record-2.inside.links < 32767 = c.if-record-ge-MOST_LINKS.false in
    let file = there (λ geo v. IsFile geo v ps i) c.frozen.result.now kept c.frozen.ensures.same c.in_ok-number.ensures.found in
    let named = there (λ geo v. IsNewIn geo v qs d) c.frozen-2.result.now kept c.frozen-2.ensures.same c.in_ok-directory.ensures.named in
    link_planned kept c.args.path.now c.args.other.now ps qs
    (record { directory = d; parent = c.record-3.result; number = i; name = c.name.result; place = c.in_ok-places.places.place })
    c.in_ok-linked.field-0 c.frozen.ensures.metadata c.requires c.in_ok-from.ensures c.in_ok-to.ensures c.name.ensures.name
    (c.record-3.ensures ∙ ap (λ (k : Kept). (frozen_view k).inode d) c.frozen-4.ensures.same) file named
    (λ view shown. (c.in_ok-places.ensures.chosen view shown).2.place)
    (λ old shows.
    let shown = shows_metadata kept old.view c.frozen.ensures.metadata shows in
    let chosen = c.in_ok-places.ensures.chosen old.view shown in
    let same = links_there c.frozen-3.result.now kept c.frozen-3.ensures.same old.view shows i c.record.result c.record.ensures in (
      link_named kept.geometry old c.args.path.now c.args.other.now ps c.in_ok-from.ensures qs c.in_ok-to.ensures (λ e. both_ways false refl (c.if-is_root.ensures.root.1 e)) i (file old.view shown) d (named old.view shown)
          ∙ few_links kept.geometry old.view i d (omega (arith, few, ap (λ (x : Inode). x.links) c.record-2.view_is, same))
          ∙ some_place kept.geometry old.view d chosen.0 chosen.1,
      tt,
    ))
    c.in_ok-linked.ensures
