-- Each test is one of the causes, in their order.
use Rattle.std.proofs.Common.{◌<◌, ◌≤◌, IsTrue, ap, arith, subst, sym}
use Rattle.std.proofs.lemmas.Result.{err_from_is_err_and}
use Rattle.frozen.specs.Kept.{Kept, frozen_view}
use Rattle.model.specs.Layout.{is_number, root}
use Rattle.model.specs.View.{Inode}
use Rattle.live_paths.proofs.ShownLemmas.{self_shown}
use Rattle.live_renames.proofs.GroundLemmas.{walk_into}
use Rattle.live_renames.proofs.LateLemmas.{directory_is, has_many, is_a_directory, is_taken, links_are, none_late, not_chosen, taken_is}
use Rattle.live_renames.proofs.moving.permit.Goals as goal

pub record-requires : goal.record-requires
record-requires c = subst (λ (k : Kept). IsTrue (is_number k.geometry c.args.number)) (sym c.frozen-frozen.ensures.same) c.requires.number

pub choose-requires : goal.choose-requires
choose-requires c =
    let kept = c.args.metadata.now in
    walk_into kept.geometry (frozen_view kept) c.args.to.now root c.args.directory c.requires.directory

pub returns-then-is_directory_at-clause-refused : goal.returns-then-is_directory_at-clause-refused
returns-then-is_directory_at-clause-refused c = λ view shown.
    let kept = c.args.metadata.now in
    is_a_directory kept.geometry view c.args.to.now c.args.number c.args.directory
    (directory_is c.frozen-frozen.result.now kept c.frozen-frozen.ensures.same view shown c.args.number _ _ c.is_directory_at.ensures c.if-is_directory_at.true)

pub returns-in_err-refuse_taken-clause-refused : goal.returns-in_err-refuse_taken-clause-refused
returns-in_err-refuse_taken-clause-refused c =
    let kept = c.args.metadata.now in
    let same = c.frozen-frozen.ensures.same in
    let p = err_from_is_err_and c.from_residual.result c.from_residual.ensures.1 in
    rw (p.1, p.2) (λ view shown.
    is_taken kept.geometry view c.args.to.now c.args.number c.args.directory
    (directory_is c.frozen-frozen.result.now kept same view shown c.args.number _ _ c.is_directory_at.ensures c.if-is_directory_at.false)
    c.in_err-refuse_taken.field-0.0 (taken_is c.frozen-frozen.result.now kept same view shown c.args.to.now c.args.directory _ c.requires.directory c.in_err-refuse_taken.ensures))

pub returns-then-record-ge-MOST_LINKS-clause-refused : goal.returns-then-record-ge-MOST_LINKS-clause-refused
returns-then-record-ge-MOST_LINKS-clause-refused c = λ view shown.
    let kept = c.args.metadata.now in
    let same = c.frozen-frozen.ensures.same in
    has_many kept.geometry view c.args.to.now c.args.number c.args.directory
    (directory_is c.frozen-frozen.result.now kept same view shown c.args.number _ _ c.is_directory_at.ensures c.if-is_directory_at.false)
    (taken_is c.frozen-frozen.result.now kept same view shown c.args.to.now c.args.directory _ c.requires.directory c.in_ok-refuse_taken.ensures)
    (let many : 32767 ≤ c.record-2.inside.links = c.if-record-ge-MOST_LINKS.true in omega (arith, many, ap (λ (x : Inode). x.links) c.record-2.view_is, links_are c.frozen-frozen.result.now kept same view shown c.args.number c.record.result c.requires.number c.record.ensures))

pub returns-in_err-places-clause-refused : goal.returns-in_err-places-clause-refused
returns-in_err-places-clause-refused c =
    let kept = c.args.metadata.now in
    let same = c.frozen-frozen.ensures.same in
    let p = err_from_is_err_and c.from_residual-in_err-places.result c.from_residual-in_err-places.ensures.1 in
    rw (p.1, p.2) (λ view shown.
    not_chosen kept.geometry view c.args.to.now c.args.number c.args.directory
    (directory_is c.frozen-frozen.result.now kept same view shown c.args.number _ _ c.is_directory_at.ensures c.if-is_directory_at.false)
    (taken_is c.frozen-frozen.result.now kept same view shown c.args.to.now c.args.directory _ c.requires.directory c.in_ok-refuse_taken.ensures)
    (let few : c.record-2.inside.links < 32767 = c.if-record-ge-MOST_LINKS.false in omega (arith, few, ap (λ (x : Inode). x.links) c.record-2.view_is, links_are c.frozen-frozen.result.now kept same view shown c.args.number c.record.result c.requires.number c.record.ensures))
    c.in_err-places.field-0.0 (c.in_err-places.ensures.refused view shown))

pub returns-clause-permitted : goal.returns-clause-permitted
returns-clause-permitted c = λ view shown.
    let kept = c.args.metadata.now in
    let same = c.frozen-frozen.ensures.same in
    let chosen = c.in_ok-places.ensures.chosen view shown in
    none_late kept.geometry view c.args.to.now c.args.number c.args.directory
    (directory_is c.frozen-frozen.result.now kept same view shown c.args.number _ _ c.is_directory_at.ensures c.if-is_directory_at.false)
    (taken_is c.frozen-frozen.result.now kept same view shown c.args.to.now c.args.directory _ c.requires.directory c.in_ok-refuse_taken.ensures)
    (let few : c.record-2.inside.links < 32767 = c.if-record-ge-MOST_LINKS.false in omega (arith, few, ap (λ (x : Inode). x.links) c.record-2.view_is, links_are c.frozen-frozen.result.now kept same view shown c.args.number c.record.result c.requires.number c.record.ensures))
    chosen.0 chosen.1

pub returns-clause-place : goal.returns-clause-place
returns-clause-place c =
    let kept = c.args.metadata.now in
    let same = c.frozen-frozen.ensures.same in
    let view = frozen_view kept in
    record {
      links = let few : c.record-2.inside.links < 32767 = c.if-record-ge-MOST_LINKS.false in omega (arith, few, ap (λ (x : Inode). x.links) c.record-2.view_is, links_are c.frozen-frozen.result.now kept same view (self_shown kept) c.args.number c.record.result c.requires.number c.record.ensures);
      directory = walk_into kept.geometry view c.args.to.now root c.args.directory c.requires.directory;
      fits = λ v shown. ((c.in_ok-places.ensures.chosen v shown).2).place;
      room = (c.in_ok-places.ensures.chosen view (self_shown kept)).0;
    }
