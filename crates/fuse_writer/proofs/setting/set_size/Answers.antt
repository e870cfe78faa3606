use Rattle.std.proofs.Common.{◌≡◌, true, false, arith, ap, sym, ◌∙◌}
use Rattle.frozen.specs.Kept.{Kept, frozen_view}
use Rattle.model.specs.View.{Inode}
use Rattle.fuse_writer.specs.Requests.{is_directory}
use Rattle.fuse_writer.proofs.DoingLemmas.{on_equal, on_same}
use Rattle.fuse_writer.proofs.SettingLemmas.{sets_directory, sets_large, sets_no_size, sets_small}
use Rattle.fuse_writer.proofs.setting.set_size.Goals as goal

pub returns-in_default-clause-does : goal.returns-in_default-clause-does
returns-in_default-clause-does g c = λ next.
    on_equal _ _ _ _ (sets_no_size c.args.mounted.now.asking.volume.kept c.args.mounted.now.session c.args.number next c.args.size c.in_default.is)

pub returns-then-is_directory_at-clause-does : goal.returns-then-is_directory_at-clause-does
returns-then-is_directory_at-clause-does g c = λ next.
    let kept = c.args.mounted.now.asking.volume.kept in
    let i = c.args.number in
    let is : is_directory kept i ≡ true = ap (λ (k : Kept). is_directory k i) (sym c.metadata.ensures) ∙ sym c.is_directory_at.ensures ∙ c.if-is_directory_at.true in
    on_equal _ _ _ _ (sets_directory kept c.args.mounted.now.session i next c.args.size c.in-Some.size c.in-Some.is is)

pub returns-then-size-from-clause-does : goal.returns-then-size-from-clause-does
returns-then-size-from-clause-does g c = λ next.
    let kept = c.args.mounted.now.asking.volume.kept in
    let i = c.args.number in
    let is : is_directory kept i ≡ false = ap (λ (k : Kept). is_directory k i) (sym c.metadata.ensures) ∙ sym c.is_directory_at.ensures ∙ c.if-is_directory_at.false in
    on_equal _ _ _ _ (sets_large kept c.args.mounted.now.session i next c.args.size c.in-Some.size c.in-Some.is is (omega (arith, c.if-size-from.true, c.from.ensures)))

pub returns-in-Some-open_by-clause-does : goal.returns-in-Some-open_by-clause-does
returns-in-Some-open_by-clause-does g c = λ next.
    let kept = c.args.mounted.now.asking.volume.kept in
    let s = c.args.mounted.now.session in
    let i = c.args.number in
    let is : is_directory kept i ≡ false = ap (λ (k : Kept). is_directory k i) (sym c.metadata.ensures) ∙ sym c.is_directory_at.ensures ∙ c.if-is_directory_at.false in
    let own : c.own.inside.size ≡ ((frozen_view kept).inode i).size =
    ap (λ (r : Inode). r.size) (c.own.view_is ∙ c.record_of.ensures) ∙ ap (λ (k : Kept). ((frozen_view k).inode i).size) c.metadata-2.ensures in
    on_same _ _ _ _ _ _ _ (sets_small kept s i next c.args.size c.in-Some.size c.in-Some.is is (omega (arith, c.if-size-from.false, c.from.ensures)) _ own _ c.in-Some-open_by.ensures)
    (c.resize.ensures.does next _)

pub returns-in-None-clause-does : goal.returns-in-None-clause-does
returns-in-None-clause-does g c = λ next.
    let kept = c.args.mounted.now.asking.volume.kept in
    let s = c.args.mounted.now.session in
    let i = c.args.number in
    let is : is_directory kept i ≡ false = ap (λ (k : Kept). is_directory k i) (sym c.metadata.ensures) ∙ sym c.is_directory_at.ensures ∙ c.if-is_directory_at.false in
    let own : c.own.inside.size ≡ ((frozen_view kept).inode i).size =
    ap (λ (r : Inode). r.size) (c.own.view_is ∙ c.record_of.ensures) ∙ ap (λ (k : Kept). ((frozen_view k).inode i).size) c.metadata-2.ensures in
    on_same _ _ _ _ _ _ _ (sets_small kept s i next c.args.size c.in-Some.size c.in-Some.is is (omega (arith, c.if-size-from.false, c.from.ensures)) _ own _ c.in-None.ensures)
    (c.resize_by_path.ensures.does next)
