use Rattle.std.proofs.Common.{◌∙◌, refl, sym, ap}
use Rattle.fuse_writer.proofs.DoingLemmas.{does_same, does_say}
use Rattle.fuse_writer.proofs.RequestLemmas.{changes_so, renames_none, renames_over, renames_same, renames_spared}
use Rattle.fuse_writer.specs.Requests.{renames_to}
use Rattle.fuse_writer.proofs.renaming.rename_to.Goals as goal

pub returns-in_default-clause-does : goal.returns-in_default-clause-does
returns-in_default-clause-does g c =
    does_same _ _ _ _ _ _ _ (ap (renames_to c.args.mounted.now.asking.volume.kept c.args.mounted.now.session c.args.spares c.args.moved.is_directory c.args.moved.number c.args.moved.from.directory c.args.moved.from.name.now c.args.moved.to.directory c.args.moved.to.name.now) (c.in_default.is) ∙ renames_none c.args.mounted.now.session c.args.moved.is_directory c.args.moved.number c.args.moved.from.directory c.args.moved.from.name.now c.args.moved.to.directory c.args.moved.to.name.now c.args.mounted.now.asking.volume.kept c.args.spares) (rw (changes_so c.args.mounted.now.asking.volume.kept c.args.mounted.now.session c.args.moved c.requires) at c.move_name.ensures.does)

pub returns-then-other-moved-clause-does : goal.returns-then-other-moved-clause-does
returns-then-other-moved-clause-does g c =
    does_same _ _ _ _ _ _ _ (ap (renames_to c.args.mounted.now.asking.volume.kept c.args.mounted.now.session c.args.spares c.args.moved.is_directory c.args.moved.number c.args.moved.from.directory c.args.moved.from.name.now c.args.moved.to.directory c.args.moved.to.name.now) c.in-Some.is ∙ renames_same c.args.mounted.now.session c.args.moved.is_directory c.args.moved.number c.args.moved.from.directory c.args.moved.from.name.now c.args.moved.to.directory c.args.moved.to.name.now c.args.mounted.now.asking.volume.kept c.args.spares c.in-Some.other c.if-other-moved.true) (does_say _ _ _ _ _ _ refl refl refl)

pub returns-then-is_spared-clause-does : goal.returns-then-is_spared-clause-does
returns-then-is_spared-clause-does g c =
    does_same _ _ _ _ _ _ _ (ap (renames_to c.args.mounted.now.asking.volume.kept c.args.mounted.now.session c.args.spares c.args.moved.is_directory c.args.moved.number c.args.moved.from.directory c.args.moved.from.name.now c.args.moved.to.directory c.args.moved.to.name.now) c.in-Some.is ∙ renames_spared c.args.mounted.now.session c.args.moved.is_directory c.args.moved.number c.args.moved.from.directory c.args.moved.from.name.now c.args.moved.to.directory c.args.moved.to.name.now c.args.mounted.now.asking.volume.kept c.args.spares c.in-Some.other c.if-other-moved.false (sym c.is_spared.ensures ∙ c.if-is_spared.true)) (does_say _ _ _ _ _ _ refl refl refl)

pub returns-clause-does : goal.returns-clause-does
returns-clause-does g c =
    does_same _ _ _ _ _ _ _ (ap (renames_to c.args.mounted.now.asking.volume.kept c.args.mounted.now.session c.args.spares c.args.moved.is_directory c.args.moved.number c.args.moved.from.directory c.args.moved.from.name.now c.args.moved.to.directory c.args.moved.to.name.now) c.in-Some.is ∙ renames_over c.args.mounted.now.session c.args.moved.is_directory c.args.moved.number c.args.moved.from.directory c.args.moved.from.name.now c.args.moved.to.directory c.args.moved.to.name.now c.args.mounted.now.asking.volume.kept c.args.spares c.in-Some.other c.if-other-moved.false (sym c.is_spared.ensures ∙ c.if-is_spared.false)) (rw (changes_so c.args.mounted.now.asking.volume.kept c.args.mounted.now.session c.args.moved c.requires) at c.replace.ensures.does)
