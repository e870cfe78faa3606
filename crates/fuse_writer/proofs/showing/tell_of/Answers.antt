use Rattle.std.proofs.Common.{refl, sym, ap, ◌∙◌}
use Rattle.fuse_wire.specs.declared.bodies.Entry.{Entry}
use Rattle.fuse_reader.specs.Said.{told}
use Rattle.fuse_writer.proofs.DoingLemmas.{does_memory, does_no_memory, does_note, does_same, does_say}
use Rattle.fuse_writer.proofs.RequestLemmas.{tells_below, tells_none, with_nodes}
use Rattle.fuse_writer.proofs.showing.tell_of.Goals as goal

pub returns-then-not-is_below_root-clause-does : goal.returns-then-not-is_below_root-clause-does
returns-then-not-is_below_root-clause-does g c = λ body.
    does_same _ _ _ _ _ _ _ (tells_none c.args.mounted.now.session c.args.directory c.args.name.now c.args.number body (sym c.is_below_root.ensures ∙ c.if-not-is_below_root.true))
    (does_say _ _ _ _ _ _ refl refl refl)

pub returns-in_default-clause-does : goal.returns-in_default-clause-does
returns-in_default-clause-does g c = λ body.
    let s = c.args.mounted.now.session in
    does_same _ _ _ _ _ _ _ (tells_below s c.args.directory c.args.name.now c.args.number body (sym c.is_below_root.ensures ∙ c.if-not-is_below_root.false))
    (does_no_memory _ _ _ _ _ _ refl refl (ap (with_nodes s) c.in_default.ensures.refused))

pub returns-clause-does : goal.returns-clause-does
returns-clause-does g c = λ body.
    let s = c.args.mounted.now.session in
    let i = c.args.number in
    let shown = c.entry_of.ensures c.args.mounted.now.asking.volume.kept s i c.in-Ok.ensures.node c.kept_for.ensures c.shown_of-attributes.ensures in
    does_same _ _ _ _ _ _ _ (tells_below s c.args.directory c.args.name.now i body (sym c.is_below_root.ensures ∙ c.if-not-is_below_root.false))
    (does_memory _ _ _ _ _ _ _ (does_note _ _ _ _ _ _ _ _ (does_say _ _ _ _ _ _ refl (ap (λ (e : Entry). told (body e)) shown) (ap (with_nodes s) c.in-Ok.ensures.told))))
