-- What was known of the frame stays known, and what each step keeps the next one keeps.
use Rattle.std.proofs.Common.{◌≡◌, List, sym, ◌∙◌, subst}
use Rattle.frozen.specs.Kept.{Kept, KeepsMore, frozen_view}
use Rattle.frozen.specs.Kinds.{AreKinds}
use Rattle.frozen.specs.Loading.{AreBlocksOf}
use Rattle.frozen.specs.declared.kinds.Kind.{Kind}
use Rattle.frozen.proofs.ClaimLemmas.{more_of_more}
use Rattle.frozen.proofs.KindLemmas.{kinds_kept}
use Rattle.frozen.proofs.loading.fill.Goals as goal

pub read_tables-requires-clause-known : goal.read_tables-requires-clause-known
read_tables-requires-clause-known g c =
    let held = c.args.held in
    subst (λ (kinds : List Kind). AreKinds held.geometry (frozen_view held) kinds) (sym c.as_slice.ensures.value) c.requires.known

pub read_directories-requires-clause-known : goal.read_directories-requires-clause-known
read_directories-requires-clause-known g c =
    let middle = c.read_tables.new.held in
    subst (λ (kinds : List Kind). AreKinds middle.geometry (frozen_view middle) kinds) (sym c.as_slice-2.ensures.value)
    (kinds_kept c.args.held middle c.requires.frame c.in_ok-read_tables.ensures.more c.args.kinds.items c.requires.known)

pub new-requires-clause-known : goal.new-requires-clause-known
new-requires-clause-known g c =
    let middle = c.read_tables.new.held in
    kinds_kept middle c.read_directories.new.held c.in_ok-read_tables.ensures.frame c.in_ok-read_directories.ensures.more c.args.kinds.items
    (kinds_kept c.args.held middle c.requires.frame c.in_ok-read_tables.ensures.more c.args.kinds.items c.requires.known)

pub returns-clause-more : goal.returns-clause-more
returns-clause-more g c =
    subst (λ (k : Kept). KeepsMore c.args.held k) (sym c.new.ensures)
    (more_of_more c.args.held c.read_tables.new.held c.read_directories.new.held c.in_ok-read_tables.ensures.more c.in_ok-read_directories.ensures.more)

pub returns-clause-blocks : goal.returns-clause-blocks
returns-clause-blocks g c = λ honest are.
    let steps = c.in_ok-read_tables.ensures in
    let last = c.in_ok-read_directories.ensures in
    let image = g.D.Device.image c.args.device.now in
    subst (λ (k : Kept). AreBlocksOf k.blocks image) (sym c.new.ensures)
    (subst (AreBlocksOf c.read_directories.new.held.blocks) steps.reads.same
    (last.blocks honest (subst (AreBlocksOf c.read_tables.new.held.blocks) (sym steps.reads.same) (steps.blocks (last.reads.honest honest) are))))
