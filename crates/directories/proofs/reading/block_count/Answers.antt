use Rattle.std.proofs.Common.{◌≤◌, ◌*◌, sym, ◌∙◌, subst}
use Rattle.frozen.specs.Kept.{frozen_view}
use Rattle.model.proofs.NamedLemmas.{no_directory_no_slot, no_slot_past}
use Rattle.directories.proofs.reading.block_count.Goals as goal

pub returns-then-not-is_directory_at-clause-past : goal.returns-then-not-is_directory_at-clause-past
returns-then-not-is_directory_at-clause-past c = λ s from.
    no_directory_no_slot c.args.frozen.now.geometry (frozen_view c.args.frozen.now) c.args.directory s (sym c.is_directory_at.ensures ∙ c.if-not-is_directory_at.true)

pub returns-clause-past : goal.returns-clause-past
returns-clause-past c = λ s from.
    let view = frozen_view c.args.frozen.now in
    no_slot_past c.args.frozen.now.geometry view c.args.directory s (subst (λ n. 16 * n ≤ s) c.blocks-2.ensures from)
