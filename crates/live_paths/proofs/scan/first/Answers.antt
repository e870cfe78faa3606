use Rattle.std.proofs.Common.{sym, ◌∙◌}
use Rattle.frozen.specs.Kept.{frozen_view}
use Rattle.model.specs.Reach.{slot_count}
use Rattle.model.proofs.NamedLemmas.{no_directory_no_slot}
use Rattle.live_paths.proofs.ScanLemmas.{absent_none}
use Rattle.live_paths.proofs.scan.first.Goals as goal

pub returns-then-not-is_directory_at-clause-none : goal.returns-then-not-is_directory_at-clause-none
returns-then-not-is_directory_at-clause-none c =
    absent_none c.args.frozen.now c.args.directory c.args.sought.now 0 (slot_count c.args.frozen.now.geometry)
    (λ s low high. no_directory_no_slot c.args.frozen.now.geometry (frozen_view c.args.frozen.now) c.args.directory s (sym c.is_directory_at.ensures ∙ c.if-not-is_directory_at.true))
