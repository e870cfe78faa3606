use Rattle.std.proofs.Common.{is_some, sym, ap, ◌∙◌}
use Rattle.std.specs.Arc.{arc_value}
use Rattle.snapshot.proofs.Written.{some_copied}
use Rattle.snapshot.proofs.snapshots.has_snapshot.Goals as goal

pub returns : goal.returns
returns g c = c.is_some.ensures ∙ sym (some_copied arc_value c.snapshot.result) ∙ ap is_some c.snapshot.ensures.snapshot
