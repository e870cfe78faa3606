use Rattle.std.proofs.Common.{sym, ◌∙◌, IsFalse}
use Rattle.std.proofs.lemmas.Result.{on_ok_weaker}
use Rattle.findings.specs.declared.finding.Finding.TheVariants.{ToUnsound}
use Rattle.frozen.specs.Kept.{frozen_view}
use Rattle.model.specs.Uses.{is_sound_at}
use Rattle.phase_names.proofs.AddLemmas.{adds_when}
use Rattle.phase_names.proofs.slots.add_to_unsound.Goals as goal

pub returns-clause-found : goal.returns-clause-found
returns-clause-found c =
    on_ok_weaker c.add_finding.result
    (adds_when (IsFalse (is_sound_at c.args.frozen.now.geometry (frozen_view c.args.frozen.now) c.args.number)) (ToUnsound c.args.directory c.args.slot) c.args.findings.now.keys
    c.add_finding.new.findings.keys (sym c.is_sound_at.ensures ∙ c.if-is_sound_at.false)) c.add_finding.ensures.found
