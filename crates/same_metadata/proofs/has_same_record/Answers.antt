use Rattle.std.proofs.Common.{sym, ◌∙◌}
use Rattle.same_metadata.proofs.RecordLemmas.{record_told}
use Rattle.same_metadata.proofs.has_same_record.Goals as goal

pub returns : goal.returns
returns c =
    let means = record_told c.record.result c.record-2.result c.eq.result c.eq.ensures in (
      (λ yes. sym c.record.ensures ∙ means.0 yes ∙ c.record-2.ensures),
      (λ same. means.1 (c.record.ensures ∙ same ∙ sym c.record-2.ensures)),
    )
