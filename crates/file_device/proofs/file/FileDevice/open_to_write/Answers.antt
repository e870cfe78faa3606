use Rattle.std.proofs.Common.{[], ◌∷◌, ◌++◌, ap, ◌∙◌}
use Rattle.std.proofs.lemmas.Result.{MatchResult-weaker}
use Rattle.file_device.specs.declared.file.Call.TheVariants.{Sync}
use Rattle.file_device.specs.Calls.{Calls, no_block}
use Rattle.file_device.proofs.CallLemmas.{opened_durable, opened_new}
use Rattle.file_device.proofs.file.FileDevice.open_to_write.Goals as goal

pub returns-in_ok-over-in-Ok-clause-durable : goal.returns-in_ok-over-in-Ok-clause-durable
returns-in_ok-over-in-Ok-clause-durable g c =
    MatchResult-weaker c.synced.result c.synced.ensures.synced
    (λ device is. opened_durable g.S.Start.first g.S.Start.below device c.in_ok-count-in-Ok.count no_block
    (is ∙ ap (λ (v : Calls). record v { answered = v.answered ++ (Sync, no_block) ∷ [] }) c.in_ok-over-in-Ok.ensures.new)) (λ _ _. tt)

pub returns-in_ok-over-in-Ok-clause-new : goal.returns-in_ok-over-in-Ok-clause-new
returns-in_ok-over-in-Ok-clause-new g c =
    MatchResult-weaker c.synced.result c.synced.ensures.synced
    (λ device is. opened_new g.S.Start.first g.S.Start.below device c.in_ok-count-in-Ok.count no_block
    (is ∙ ap (λ (v : Calls). record v { answered = v.answered ++ (Sync, no_block) ∷ [] }) c.in_ok-over-in-Ok.ensures.new) c.in_ok-count-in-Ok.ensures.some) (λ _ _. tt)
