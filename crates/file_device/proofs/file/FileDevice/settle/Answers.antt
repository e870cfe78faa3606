use Rattle.std.proofs.Common.{[], ◌∷◌, ap}
use Rattle.std.proofs.lemmas.Result.{on_ok_weaker, on_err_weaker}
use Rattle.device.specs.declared.cache.Step.TheVariants.{Synced}
use Rattle.file_device.specs.Calls.{Calls, no_block}
use Rattle.file_device.proofs.CallLemmas.{given_sound, gives_all, goes_further, refusal_ends, refuses_one, syncs_one}
use Rattle.file_device.proofs.file.FileDevice.settle.Goals as goal

pub returns-clause-settled : goal.returns-clause-settled
returns-clause-settled g c =
    let old = c.args.self.now in
    let mid = c.give_waiting.new.self in
    let given = c.in_ok-give_waiting.ensures.given in
    on_ok_weaker c.sync_file.result
    (λ is. goes_further old mid c.sync_file.new.self [] (Synced ∷ []) (gives_all old mid given)
    (syncs_one mid c.sync_file.new.self no_block is (given_sound old mid given c.in_ok-give_waiting.ensures.sound) (ap (λ (v : Calls). v.waiting) given))) c.sync_file.ensures.synced

pub returns-clause-refused : goal.returns-clause-refused
returns-clause-refused g c =
    let old = c.args.self.now in
    let mid = c.give_waiting.new.self in
    on_err_weaker c.sync_file.result
    (λ is. goes_further old mid c.sync_file.new.self [] [] (gives_all old mid c.in_ok-give_waiting.ensures.given) (refuses_one mid c.sync_file.new.self no_block is)) c.sync_file.ensures.refused

pub returns-clause-ends : goal.returns-clause-ends
returns-clause-ends g c = on_err_weaker c.sync_file.result (refusal_ends c.give_waiting.new.self c.sync_file.new.self no_block) c.sync_file.ensures.refused
