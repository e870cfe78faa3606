use Rattle.std.proofs.lemmas.Result.{on_ok_weaker}
use Rattle.image_changes.proofs.AskingLemmas.{flushes_behind, flushes_then}
use Rattle.image_changes.proofs.flushing.flush_in_passes.Goals as goal

pub returns-clause-flushed : goal.returns-clause-flushed
returns-clause-flushed g c =
    let held = g.D.Device.held in
    let image = g.D.Device.image in
    let old = c.args.volume.now in
    let mid = c.wait_for_writes.new.volume in
    let new = c.flush_ready.new.volume in
    on_ok_weaker c.flush_ready.result (λ flushed honest.
    flushes_then (held old.device) (held mid.device) (held new.device) (image old.device) (image mid.device) (image new.device) old mid new
    (c.in_ok-wait_for_writes.ensures.flushed (c.flush_ready.ensures.honest honest)) (flushed honest)) c.flush_ready.ensures.flushed

pub returns-clause-waits : goal.returns-clause-waits
returns-clause-waits g c =
    let held = g.D.Device.held in
    let image = g.D.Device.image in
    let old = c.args.volume.now in
    let mid = c.wait_for_writes.new.volume in
    let new = c.flush_ready.new.volume in
    on_ok_weaker c.flush_ready.result (λ flushed loose honest.
    flushes_behind (held old.device) (held mid.device) (held new.device) (image old.device) (image mid.device) (image new.device) old mid new 0
    (c.in_ok-wait_for_writes.ensures.waits loose (c.flush_ready.ensures.honest honest)) (flushed honest)) c.flush_ready.ensures.flushed
