use Rattle.image_changes.proofs.AskingLemmas.{flushes_then}
use Rattle.image_changes.proofs.flushing.flush_pass.Goals as goal

pub loop-turn-preserved : goal.loop-turn-preserved
loop-turn-preserved g c =
    let inv = c.loop-turn.invariant in
    let held = g.D.Device.held in
    let image = g.D.Device.image in
    let old = c.args.volume.now in
    let mid = c.loop-turn.volume in
    let new = c.flush_next.new.volume in
    record {
      honest = λ h. inv.honest (c.flush_next.ensures.honest h);
      flushed = λ h. flushes_then (held old.device) (held mid.device) (held new.device) (image old.device) (image mid.device) (image new.device) old mid new
          (inv.flushed (c.flush_next.ensures.honest h)) (c.in_ok-next.ensures.flushed h);
    }

pub returns-in-None-clause-flushed : goal.returns-in-None-clause-flushed
returns-in-None-clause-flushed g c = λ h.
    let held = g.D.Device.held in
    let image = g.D.Device.image in
    let old = c.args.volume.now in
    let mid = c.loop-turn.volume in
    let new = c.flush_next.new.volume in
    flushes_then (held old.device) (held mid.device) (held new.device) (image old.device) (image mid.device) (image new.device) old mid new
    (c.loop-turn.invariant.flushed (c.flush_next.ensures.honest h)) (c.in_ok-next.ensures.flushed h)
