use Rattle.image_changes.proofs.AskingLemmas.{flushes_then}
use Rattle.image_changes.proofs.flushing.flush_ready.Goals as goal

pub loop-pass-preserved : goal.loop-pass-preserved
loop-pass-preserved g c =
    let inv = c.loop-pass.invariant in
    let held = g.D.Device.held in
    let image = g.D.Device.image in
    let old = c.args.volume.now in
    let mid = c.loop-pass.volume in
    let new = c.flush_pass.new.volume in
    record {
      honest = λ h. inv.honest (c.flush_pass.ensures.honest h);
      flushed = λ h. flushes_then (held old.device) (held mid.device) (held new.device) (image old.device) (image mid.device) (image new.device) old mid new
          (inv.flushed (c.flush_pass.ensures.honest h)) (c.in_ok-flush_pass.ensures.flushed h);
    }
