use Rattle.std.proofs.Common.{inl, refl}
use Rattle.image_lines.proofs.RepairLemmas.{given_out, left_alone, memory_is_no_device}
use Rattle.image_lines.proofs.repair.leave_device.Goals as goal

pub returns-in-Ok-clause-repaired : goal.returns-in-Ok-clause-repaired
returns-in-Ok-clause-repaired g c = λ h.
    let image = g.D.Device.image c.args.device in
    let found = c.requires.checked h in
    left_alone c.args.device image image c.in-Ok.answer.text.items c.in-Ok.answer.status found.0 c.args.checked.now found.1 found.2 c.in-Ok.ensures.text c.in-Ok.ensures.status c.requires.other refl

pub returns-in-Err-clause-refused : goal.returns-in-Err-clause-refused
returns-in-Err-clause-refused g c = record {
  refuses = λ h. given_out (g.D.Device.honest c.args.device) (g.D.Device.image c.args.device) _ (inl c.in-Err.ensures.error);
  cause = λ device. absurd (memory_is_no_device _ c.in-Err.ensures.error device);
}

pub returns-in-Err-clause-left : goal.returns-in-Err-clause-left
returns-in-Err-clause-left g c = λ device. memory_is_no_device _ c.in-Err.ensures.error device
