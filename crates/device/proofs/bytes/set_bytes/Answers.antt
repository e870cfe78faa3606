use Rattle.std.proofs.Common.{rules, inl, inr}
use Rattle.std.proofs.lemmas.Result.{err_from_is_err_and}
use Rattle.device.proofs.ByteLemmas.{one_lacks}
use Rattle.device.proofs.bytes.set_bytes.Goals as goal

pub returns-in_err-set_byte-clause-error : goal.returns-in_err-set_byte-clause-error
returns-in_err-set_byte-clause-error g c =
    let p = err_from_is_err_and c.from_residual.result c.from_residual.ensures.1 in rw (p.1, p.2)
    (elim c.in_err-set_byte.ensures.error [
      | inl h ↦ inl h
      | inr h ↦ inr (h.0, one_lacks (g.D.Device.image c.args.device.now) (g.D.Device.image c.loop-byte.device) c.args.bytes.now c.loop-byte.byte-index (0, 0, 0) (search rules) c.loop-byte.invariant.count h.1)
    ])
