use Rattle.std.proofs.Common.{◌∙◌, ap, inl, inr, subst, All}
use Rattle.std.proofs.lemmas.Result.{err_from_is_err_and}
use Rattle.device.specs.Bytes.{IsByteOf, with_bytes}
use Rattle.device.proofs.memory.MemDevice.formatted.Goals as goal

pub returns-in_err-set_bytes-clause-error : goal.returns-in_err-set_bytes-clause-error
returns-in_err-set_bytes-clause-error c =
    let p = err_from_is_err_and c.from_residual-in_err-set_bytes.result c.from_residual-in_err-set_bytes.ensures.1 in rw (p.1, p.2)
    (inr (elim c.in_err-set_bytes.ensures.error [
      | inl h ↦ inl h
      | inr h ↦ inr (h.0, subst (λ image. All (IsByteOf image) c.args.bytes.now → ⊥) c.in_ok-format.ensures.image h.1)
    ]))

pub returns-clause-image : goal.returns-clause-image
returns-clause-image c = c.in_ok-set_bytes.ensures.put tt ∙ ap (λ image. with_bytes image c.args.bytes.now) c.in_ok-format.ensures.image
