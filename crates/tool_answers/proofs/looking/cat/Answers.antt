use Rattle.std.proofs.Common.{inl, inr, length, sym, ap, ◌∙◌, subst}
use Rattle.std.proofs.lemmas.Result.{IfErr-weaker, IfOk-weaker, err_from_is_err_and}
use Rattle.frozen.specs.Kept.{IsKeptOf}
use Rattle.machine.specs.Command.{Open}
use Rattle.model.specs.Image.{image_view}
use Rattle.reading.specs.Bytes.{AreBytesAt}
use Rattle.tool_answers.specs.Told.{Refuses}
use Rattle.tool_answers.proofs.RefusalLemmas.{refused_there}
use Rattle.tool_answers.proofs.looking.cat.Goals as goal

pub read-requires : goal.read-requires
read-requires g c = record { count = ap length c.load.ensures.reads.same ∙ c.in_ok-frozen.ensures.count }

pub returns-clause-bytes : goal.returns-clause-bytes
returns-clause-bytes g c =
    IfOk-weaker c.read.result _ _ (λ bytes told honest.
    let frozen = c.in_ok-frozen.frozen in
    let kept = c.in_ok-frozen.ensures.ok (c.read.ensures.reads.honest honest) in (
      frozen.geometry,
      kept.is_image,
      subst (λ i. AreBytesAt frozen.geometry (image_view frozen.geometry i) c.args.path.now bytes.items) c.load.ensures.reads.same (told honest (subst (IsKeptOf frozen) (sym c.load.ensures.reads.same) kept)),
    ))
    c.read.ensures.read

pub returns-in_err-frozen-clause-refused : goal.returns-in_err-frozen-clause-refused
returns-in_err-frozen-clause-refused g c =
    let p = err_from_is_err_and c.from_residual.result c.from_residual.ensures.1 in
    rw (p.1, p.2) (inl c.in_err-frozen.ensures.refused)

pub returns-clause-refused : goal.returns-clause-refused
returns-clause-refused g c =
    let image = g.D.Device.image c.args.device.now in
    IfErr-weaker c.read.result _ _ (λ r told. elim told [
      | inl device ↦ subst (Refuses (g.D.Device.honest c.read.new.device) image (Open c.args.path.now)) (sym device) (inl tt)
      | inr replies ↦ inr (λ honest. refused_there replies (c.in_ok-frozen.ensures.ok (c.read.ensures.reads.honest honest)))
    ]) c.read.ensures.refused
