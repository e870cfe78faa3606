use Rattle.std.proofs.Common.{◌≡◌, ◌/◌, length, ap, ◌∙◌, arith}
use Rattle.std.proofs.lemmas.Result.{IfOk-weaker}
use Rattle.model.specs.Layout.{block_count}
use Rattle.device.specs.Writes.{image_after}
use Rattle.findings.specs.Findings.{is_of_numbers}
use Rattle.image_lines.proofs.NumberLemmas.{none_on_clean}
use Rattle.image_lines.proofs.sample.check_sample.Goals as goal

pub make-requires-clause-count : goal.make-requires-clause-count
make-requires-clause-count c =
    let device = c.in_ok-device.device in
    let blocks : length device.first ≡ block_count c.in_ok-geometry.geometry =
    c.in_ok-device.ensures.count ∙ ap (λ n. n / 1024) (c.as_slice.ensures.len ∙ c.in_ok-bytes.ensures.len) ∙ omega (arith, c.blocks-2.ensures.count) in
    ap (λ ws. length (image_after device.first ws)) c.in_ok-device.ensures.fresh.0 ∙ blocks

pub returns : goal.returns
returns c =
    IfOk-weaker c.check_numbers.result _ _ (λ found told.
    none_on_clean is_of_numbers c.in_ok-geometry.geometry (image_after c.make.new.device.first c.make.new.device.writes) found.items c.in_ok-make.ensures.is_image c.in_ok-make.ensures.clean (told tt))
    c.check_numbers.ensures.found
