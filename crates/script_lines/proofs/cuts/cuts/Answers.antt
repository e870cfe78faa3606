use Rattle.std.proofs.Common.{◌≡◌, ◌∙◌, ap, subst, ℕ, ◌<◌, if◌then◌else◌, Bool, true, false, [], arith}
use Rattle.std.proofs.lemmas.Result.{IfOk-weaker}
use Rattle.device.specs.Cached.{Cache, held_by}
use Rattle.device.specs.Writes.{image_after}
use Rattle.left_images.specs.Report.{may_damage}
use Rattle.snapshot.specs.Mounting.{IsMountable}
use Rattle.script_lines.specs.Carried.{HasRun}
use Rattle.script_lines.specs.Cuts.{held_in, image_in}
use Rattle.script_lines.proofs.CarriedLemmas.{both_if_ok, has_none}
use Rattle.script_lines.proofs.cuts.cuts.Goals as goal

-- the status is one of two
below_3 : (n : ℕ) (b : Bool) → n ≡ (if b then 2 else 0) → n < 3
below_3 n true is = omega (arith, is)
below_3 n false is = omega (arith, is)

pub returns-clause-status : goal.returns-clause-status
returns-clause-status g c = IfOk-weaker c.cuts_of_script.result _ _ (λ answer told. below_3 answer.status (may_damage told.cuts) told.status) c.cuts_of_script.ensures.told

pub returns-clause-told : goal.returns-clause-told
returns-clause-told g c =
    let blocks = c.in_ok-from_bytes.field-0.first in
    let cache = c.in_ok-device.device in
    let start = c.in_ok-volume.volume in
    let now = c.cuts_of_script.new.volume in
    let fresh : Cache = record { first = blocks; steps = []; failures = 0 } in
    let made : cache ≡ fresh = c.in_ok-device.ensures.made ∙ ap (λ ws. let one : Cache = record { first = image_after blocks ws; steps = []; failures = 0 } in one) c.in_ok-from_bytes.ensures.fresh.0 in
    let held : held_in start.device ≡ held_by blocks [] = c.in_ok-volume.ensures.held ∙ ap held_in made in
    let image : image_in start.device ≡ blocks = c.in_ok-volume.ensures.image ∙ ap image_in made in
    both_if_ok _ _ _ c.cuts_of_script.result (λ answer tells ran. record {
      blocks = blocks;
      bytes = c.in_ok-from_bytes.ensures.blocks;
      mounted = start;
      mountable = subst (IsMountable start.kept.geometry) (ap image_in made) (c.in_ok-volume.ensures.mounted tt);
      fresh = c.in_ok-volume.ensures.fresh;
      now = now;
      run = subst (λ h. HasRun h blocks start (held_in now.device) (image_in now.device) now) held
          (subst (λ i. HasRun (held_in start.device) i start (held_in now.device) (image_in now.device) now) image
          (ran (held_in start.device) (image_in start.device) start (has_none (held_in start.device) (image_in start.device) start)));
      tells = tells;
    }) c.cuts_of_script.ensures.told c.cuts_of_script.ensures.ran
