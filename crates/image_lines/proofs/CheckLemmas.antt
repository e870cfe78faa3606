-- A check of what is kept of an image is a check of the image.
use Rattle.std.proofs.Common.{List, ℕ}
use Rattle.model.specs.Image.{image_view}
use Rattle.findings.proofs.SameFindings.{same_findings}
use Rattle.frozen.specs.Kept.{Kept, IsKeptOf, frozen_view}
use Rattle.fsck.specs.Checked.{CheckedImage, IsChecked}
use Rattle.image_lines.specs.Checks.{IsCheckOf}

-- of the geometry and the image that were kept
pub image_checked : (kept : Kept) (image : List (List ℕ)) (checked : CheckedImage) → IsKeptOf kept image
    → IsChecked kept.geometry (frozen_view kept) checked → IsCheckOf image checked
image_checked kept image checked of is = (
  kept.geometry,
  of.is_image,
  record {
    findings = record {
      in_order = is.findings.in_order;
      exactly = λ f.
          let same = same_findings kept.geometry (frozen_view kept) (image_view kept.geometry image) of.metadata f in
          ((λ c. same.0 ((is.findings.exactly f).0 c)), (λ h. (is.findings.exactly f).1 (same.1 h)));
    };
    report = is.report;
    verdict = is.verdict;
    repairs = is.repairs;
  },
)
