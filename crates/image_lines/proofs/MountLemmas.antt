-- An image that was checked and is not damaged can be mounted.
use Rattle.std.proofs.Common.{◌≡◌, ◌↔◌, true, ◌∙◌}
use Rattle.std.specs.List.{list_all}
use Rattle.std.proofs.lemmas.List.Elements.{All-contains}
use Rattle.std.proofs.lemmas.List.Sums.{AllPass-from_list_all}
use Rattle.findings.specs.Findings.{AllSoft, is_soft}
use Rattle.findings.specs.declared.verdicts.Verdict.TheVariants as verdict
use Rattle.frozen.specs.Kept.{frozen_view}
use Rattle.fsck.specs.Checked.{CheckedImage, IsChecked}
use Rattle.model.specs.Layout.{Geometry}
use Rattle.model.specs.Rules.{ObeysRules}
use Rattle.model.specs.View.{View}
use Rattle.mending.proofs.MayMend.{all_soft}

-- that rules hold where all findings are soft
abbrev pub SoftObeys : Type 0
SoftObeys = (geo : Geometry) (view : View) → ObeysRules geo view ↔ AllSoft geo view

module _ (checked : CheckedImage) (is : IsChecked checked.frozen.geometry (frozen_view checked.frozen) checked) where
  pub obeys_unless_damaged : SoftObeys → (checked.verdict ≡ verdict.Damaged → ⊥) → ObeysRules checked.frozen.geometry (frozen_view checked.frozen)
  obeys_unless_damaged law sound =
      let soft : list_all is_soft checked.findings ≡ true = all_soft checked.findings (λ bad. sound (is.verdict ∙ bad)) in
      (law checked.frozen.geometry (frozen_view checked.frozen)).1
      (λ f found. All-contains (λ g. is_soft g ≡ true) checked.findings f (AllPass-from_list_all is_soft checked.findings soft) ((is.findings.exactly f).1 found))
