-- The verdict is damaged exactly where a rule is broken.
use Rattle.std.proofs.Common.{◌≡◌, Bool, true, false, List, [], ◌∷◌, length, Contains, ◌↔◌, refl, sym, subst, arith}
use Rattle.std.specs.Prelude.{if◌then◌else◌, ◌==◌}
use Rattle.std.specs.List.{list_all}
use Rattle.std.proofs.lemmas.Bool.{eqb-true}
use Rattle.std.proofs.lemmas.List.Elements.{All-contains, All-contains_itself, All-weaker}
use Rattle.std.proofs.lemmas.List.Sums.{AllPass-from_list_all, list_all-from_AllPass}
use Rattle.findings.specs.declared.finding.Finding.{Finding}
use Rattle.findings.specs.declared.verdicts.Verdict.{Verdict}
use Rattle.findings.specs.declared.verdicts.Verdict.TheVariants.{Clean, Soft, Damaged}
use Rattle.findings.specs.Findings.{AreFindings, AllSoft, is_soft}
use Rattle.findings.specs.Report.{verdict_of}
use Rattle.findings.proofs.Soft.{rules_where_soft}
use Rattle.model.specs.Layout.{Geometry}
use Rattle.model.specs.View.{View}
use Rattle.model.specs.Rules.{ObeysRules}
use Rattle.frozen.specs.Kept.{frozen_view}
use Rattle.fsck.specs.Checked.{CheckedImage, IsChecked}

-- the verdict by whether nothing was found, and whether all that was is soft
abbrev by_tests : Bool → Bool → Verdict
by_tests none all = if none then Clean else (if all then Soft else Damaged)

not_damaged : (none all : Bool) → all ≡ true → by_tests none all ≡ Damaged → ⊥
not_damaged true all h e = let clean : Clean ≡ Damaged = e in cc
not_damaged false true h e = let soft : Soft ≡ Damaged = e in cc
not_damaged false false h e = cc

damaged_unless : (none all : Bool) → (none ≡ true → all ≡ true) → (all ≡ true → ⊥) → by_tests none all ≡ Damaged
damaged_unless true all h some = absurd (some (h refl))
damaged_unless false true h some = absurd (some refl)
damaged_unless false false h some = refl

-- where nothing is found, all that is found is soft
none_is_soft : (fs : List Finding) → (length fs == 0) ≡ true → list_all is_soft fs ≡ true
none_is_soft [] e = refl
none_is_soft (f ∷ fs) e = absurd (omega (arith, eqb-true (length (f ∷ fs)) 0 e))

module _ (geo : Geometry) (view : View) (fs : List Finding) (are : AreFindings geo view fs) where
  soft_where_all : list_all is_soft fs ≡ true → AllSoft geo view
  soft_where_all all f is = All-contains (λ g. is_soft g ≡ true) fs f (AllPass-from_list_all is_soft fs all) ((are.exactly f).1 is)

  all_where_soft : AllSoft geo view → list_all is_soft fs ≡ true
  all_where_soft soft =
      list_all-from_AllPass is_soft fs (All-weaker (Contains fs) (λ g. is_soft g ≡ true) (λ g c. soft g ((are.exactly g).0 c)) fs (All-contains_itself fs))

  pub damaged_where_broken : (verdict_of fs ≡ Damaged) ↔ (ObeysRules geo view → ⊥)
  damaged_where_broken = (
    λ damaged obeys. not_damaged (length fs == 0) (list_all is_soft fs) (all_where_soft ((rules_where_soft geo view).0 obeys)) damaged,
    λ broken. damaged_unless (length fs == 0) (list_all is_soft fs) (none_is_soft fs) (λ all. broken ((rules_where_soft geo view).1 (soft_where_all all))),
  )

-- and so it is of a checked image
pub verdict_damaged : (checked : CheckedImage) → IsChecked checked.frozen.geometry (frozen_view checked.frozen) checked
    → (checked.verdict ≡ Damaged) ↔ (ObeysRules checked.frozen.geometry (frozen_view checked.frozen) → ⊥)
verdict_damaged checked is =
    let kept = checked.frozen in
    subst (λ (verdict : Verdict). (verdict ≡ Damaged) ↔ (ObeysRules kept.geometry (frozen_view kept) → ⊥)) (sym is.verdict)
    (damaged_where_broken kept.geometry (frozen_view kept) checked.findings is.findings)
