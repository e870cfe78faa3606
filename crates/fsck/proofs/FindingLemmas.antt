-- What the five phases find is all that there is to find.
use Rattle.std.proofs.Common.{◌≡◌, ◌∙◌, ap, sym, ℕ, Bool, ◌||◌, List, ◌++◌, ◌↔◌, Contains, refl, IsTrue, inl, inr}
use Rattle.std.proofs.lemmas.Bool.{or_cases, or_left, or_right}
use Rattle.std.proofs.lemmas.List.Elements.{Contains-append_left, Contains-append_right, Contains-append_cases}
use Rattle.std.proofs.lemmas.Cmp.{nat_list_cmp_total}
use Rattle.std.specs.Cmp.{on_total}
use Rattle.std.specs.List.Sorted.{IsStrictlySortedBy}
use Rattle.findings.specs.declared.finding.Finding.{Finding}
use Rattle.findings.specs.declared.finding.Finding.TheVariants.{BadInode, BadPointer, Duplicate, RootBad, BadSlot, DupName, BadDot, BadDotDot, ToUnsound, ExtraName, LostInode, CountHigh, CountLow, LostBlock, UnmarkedBlock, LostNumber, UnmarkedInode}
use Rattle.findings.specs.Findings.{IsFinding, AreFindings, finding_cmp, is_of_blocks, is_of_names, is_of_connectivity, is_of_counts, is_of_maps}
use Rattle.findings.specs.Findings.{finding_key}
use Rattle.findings.specs.Report.{report_of, verdict_of, repairs_of}
use Rattle.findings.proofs.Sorted.{same_sorted}
use Rattle.findings.proofs.SameFindings.{same_findings}
use Rattle.findings.specs.Groups.{AreFoundOf}
use Rattle.model.specs.Layout.{Geometry}
use Rattle.model.specs.View.{View}
use Rattle.model.specs.Image.{image_view}
use Rattle.frozen.specs.Kept.{Kept, IsKeptOf, frozen_view}
use Rattle.fsck.specs.Checked.{CheckedImage, IsChecked, IsFoundIn}

module _ (geo : Geometry) (view : View) where
  both : (kinds others : Finding → Bool) (fs gs : List Finding) → AreFoundOf kinds geo view fs → AreFoundOf others geo view gs → AreFoundOf (λ f. kinds f || others f) geo view (fs ++ gs)
  both kinds others fs gs are more f = (
    λ c. elim (Contains-append_cases fs gs f c) [
      | inl d ↦ let is = (are f).0 d in (or_left (kinds f) (others f) is.0, is.1)
      | inr d ↦ let is = (more f).0 d in (or_right (kinds f) (others f) is.0, is.1)
    ],
    λ is. elim (or_cases (kinds f) (others f) is.0) [
      | inl k ↦ Contains-append_left fs gs f ((are f).1 (k, is.1))
      | inr k ↦ Contains-append_right fs gs f ((more f).1 (k, is.1))
    ],
  )

  -- each finding is of one of the five phases
  of_some_phase : (f : Finding) → IsTrue ((((is_of_blocks f || is_of_names f) || is_of_connectivity f) || is_of_counts f) || is_of_maps f)
  of_some_phase (BadInode i) = refl
  of_some_phase (BadPointer i k v) = refl
  of_some_phase (Duplicate i k a) = refl
  of_some_phase RootBad = refl
  of_some_phase (BadSlot d s) = refl
  of_some_phase (DupName d s) = refl
  of_some_phase (BadDot d) = refl
  of_some_phase (BadDotDot d) = refl
  of_some_phase (ToUnsound d s) = refl
  of_some_phase (ExtraName d s) = refl
  of_some_phase (LostInode i) = refl
  of_some_phase (CountHigh i l e) = refl
  of_some_phase (CountLow i l e) = refl
  of_some_phase (LostBlock a) = refl
  of_some_phase (UnmarkedBlock a) = refl
  of_some_phase (LostNumber i) = refl
  of_some_phase (UnmarkedInode i) = refl

  pub all_phases : (blocks names lost counts maps : List Finding) → AreFoundOf is_of_blocks geo view blocks → AreFoundOf is_of_names geo view names
      → AreFoundOf is_of_connectivity geo view lost → AreFoundOf is_of_counts geo view counts → AreFoundOf is_of_maps geo view maps
      → (f : Finding) → Contains ((((blocks ++ names) ++ lost) ++ counts) ++ maps) f ↔ IsFinding geo view f
  all_phases blocks names lost counts maps one two three four five f =
      let told = both (λ g. ((is_of_blocks g || is_of_names g) || is_of_connectivity g) || is_of_counts g) is_of_maps (((blocks ++ names) ++ lost) ++ counts) maps
      (both (λ g. (is_of_blocks g || is_of_names g) || is_of_connectivity g) is_of_counts ((blocks ++ names) ++ lost) counts
      (both (λ g. is_of_blocks g || is_of_names g) is_of_connectivity (blocks ++ names) lost
      (both is_of_blocks is_of_names blocks names one two) three) four) five f in
      ((λ c. (told.0 c).1), (λ is. told.1 (of_some_phase f, is)))

-- all that was found, in order
pub in_order_are : (kept : Kept) (found fs : List Finding) → ((f : Finding) → IsFoundIn kept f found) → IsStrictlySortedBy finding_cmp fs → ((f : Finding) → Contains fs f ↔ Contains found f)
    → AreFindings kept.geometry (frozen_view kept) fs
in_order_are kept found fs all sorted same = record {
  in_order = sorted;
  exactly = λ f. ((λ c. (all f).0 ((same f).0 c)), (λ is. (same f).1 ((all f).1 is)));
}

-- the findings of what is kept of an image are the image's
pub image_findings : (kept : Kept) (image : List (List ℕ)) (fs : List Finding) → IsKeptOf kept image → AreFindings kept.geometry (frozen_view kept) fs
    → AreFindings kept.geometry (image_view kept.geometry image) fs
image_findings kept image fs of are = record {
  in_order = are.in_order;
  exactly = λ f.
      let same = same_findings kept.geometry (frozen_view kept) (image_view kept.geometry image) of.metadata f in ((λ c. same.0 ((are.exactly f).0 c)), (λ h. (are.exactly f).1 (same.1 h)));
}

-- and so is all else that a check gives
pub image_checked : (image : List (List ℕ)) (checked : CheckedImage) → IsKeptOf checked.frozen image → IsChecked checked.frozen.geometry (frozen_view checked.frozen) checked
    → IsChecked checked.frozen.geometry (image_view checked.frozen.geometry image) checked
image_checked image checked of is = record {
  findings = image_findings checked.frozen image checked.findings of is.findings;
  report = is.report;
  verdict = is.verdict;
  repairs = is.repairs;
}

-- what is checked of an image is told by the image
pub same_checked : (geo : Geometry) (view : View) (a b : CheckedImage) → IsChecked geo view a → IsChecked geo view b → a.frozen ≡ b.frozen → a ≡ b
same_checked geo view a b is also same =
    let findings : a.findings ≡ b.findings = same_sorted finding_cmp (on_total finding_key nat_list_cmp_total) a.findings b.findings is.findings.in_order also.findings.in_order
    (λ f h. (also.findings.exactly f).1 ((is.findings.exactly f).0 h)) (λ f h. (is.findings.exactly f).1 ((also.findings.exactly f).0 h)) in
    let report : a.report ≡ b.report = is.report ∙ ap report_of findings ∙ sym also.report in
    let verdict : a.verdict ≡ b.verdict = is.verdict ∙ ap verdict_of findings ∙ sym also.verdict in
    let repairs : a.repairs ≡ b.repairs = is.repairs ∙ ap repairs_of findings ∙ sym also.repairs in
    λ i. record { frozen = same i; findings = findings i; report = report i; verdict = verdict i; repairs = repairs i }
