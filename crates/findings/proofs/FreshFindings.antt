-- Nothing is found on the fresh image.
use Rattle.std.proofs.Common.{◌≡◌, sym, ap, ◌∙◌, subst, arith, inl, [], IsTrue}
use Rattle.std.specs.List.Sorted.{IsStrictlySortedBy}
use Rattle.std.proofs.lemmas.Bool.{and_parts, eqb-true}
use Rattle.findings.specs.declared.finding.Finding.{Finding}
use Rattle.findings.specs.declared.finding.Finding.TheVariants.{BadInode, BadPointer, Duplicate, RootBad, BadSlot, DupName, BadDot, BadDotDot, ToUnsound, ExtraName, LostInode, CountHigh, CountLow, LostBlock, UnmarkedBlock, LostNumber, UnmarkedInode}
use Rattle.findings.specs.Findings.{IsFinding, AreFindings, is_soft}
use Rattle.findings.proofs.Sorted.{Contains-none}
use Rattle.findings.proofs.Soft.{soft_from_rules}
use Rattle.model.specs.Layout.{Geometry, IsGeometry, is_number}
use Rattle.model.specs.Uses.{is_sound, IsClaim}
use Rattle.model.specs.Reach.{IsReachableDirectory, HasEntries}
use Rattle.model.specs.Fresh.{fresh_view}
use Rattle.model.proofs.FreshLemmas.{fresh_obeys, only_root_sound, root_reached, two_entries, only_root_reachable, marked_first, root_claims}

module _ (geo : Geometry) (ok : IsGeometry geo) where
  pub fresh_finds_nothing : (f : Finding) → IsFinding geo (fresh_view geo) f → ⊥
  fresh_finds_nothing f h = of_soft f (soft_from_rules geo (fresh_view geo) (fresh_obeys geo ok) f h) h
    where
      of_soft : (f : Finding) → IsTrue (is_soft f) → IsFinding geo (fresh_view geo) f → ⊥
      of_soft (LostInode i) soft h =
          h.1 (inl (subst (λ k. IsReachableDirectory geo (fresh_view geo) k) (sym ((only_root_sound geo ok) i (and_parts (is_number geo i) (is_sound geo ((fresh_view geo).inode i)) h.0).1)) (root_reached geo ok)))
      of_soft (CountHigh i l e) soft h =
          let two = (two_entries geo ok) e (subst (λ k. HasEntries geo (fresh_view geo) k e) ((only_root_reachable geo ok) i h.0) h.2) in
          let links : l ≡ 2 = h.1 ∙ ap (λ k. ((fresh_view geo).inode k).links) ((only_root_reachable geo ok) i h.0) in
          omega (arith, two, links, h.3)
      of_soft (LostBlock a) soft h = h.2 (2, 0, subst (λ b. IsClaim geo (fresh_view geo) 2 0 b) (sym ((marked_first geo ok) a h.1)) (root_claims geo ok))
      of_soft (LostNumber i) soft h =
          let is_root : i ≡ 2 = eqb-true i 2 h.1 in
          let mode : 2 ≡ 0 = subst (λ k. ((fresh_view geo).inode k).mode ≡ 0) is_root h.2 in omega (arith, mode)
      of_soft (BadInode i) soft h = cc
      of_soft (BadPointer i k v) soft h = cc
      of_soft (Duplicate i k a) soft h = cc
      of_soft RootBad soft h = cc
      of_soft (BadSlot d s) soft h = cc
      of_soft (DupName d s) soft h = cc
      of_soft (BadDot d) soft h = cc
      of_soft (BadDotDot d) soft h = cc
      of_soft (ToUnsound d s) soft h = cc
      of_soft (ExtraName d s) soft h = cc
      of_soft (CountLow i l e) soft h = cc
      of_soft (UnmarkedBlock a) soft h = cc
      of_soft (UnmarkedInode i) soft h = cc

  pub fresh_findings : AreFindings geo (fresh_view geo) []
  unfolding IsStrictlySortedBy
  fresh_findings = record {
    in_order = tt;
    exactly = λ f. ((λ h. absurd (Contains-none f h)), (λ h. absurd (fresh_finds_nothing f h)));
  }
