-- Nothing is found on the image of an exact volume in balance, where nothing is open or held: its findings would be soft,
-- and each soft one speaks of something that is marked or counted, and neither reachable nor open, nor held.
use Rattle.std.proofs.Common.{◌≡◌, ℕ, [], inl, inr, sym, ◌∙◌, arith, IsTrue, IsFalse, None, Some}
use Rattle.std.proofs.lemmas.Bool.{both_ways}
use Rattle.std.specs.List.Sorted.{IsStrictlySortedBy}
use Rattle.findings.specs.declared.finding.Finding.{Finding}
use Rattle.findings.specs.declared.finding.Finding.TheVariants.{LostInode, CountHigh, LostBlock, LostNumber}
use Rattle.findings.specs.Findings.{IsFinding, AreFindings, is_soft}
use Rattle.findings.proofs.Sorted.{Contains-none}
use Rattle.findings.proofs.Soft.{soft_from_rules}
use Rattle.model.specs.Layout.{Geometry}
use Rattle.model.specs.Reach.{IsReachable}
use Rattle.machine.specs.State.{State, IsOpen, open_at}
use Rattle.machine.specs.Balance.{Balance, Exact, IsLive}
use Rattle.machine.proofs.Decisions.{sound_mode, sound_parts, reachable_sound}

module _ (geo : Geometry) (state : State) (b : Balance geo state) (exact : Exact geo state) (closed : (h : ℕ) → open_at state h ≡ None) (free : (a : ℕ) → IsFalse (state.held a)) where
  not_open : (i : ℕ) → IsOpen state i → ⊥
  not_open i o = let e : None ≡ Some i = sym (closed o.0) ∙ o.1 in cc

  reachable : (i : ℕ) → IsLive geo state i → IsReachable geo state.view i
  reachable i (inl r) = r
  reachable i (inr o) = absurd (not_open i o)

  not_soft : (f : Finding) → IsTrue (is_soft f) → IsFinding geo state.view f → ⊥
  not_soft (LostInode i) soft h =
      let sound = sound_parts geo state.view i h.0 in
      h.1 (reachable i ((exact.numbers i sound.0).0 (b.rules.rule4 i sound.0 (sound_mode geo (state.view.inode i) sound.1))))
  not_soft (CountHigh i l e) soft h = let same = exact.links i e (inl h.0) h.2 in omega (arith, same, h.1, h.3)
  not_soft (LostBlock a) soft h = elim ((exact.blocks a h.0).0 h.1) [
    | inl c ↦ h.2 (c.0, c.1, c.3)
    | inr held ↦ both_ways (state.held a) (free a) held
  ]
  not_soft (LostNumber i) soft h =
      sound_mode geo (state.view.inode i) (sound_parts geo state.view i (reachable_sound geo state.view i (reachable i ((exact.numbers i h.0).0 h.1)))).1 h.2
  not_soft _ soft h = cc

  finds_nothing : (f : Finding) → IsFinding geo state.view f → ⊥
  finds_nothing f h = not_soft f (soft_from_rules geo state.view b.rules f h) h

  pub exact_findings : AreFindings geo state.view []
  unfolding IsStrictlySortedBy
  exact_findings = record {
    in_order = tt;
    exactly = λ f. ((λ h. absurd (Contains-none f h)), (λ h. absurd (finds_nothing f h)));
  }
