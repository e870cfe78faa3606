-- What is found of one number.
use Rattle.std.proofs.Common.{◌≡◌, ◌/◌, ◌%◌, ℕ, Bool, true, false, ◌&&◌, eqb, List, Option, Some, ◌↔◌, refl, sym, ap, ◌∙◌, subst, IsTrue}
use Rattle.std.proofs.lemmas.Bool.{eq-eqb, eqb-true, eqb-false, ne_eqb}
use Rattle.std.proofs.lemmas.Option.{none-some, same_Some}
use Rattle.findings.specs.declared.finding.Finding.{Finding}
use Rattle.findings.specs.declared.finding.Finding.TheVariants.{LostNumber, UnmarkedInode}
use Rattle.model.specs.Layout.{Geometry, is_number, group_block}
use Rattle.model.specs.View.{View, view_of, map_bit}
use Rattle.phase_maps.specs.NumberFindings.{IsFoundOfNumbers}
use Rattle.phase_maps.specs.Walks.{number_finding}

-- the bit of a number that is looked at
pub number_marked_at : (geo : Geometry) (block : ℕ → List ℕ) (i : ℕ) → IsTrue (is_number geo i)
    → (view_of geo block).number_marked i ≡ map_bit (block (group_block geo (i / geo.inodes))) 32 (i % geo.inodes)
number_marked_at geo block i t = ap (λ b. b && map_bit (block (group_block geo (i / geo.inodes))) 32 (i % geo.inodes)) t

module _ (geo : Geometry) (view : View) (i : ℕ) (t : IsTrue (is_number geo i)) where
  abbrev Found : Finding → Type 0
  Found = IsFoundOfNumbers geo view (λ j. eqb j i)

  finding_is : (marked free : Bool) → marked ≡ view.number_marked i → free ≡ eqb (view.inode i).mode 0 → (f : Finding) → number_finding marked free i ≡ Some f → Found f
  finding_is true true m z f e = subst (λ g. Found g) (same_Some (LostNumber i) f e) (eq-eqb i i refl, (t, sym m, eqb-true (view.inode i).mode 0 (sym z)))
  finding_is true false m z f e = absurd (none-some f e)
  finding_is false true m z f e = absurd (none-some f e)
  finding_is false false m z f e = subst (λ g. Found g) (same_Some (UnmarkedInode i) f e) (eq-eqb i i refl, (t, eqb-false (view.inode i).mode 0 (sym z), sym m))

  is_finding : (marked free : Bool) → marked ≡ view.number_marked i → free ≡ eqb (view.inode i).mode 0 → (f : Finding) → Found f → number_finding marked free i ≡ Some f
  is_finding marked free m z (LostNumber j) h =
      let e : j ≡ i = eqb-true j i h.0 in
      let marks : marked ≡ true = m ∙ sym (ap view.number_marked e) ∙ h.1.1 in
      let frees : free ≡ true = z ∙ eq-eqb (view.inode i).mode 0 (ap (λ n. (view.inode n).mode) (sym e) ∙ h.1.2) in
      ap (λ b. number_finding b free i) marks ∙ ap (λ b. number_finding true b i) frees ∙ ap (λ n. Some (LostNumber n)) (sym e)
  is_finding marked free m z (UnmarkedInode j) h =
      let e : j ≡ i = eqb-true j i h.0 in
      let marks : marked ≡ false = m ∙ sym (ap view.number_marked e) ∙ h.1.2 in
      let frees : free ≡ false = z ∙ ne_eqb (view.inode i).mode 0 (λ zero. h.1.1 (ap (λ n. (view.inode n).mode) e ∙ zero)) in
      ap (λ b. number_finding b free i) marks ∙ ap (λ b. number_finding false b i) frees ∙ ap (λ n. Some (UnmarkedInode n)) (sym e)
  is_finding marked free m z _ h = absurd cc

  pub number_found : (marked free : Bool) (o : Option Finding) → o ≡ number_finding marked free i → marked ≡ view.number_marked i → free ≡ eqb (view.inode i).mode 0 → (f : Finding) → (o ≡ Some f) ↔ Found f
  number_found marked free o is m z f = (
    (λ e. finding_is marked free m z f (sym is ∙ e)),
    (λ h. is ∙ is_finding marked free m z f h),
  )
