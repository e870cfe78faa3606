-- Views with the same metadata have the same findings of the numbers, and there are none on a clean image.
use Rattle.std.proofs.Common.{◌≡◌, ℕ, Bool, List, [], ◌∷◌, refl, sym, ◌∙◌, subst}
use Rattle.findings.specs.declared.finding.Finding.{Finding}
use Rattle.model.specs.Layout.{Geometry}
use Rattle.model.specs.View.{View}
use Rattle.model.specs.Metadata.{SameMetadata}
use Rattle.model.specs.Image.{IsImage, image_view}
use Rattle.findings.specs.Findings.{AreFindings, AreFindingsOf, is_of_numbers}
use Rattle.findings.proofs.SameFindings.{same_findings}
use Rattle.findings.proofs.Sorted.{Contains-here, Contains-none}

pub numbers_there : (geo : Geometry) (v w : View) (fs : List Finding) → SameMetadata geo v w → AreFindingsOf is_of_numbers geo v fs → AreFindingsOf is_of_numbers geo w fs
numbers_there geo v w fs metadata are = record {
  in_order = are.in_order;
  exactly = λ f.
      let same = same_findings geo v w metadata f in (
        λ c. let h = (are.exactly f).0 c in (h.0, same.0 h.1),
        λ h. (are.exactly f).1 (h.0, same.1 h.1),
      );
}

-- where nothing is found, nothing of these kinds is found
pub none_of_kind : (kinds : Finding → Bool) (geo : Geometry) (view : View) (fs : List Finding) → AreFindings geo view [] → AreFindingsOf kinds geo view fs → fs ≡ []
none_of_kind kinds geo view [] none are = refl
none_of_kind kinds geo view (f ∷ fs) none are =
    absurd (Contains-none f ((none.exactly f).1 ((are.exactly f).0 (Contains-here f fs)).1))

-- an image tells one geometry
pub one_geometry : (g h : Geometry) (image : List (List ℕ)) → IsImage g image → IsImage h image → g ≡ h
one_geometry g h image a b =
    let groups : g.groups ≡ h.groups = sym a.first.groups ∙ b.first.groups in
    let blocks : g.blocks ≡ h.blocks = sym a.first.blocks ∙ b.first.blocks in
    let inodes : g.inodes ≡ h.inodes = sym a.first.inodes ∙ b.first.inodes in
    let version : g.version ≡ h.version = sym a.first.version ∙ b.first.version in
    λ i. record { groups = groups i; blocks = blocks i; inodes = inodes i; version = version i }

pub none_on_clean : (kinds : Finding → Bool) (geo : Geometry) (image : List (List ℕ)) (fs : List Finding) → IsImage geo image → AreFindings geo (image_view geo image) []
    → ((other : Geometry) × IsImage other image × AreFindingsOf kinds other (image_view other image) fs) → fs ≡ []
none_on_clean kinds geo image fs is none told =
    let same = one_geometry told.0 geo image told.1 is in
    none_of_kind kinds geo (image_view geo image) fs none (subst (λ g. AreFindingsOf kinds g (image_view g image) fs) same told.2)
