-- What the repairs are where each finding is soft.
use Rattle.std.proofs.Common.{◌≡◌, suc, true, false, List, [], ◌∷◌, length, refl, ap, ◌∙◌}
use Rattle.std.specs.List.{filter_map, list_all}
use Rattle.std.proofs.lemmas.Bool.{and_parts}
use Rattle.findings.specs.declared.finding.Finding.{Finding}
use Rattle.findings.specs.declared.finding.Finding.TheVariants.{LostInode, CountHigh, LostBlock, LostNumber}
use Rattle.findings.specs.Findings.{is_soft}
use Rattle.findings.specs.Report.{repair_of, repairs_of}

pub repairs_where_soft : (fs : List Finding) → list_all is_soft fs ≡ true → repairs_of fs ≡ filter_map repair_of fs
repairs_where_soft fs h = rw h

pub repairs_where_damaged : (fs : List Finding) → list_all is_soft fs ≡ false → repairs_of fs ≡ []
repairs_where_damaged fs h = rw h

one_repair : (f : Finding) (fs : List Finding) → is_soft f ≡ true → length (filter_map repair_of (f ∷ fs)) ≡ suc (length (filter_map repair_of fs))
one_repair (LostInode i) fs h = refl
one_repair (CountHigh i l e) fs h = refl
one_repair (LostBlock a) fs h = refl
one_repair (LostNumber i) fs h = refl
one_repair _ fs h = absurd cc

filtered_length : (fs : List Finding) → list_all is_soft fs ≡ true → length (filter_map repair_of fs) ≡ length fs
filtered_length [] h = refl
filtered_length (f ∷ fs) h =
    let parts = and_parts (is_soft f) (list_all is_soft fs) h in
    one_repair f fs parts.0 ∙ ap suc (filtered_length fs parts.1)

-- as many repairs as findings
pub length-repairs_where_soft : (fs : List Finding) → list_all is_soft fs ≡ true → length (repairs_of fs) ≡ length fs
length-repairs_where_soft fs h = ap length (repairs_where_soft fs h) ∙ filtered_length fs h
