-- What the test of two records field by field says.
use Rattle.std.proofs.Common.{◌≡◌, Bool, ◌&&◌, eqb, ◌↔◌, IsTrue, sym, ap, ◌∙◌}
use Rattle.std.specs.Cmp.Lexicographic.{pointwise}
use Rattle.std.proofs.lemmas.Bool.{and_parts, and_from, eq-eqb, eqb-true}
use Rattle.std.proofs.lemmas.Slice.Eq.{bytes_eq-Decides}
use Rattle.model.specs.View.{Inode}

-- two records are the same where their fields are
same_record : (a b : Inode) → a.mode ≡ b.mode → a.links ≡ b.links → a.size ≡ b.size → a.direct ≡ b.direct → a.indirect ≡ b.indirect → a.double ≡ b.double → a.attributes ≡ b.attributes → a ≡ b
same_record a b mode links size direct indirect double attributes =
    λ i. record { mode = mode i; links = links i; size = size i; direct = direct i; indirect = indirect i; double = double i; attributes = attributes i }

pub record_told : (a b : Inode) (told : Bool)
    → told ≡ (eqb a.mode b.mode && (eqb a.links b.links && (eqb a.size b.size && (pointwise eqb a.direct b.direct && (eqb a.indirect b.indirect && (eqb a.double b.double && pointwise eqb a.attributes b.attributes))))))
    → IsTrue told ↔ (a ≡ b)
record_told a b told tests = (
  (λ yes.
      let from_mode = and_parts (eqb a.mode b.mode) (eqb a.links b.links && (eqb a.size b.size && (pointwise eqb a.direct b.direct && (eqb a.indirect b.indirect && (eqb a.double b.double && pointwise eqb a.attributes b.attributes))))) (sym tests ∙ yes) in
      let from_links = and_parts (eqb a.links b.links) (eqb a.size b.size && (pointwise eqb a.direct b.direct && (eqb a.indirect b.indirect && (eqb a.double b.double && pointwise eqb a.attributes b.attributes)))) from_mode.1 in
      let from_size = and_parts (eqb a.size b.size) (pointwise eqb a.direct b.direct && (eqb a.indirect b.indirect && (eqb a.double b.double && pointwise eqb a.attributes b.attributes))) from_links.1 in
      let from_direct = and_parts (pointwise eqb a.direct b.direct) (eqb a.indirect b.indirect && (eqb a.double b.double && pointwise eqb a.attributes b.attributes)) from_size.1 in
      let from_indirect = and_parts (eqb a.indirect b.indirect) (eqb a.double b.double && pointwise eqb a.attributes b.attributes) from_direct.1 in
      let from_double = and_parts (eqb a.double b.double) (pointwise eqb a.attributes b.attributes) from_indirect.1 in
      same_record a b (eqb-true a.mode b.mode from_mode.0) (eqb-true a.links b.links from_links.0) (eqb-true a.size b.size from_size.0)
      ((bytes_eq-Decides a.direct b.direct).0 from_direct.0) (eqb-true a.indirect b.indirect from_indirect.0) (eqb-true a.double b.double from_double.0) ((bytes_eq-Decides a.attributes b.attributes).0 from_double.1)),
  (λ same.
      tests
      ∙ and_from (eqb a.mode b.mode) (eqb a.links b.links && (eqb a.size b.size && (pointwise eqb a.direct b.direct && (eqb a.indirect b.indirect && (eqb a.double b.double && pointwise eqb a.attributes b.attributes))))) (eq-eqb a.mode b.mode (ap (λ (r : Inode). r.mode) same))
      (and_from (eqb a.links b.links) (eqb a.size b.size && (pointwise eqb a.direct b.direct && (eqb a.indirect b.indirect && (eqb a.double b.double && pointwise eqb a.attributes b.attributes)))) (eq-eqb a.links b.links (ap (λ (r : Inode). r.links) same))
      (and_from (eqb a.size b.size) (pointwise eqb a.direct b.direct && (eqb a.indirect b.indirect && (eqb a.double b.double && pointwise eqb a.attributes b.attributes))) (eq-eqb a.size b.size (ap (λ (r : Inode). r.size) same))
      (and_from (pointwise eqb a.direct b.direct) (eqb a.indirect b.indirect && (eqb a.double b.double && pointwise eqb a.attributes b.attributes)) ((bytes_eq-Decides a.direct b.direct).1 (ap (λ (r : Inode). r.direct) same))
      (and_from (eqb a.indirect b.indirect) (eqb a.double b.double && pointwise eqb a.attributes b.attributes) (eq-eqb a.indirect b.indirect (ap (λ (r : Inode). r.indirect) same))
      (and_from (eqb a.double b.double) (pointwise eqb a.attributes b.attributes) (eq-eqb a.double b.double (ap (λ (r : Inode). r.double) same)) ((bytes_eq-Decides a.attributes b.attributes).1 (ap (λ (r : Inode). r.attributes) same)))))))),
)
