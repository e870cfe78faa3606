-- Names compare as equal exactly where their bytes and their digests are the same.
use Rattle.std.proofs.Common.{◌≡◌, ℕ, List, refl, ap, ap₂, ◌∙◌, sym, rules, Ordering, Less, Equal, Greater}
use Rattle.std.specs.Cmp.Lexicographic.{slice_cmp}
use Rattle.std.specs.Ordering.{nat_cmp, ordering_reverse, ordering_then}
use Rattle.std.proofs.lemmas.Cmp.{nat_cmp_total, nat_list_cmp_total}
use Rattle.std.proofs.lemmas.Map.Lookups.{exact_bytes, exact_unsigned}
use Rattle.phase_names.specs.declared.slots.Name.{Name}
use Rattle.phase_names.specs.contracts.slots.NameOrd.TheImpl as derived

-- what a name stands for
abbrev pub shown : Name → ℕ × List ℕ
shown n = (n.digest, n.bytes.now)

both_equal : (a b : Ordering) → ordering_then a b ≡ Equal → (a ≡ Equal) × (b ≡ Equal)
both_equal Less b e = cc
both_equal Equal b e = (refl, e)
both_equal Greater b e = cc

cmp_at : (x y : Name) → derived.ghosts.cmp x y ≡ ordering_then (nat_cmp x.digest y.digest) (slice_cmp nat_cmp x.bytes.now y.bytes.now)
cmp_at x y = search rules

pub same_name : (x y : Name) → derived.ghosts.cmp x y ≡ Equal → shown x ≡ shown y
same_name x y e =
    let h = both_equal (nat_cmp x.digest y.digest) (slice_cmp nat_cmp x.bytes.now y.bytes.now) (sym (cmp_at x y) ∙ e) in
    ap₂ (λ d b. (d, b)) (exact_unsigned x.digest y.digest h.0) (exact_bytes x.bytes.now y.bytes.now h.1)

reverses : (r : Ordering) → r ≡ ordering_reverse r → r ≡ Equal
reverses Less e = cc
reverses Equal e = refl
reverses Greater e = cc

pub alike : (x y : Name) → shown x ≡ shown y → derived.ghosts.cmp x y ≡ Equal
alike x y e =
    let digest : y.digest ≡ x.digest = ap (λ (n : ℕ × List ℕ). n.0) (sym e) in
    let bytes : y.bytes.now ≡ x.bytes.now = ap (λ (n : ℕ × List ℕ). n.1) (sym e) in
    cmp_at x y ∙ ap₂ ordering_then
    (ap (nat_cmp x.digest) digest ∙ reverses (nat_cmp x.digest x.digest) (nat_cmp_total.antisymm x.digest x.digest))
    (ap (slice_cmp nat_cmp x.bytes.now) bytes ∙ reverses (slice_cmp nat_cmp x.bytes.now x.bytes.now) (nat_list_cmp_total.antisymm x.bytes.now x.bytes.now))
