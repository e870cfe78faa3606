-- The repairs of a sorted list of soft findings stand where their findings do, each once.
use Rattle.std.proofs.Common.{◌≡◌, ◌<◌, ◌-◌, ℕ, zero, suc, true, false, List, [], ◌∷◌, length, get_or, Less, refl, sym, ap, ◌∙◌, subst, arith, Some, None, Contains}
use Rattle.std.specs.Prelude.{slice_get}
use Rattle.std.specs.List.{filter_map, list_all}
use Rattle.std.specs.Cmp.{IsTotalOrder, on_total}
use Rattle.std.specs.List.Sorted.{IsStrictlySortedBy}
use Rattle.std.proofs.lemmas.Bool.{and_parts, both_ways}
use Rattle.std.proofs.lemmas.Cmp.{nat_list_cmp_total}
use Rattle.std.proofs.lemmas.Map.Keys.{sorted_tail}
use Rattle.std.proofs.lemmas.Map.Views.{All-after_first}
use Rattle.std.proofs.lemmas.List.Elements.{All-contains}
use Rattle.std.proofs.lemmas.Option.{slice_get_within, get_or_from_slice_get}
use Rattle.findings.specs.declared.finding.Finding.{Finding}
use Rattle.findings.specs.declared.finding.Finding.TheVariants.{LostInode, CountHigh, LostBlock, LostNumber}
use Rattle.findings.specs.declared.repair.Repair.{Repair}
use Rattle.findings.specs.declared.repair.Repair.TheVariants.{DropInode, LowerCount, FreeBlock, FreeNumber}
use Rattle.findings.specs.Findings.{is_soft, finding_cmp, finding_key}
use Rattle.findings.specs.Report.{repair_of}
use Rattle.findings.proofs.Sorted.{not_both_less}

-- ---- places

pub contains_at : {X : Type 0} (xs : List X) (k : ℕ) (x : X) → slice_get xs k ≡ Some x → Contains xs x
contains_at xs k x e = (k, slice_get_within xs k x e, get_or_from_slice_get xs k x x e)

pub found_at : {X : Type 0} (xs : List X) (k : ℕ) (x : X) → k < length xs → get_or xs k x ≡ x → slice_get xs k ≡ Some x
found_at [] k x b e = absurd (omega (arith, b))
found_at (y ∷ xs) zero x b e = ap Some e
found_at (y ∷ xs) (suc k) x b e = found_at xs k x (omega (arith, b)) e

pub finding_total : IsTotalOrder finding_cmp
finding_total = on_total finding_key nat_list_cmp_total

same_some : {X : Type 0} (x y : X) → Some x ≡ Some y → x ≡ y
same_some x y e = cc

first_below : (x : Finding) (xs : List Finding) (y : Finding) → IsStrictlySortedBy finding_cmp (x ∷ xs) → Contains xs y → finding_cmp x y ≡ Less
first_below x xs y s h = All-contains (λ q. finding_cmp x q ≡ Less) xs y (All-after_first finding_cmp x xs s) h

-- a strictly sorted list has each element at one place
pub at_once : (fs : List Finding) → IsStrictlySortedBy finding_cmp fs → (j k : ℕ) (f : Finding) → slice_get fs j ≡ Some f → slice_get fs k ≡ Some f → j ≡ k
at_once [] s j k f p q = absurd (let bad : None ≡ Some f = p in cc)
at_once (g ∷ fs) s zero zero f p q = refl
at_once (g ∷ fs) s zero (suc k) f p q =
    let less = first_below g fs f s (contains_at fs k f q) in
    let same : finding_cmp f f ≡ Less = subst (λ x. finding_cmp x f ≡ Less) (same_some g f p) less in
    absurd (not_both_less finding_cmp finding_total f f same same)
at_once (g ∷ fs) s (suc j) zero f p q =
    let less = first_below g fs f s (contains_at fs j f p) in
    let same : finding_cmp f f ≡ Less = subst (λ x. finding_cmp x f ≡ Less) (same_some g f q) less in
    absurd (not_both_less finding_cmp finding_total f f same same)
at_once (g ∷ fs) s (suc j) (suc k) f p q = ap suc (at_once fs (sorted_tail finding_cmp g fs s) j k f p q)

-- ---- repairs

pub soft_repair : (f : Finding) → is_soft f ≡ true → (r : Repair) × (repair_of f ≡ Some r) × ((fs : List Finding) → filter_map repair_of (f ∷ fs) ≡ r ∷ filter_map repair_of fs)
soft_repair (LostInode i) h = (DropInode i, refl, λ fs. refl)
soft_repair (CountHigh i l e) h = (LowerCount i (l - e), refl, λ fs. refl)
soft_repair (LostBlock a) h = (FreeBlock a, refl, λ fs. refl)
soft_repair (LostNumber i) h = (FreeNumber i, refl, λ fs. refl)
soft_repair _ h = absurd (both_ways false refl h)

-- a repair stands where its finding does
pub finding_of : (fs : List Finding) → list_all is_soft fs ≡ true → (k : ℕ) (r : Repair) → slice_get (filter_map repair_of fs) k ≡ Some r → (f : Finding) × (slice_get fs k ≡ Some f) × (repair_of f ≡ Some r)
finding_of [] h k r e = absurd (let bad : None ≡ Some r = e in cc)
finding_of (f ∷ fs) h zero r e =
    let s = soft_repair f (and_parts (is_soft f) (list_all is_soft fs) h).0 in
    (f, refl, s.1 ∙ sym (ap (λ rs. slice_get rs 0) (s.2 fs)) ∙ e)
finding_of (f ∷ fs) h (suc k) r e =
    let parts = and_parts (is_soft f) (list_all is_soft fs) h in
    let s = soft_repair f parts.0 in
    finding_of fs parts.1 k r (sym (ap (λ rs. slice_get rs (suc k)) (s.2 fs)) ∙ e)

pub repair_at : (fs : List Finding) → list_all is_soft fs ≡ true → (k : ℕ) (f : Finding) → slice_get fs k ≡ Some f → (r : Repair) → repair_of f ≡ Some r → slice_get (filter_map repair_of fs) k ≡ Some r
repair_at [] h k f e r q = absurd (let bad : None ≡ Some f = e in cc)
repair_at (g ∷ fs) h zero f e r q =
    let s = soft_repair g (and_parts (is_soft g) (list_all is_soft fs) h).0 in
    ap (λ rs. slice_get rs 0) (s.2 fs) ∙ sym s.1 ∙ ap repair_of (same_some g f e) ∙ q
repair_at (g ∷ fs) h (suc k) f e r q =
    let parts = and_parts (is_soft g) (list_all is_soft fs) h in
    let s = soft_repair g parts.0 in
    ap (λ rs. slice_get rs (suc k)) (s.2 fs) ∙ repair_at fs parts.1 k f e r q
