-- A list is the same however many links are looked at, and whatever newer links there are.
use Rattle.std.proofs.Common.{◌≡◌, ℕ, zero, suc, ◌+◌, ◌≤◌, ◌-◌, List, [], ◌∷◌, ◌++◌, length, refl, ap, ◌∙◌, arith}
use Rattle.std.proofs.lemmas.List.{get_or_append_left}
use Rattle.std.proofs.Math.Seq.{get_or-append_seam}
use Rattle.lists.specs.declared.chains.Link.{Link}
use Rattle.lists.specs.Chains.{link_at, AreOrdered, walk}

-- one more link looked at changes nothing
one_more : (links : List Link) → AreOrdered links → (steps chain : ℕ) → chain ≤ steps → chain ≤ length links → walk links (suc steps) chain ≡ walk links steps chain
one_more links ordered zero zero few there = refl
one_more links ordered zero (suc k) few there = absurd (omega (arith, few))
one_more links ordered (suc steps) zero few there = refl
one_more links ordered (suc steps) (suc k) few there =
    let o = ordered k (omega (arith, there)) in
    ap (λ ns. (link_at links k).number ∷ ns) (one_more links ordered steps (link_at links k).rest (omega (arith, o, few)) (omega (arith, o, there)))

more : (links : List Link) → AreOrdered links → (extra steps chain : ℕ) → steps ≡ extra + chain → chain ≤ length links → walk links steps chain ≡ walk links chain chain
more links ordered zero steps chain e there = ap (λ n. walk links n chain) (let z : steps ≡ chain = omega (arith, e) in z)
more links ordered (suc extra) steps chain e there =
    ap (λ n. walk links n chain) (let z : steps ≡ suc (extra + chain) = omega (arith, e) in z)
    ∙ one_more links ordered (extra + chain) chain (omega arith) there ∙ more links ordered extra (extra + chain) chain refl there

pub enough : (links : List Link) → AreOrdered links → (steps chain : ℕ) → chain ≤ steps → chain ≤ length links → walk links steps chain ≡ walk links chain chain
enough links ordered steps chain few there = more links ordered (steps - chain) steps chain (let e : steps ≡ (steps - chain) + chain = omega (arith, few) in e) there

-- newer links
pub newer : (links : List Link) (link : Link) → AreOrdered links → (steps chain : ℕ) → chain ≤ length links → walk (links ++ link ∷ []) steps chain ≡ walk links steps chain
newer links link ordered zero chain there = refl
newer links link ordered (suc steps) zero there = refl
newer links link ordered (suc steps) (suc k) there =
    let same : link_at (links ++ link ∷ []) k ≡ link_at links k = get_or_append_left links (link ∷ []) (record { number = 0; rest = 0 }) k (omega (arith, there)) in
    let o = ordered k (omega (arith, there)) in
    ap (λ (l : Link). l.number ∷ walk (links ++ link ∷ []) steps l.rest) same
    ∙ ap (λ ns. (link_at links k).number ∷ ns) (newer links link ordered steps (link_at links k).rest (omega (arith, o, there)))

-- the newest link begins its list
pub newest : (links : List Link) (link : Link) → AreOrdered links → link.rest ≤ length links
    → walk (links ++ link ∷ []) (length links + 1) (length links + 1) ≡ link.number ∷ walk links link.rest link.rest
newest links link ordered there =
    let e : length links + 1 ≡ suc (length links) = omega arith in
    ap (λ n. walk (links ++ link ∷ []) n n) e
    ∙ ap (λ (l : Link). l.number ∷ walk (links ++ link ∷ []) (length links) l.rest) (get_or-append_seam links link [] (record { number = 0; rest = 0 }))
    ∙ ap (λ ns. link.number ∷ ns) (newer links link ordered (length links) link.rest there ∙ enough links ordered (length links) link.rest there there)
