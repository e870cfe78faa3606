-- Choices of loose writes: how many there are, and the digits of their numbers.
use Rattle.std.proofs.Common.{◌≡◌, ℕ, zero, suc, ◌+◌, ◌-◌, ◌*◌, ◌<◌, ◌≤◌, ◌/◌, ◌%◌, ◌==◌, ◌^◌, Bool, List, [], ◌∷◌, ◌++◌, sym, ap, ◌∙◌, append-nil, append_assoc, arith}
use Rattle.std.proofs.Math.Nat.{pow-suc}
use Rattle.std.proofs.Math.Pow.{pow_mono}
use Rattle.left_images.specs.Choices.{digits}

-- twice as many ways
pub twice_as_many : (ways at : ℕ) → ways ≡ 2 ^ at → ways * 2 ≡ 2 ^ (at + 1)
twice_as_many ways at is = ap (λ n. n * 2) is ∙ sym (pow-suc 2 at) ∙ ap (λ k. 2 ^ k) (let e : suc at ≡ at + 1 = omega arith in e)

-- are too many
pub too_many : (loose most ways at : ℕ) → at < loose → ways ≡ 2 ^ at → most / 2 < ways → most < 2 ^ loose
too_many loose most ways at low is big =
    let more : 2 ^ (at + 1) ≤ 2 ^ loose = pow_mono {i = at + 1} {j = loose} (omega (arith, low)) in
    omega (arith, more, big, twice_as_many ways at is)

-- one more digit
pub digits_more : (picks more : List Bool) (count at rest number : ℕ) → at < count → more ≡ picks ++ (rest % 2 == 1) ∷ [] → picks ++ digits (count - at) rest ≡ digits count number → more ++ digits (count - (at + 1)) (rest / 2) ≡ digits count number
digits_more picks more count at rest number low one is =
    let left : suc (count - (at + 1)) ≡ count - at = omega (arith, low) in
    ap (λ ps. ps ++ digits (count - (at + 1)) (rest / 2)) one ∙ append_assoc picks ((rest % 2 == 1) ∷ []) (digits (count - (at + 1)) (rest / 2)) ∙ ap (λ k. picks ++ digits k rest) left ∙ is

-- all digits
pub digits_done : (picks : List Bool) (count at rest number : ℕ) → count ≤ at → picks ++ digits (count - at) rest ≡ digits count number → picks ≡ digits count number
digits_done picks count at rest number all is =
    let none : zero ≡ count - at = omega (arith, all) in
    sym (append-nil picks) ∙ ap (λ k. picks ++ digits k rest) none ∙ is
