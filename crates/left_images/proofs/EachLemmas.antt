-- Each way to lose loose writes has its number, and what is told is no better than what was said of any image.
use Rattle.std.proofs.Common.{◌≡◌, ℕ, zero, suc, ◌+◌, ◌*◌, ◌/◌, ◌%◌, ◌<◌, ◌≤◌, ◌^◌, Bool, true, false, inl, inr, List, [], ◌∷◌, length, take, refl, sym, ap, ap₂, ◌∙◌, subst, arith}
use Rattle.std.proofs.lemmas.Bool.{eq-eqb, ne_eqb}
use Rattle.std.proofs.lemmas.Bool.Decides.{eqb_tells}
use Rattle.std.proofs.Math.Nat.{pow-suc}
use Rattle.device.specs.Cached.{Cache, held_by, left_of}
use Rattle.device.specs.Media.{MayBeLeft, chosen}
use Rattle.device.specs.Writes.{image_after}
use Rattle.findings.specs.declared.verdicts.Verdict.{Verdict}
use Rattle.findings.specs.declared.verdicts.Verdict.TheVariants.{Clean, Soft, Damaged}
use Rattle.left_images.specs.Choices.{IsChoice, digits}
use Rattle.left_images.specs.Judged.{AreJudged, IsCut, IsNoWorse, Judged, loose_at, worse, worst_of}
use Rattle.left_images.specs.declared.judging.Cut.{Cut}

-- ---- numbers of choices

-- the number with these digits, and half of it
abbrev number_of : List Bool → ℕ
number_of [] = 0
number_of (true ∷ ps) = number_of ps * 2 + 1
number_of (false ∷ ps) = number_of ps * 2

number_below : (ps : List Bool) → number_of ps < 2 ^ length ps
number_below [] = omega arith
number_below (true ∷ ps) = omega (arith, number_below ps, pow-suc 2 (length ps))
number_below (false ∷ ps) = omega (arith, number_below ps, pow-suc 2 (length ps))

digits-number_of : (ps : List Bool) → digits (length ps) (number_of ps) ≡ ps
digits-number_of [] = refl
digits-number_of (true ∷ ps) =
    ap₂ (λ p qs. p ∷ qs) (eq-eqb ((number_of ps * 2 + 1) % 2) 1 (omega arith)) (ap (digits (length ps)) (let e : (number_of ps * 2 + 1) / 2 ≡ number_of ps = omega arith in e) ∙ digits-number_of ps)
digits-number_of (false ∷ ps) =
    ap₂ (λ p qs. p ∷ qs) (ne_eqb ((number_of ps * 2) % 2) 1 (λ odd. omega (arith, odd))) (ap (digits (length ps)) (let e : number_of ps * 2 / 2 ≡ number_of ps = omega arith in e) ∙ digits-number_of ps)

-- so many picks: what has none is lost
abbrev padded : ℕ → List Bool → List Bool
padded zero ps = []
padded (suc n) [] = false ∷ padded n []
padded (suc n) (p ∷ ps) = p ∷ padded n ps

length-padded : (n : ℕ) (ps : List Bool) → length (padded n ps) ≡ n
length-padded zero ps = refl
length-padded (suc n) [] = ap suc (length-padded n [])
length-padded (suc n) (p ∷ ps) = ap suc (length-padded n ps)

none_chosen : {A : Type 0} (xs : List A) → chosen xs [] ≡ []
none_chosen [] = refl
none_chosen (x ∷ xs) = refl

chosen-padded : {A : Type 0} (xs : List A) (ps : List Bool) → chosen xs (padded (length xs) ps) ≡ chosen xs ps
chosen-padded [] ps = refl
chosen-padded (x ∷ xs) [] = chosen-padded xs [] ∙ none_chosen xs
chosen-padded (x ∷ xs) (true ∷ ps) = ap (λ ys. x ∷ ys) (chosen-padded xs ps)
chosen-padded (x ∷ xs) (false ∷ ps) = chosen-padded xs ps

-- ---- the worst

worse_assoc : (u v w : Verdict) → worse u (worse v w) ≡ worse (worse u v) w
worse_assoc Damaged v w = refl
worse_assoc Clean v w = refl
worse_assoc Soft Damaged w = refl
worse_assoc Soft Clean w = refl
worse_assoc Soft Soft Damaged = refl
worse_assoc Soft Soft Soft = refl
worse_assoc Soft Soft Clean = refl

worse_second : (u v : Verdict) → worse v (worse u v) ≡ worse u v
worse_second Damaged Damaged = refl
worse_second Damaged Soft = refl
worse_second Damaged Clean = refl
worse_second Soft Damaged = refl
worse_second Soft Soft = refl
worse_second Soft Clean = refl
worse_second Clean Damaged = refl
worse_second Clean Soft = refl
worse_second Clean Clean = refl

module _ (tells : List (List ℕ) → Verdict → Type 0) (cache : Cache) (steps most : ℕ) where
  -- the choice of each number was made
  chosen_at : (js : List Judged) → AreJudged tells cache steps most js → (k : ℕ) → k < length js → (j : Judged) × IsChoice (loose_at cache steps) most k j.0 × tells (left_of cache steps j.0) j.1 × (worse j.1 (worst_of js) ≡ worst_of js)
  chosen_at [] are k low = absurd (omega (arith, low))
  chosen_at (j ∷ js) are k low =
      elim (eqb_tells k (length js)) [
        | inl e ↦ (j, subst (λ n. IsChoice (loose_at cache steps) most n j.0) (sym e.1) are.0.0, are.0.1, worse_second (worst_of js) j.1)
        | inr e ↦
            let found = chosen_at js are.1 k (omega (arith, low, e.1)) in
            (found.0, found.1, found.2, worse_assoc found.0.1 (worst_of js) j.1 ∙ ap (λ v. worse v j.1) found.3)
      ]

  pub each_is_judged : (cut : Cut) → IsCut tells cache steps most cut → 2 ^ cut.loose ≤ most → (image : List (List ℕ)) → MayBeLeft (held_by cache.first (take steps cache.steps)).now image → IsNoWorse tells image cut.worst
  each_is_judged cut is few image may =
      let medium = (held_by cache.first (take steps cache.steps)).now in
      let ps = padded (length medium.loose) may.0 in
      let many : length ps ≡ loose_at cache steps = length-padded (length medium.loose) may.0 in
      let same : length ps ≡ cut.loose = many ∙ sym is.loose in
      let below : number_of ps < length is.worst.judged = subst (λ n. number_of ps < n) (sym (is.worst.as_many ∙ is.each few)) (subst (λ n. number_of ps < 2 ^ n) same (number_below ps)) in
      let found = chosen_at is.worst.judged is.worst.are (number_of ps) below in
      let picks : found.0.0 ≡ ps = found.1.each (subst (λ n. 2 ^ n ≤ most) is.loose few) ∙ ap (λ n. digits n (number_of ps)) (sym many) ∙ digits-number_of ps in
      let left : left_of cache steps found.0.0 ≡ image = ap (λ qs. image_after medium.durable (chosen medium.loose qs)) picks ∙ ap (image_after medium.durable) (chosen-padded medium.loose may.0) ∙ sym may.1 in
      (found.0.1, subst (λ i. tells i found.0.1) left found.2, subst (λ w. worse found.0.1 w ≡ w) (sym is.worst.is) found.3)
