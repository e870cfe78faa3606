-- Loose writes after so many steps, and what was said of moments one after another.
use Rattle.std.proofs.Common.{◌≡◌, ℕ, suc, ◌+◌, ◌<◌, false, Bool, List, [], ◌∷◌, ◌++◌, length, take, sym, ap, ◌∙◌, subst, get_or, length-append, arith}
use Rattle.std.proofs.lemmas.List.{take_more}
use Rattle.device.specs.declared.cache.Step.{Step}
use Rattle.device.specs.declared.cache.Step.TheVariants.{Wrote, Synced}
use Rattle.device.specs.Cached.{Cache, held_by, left_of}
use Rattle.device.specs.Media.{begun, settled_on, step}
use Rattle.device.specs.Memory.{Memory}
use Rattle.device.specs.Writes.{image_after}
use Rattle.device.proofs.MediaLemmas.{held_after-push}
use Rattle.findings.specs.declared.verdicts.Verdict.{Verdict}
use Rattle.left_images.specs.Choices.{IsChoice}
use Rattle.left_images.specs.Judged.{AreCutsFrom, IsCut, IsWorst, loose_at, worse}
use Rattle.left_images.specs.declared.judging.Cut.{Cut}

-- so many writes are loose after these steps, whatever was there before them
abbrev pub AreLoose : List Step → ℕ → Type 0
AreLoose ss n = (first : List (List ℕ)) → length (held_by first ss).now.loose ≡ n

-- and after one more
loose_more : (first : List (List ℕ)) (ss : List Step) (at : ℕ) (d s : Step) → at < length ss → get_or ss at d ≡ s → length (held_by first (take (at + 1) ss)).now.loose ≡ length (step false (held_by first (take at ss)) s).now.loose
loose_more first ss at d s low is =
    ap (λ rs. length (held_by first rs).now.loose) (take_more ss at d low ∙ ap (λ r. take at ss ++ r ∷ []) is)
    ∙ ap (λ h. length h.now.loose) (held_after-push false (begun (settled_on first)) (take at ss) s)

pub one_loose : (ss : List Step) (at n : ℕ) (d : Step) → at < length ss → AreLoose (take at ss) n → (a : ℕ) (block : List ℕ) → get_or ss at d ≡ Wrote a block → AreLoose (take (at + 1) ss) (n + 1)
one_loose ss at n d low are a block is first =
    loose_more first ss at d (Wrote a block) low is ∙ length-append (held_by first (take at ss)).now.loose ((a, block) ∷ []) ∙ ap (λ k. k + 1) (are first)

pub none_loose : (ss : List Step) (at : ℕ) (d : Step) → at < length ss → get_or ss at d ≡ Synced → AreLoose (take (at + 1) ss) 0
none_loose ss at d low is first = loose_more first ss at d Synced low is

-- one choice more
pub one_judged : (tells : List (List ℕ) → Verdict → Type 0) (cache : Cache) (steps most number loose : ℕ) (worst new v : Verdict) (picks made : List Bool) (left : Memory) → IsWorst tells cache steps most number worst → loose_at cache steps ≡ loose → IsChoice loose most number picks
    → left ≡ record { first = left_of cache steps made; writes = []; failures = 0 } → made ≡ picks → tells (image_after left.first left.writes) v → new ≡ worse worst v → IsWorst tells cache steps most (number + 1) new
one_judged tells cache steps most number loose worst new v picks made left before count choice is same told then = record {
  judged = (picks, v) ∷ before.judged;
  as_many = ap suc before.as_many ∙ (let e : suc number ≡ number + 1 = omega arith in e);
  are = (
    (
      subst (λ n. IsChoice n most (length before.judged) picks) (sym count) (subst (λ n. IsChoice loose most n picks) (sym before.as_many) choice),
      subst (λ ps. tells (left_of cache steps ps) v) same (subst (λ (m : Memory). tells (image_after m.first m.writes) v) is told),
    ),
    before.are,
  );
  is = then ∙ ap (λ u. worse u v) before.is;
}

-- one moment more
pub cuts-push : (tells : List (List ℕ) → Verdict → Type 0) (cache : Cache) (most steps : ℕ) (cs : List Cut) (c : Cut) → AreCutsFrom tells cache most steps cs → IsCut tells cache (steps + length cs) most c → AreCutsFrom tells cache most steps (cs ++ c ∷ [])
cuts-push tells cache most steps [] c are is = (subst (λ n. IsCut tells cache n most c) (let e : steps + 0 ≡ steps = omega arith in e) is, tt)
cuts-push tells cache most steps (b ∷ cs) c are is =
    (are.0, cuts-push tells cache most (suc steps) cs c are.1 (subst (λ n. IsCut tells cache n most c) (let e : steps + suc (length cs) ≡ suc steps + length cs = omega arith in e) is))
