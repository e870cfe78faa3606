-- What was said of images that a power cut may leave.
use Rattle.std.specs.Prelude.{◌≡◌, ℕ, suc, ◌<◌, ◌≤◌, ◌^◌, Bool, List, [], ◌∷◌, length, take}
use Rattle.device.specs.Cached.{Cache, held_by, left_of}
use Rattle.findings.specs.declared.verdicts.Verdict.{Verdict}
use Rattle.findings.specs.declared.verdicts.Verdict.TheVariants.{Clean, Soft, Damaged}
use Rattle.left_images.specs.Choices.{IsChoice}
use Rattle.left_images.specs.declared.judging.Cut.{Cut}

-- the worse of two verdicts
abbrev pub worse : Verdict → Verdict → Verdict
worse Damaged v = Damaged
worse Soft Damaged = Damaged
worse Soft Soft = Soft
worse Soft Clean = Soft
worse Clean v = v

-- a choice of writes, and what was said of the image that is left by them
abbrev pub Judged : Type 0
Judged = List Bool × Verdict

-- the worst of what was said
abbrev pub worst_of : List Judged → Verdict
worst_of [] = Clean
worst_of (j ∷ js) = worse (worst_of js) j.1

-- how many writes were loose after so many steps
abbrev pub loose_at : Cache → ℕ → ℕ
loose_at cache steps = length (held_by cache.first (take steps cache.steps)).now.loose

-- these choices were made after so many steps, the last first, and this was said of what each leaves
abbrev pub AreJudged : (List (List ℕ) → Verdict → Type 0) → Cache → (steps most : ℕ) → List Judged → Type 0
AreJudged tells cache steps most [] = Unit {0}
AreJudged tells cache steps most (j ∷ js) = (IsChoice (loose_at cache steps) most (length js) j.0 × tells (left_of cache steps j.0) j.1) × AreJudged tells cache steps most js

-- so many choices were made, and this is the worst of what was said
pub record IsWorst (tells : List (List ℕ) → Verdict → Type 0) (cache : Cache) (steps most count : ℕ) (worst : Verdict) : Type 0 where
  pub judged : List Judged
  pub as_many : length judged ≡ count
  pub are : AreJudged tells cache steps most judged
  pub is : worst ≡ worst_of judged

-- what a power cut may leave after so many steps: each way to lose loose writes is tried where there are no more than that
pub record IsCut (tells : List (List ℕ) → Verdict → Type 0) (cache : Cache) (steps most : ℕ) (cut : Cut) : Type 0 where
  pub loose : cut.loose ≡ loose_at cache steps
  pub each : 2 ^ cut.loose ≤ most → cut.images ≡ 2 ^ cut.loose
  pub some : most < 2 ^ cut.loose → cut.images ≡ most
  pub worst : IsWorst tells cache steps most cut.images cut.worst

-- the same at each moment from this one on
abbrev pub AreCutsFrom : (List (List ℕ) → Verdict → Type 0) → Cache → (most steps : ℕ) → List Cut → Type 0
AreCutsFrom tells cache most steps [] = Unit {0}
AreCutsFrom tells cache most steps (c ∷ cs) = IsCut tells cache steps most c × AreCutsFrom tells cache most (suc steps) cs

-- at each moment: before the first step, and after each
pub record AreCuts (tells : List (List ℕ) → Verdict → Type 0) (cache : Cache) (most : ℕ) (cs : List Cut) : Type 0 where
  pub as_many : length cs ≡ suc (length cache.steps)
  pub are : AreCutsFrom tells cache most 0 cs

-- it was said of this image that it is this bad or better
abbrev pub IsNoWorse : (List (List ℕ) → Verdict → Type 0) → List (List ℕ) → Verdict → Type 0
IsNoWorse tells image worst = (v : Verdict) × tells image v × (worse v worst ≡ worst)
