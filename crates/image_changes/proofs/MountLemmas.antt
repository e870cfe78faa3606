-- How a mount is refused whose image was loaded before.
use Rattle.std.proofs.Common.{◌≡◌, ◌∙◌, ◌⊎◌, inl, inr, ℕ, List, Result, Ok, Err, IfErr, IfOk, sym, subst}
use Rattle.findings.proofs.Soft.{rule_where_obeyed}
use Rattle.frozen.specs.Kept.{IsKeptOf, Kept, frozen_view}
use Rattle.frozen.specs.Loading.{LoadRefuses}
use Rattle.layout.specs.declared.refusal.Refusal.{Refusal}
use Rattle.layout.specs.declared.refusal.Refusal.TheVariants.{Damaged, Device, NoMemory}
use Rattle.model.specs.Image.{image_view}
use Rattle.model.specs.Rules.{IsLeastBroken, ObeysRules}
use Rattle.model.proofs.Same.{same_rules}
use Rattle.rules.specs.Loading.{BreaksRule, LoadSoundRefuses}

-- what follows from two clauses on a result
pub of_both : {T E : Type 0} (r : Result T E) (P Q R : T → Type 0) → ((t : T) → P t → Q t → R t) → IfOk r P → IfOk r Q → IfOk r R
of_both (Ok t) P Q R f p q = f t p q
of_both (Err e) P Q R f p q = tt

pub both_refused : {T E : Type 0} (r : Result T E) (P Q R : E → Type 0) → ((e : E) → P e → Q e → R e) → IfErr r P → IfErr r Q → IfErr r R
both_refused (Ok t) P Q R f p q = tt
both_refused (Err e) P Q R f p q = f e p q

pub of_three : {T E : Type 0} (r : Result T E) (P Q R S : E → Type 0) → ((e : E) → P e → Q e → R e → S e) → IfErr r P → IfErr r Q → IfErr r R → IfErr r S
of_three (Ok t) P Q R S f p q s = tt
of_three (Err e) P Q R S f p q s = f e p q s

-- what was loaded breaks a rule, and so does its image
pub image_breaks : (kept : Kept) (image : List (List ℕ)) → IsKeptOf kept image → (ObeysRules kept.geometry (frozen_view kept) → ⊥) → BreaksRule image
image_breaks kept image of broken = record {
  geometry = kept.geometry;
  is_image = of.is_image;
  breaks = λ obeys. broken ((same_rules kept.geometry (frozen_view kept) (image_view kept.geometry image) of.metadata).1 obeys);
}

pub least_breaks : (kept : Kept) (image : List (List ℕ)) (rule : ℕ) → IsKeptOf kept image → IsLeastBroken kept.geometry (frozen_view kept) rule → BreaksRule image
least_breaks kept image rule of least = image_breaks kept image of (λ obeys. least.broken (rule_where_obeyed kept.geometry (frozen_view kept) obeys rule))

-- an image that cannot be loaded cannot be mounted
pub load_refused : (honest : Type 0) (image : List (List ℕ)) (r : Refusal) → LoadRefuses honest image r → LoadSoundRefuses honest image r
load_refused honest image Damaged refuses = absurd refuses
load_refused honest image _ refuses = refuses

-- of one that was loaded, want of memory and a broken rule are told alone
pub sound_refused : (honest : Type 0) (image : List (List ℕ)) (r : Refusal) → (r ≡ NoMemory) ⊎ ((r ≡ Damaged) × (honest → BreaksRule image)) → LoadSoundRefuses honest image r × (r ≡ Device → ⊥)
sound_refused honest image r (inl memory) = (subst (LoadSoundRefuses honest image) (sym memory) tt, λ is. let bad : NoMemory ≡ Device = sym memory ∙ is in cc)
sound_refused honest image r (inr damaged) = (subst (LoadSoundRefuses honest image) (sym damaged.0) damaged.1, λ is. let bad : Damaged ≡ Device = sym damaged.0 ∙ is in cc)
