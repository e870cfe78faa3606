-- Which numbers are attributes.
use Rattle.std.proofs.Common.{◌≡◌, ◌<◌, ◌≤◌, ◌||◌, ℕ, Bool, true, false, cond, eqb, ltb, not, eq-eqb, List, Option, Some, None, slice_index, refl, ap, ap₂, ◌∙◌, ◌+◌, ◌*◌, ◌/◌, ◌%◌, ◌^◌, arith}
use Rattle.std.proofs.lemmas.Bool.{le-ltb, lt-ltb, ne_eqb}
use Rattle.attributes.specs.Words.{Fits, attributes_at, attributes_in, words_of}
use Rattle.attributes.specs.declared.Attributes.{Attributes}

-- what is chosen where one of two tests holds
first_or : (b : Bool) (found : Option Attributes) → cond (b || true) None found ≡ None
first_or true found = refl
first_or false found = refl

second_or : (b c : Bool) (found : Option Attributes) → cond (b || (c || true)) None found ≡ None
second_or true c found = refl
second_or false true found = refl
second_or false false found = refl

module _ (words : List ℕ) where
  abbrev tested : Bool → Bool → Bool → Option Attributes
  tested mark spare large = cond (not mark || (not spare || large)) None (Some (attributes_at words))

  pub no_mark : (slice_index words 0 ≡ 826364742 → ⊥) → attributes_in words ≡ None
  no_mark apart = ap (λ b. tested b (eqb (slice_index words 6) 0) (ltb 65535 (slice_index words 1))) (ne_eqb (slice_index words 0) 826364742 apart)

  pub not_spare : (slice_index words 6 ≡ 0 → ⊥) → attributes_in words ≡ None
  not_spare apart =
      ap (λ b. tested (eqb (slice_index words 0) 826364742) b (ltb 65535 (slice_index words 1))) (ne_eqb (slice_index words 6) 0 apart)
      ∙ first_or (not (eqb (slice_index words 0) 826364742)) (Some (attributes_at words))

  pub no_mode : 65535 < slice_index words 1 → attributes_in words ≡ None
  no_mode large =
      ap (λ b. tested (eqb (slice_index words 0) 826364742) (eqb (slice_index words 6) 0) b) (lt-ltb 65535 (slice_index words 1) large)
      ∙ second_or (not (eqb (slice_index words 0) 826364742)) (not (eqb (slice_index words 6) 0)) (Some (attributes_at words))

  pub are_kept : slice_index words 0 ≡ 826364742 → slice_index words 6 ≡ 0 → slice_index words 1 ≤ 65535 → attributes_in words ≡ Some (attributes_at words)
  are_kept mark spare mode =
      ap₂ (λ a b. tested a b (ltb 65535 (slice_index words 1))) (eq-eqb (slice_index words 0) 826364742 mark) (eq-eqb (slice_index words 6) 0 spare)
      ∙ ap (λ b. tested true true b) (le-ltb 65535 (slice_index words 1) mode)

-- ---- what was written

halves : (n : ℕ) → n / 2 ^ 32 * 2 ^ 32 + n % 2 ^ 32 ≡ n
halves n = omega arith

pub read_back : (a : Attributes) → Fits a → attributes_in (words_of a) ≡ Some a
read_back a fits =
    let own : ℕ → ℕ → ℕ → Attributes = λ accessed modified changed. record a {
      accessed = record { seconds = accessed; nanoseconds = a.accessed.nanoseconds };
      modified = record { seconds = modified; nanoseconds = a.modified.nanoseconds };
      changed = record { seconds = changed; nanoseconds = a.changed.nanoseconds };
    } in
    let old = a.changed.seconds / 2 ^ 32 * 2 ^ 32 + a.changed.seconds % 2 ^ 32 in
    are_kept (words_of a) refl refl (omega (arith, fits))
    ∙ ap Some (ap₂ (λ x y. own x y old) (halves a.accessed.seconds) (halves a.modified.seconds) ∙ ap (own a.accessed.seconds a.modified.seconds) (halves a.changed.seconds))
