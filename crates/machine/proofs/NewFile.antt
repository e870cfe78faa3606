-- A view with the record of a new file at a free number, which nothing names yet.
use Rattle.std.proofs.Common.{◌≡◌, ◌/◌, ℕ, Bool, true, false, cond, ◌&&◌, List, [], ◌∷◌, inl, inr, refl, sym, ap, ◌∙◌, arith, IsFalse, None}
use Rattle.std.proofs.lemmas.Bool.{cases_eq, cases_Bool, both_ways, false_from_ne_true}
use Rattle.model.specs.Layout.{Geometry, is_number}
use Rattle.model.specs.View.{View, new_file}
use Rattle.model.specs.Uses.{is_sound, is_sound_at, is_directory, is_directory_at, has_position, record_use, use_at}
use Rattle.model.specs.Slots.{slot}
use Rattle.model.specs.Cells.{SetInode, SetNumber, put_at, updated, updated_all}
use Rattle.model.specs.Rules.{ObeysRules, UsesAreClaims}
use Rattle.model.proofs.Shape.{reach_parts}
use Rattle.model.proofs.Steps.{use_sound, use_at_is}
use Rattle.model.proofs.Uses.{use_has, record_uses_agree}
use Rattle.model.proofs.Slots.{slots_of_uses}
use Rattle.model.proofs.NewRecord.{record_uses}
use Rattle.model.proofs.Places.{put_same}
use Rattle.machine.specs.Effects.{file_with}
use Rattle.machine.specs.Room.{IsFreeNumber}
use Rattle.machine.proofs.Decisions.{sound_mode}
use Rattle.machine.proofs.Tests.{and_false}
use Rattle.machine.proofs.Records.{no_option}

-- the record of a new file has no position
pub new_has_none : (geo : Geometry) (k : ℕ) → IsFalse (has_position geo new_file k)
new_has_none geo k = false_from_ne_true (has_position geo new_file k) (λ has. let few = (reach_parts geo 0 k has).1 in omega (arith, few))

-- so it uses nothing
pub new_unused : (geo : Geometry) (v : View) (words : List ℕ) (k : ℕ) → record_use geo v (file_with words) k ≡ None
new_unused geo v words k = no_option (record_use geo v (file_with words) k) (λ a u. both_ways (has_position geo (file_with words) k) (new_has_none geo k) (use_has geo v (file_with words) k a u))

neither : (a b : Bool) → (a && false && b) ≡ false
neither true b = refl
neither false b = refl

module _ (geo : Geometry) (v : View) (o : ObeysRules geo v) (i : ℕ) (free : IsFreeNumber geo v i) where
  pub free_mode : (v.inode i).mode ≡ 0
  free_mode = elim (cases_eq (v.inode i).mode 0) [ inl z ↦ z | inr used ↦ absurd (both_ways (v.number_marked i) free.unmarked (o.rule4 i free.number used)) ]

  pub unsound : is_sound geo (v.inode i) ≡ false
  unsound = elim (cases_Bool (is_sound geo (v.inode i))) [ inl t ↦ absurd (sound_mode geo (v.inode i) t free_mode) | inr f ↦ f ]

  pub unsound_at : is_sound_at geo v i ≡ false
  unsound_at = ap (λ t. is_number geo i && t) unsound ∙ and_false (is_number geo i)

  module _ (words : List ℕ) where
    abbrev pub prepared : View
    prepared = updated_all v (SetNumber i true ∷ SetInode i (file_with words) ∷ [])

    pub prepared_directories : (j : ℕ) → is_directory_at geo v j ≡ is_directory_at geo prepared j
    prepared_directories = put_same v.inode i (file_with words) (λ m y. is_number geo m && is_sound geo y && is_directory y)
        (ap (λ t. is_number geo i && t && is_directory (v.inode i)) unsound ∙ neither (is_number geo i) (is_directory (v.inode i)) ∙ sym (and_false (is_number geo i && is_sound geo (file_with words))))

    pub prepared_uses : (j k : ℕ) → use_at geo v j k ≡ use_at geo prepared j k
    prepared_uses j k =
        use_at_is geo v j k
        ∙ put_same v.inode i (file_with words) (λ m y. cond (is_number geo m) (record_use geo v y k) None)
        (ap (λ o. cond (is_number geo i) o None) (no_option (record_use geo v (v.inode i) k) (λ a u. both_ways (is_sound geo (v.inode i)) unsound (use_sound geo v (v.inode i) k a u)) ∙ sym (new_unused geo v words k))) j
        ∙ sym (record_uses geo (updated v (SetNumber i true)) i (file_with words) j k ∙ ap (λ o. cond (is_number geo j) o None) (record_uses_agree geo (updated v (SetNumber i true)) v (put_at v.inode i (file_with words) j) k (λ m a above u d. refl)))

    pub prepared_slots : (e t : ℕ) → slot geo v e t ≡ slot geo prepared e t
    prepared_slots e t = slots_of_uses geo v prepared e t (prepared_directories e) (prepared_uses e (t / 16)) (λ a directory low c. refl)

    pub prepared_claims : UsesAreClaims geo prepared
    prepared_claims = record {
      claims = λ n k x h. o.rule3.claims n k x (prepared_uses n k ∙ h);
      marked = λ n k a c. o.rule3.marked n k a (prepared_uses n k ∙ c.0, c.1);
      once = λ n k m l a c d. o.rule3.once n k m l a (prepared_uses n k ∙ c.0, c.1) (prepared_uses m l ∙ d.0, d.1);
    }
