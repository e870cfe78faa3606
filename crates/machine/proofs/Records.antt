-- Records that use the same, and views with another record.
use Rattle.std.proofs.Common.{◌≡◌, ◌<◌, ℕ, List, refl, sym, ◌∙◌, arith, Option, Some, None, IsTrue}
use Rattle.std.proofs.lemmas.Bool.{le-leb}
use Rattle.model.specs.Layout.{Geometry}
use Rattle.model.specs.View.{View, Inode, with_attributes}
use Rattle.model.specs.Shape.{most_blocks}
use Rattle.model.specs.Uses.{is_sound, record_use}
use Rattle.model.proofs.Shape.{many_blocks}
use Rattle.model.proofs.Steps.{use_sound}
use Rattle.model.proofs.Uses.{use_has, same_field, first_of_one, only_of_one}
use Rattle.machine.specs.Effects.{with_links, new_directory}

-- two numbers that are there alike
pub same_option : (o u : Option ℕ) → ((a : ℕ) → o ≡ Some a → u ≡ Some a) → ((a : ℕ) → u ≡ Some a → o ≡ Some a) → o ≡ u
same_option (Some a) u f g = sym (f a refl)
same_option None None f g = refl
same_option None (Some a) f g = g a refl

-- and what is not there
pub no_option : (o : Option ℕ) → ((a : ℕ) → o ≡ Some a → ⊥) → o ≡ None
no_option None f = refl
no_option (Some a) f = absurd (f a refl)

-- the links do not matter
pub links_uses : (geo : Geometry) (v : View) (x : Inode) (n k : ℕ) → record_use geo v (with_links x n) k ≡ record_use geo v x k
links_uses geo v x n k = same_option (record_use geo v (with_links x n) k) (record_use geo v x k)
    (λ a u. let sound = use_sound geo v (with_links x n) k a u in let has = use_has geo v (with_links x n) k a u in sym (same_field geo v (with_links x n) x sound sound k has has refl) ∙ u)
    (λ a u. let sound = use_sound geo v x k a u in let has = use_has geo v x k a u in same_field geo v (with_links x n) x sound sound k has has refl ∙ u)

-- nor with other attributes
pub attributes_uses : (geo : Geometry) (v : View) (x : Inode) (words : List ℕ) (k : ℕ) → record_use geo v (with_attributes x words) k ≡ record_use geo v x k
attributes_uses geo v x words k = same_option (record_use geo v (with_attributes x words) k) (record_use geo v x k)
    (λ a u. let sound = use_sound geo v (with_attributes x words) k a u in let has = use_has geo v (with_attributes x words) k a u in sym (same_field geo v (with_attributes x words) x sound sound k has has refl) ∙ u)
    (λ a u. let sound = use_sound geo v x k a u in let has = use_has geo v x k a u in same_field geo v (with_attributes x words) x sound sound k has has refl ∙ u)

-- ---- the record of a new directory, which uses its one block alone
pub new_directory_sound : (geo : Geometry) (block : ℕ) (words : List ℕ) → IsTrue (is_sound geo (new_directory block words))
new_directory_sound geo block words = le-leb 1 (most_blocks geo) (let many = many_blocks geo in omega arith)

pub new_directory_first : (geo : Geometry) (v : View) (block : ℕ) (words : List ℕ) → record_use geo v (new_directory block words) 0 ≡ Some block
new_directory_first geo v block words = first_of_one geo v (new_directory block words) block (new_directory_sound geo block words) refl refl

pub new_directory_uses : (geo : Geometry) (v : View) (block : ℕ) (words : List ℕ) (k a : ℕ) → record_use geo v (new_directory block words) k ≡ Some a → (k ≡ 0) × (a ≡ block)
new_directory_uses geo v block words = only_of_one geo v (new_directory block words) block (new_directory_sound geo block words) refl refl
