-- What is known of an inode number, and of inode numbers one after another.
use Rattle.std.proofs.Common.{◌≡◌, ◌<◌, ◌≤◌, ◌+◌, ℕ, zero, suc, Bool, true, false, ◌&&◌, List, [], ◌∷◌, ◌++◌, length, Some, slice_get, inl, inr, sym, ap, ◌∙◌, subst, arith, IsTrue, IsFalse, leb-true}
use Rattle.std.specs.Prelude.{nat_lt}
use Rattle.std.proofs.lemmas.Bool.{cases_Bool}
use Rattle.std.proofs.lemmas.Option.{none-some, same_Some}
use Rattle.model.specs.Layout.{Geometry, is_number}
use Rattle.model.specs.Shape.{direct_positions, is_table, most_blocks, tables}
use Rattle.model.specs.Uses.{blocks_of, is_directory, is_sound, is_sound_at}
use Rattle.model.specs.View.{Inode, View}
use Rattle.frozen.specs.declared.kinds.Kind.{Kind}
use Rattle.frozen.specs.Kept.{Kept, KeepsFrame, KeepsMore, KeepsTablesOf, frozen_view}
use Rattle.frozen.specs.Kinds.{AreKinds, IsKind, has_tables_at}
use Rattle.frozen.proofs.ClaimLemmas.{inode_stays}
use Rattle.frozen.proofs.KeepingLemmas.{all_tables_of, no_tables_of}

-- ---- one number
module _ (geo : Geometry) (view : View) (i : ℕ) where
  pub no_kind : IsFalse (is_sound_at geo view i) → IsKind geo view i (record { is_sound = false; has_tables = false; is_directory = false })
  no_kind f = record {
    sound = sym f;
    tables = sym (ap (λ b. b && nat_lt direct_positions (blocks_of (view.inode i).size)) f);
    directory = sym (ap (λ b. b && is_directory (view.inode i)) f);
  }

  pub sound_kind : (tables directory : Bool) → IsTrue (is_sound_at geo view i) → tables ≡ nat_lt direct_positions (blocks_of (view.inode i).size) → directory ≡ is_directory (view.inode i)
      → IsKind geo view i (record { is_sound = true; has_tables = tables; is_directory = directory })
  sound_kind tables directory t more is = record {
    sound = sym t;
    tables = more ∙ sym (ap (λ b. b && nat_lt direct_positions (blocks_of (view.inode i).size)) t);
    directory = is ∙ sym (ap (λ b. b && is_directory (view.inode i)) t);
  }

-- ---- all numbers
added : {X : Type 0} (P : ℕ → X → Type 0) (xs : List X) (x : X) → ((i : ℕ) (y : X) → slice_get xs i ≡ Some y → P i y) → P (length xs) x
    → (i : ℕ) (y : X) → slice_get (xs ++ x ∷ []) i ≡ Some y → P i y
added P [] x all is zero y at = subst (P 0) (same_Some x y at) is
added P [] x all is (suc i) y at = absurd (none-some y at)
added P (z ∷ zs) x all is zero y at = all 0 y at
added P (z ∷ zs) x all is (suc i) y at = added (λ k. P (suc k)) zs x (λ k w h. all (suc k) w h) is i y at

-- nothing is known, and then one number more
pub no_kinds : (geo : Geometry) (view : View) (kinds : List Kind) → kinds ≡ [] → AreKinds geo view kinds
no_kinds geo view kinds none i kind at = absurd (none-some kind (subst (λ (ks : List Kind). slice_get ks i ≡ Some kind) none at))

pub kinds_more : (geo : Geometry) (view : View) (kinds : List Kind) (kind : Kind) (i : ℕ) → length kinds ≡ i → AreKinds geo view kinds → IsKind geo view i kind
    → AreKinds geo view (kinds ++ kind ∷ [])
kinds_more geo view kinds kind i count are is = added (λ k one. IsKind geo view k one) kinds kind are (subst (λ k. IsKind geo view k kind) (sym count) is)

-- ---- what was known stays, where blocks are added
pub kinds_kept : (kept more : Kept) → KeepsFrame kept → KeepsMore kept more → (kinds : List Kind) → AreKinds kept.geometry (frozen_view kept) kinds → AreKinds more.geometry (frozen_view more) kinds
kinds_kept kept more frame grows kinds are i kind at =
    let is = are i kind at in
    let same = inode_stays kept more frame grows i in
    subst (λ (geo : Geometry). IsKind geo (frozen_view more) i kind) (sym grows.geometry) (record {
      sound = is.sound ∙ ap (λ (r : Inode). is_number kept.geometry i && is_sound kept.geometry r) same;
      tables = is.tables ∙ ap (λ (r : Inode). (is_number kept.geometry i && is_sound kept.geometry r) && nat_lt direct_positions (blocks_of r.size)) same;
      directory = is.directory ∙ ap (λ (r : Inode). (is_number kept.geometry i && is_sound kept.geometry r) && is_directory r) same;
    })

-- ---- an inode without tables
few_tables : (count : ℕ) → nat_lt direct_positions count ≡ false → tables count ≡ 0
unfolding tables
few_tables count few = grind (arith, few)

pub no_tables_known : (kept : Kept) (i : ℕ) → IsFalse (has_tables_at kept.geometry (frozen_view kept) i) → KeepsTablesOf kept i
no_tables_known kept i none = elim (cases_Bool (is_sound_at kept.geometry (frozen_view kept) i)) [
  | inl t ↦
      let size = ((frozen_view kept).inode i).size in
      let few : nat_lt direct_positions (blocks_of size) ≡ false = sym (ap (λ b. b && nat_lt direct_positions (blocks_of size)) t) ∙ none in
      let no : tables (blocks_of size) ≡ 0 = few_tables (blocks_of size) few in
      all_tables_of kept i (most_blocks kept.geometry) (omega (arith, no))
      (λ m low is. absurd (let high = leb-true (most_blocks kept.geometry) m is in omega (arith, low, high)))
  | inr f ↦ no_tables_of kept i f
]
