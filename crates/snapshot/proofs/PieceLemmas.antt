-- Why a block of a file in a snapshot is not there.
use Rattle.std.proofs.Common.{◌≡◌, ◌<◌, ◌≤◌, ℕ, Bool, true, false, not, leb, None, Some, IsTrue, refl, ap, ◌∙◌, subst}
use Rattle.std.specs.Bool.{then_some}
use Rattle.std.specs.Option.{option_or}
use Rattle.std.proofs.lemmas.Bool.{le-leb, lt-leb}
use Rattle.layout.specs.declared.refusal.Refusal.TheVariants.{NotFound, IsDirectory, BadIndex}
use Rattle.model.specs.Layout.{Geometry}
use Rattle.model.specs.Uses.{blocks_of, is_directory_at}
use Rattle.model.specs.View.{Inode, View}
use Rattle.machine.specs.Causes.{is_used_number}
use Rattle.snapshot.specs.Pieces.{why_no_piece}

why_past : (u d p : Bool) → u ≡ true → d ≡ false → p ≡ true → option_or (then_some (not u) NotFound) (option_or (then_some d IsDirectory) (then_some p BadIndex)) ≡ Some BadIndex
why_past true false true used file past = refl
why_past false d p used file past = let bad : false ≡ true = used in cc
why_past true true p used file past = let bad : true ≡ false = file in cc
why_past true false false used file past = let bad : false ≡ true = past in cc

why_none : (u d p : Bool) → u ≡ true → d ≡ false → p ≡ false → option_or (then_some (not u) NotFound) (option_or (then_some d IsDirectory) (then_some p BadIndex)) ≡ None
why_none true false false used file within = refl
why_none false d p used file within = let bad : false ≡ true = used in cc
why_none true true p used file within = let bad : true ≡ false = file in cc
why_none true false true used file within = let bad : true ≡ false = within in cc

module _ (geo : Geometry) (v : View) (i k n : ℕ) (there : Inode) (used : IsTrue (is_used_number geo v i)) (same : there ≡ v.inode i) (blocks : n ≡ blocks_of there.size) where
  count : n ≡ blocks_of (v.inode i).size
  count = blocks ∙ ap (λ (x : Inode). blocks_of x.size) same

  -- the file ends before it
  pub piece_past : is_directory_at geo v i ≡ false → n ≤ k → why_no_piece geo v i k ≡ Some BadIndex
  piece_past file past =
      why_past (is_used_number geo v i) (is_directory_at geo v i) (leb (blocks_of (v.inode i).size) k) used file (le-leb (blocks_of (v.inode i).size) k (subst (λ m. m ≤ k) count past))

  -- before its end no cause is there
  pub piece_within : is_directory_at geo v i ≡ false → k < n → why_no_piece geo v i k ≡ None
  piece_within file within =
      why_none (is_used_number geo v i) (is_directory_at geo v i) (leb (blocks_of (v.inode i).size) k) used file (lt-leb (blocks_of (v.inode i).size) k (subst (λ m. k < m) count within))
