-- What is seen of an inode whose size, uses and blocks are as they were.
use Rattle.std.proofs.Common.{◌≡◌, ◌-◌, ◌*◌, ◌%◌, ℕ, Bool, false, ◌&&◌, ◌||◌, eqb, ltb, leb, List, take, refl, sym, ap, ap₂, ◌∙◌, subst, IsTrue, Option, Some, None}
use Rattle.std.specs.Prelude.{unwrap_or}
use Rattle.std.specs.Bool.{then_some}
use Rattle.std.specs.Option.{option_and_then}
use Rattle.std.proofs.lemmas.Bool.{both_ways}
use Rattle.model.specs.Layout.{Geometry, is_number, is_data_address}
use Rattle.model.specs.View.{View, Inode}
use Rattle.model.specs.Cells.{SetBytes, updated}
use Rattle.model.specs.Shape.{most_blocks}
use Rattle.model.specs.Uses.{is_sound_at, is_directory_at, use_at, claim_at, blocks_of, IsClaim}
use Rattle.model.proofs.UseLemmas.{claim_parts}
use Rattle.model.proofs.Places.{put_there}
use Rattle.machine.specs.Cells.{seen, block_of}
use Rattle.machine.proofs.Placing.{same_uses}

-- w shows of inode j what v shows, by the same blocks
pub record SameFile (geo : Geometry) (v w : View) (j : ℕ) : Type 0 where
  pub mode : (v.inode j).mode ≡ (w.inode j).mode
  pub size : (v.inode j).size ≡ (w.inode j).size
  pub uses : (q : ℕ) → use_at geo v j q ≡ use_at geo w j q
  pub bytes : (q a : ℕ) → IsClaim geo v j q a → v.bytes a ≡ w.bytes a
  -- these bytes stand for those of a position without a block
  pub none : v.bytes 0 ≡ w.bytes 0

module _ (geo : Geometry) (v w : View) (j : ℕ) (s : SameFile geo v w j) where
  -- the blocks are the same
  claim_kept : (q a : ℕ) → IsClaim geo v j q a → IsClaim geo w j q a
  claim_kept q a c = (sym (s.uses q) ∙ c.0, c.1)

  claim_same : (q : ℕ) → claim_at geo v j q ≡ claim_at geo w j q
  unfolding claim_at
  claim_same q = ap (option_and_then (λ a. then_some (is_data_address geo a) a)) (s.uses q)

  -- and so is what is shown of them
  bytes_same : (q : ℕ) (o : Option ℕ) → claim_at geo v j q ≡ o → v.bytes (unwrap_or o 0) ≡ w.bytes (unwrap_or o 0)
  bytes_same q None e = s.none
  bytes_same q (Some a) e = s.bytes q a (claim_parts geo v j q a e)

  pub same_seen : (q : ℕ) → seen geo w j q ≡ seen geo v j q
  same_seen q = sym (
      ap (λ n. take (n - 1024 * q) (v.bytes (block_of geo v j q))) s.size
      ∙ ap (λ (xs : List ℕ). take ((w.inode j).size - 1024 * q) xs) (bytes_same q (claim_at geo v j q) refl)
      ∙ ap (λ o. take ((w.inode j).size - 1024 * q) (w.bytes (unwrap_or o 0))) (claim_same q))

  -- whether it is sound, and a directory, stays
  pub same_sound : is_sound_at geo v j ≡ is_sound_at geo w j
  same_sound = ap₂ (λ m n. is_number geo j && ((eqb m 1 || eqb m 2 && ltb 0 n && eqb (n % 1024) 0) && leb (blocks_of n) (most_blocks geo))) s.mode s.size

  pub same_directory : is_directory_at geo v j ≡ is_directory_at geo w j
  same_directory = ap₂ (λ (b : Bool) m. b && eqb m 2) same_sound s.mode

-- nothing changes, and one change after another
pub same_file : (geo : Geometry) (v : View) (j : ℕ) → SameFile geo v v j
same_file geo v j = record { mode = refl; size = refl; uses = λ q. refl; bytes = λ q a c. refl; none = refl }

pub then_file : (geo : Geometry) (u v w : View) (j : ℕ) → SameFile geo u v j → SameFile geo v w j → SameFile geo u w j
then_file geo u v w j s t = record {
  mode = s.mode ∙ t.mode;
  size = s.size ∙ t.size;
  uses = λ q. s.uses q ∙ t.uses q;
  bytes = λ q a c. s.bytes q a c ∙ t.bytes q a (claim_kept geo u v j s q a c);
  none = s.none ∙ t.none;
}

-- where its record and all bytes are the same
pub record_file : (geo : Geometry) (v w : View) (j : ℕ) → v.inode j ≡ w.inode j → v.bytes ≡ w.bytes → SameFile geo v w j
record_file geo v w j same bytes = record {
  mode = ap (λ (r : Inode). r.mode) same;
  size = ap (λ (r : Inode). r.size) same;
  uses = λ q. same_uses geo v w j q (sym same) (λ m a table c. ap (λ (f : ℕ → List ℕ). f a) bytes);
  bytes = λ q a c. ap (λ (f : ℕ → List ℕ). f a) bytes;
  none = ap (λ (f : ℕ → List ℕ). f 0) bytes;
}

-- block 0 is no data block
pub not_first : (geo : Geometry) (a : ℕ) → IsTrue (is_data_address geo a) → 0 ≡ a → ⊥
not_first geo a d e = both_ways false refl (subst (λ b. IsTrue (is_data_address geo b)) (sym e) d)

-- where a data block is written that it does not claim
pub block_file : (geo : Geometry) (v : View) (a : ℕ) (bytes : List ℕ) (j : ℕ) → IsTrue (is_data_address geo a) → ((q : ℕ) → IsClaim geo v j q a → ⊥) → SameFile geo v (updated v (SetBytes a bytes)) j
block_file geo v a bytes j data_block other = record {
  mode = refl;
  size = refl;
  uses = λ q. same_uses geo v (updated v (SetBytes a bytes)) j q refl (λ m b table c. stays m b c);
  bytes = stays;
  none = sym (put_there v.bytes a 0 bytes (not_first geo a data_block));
}
  where
    stays : (q b : ℕ) → IsClaim geo v j q b → v.bytes b ≡ (updated v (SetBytes a bytes)).bytes b
    stays q b c = sym (put_there v.bytes a b bytes (λ e. other q (subst (λ z. IsClaim geo v j q z) e c)))
