-- What one update changes of the claims on metadata.
use Rattle.std.proofs.Common.{◌≡◌, ℕ, Bool, List, ◌⊎◌, Some, inl, inr, refl, sym, ap, ◌∙◌, subst, IsTrue}
use Rattle.std.proofs.lemmas.Bool.{cases_eq, and_parts, and_from, le-leb}
use Rattle.model.specs.Layout.{Geometry, is_number, is_data_address}
use Rattle.model.specs.View.{View, Inode}
use Rattle.model.specs.Cells.{SetInode, SetNumber, SetBlock, SetBytes, put_at, updated}
use Rattle.model.specs.Shape.{most_blocks, is_table, table_of, place_in_table, pointer_in}
use Rattle.model.specs.Uses.{is_sound, is_sound_at, is_directory, has_position, record_use, use_at, IsClaim}
use Rattle.model.proofs.Places.{put_here, put_there}
use Rattle.model.proofs.Shape.{by_way, table_is_table}
use Rattle.model.proofs.Steps.{use_sound}
use Rattle.model.proofs.Uses.{use_number, number_use, record_uses_agree, uses_step, here, elsewhere as bytes_elsewhere}
use Rattle.kept_claims.specs.Claims.{IsMetadataClaim}

-- what is metadata of an inode with this record: its tables, and all its blocks if it is a directory
abbrev pub Kind : Geometry → Inode → ℕ → Type 0
Kind geo x k = IsTrue (is_table geo k) ⊎ IsTrue (is_directory x)

-- a record claims block a as metadata at position k, where it is the record of number n
pub record MetadataOf (geo : Geometry) (v : View) (n : ℕ) (x : Inode) (k a : ℕ) : Type 0 where
  pub number : IsTrue (is_number geo n)
  pub uses : record_use geo v x k ≡ Some a
  pub address : IsTrue (is_data_address geo a)
  pub kind : Kind geo x k

pub metadata_parts : (geo : Geometry) (v : View) (i k a : ℕ) → IsMetadataClaim geo v i k a → MetadataOf geo v i (v.inode i) k a
metadata_parts geo v i k a c =
    let u = use_number geo v i k a (c.0).0 in
    record {
      number = u.0;
      uses = u.1;
      address = (c.0).1;
      kind = elim c.1 [ inl e ↦ inl e | inr d ↦ inr (and_parts (is_sound_at geo v i) (is_directory (v.inode i)) d).1 ];
    }

pub metadata_from : (geo : Geometry) (v : View) (i k a : ℕ) → MetadataOf geo v i (v.inode i) k a → IsMetadataClaim geo v i k a
metadata_from geo v i k a m =
    let sound = and_from (is_number geo i) (is_sound geo (v.inode i)) m.number (use_sound geo v (v.inode i) k a m.uses) in (
      (number_use geo v i k a m.number m.uses, m.address),
      elim m.kind [ inl e ↦ inl e | inr d ↦ inr (and_from (is_sound_at geo v i) (is_directory (v.inode i)) sound d) ],
    )

-- the same in another view in which the record uses the same there
pub elsewhere : (geo : Geometry) (v w : View) (n : ℕ) (x : Inode) (k a : ℕ) → MetadataOf geo v n x k a → record_use geo w x k ≡ record_use geo v x k → MetadataOf geo w n x k a
elsewhere geo v w n x k a m e = record { number = m.number; uses = e ∙ m.uses; address = m.address; kind = m.kind }

module _ (geo : Geometry) (v : View) (i k c : ℕ) where
  -- a view with the same records and bytes
  same_bytes : (w : View) → w.inode ≡ v.inode → w.bytes ≡ v.bytes → IsMetadataClaim geo w i k c → IsMetadataClaim geo v i k c
  same_bytes w inodes bytes m =
      metadata_from geo v i k c (elsewhere geo w v i (v.inode i) k c (subst (λ (f : ℕ → Inode). MetadataOf geo w i (f i) k c) inodes (metadata_parts geo w i k c m))
      (record_uses_agree geo v w (v.inode i) k (λ q t above u d. ap (λ (f : ℕ → List ℕ). f t) (sym bytes))))

  -- a bit changes no claim
  pub number_metadata : (n : ℕ) (x : Bool) → IsMetadataClaim geo (updated v (SetNumber n x)) i k c → IsMetadataClaim geo v i k c
  number_metadata n x m = same_bytes (updated v (SetNumber n x)) refl refl m

  pub block_metadata : (a : ℕ) (x : Bool) → IsMetadataClaim geo (updated v (SetBlock a x)) i k c → IsMetadataClaim geo v i k c
  block_metadata a x m = same_bytes (updated v (SetBlock a x)) refl refl m

  -- a record changes no claim of other inodes
  pub record_metadata : (n : ℕ) (x : Inode) → IsMetadataClaim geo (updated v (SetInode n x)) i k c → IsMetadataClaim geo v i k c ⊎ ((i ≡ n) × MetadataOf geo v n x k c)
  record_metadata n x m =
      let w = updated v (SetInode n x) in
      let over : MetadataOf geo v i (put_at v.inode n x i) k c =
      elsewhere geo w v i (put_at v.inode n x i) k c (metadata_parts geo w i k c m) (record_uses_agree geo v w (put_at v.inode n x i) k (λ q t above u d. refl)) in
      elim (cases_eq i n) [
        | inl e ↦ inr (e, subst (λ y. MetadataOf geo v n y k c) (put_here v.inode n x) (subst (λ j. MetadataOf geo v j (put_at v.inode n x j) k c) e over))
        | inr d ↦ inl (metadata_from geo v i k c (subst (λ y. MetadataOf geo v i y k c) (put_there v.inode n i x d) over))
      ]

module _ (geo : Geometry) (v : View) (a : ℕ) (bytes : List ℕ) where
  abbrev w : View
  w = updated v (SetBytes a bytes)

  -- a block has in these bytes the pointers that inodes have there to metadata
  abbrev pub SamePointers : Type 0
  SamePointers = (i k m : ℕ) → Kind geo (v.inode i) k → table_of geo k ≡ Some m → IsTrue (has_position geo (v.inode i) k) → IsClaim geo v i m a
      → pointer_in (v.bytes a) (place_in_table geo k) ≡ pointer_in bytes (place_in_table geo k)

  -- then the bytes change no use of metadata
  same_uses : SamePointers → (i k : ℕ) → Kind geo (v.inode i) k → use_at geo v i k ≡ use_at geo w i k
  same_uses same i = by_way geo (λ k. Kind geo (v.inode i) k → use_at geo v i k ≡ use_at geo w i k)
      (λ k tables kind. uses_step geo v w i k (λ number. refl)
      (λ m h. tables m h (inl (le-leb (most_blocks geo) m (table_is_table geo k m h))))
      (λ m t h has claim. elim (cases_eq t a) [
        | inl e ↦
            ap (λ b. pointer_in (v.bytes b) (place_in_table geo k)) e
            ∙ same i k m kind h has (subst (λ b. IsClaim geo v i m b) e claim)
            ∙ ap (λ block. pointer_in block (place_in_table geo k)) (sym (here geo v a bytes t e))
        | inr d ↦ ap (λ block. pointer_in block (place_in_table geo k)) (bytes_elsewhere geo v a bytes t d)
      ]))

  -- and no claim on it
  pub bytes_metadata : SamePointers → (i k c : ℕ) → IsMetadataClaim geo w i k c → IsMetadataClaim geo v i k c
  bytes_metadata same i k c m =
      let kind : Kind geo (v.inode i) k = (metadata_parts geo w i k c m).kind in
      let u = use_number geo v i k c (same_uses same i k kind ∙ (m.0).0) in
      metadata_from geo v i k c (record { number = u.0; uses = u.1; address = (m.0).1; kind = kind })

  -- a block that is nobody's table
  pub other_bytes_metadata : ((i l : ℕ) → IsTrue (is_table geo l) → IsClaim geo v i l a → ⊥) → (i k c : ℕ) → IsMetadataClaim geo w i k c → IsMetadataClaim geo v i k c
  other_bytes_metadata none = bytes_metadata (λ i k m kind h has claim. absurd (none i m (le-leb (most_blocks geo) m (table_is_table geo k m h)) claim))
