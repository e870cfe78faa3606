-- What one update changes of the claims on metadata.
use Rattle.std.proofs.Common.{◌≡◌, ℕ, List, ◌⊎◌, inl, inr, refl, sym, ap, ◌∙◌, subst, Some, IsTrue}
use Rattle.std.proofs.lemmas.Bool.{cases_eq, and_parts, and_from}
use Rattle.model.specs.Layout.{Geometry, is_number, is_data_address}
use Rattle.model.specs.View.{View, Inode, with_attributes}
use Rattle.model.specs.Cells.{SetInode, SetBytes, put_at, updated}
use Rattle.model.specs.Shape.{is_table}
use Rattle.model.specs.Uses.{is_sound, is_sound_at, is_directory, is_directory_at, record_use, IsClaim}
use Rattle.model.proofs.Places.{put_here, put_there}
use Rattle.model.proofs.Steps.{use_sound}
use Rattle.model.proofs.Uses.{use_number, number_use, record_uses_agree, bytes_leave_uses}
use Rattle.machine.specs.Effects.{with_links}
use Rattle.machine.proofs.Records.{links_uses, attributes_uses}

-- inode i claims block a as one of its tables, or as a block of the directory that it is
abbrev pub IsMetadata : Geometry → View → ℕ → ℕ → ℕ → Type 0
IsMetadata geo view i k a = IsClaim geo view i k a × (IsTrue (is_table geo k) ⊎ IsTrue (is_directory_at geo view i))

-- a record claims block a as metadata at position k, where it is the record of number n
pub record MetadataOf (geo : Geometry) (v : View) (n : ℕ) (x : Inode) (k a : ℕ) : Type 0 where
  pub number : IsTrue (is_number geo n)
  pub uses : record_use geo v x k ≡ Some a
  pub address : IsTrue (is_data_address geo a)
  pub kind : IsTrue (is_table geo k) ⊎ IsTrue (is_directory x)

pub metadata_parts : (geo : Geometry) (v : View) (i k a : ℕ) → IsMetadata geo v i k a → MetadataOf geo v i (v.inode i) k a
metadata_parts geo v i k a c =
    let at = use_number geo v i k a (c.0).0 in
    record {
      number = at.0;
      uses = at.1;
      address = (c.0).1;
      kind = elim c.1 [ inl table ↦ inl table | inr d ↦ inr (and_parts (is_sound_at geo v i) (is_directory (v.inode i)) d).1 ];
    }

pub metadata_from : (geo : Geometry) (v : View) (i k a : ℕ) → MetadataOf geo v i (v.inode i) k a → IsMetadata geo v i k a
metadata_from geo v i k a m =
    let sound = and_from (is_number geo i) (is_sound geo (v.inode i)) m.number (use_sound geo v (v.inode i) k a m.uses) in (
      (number_use geo v i k a m.number m.uses, m.address),
      elim m.kind [ inl table ↦ inl table | inr d ↦ inr (and_from (is_sound_at geo v i) (is_directory (v.inode i)) sound d) ],
    )

-- the same in another view in which the record uses the same there
pub elsewhere : (geo : Geometry) (v w : View) (n : ℕ) (x : Inode) (k a : ℕ) → MetadataOf geo v n x k a → record_use geo w x k ≡ record_use geo v x k → MetadataOf geo w n x k a
elsewhere geo v w n x k a m e = record { number = m.number; uses = e ∙ m.uses; address = m.address; kind = m.kind }

-- what w claims as metadata v claims too
abbrev pub Within : Geometry → View → View → Type 0
Within geo v w = (i k c : ℕ) → IsMetadata geo w i k c → IsMetadata geo v i k c

-- views with the same records and bytes
pub marks_within : (geo : Geometry) (v w : View) → v.inode ≡ w.inode → v.bytes ≡ w.bytes → Within geo v w
marks_within geo v w records bytes i k c m =
    let at = metadata_parts geo w i k c m in
    metadata_from geo v i k c (subst (λ y. MetadataOf geo v i y k c) (sym (ap (λ (f : ℕ → Inode). f i) records))
    (elsewhere geo w v i (w.inode i) k c at (record_uses_agree geo v w (w.inode i) k (λ q t above u d. ap (λ (f : ℕ → List ℕ). f t) bytes))))

-- a record changes no claim of other inodes
pub record_metadata : (geo : Geometry) (v : View) (i k c n : ℕ) (x : Inode) → IsMetadata geo (updated v (SetInode n x)) i k c
    → ((i ≡ n → ⊥) × IsMetadata geo v i k c) ⊎ ((i ≡ n) × MetadataOf geo v n x k c)
record_metadata geo v i k c n x m =
    let w : View = updated v (SetInode n x) in
    let at = metadata_parts geo w i k c m in
    let over : MetadataOf geo v i (put_at v.inode n x i) k c = elsewhere geo w v i (put_at v.inode n x i) k c at (record_uses_agree geo v w (put_at v.inode n x i) k (λ q t above u d. refl)) in
    elim (cases_eq i n) [
      | inl e ↦ inr (e, subst (λ y. MetadataOf geo v n y k c) (put_here v.inode n x) (subst (λ j. MetadataOf geo v j (put_at v.inode n x j) k c) e over))
      | inr d ↦ inl (d, metadata_from geo v i k c (subst (λ y. MetadataOf geo v i y k c) (put_there v.inode n i x d) over))
    ]

-- a record that claims no more
pub record_within : (geo : Geometry) (v : View) (n : ℕ) (x : Inode) → ((k c : ℕ) → MetadataOf geo v n x k c → IsMetadata geo v n k c) → Within geo v (updated v (SetInode n x))
record_within geo v n x mine i k c m = elim (record_metadata geo v i k c n x m) [
  | inl old ↦ old.1
  | inr here ↦ subst (λ j. IsMetadata geo v j k c) (sym here.0) (mine k c here.1)
]

-- other links
pub links_within : (geo : Geometry) (v : View) (n l : ℕ) → Within geo v (updated v (SetInode n (with_links (v.inode n) l)))
links_within geo v n l = record_within geo v n (with_links (v.inode n) l) (λ k c m.
    metadata_from geo v n k c (record { number = m.number; uses = sym (links_uses geo v (v.inode n) l k) ∙ m.uses; address = m.address; kind = m.kind }))

-- other attributes
pub attributes_within : (geo : Geometry) (v : View) (n : ℕ) (words : List ℕ) → Within geo v (updated v (SetInode n (with_attributes (v.inode n) words)))
attributes_within geo v n words = record_within geo v n (with_attributes (v.inode n) words) (λ k c m.
    metadata_from geo v n k c (record { number = m.number; uses = sym (attributes_uses geo v (v.inode n) words k) ∙ m.uses; address = m.address; kind = m.kind }))

module _ (geo : Geometry) (v : View) (b : ℕ) (bytes : List ℕ) where
  abbrev w : View
  w = updated v (SetBytes b bytes)

  -- new bytes of a block that is no table of the inode
  pub other_bytes : (i k c : ℕ) → ((m : ℕ) → IsTrue (is_table geo m) → IsMetadata geo v i m b → ⊥) → IsMetadata geo w i k c → IsMetadata geo v i k c
  other_bytes i k c none m = ((bytes_leave_uses geo v b bytes i (λ q table claim. none q table (claim, inl table)) k ∙ (m.0).0, (m.0).1), m.1)

  pub bytes_within : ((i m : ℕ) → IsTrue (is_table geo m) → IsMetadata geo v i m b → ⊥) → Within geo v w
  bytes_within none i k c m = other_bytes i k c (none i) m
