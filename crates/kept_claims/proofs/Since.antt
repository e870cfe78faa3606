-- The updates of a plan so far, and the blocks that came to be claimed as metadata by them.
use Rattle.std.proofs.Common.{◌≡◌, ◌<◌, ℕ, suc, Bool, false, List, [], ◌∷◌, ◌++◌, ◌⊎◌, inl, inr, refl, sym, ap, ◌∙◌, subst, IsTrue, IsFalse, arith}
use Rattle.std.proofs.lemmas.Bool.{both_ways, leb-true}
use Rattle.model.specs.Layout.{Geometry}
use Rattle.model.specs.View.{View, Inode, free_inode, with_attributes}
use Rattle.model.specs.Cells.{SetInode, SetNumber, SetBlock, SetBytes}
use Rattle.model.specs.Shape.{most_blocks, is_table}
use Rattle.model.specs.Uses.{blocks_of, IsClaim}
use Rattle.model.specs.Rules.{ObeysRules}
use Rattle.model.proofs.Shape.{reach_parts}
use Rattle.model.proofs.Uses.{use_has}
use Rattle.ordering.specs.Cuts.{Cell, Record, Pending, users_view}
use Rattle.machine.specs.Effects.{with_links}
use Rattle.machine.proofs.Records.{links_uses, attributes_uses}
use Rattle.plans_data.specs.Freeing.{cleared, freeing}
use Rattle.kept_claims.specs.Claims.{IsMetadataClaim, GivesBytes}
use Rattle.kept_claims.proofs.Views.{MetadataOf, SamePointers, metadata_from, number_metadata, block_metadata, record_metadata, bytes_metadata, other_bytes_metadata}

-- ---- claims that came: at a position, a block

abbrev pub nothing : ℕ → ℕ → Type 0
nothing k a = ⊥

-- this block at this position
abbrev pub At : ℕ → ℕ → ℕ → ℕ → Type 0
At l b k a = (k ≡ l) × (a ≡ b)

-- at any position
abbrev pub Is : ℕ → ℕ → ℕ → Type 0
Is b k a = a ≡ b

abbrev pub Or : (ℕ → ℕ → Type 0) → (ℕ → ℕ → Type 0) → ℕ → ℕ → Type 0
Or new more k a = new k a ⊎ more k a

-- a block is no new table
abbrev pub NotNew : Geometry → (ℕ → ℕ → Type 0) → ℕ → Type 0
NotNew geo new b = (l : ℕ) → IsTrue (is_table geo l) → new l b → ⊥

-- a block is nobody's table
abbrev pub NoTable : Geometry → View → ℕ → Type 0
NoTable geo v b = (i l : ℕ) → IsTrue (is_table geo l) → IsClaim geo v i l b → ⊥

-- p is q with more updates, by which no metadata is claimed that was not, but for this, and they give that its bytes
pub record Since (geo : Geometry) (disk : View) (q p : List Pending) (new : ℕ → ℕ → Type 0) : Type 0 where
  pub us : List Pending
  pub is : p ≡ us ++ q
  pub gives : (k a : ℕ) → new k a → GivesBytes us a
  pub claims : (i k a : ℕ) → IsMetadataClaim geo (users_view disk p) i k a → IsMetadataClaim geo (users_view disk q) i k a ⊎ new k a

gives_more : (u : Pending) (us : List Pending) (a : ℕ) → GivesBytes us a → GivesBytes (u ∷ us) a
gives_more u us a (p, (k, low, e), bytes, is) = (p, (suc k, omega (arith, low), e), bytes, is)

module _ (geo : Geometry) (disk : View) (q : List Pending) where
  pub start : Since geo disk q q nothing
  start = record { us = []; is = refl; gives = λ k a n. absurd n; claims = λ i k a m. inl m }

  module _ (p : List Pending) (new : ℕ → ℕ → Type 0) (s : Since geo disk q p new) where
    abbrev v : View
    v = users_view disk p

    -- an update by which no other metadata is claimed
    on : (u : Pending) → ((i k a : ℕ) → IsMetadataClaim geo (users_view disk (u ∷ p)) i k a → IsMetadataClaim geo (users_view disk q) i k a ⊎ new k a) → Since geo disk q (u ∷ p) new
    on u claims = record {
      us = u ∷ s.us;
      is = ap (λ (l : List Pending). u ∷ l) s.is;
      gives = λ k a n. gives_more u s.us a (s.gives k a n);
      claims = claims;
    }

    pub number_on : (n : ℕ) (x : Bool) (after : List Cell) → Since geo disk q (record { change = SetNumber n x; after = after } ∷ p) new
    number_on n x after = on (record { change = SetNumber n x; after = after }) (λ i k a m. s.claims i k a (number_metadata geo v i k a n x m))

    pub block_on : (b : ℕ) (x : Bool) (after : List Cell) → Since geo disk q (record { change = SetBlock b x; after = after } ∷ p) new
    block_on b x after = on (record { change = SetBlock b x; after = after }) (λ i k a m. s.claims i k a (block_metadata geo v i k a b x m))

    -- a block that is nobody's table
    pub bytes_on : (b : ℕ) (bytes : List ℕ) (after : List Cell) → NoTable geo v b → Since geo disk q (record { change = SetBytes b bytes; after = after } ∷ p) new
    bytes_on b bytes after none = on (record { change = SetBytes b bytes; after = after }) (λ i k a m. s.claims i k a (other_bytes_metadata geo v b bytes none i k a m))

    -- and so where the block itself may be claimed from now on
    pub given_on : (b : ℕ) (bytes : List ℕ) (after : List Cell) (more : ℕ → ℕ → Type 0) → ((k a : ℕ) → more k a → a ≡ b) → NoTable geo v b
        → Since geo disk q (record { change = SetBytes b bytes; after = after } ∷ p) (Or new more)
    given_on b bytes after more only none =
        record {
          us = record { change = SetBytes b bytes; after = after } ∷ s.us;
          is = ap (λ (l : List Pending). record { change = SetBytes b bytes; after = after } ∷ l) s.is;
          gives = λ k a n. elim n [
            | inl old ↦ gives_more (record { change = SetBytes b bytes; after = after }) s.us a (s.gives k a old)
            | inr m ↦ (record { change = SetBytes b bytes; after = after }, (0, omega arith, refl), bytes, ap (λ c. SetBytes c bytes) (sym (only k a m)))
          ];
          claims = λ i k a m. elim (s.claims i k a (other_bytes_metadata geo v b bytes none i k a m)) [ inl old ↦ inl old | inr n ↦ inr (inl n) ];
        }

    -- an inode's table, which keeps the pointers to metadata
    pub table_on : (b : ℕ) (bytes : List ℕ) (after : List Cell) → SamePointers geo v b bytes → Since geo disk q (record { change = SetBytes b bytes; after = after } ∷ p) new
    table_on b bytes after same = on (record { change = SetBytes b bytes; after = after }) (λ i k a m. s.claims i k a (bytes_metadata geo v b bytes same i k a m))

    -- a record, whose metadata was claimed at first, or is new
    pub record_since : (n : ℕ) (x : Inode) (after : List Cell) → ((k a : ℕ) → MetadataOf geo v n x k a → IsMetadataClaim geo (users_view disk q) n k a ⊎ new k a)
        → Since geo disk q (record { change = SetInode n x; after = after } ∷ p) new
    record_since n x after mine = on (record { change = SetInode n x; after = after }) (λ i k a m. elim (record_metadata geo v i k a n x m) [
      | inl old ↦ s.claims i k a old
      | inr here ↦ elim (mine k a here.1) [ inl old ↦ inl (subst (λ j. IsMetadataClaim geo (users_view disk q) j k a) (sym here.0) old) | inr n ↦ inr n ]
    ])

    -- or was claimed before this record
    pub record_on : (n : ℕ) (x : Inode) (after : List Cell) → ((k a : ℕ) → MetadataOf geo v n x k a → IsMetadataClaim geo v n k a)
        → Since geo disk q (record { change = SetInode n x; after = after } ∷ p) new
    record_on n x after mine = record_since n x after (λ k a m. s.claims n k a (mine k a m))

    -- with other links alone
    pub links_on : (n : ℕ) (x : Inode) (after : List Cell) (l : ℕ) → x ≡ with_links (v.inode n) l → Since geo disk q (record { change = SetInode n x; after = after } ∷ p) new
    links_on n x after l e = record_on n x after (λ k a m.
        let here : MetadataOf geo v n (with_links (v.inode n) l) k a = subst (λ y. MetadataOf geo v n y k a) e m in
        metadata_from geo v n k a (record { number = here.number; uses = sym (links_uses geo v (v.inode n) l k) ∙ here.uses; address = here.address; kind = here.kind }))

    -- with other attributes alone
    pub attributes_on : (n : ℕ) (x : Inode) (after : List Cell) (words : List ℕ) → x ≡ with_attributes (v.inode n) words → Since geo disk q (record { change = SetInode n x; after = after } ∷ p) new
    attributes_on n x after words e = record_on n x after (λ k a m.
        let here : MetadataOf geo v n (with_attributes (v.inode n) words) k a = subst (λ y. MetadataOf geo v n y k a) e m in
        metadata_from geo v n k a (record { number = here.number; uses = sym (attributes_uses geo v (v.inode n) words k) ∙ here.uses; address = here.address; kind = here.kind }))

    -- without blocks
    pub empty_on : (n : ℕ) (x : Inode) (after : List Cell) → blocks_of x.size ≡ 0 → Since geo disk q (record { change = SetInode n x; after = after } ∷ p) new
    empty_on n x after none = record_on n x after (λ k a m. absurd (
        let few = (reach_parts geo (blocks_of x.size) k (use_has geo v x k a m.uses)).1 in omega (arith, few, none)))

    -- nobody's table is one still
    pub no_table : (b : ℕ) → NoTable geo (users_view disk q) b → NotNew geo new b → NoTable geo v b
    no_table b none other i l table c = elim (s.claims i l b (c, inl table)) [ inl m ↦ none i l table m.0 | inr n ↦ other l table n ]

  -- the bits of blocks are cleared
  pub cleared_on : (n : ℕ) (blocks : List ℕ) (p : List Pending) (new : ℕ → ℕ → Type 0) → Since geo disk q p new → Since geo disk q (cleared n blocks p) new
  cleared_on n [] p new s = s
  cleared_on n (b ∷ bs) p new s = cleared_on n bs (record { change = SetBlock b false; after = Record n ∷ [] } ∷ p) new (block_on p new s b false (Record n ∷ []))

  pub freeing_on : (n : ℕ) (blocks : List ℕ) (after : List Cell) (p : List Pending) (new : ℕ → ℕ → Type 0) → Since geo disk q p new → Since geo disk q (freeing n blocks after p) new
  freeing_on n blocks after p new s =
      let first : Since geo disk q (record { change = SetInode n free_inode; after = after } ∷ p) new = empty_on p new s n free_inode after refl in
      cleared_on n blocks (record { change = SetNumber n false; after = Record n ∷ [] } ∷ record { change = SetInode n free_inode; after = after } ∷ p) new
      (number_on (record { change = SetInode n free_inode; after = after } ∷ p) new first n false (Record n ∷ []))

-- ---- blocks that are nobody's table

module _ (geo : Geometry) (v : View) (rules : ObeysRules geo v) where
  pub unmarked_no_table : (b : ℕ) → IsFalse (v.block_marked b) → NoTable geo v b
  unmarked_no_table b unmarked i l table c = both_ways (v.block_marked b) unmarked (rules.rule3.marked i l b c)

  pub data_no_table : (d k b : ℕ) → k < most_blocks geo → IsClaim geo v d k b → NoTable geo v b
  data_no_table d k b low claim i l table c =
      let e = (rules.rule3.once i l d k b c claim).1 in
      let high = leb-true (most_blocks geo) l table in omega (arith, e, low, high)
