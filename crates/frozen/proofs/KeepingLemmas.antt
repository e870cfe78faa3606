-- The steps of keeping the blocks that inodes claim.
use Rattle.std.proofs.Common.{◌≡◌, ◌<◌, ◌+◌, ℕ, not, Bool, List, [], length, All, Option, Some, None, IsSome, is_some, unwrap_or, IsTrue, IsFalse, false, true, refl, sym, ap, ◌∙◌, subst, arith, inl, inr, set as slice_set, get_or-set_same, get_or-set_other}
use Rattle.std.proofs.lemmas.Bool.{cases_eq, leb-true, false≢true}
use Rattle.std.specs.Option.{option_map}
use Rattle.std.proofs.lemmas.Option.{none-some, same_Some}
use Rattle.model.specs.Layout.{block_count, inode_count, is_data_address}
use Rattle.model.specs.Shape.{is_table, most_blocks, tables}
use Rattle.model.specs.Uses.{blocks_of, claim_at, is_sound_at}
use Rattle.model.specs.Image.{IsBlock, block_at, image_view}
use Rattle.model.proofs.Addresses.{data_range}
use Rattle.model.proofs.Alike.{same_cond}
use Rattle.model.proofs.Shape.{above_before}
use Rattle.model.proofs.SlotLemmas.{directory_number, number_below}
use Rattle.model.proofs.UseLemmas.{claim_parts}
use Rattle.model.proofs.Ranges.{table_below, use_places}
use Rattle.model.proofs.Uses.{above_table, use_number, use_parts}
use Rattle.frozen.specs.Kept.{Kept, KeepsFrame, KeepsClaim, KeepsTables, KeepsTablesOf, KeepsDirectory, KeepsMetadata, KeepsMore, IsKeptOf, frozen_view, kept_at, kept_bytes}
use Rattle.frozen.specs.Loading.{AreBlocksOf}
use Rattle.frozen.proofs.FrozenLemmas.{kept_of}
use Rattle.frozen.proofs.ClaimLemmas.{there, claim_stays, claim_kept_stays, position_stays, tables_stay, directory_stays}

-- ---- tables

-- those of one inode at positions below n
abbrev pub KeepsTablesUpTo : Kept → ℕ → ℕ → Type 0
KeepsTablesUpTo kept i n = (m : ℕ) → m < n → IsTrue (is_table kept.geometry m) → KeepsClaim kept i m

pub one_table_more : (kept more : Kept) → KeepsFrame kept → KeepsMore kept more → (i n : ℕ) → KeepsTablesUpTo kept i n → KeepsClaim more i n → KeepsTablesUpTo more i (n + 1)
one_table_more kept more frame grows i n before here m low is = elim (cases_eq m n) [
  | inl e ↦ subst (KeepsClaim more i) (sym e) here
  | inr differs ↦
      let table : IsTrue (is_table kept.geometry m) = subst (λ geo. IsTrue (is_table geo m)) grows.geometry is in
      let first = leb-true (most_blocks kept.geometry) m table in
      claim_kept_stays kept more frame grows i m
      (λ x above. before x (omega (arith, low, differs, above_before kept.geometry m x first above)) (above_table kept.geometry m x above))
      (before m (omega (arith, low, differs)) table)
]

-- with those below the end of its tables all of a sound inode are kept, and one that is not sound has none
pub all_tables_of : (kept : Kept) (i n : ℕ) → n ≡ most_blocks kept.geometry + tables (blocks_of ((frozen_view kept).inode i).size) → KeepsTablesUpTo kept i n → KeepsTablesOf kept i
all_tables_of kept i n end below m is a c =
    below m (subst (λ x. m < x) (sym end) (table_below kept.geometry (frozen_view kept) i m a is c.0)) is a c

pub no_tables_of : (kept : Kept) (i : ℕ) → IsFalse (is_sound_at kept.geometry (frozen_view kept) i) → KeepsTablesOf kept i
no_tables_of kept i unsound m is a c = absurd (false≢true (sym unsound ∙ (use_parts kept.geometry (frozen_view kept) i m a c.0).sound))

-- those of the inodes below n
abbrev pub KeepsTablesBelow : Kept → ℕ → Type 0
KeepsTablesBelow kept n = (i : ℕ) → i < n → KeepsTablesOf kept i

pub one_inode_more : (kept more : Kept) → KeepsFrame kept → KeepsMore kept more → (n : ℕ) → KeepsTablesBelow kept n → KeepsTablesOf more n → KeepsTablesBelow more (n + 1)
one_inode_more kept more frame grows n before here i low = elim (cases_eq i n) [
  | inl e ↦ subst (KeepsTablesOf more) (sym e) here
  | inr differs ↦ tables_stay kept more frame grows i (before i (omega (arith, low, differs)))
]

pub all_tables : (kept : Kept) (n : ℕ) → inode_count kept.geometry ≡ n → KeepsTablesBelow kept n → KeepsTables kept
all_tables kept n all below i m is a c =
    below i (omega (arith, all, number_below kept.geometry i (use_number kept.geometry (frozen_view kept) i m a c.0).0)) m is a c

-- ---- blocks of directories

-- those of one directory at positions below n
abbrev pub KeepsPositionsBelow : Kept → ℕ → ℕ → Type 0
KeepsPositionsBelow kept d n = (k : ℕ) → k < n → KeepsClaim kept d k

pub one_position_more : (kept more : Kept) → KeepsFrame kept → KeepsMore kept more → KeepsTables kept → (d n : ℕ) → KeepsPositionsBelow kept d n → KeepsClaim more d n → KeepsPositionsBelow more d (n + 1)
one_position_more kept more frame grows tables d n before here k low = elim (cases_eq k n) [
  | inl e ↦ subst (KeepsClaim more d) (sym e) here
  | inr differs ↦ position_stays kept more frame grows d k (tables d) (before k (omega (arith, low, differs)))
]

-- with those below a directory's blocks and its tables all of them are kept
pub all_positions : (kept : Kept) (d n : ℕ) → n ≡ blocks_of ((frozen_view kept).inode d).size → KeepsTables kept → KeepsPositionsBelow kept d n → KeepsDirectory kept d
all_positions kept d n count tables below t k a c = elim (use_places kept.geometry (frozen_view kept) d k a c.0) [
  | inl low ↦ below k (subst (λ m. k < m) (sym count) low) a c
  | inr table ↦ tables d k table.0 a c
]

-- those of the sound directories below n
abbrev pub KeepsDirectoriesBelow : Kept → ℕ → Type 0
KeepsDirectoriesBelow kept n = (d : ℕ) → d < n → KeepsDirectory kept d

pub one_directory_more : (kept more : Kept) → KeepsFrame kept → KeepsMore kept more → KeepsTables kept → (n : ℕ) → KeepsDirectoriesBelow kept n → KeepsDirectory more n → KeepsDirectoriesBelow more (n + 1)
one_directory_more kept more frame grows tables n before here d low = elim (cases_eq d n) [
  | inl e ↦ subst (KeepsDirectory more) (sym e) here
  | inr differs ↦ directory_stays kept more frame grows d (tables d) (before d (omega (arith, low, differs)))
]

pub all_directories : (kept : Kept) (n : ℕ) → inode_count kept.geometry ≡ n → KeepsFrame kept → KeepsTables kept → KeepsDirectoriesBelow kept n → KeepsMetadata kept
all_directories kept n all frame tables below = record {
  frame = frame;
  tables = tables;
  directory_blocks = λ d t.
      below d (omega (arith, all, number_below kept.geometry d (directory_number kept.geometry (frozen_view kept) d t))) t;
}

-- ---- what is kept of an image

-- blocks of an image, of which none is missing that a check reads, have the image's metadata
pub all_kept_of : (kept : Kept) (image : List (List ℕ)) → KeepsMetadata kept → AreBlocksOf kept.blocks image
    → length image ≡ block_count kept.geometry → All IsBlock image → IsKeptOf kept image
all_kept_of kept image metadata are count whole =
    kept_of kept metadata.frame image are count whole
    (λ i m a is c. same a (metadata.tables i m is a c)) (λ d k a t c. same a (metadata.directory_blocks d t k a c))
  where
    same : (a : ℕ) → IsSome (kept_at kept.blocks a) → (frozen_view kept).bytes a ≡ (image_view kept.geometry image).bytes a
    same a some =
        let at = there (kept_at kept.blocks a) some in
        same_cond (is_data_address kept.geometry a) (kept_bytes kept.blocks a) (block_at image a) [] (λ _. ap (λ o. unwrap_or o []) at.1 ∙ are a at.0 at.1)

-- ---- one more data block is kept

pub some_if_not_none : {A : Type 0} (o : Option A) (none : Bool) (x : Option (List ℕ)) (f : A → List ℕ) → is_some o ≡ not none → none ≡ false → option_map f o ≡ x → IsSome x
some_if_not_none None none x f told not_none is = let bad : false ≡ true = told ∙ ap not not_none in cc
some_if_not_none (Some y) none x f told not_none is = ap is_some (sym is)

pub none_if_none : {A : Type 0} (o : Option A) (none : Bool) (x : Option (List ℕ)) (f : A → List ℕ) → is_some o ≡ not none → none ≡ true → option_map f o ≡ x → x ≡ None
none_if_none None none x f told empty is = sym is
none_if_none (Some y) none x f told empty is = let bad : true ≡ false = told ∙ ap not empty in cc

abbrev pub put_block : Kept → ℕ → List ℕ → Kept
put_block kept a block = record { geometry = kept.geometry; blocks = slice_set kept.blocks a (Some block) }

module _ (kept : Kept) (frame : KeepsFrame kept) (a : ℕ) (block : List ℕ) (at : IsTrue (is_data_address kept.geometry a)) where
  put_here : (b : ℕ) → b ≡ a → kept_at (slice_set kept.blocks a (Some block)) b ≡ Some block
  put_here b same =
      ap (kept_at (slice_set kept.blocks a (Some block))) same
      ∙ get_or-set_same kept.blocks a (Some block) None (omega (arith, (data_range kept.geometry frame.geometry a at).1, frame.count))

  put_other : (b : ℕ) → (b ≡ a → ⊥) → kept_at (slice_set kept.blocks a (Some block)) b ≡ kept_at kept.blocks b
  put_other b differs = get_or-set_other kept.blocks a b (Some block) None differs

  pub put_more : kept_at kept.blocks a ≡ None → KeepsMore kept (put_block kept a block)
  put_more none = record {
    geometry = refl;
    blocks = λ b bytes e. elim (cases_eq b a) [
      | inl same ↦ absurd (none-some bytes (sym none ∙ ap (kept_at kept.blocks) (sym same) ∙ e))
      | inr differs ↦ put_other b differs ∙ e
    ];
  }

  -- the inode that claims it has its block there
  pub put_claimed : kept_at kept.blocks a ≡ None → (i k : ℕ) → claim_at kept.geometry (frozen_view kept) i k ≡ Some a → KeepsClaim (put_block kept a block) i k
  put_claimed none i k claimed b c =
      let after = claim_stays kept (put_block kept a block) frame (put_more none) i k a (claim_parts kept.geometry (frozen_view kept) i k a claimed) in
      ap is_some (put_here b (same_Some b a (sym c.0 ∙ after.0)))

  pub put_blocks_of : (image : List (List ℕ)) → AreBlocksOf kept.blocks image → block ≡ block_at image a → AreBlocksOf (slice_set kept.blocks a (Some block)) image
  put_blocks_of image are is b bytes e = elim (cases_eq b a) [
    | inl same ↦ same_Some bytes block (sym e ∙ put_here b same) ∙ is ∙ ap (block_at image) (sym same)
    | inr differs ↦ are b bytes (sym (put_other b differs) ∙ e)
  ]
