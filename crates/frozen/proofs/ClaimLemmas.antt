-- More blocks that are kept change no record and no claim that was there; and where the tables on its way are kept no claim comes either.
use Rattle.std.proofs.Common.{◌≡◌, ◌*◌, ℕ, ◌&&◌, Bool, List, [], zero, suc, Option, Some, None, IsSome, is_some, unwrap_or, drop, cond, IsTrue, false, true, refl, sym, ap, ◌∙◌, subst}
use Rattle.model.specs.Layout.{Geometry, inode_block, inode_byte, is_data_address, is_number}
use Rattle.model.specs.View.{View, Inode, inode_at, free_inode, u32_at}
use Rattle.model.specs.Shape.{is_table, table_of, place_in_table, pointer_in}
use Rattle.model.specs.Uses.{has_position, is_sound, is_directory, is_directory_at, IsClaim}
use Rattle.model.proofs.Addresses.{number_in_group}
use Rattle.model.proofs.Alike.{same_cond}
use Rattle.model.proofs.Shape.{by_way, IsAbove}
use Rattle.model.proofs.Uses.{PointerAt, OfRecord, OfTable, use_parts, use_from, use_number, number_use, uses_agree, above_table}
use Rattle.frozen.specs.Kept.{Kept, KeepsFrame, KeepsMore, KeepsClaim, KeepsTables, KeepsTablesOf, KeepsDirectory, frozen_view, kept_at, kept_bytes}
use Rattle.frozen.proofs.FrozenLemmas.{records_are_frame}

-- a block that is there
pub there : (o : Option (List ℕ)) → IsSome o → (b : List ℕ) × (o ≡ Some b)
there None some = let bad : false ≡ true = some in cc
there (Some b) some = (b, refl)

-- no bytes hold the number 0
no_bytes_drop : (n : ℕ) → drop {A = ℕ} n [] ≡ []
no_bytes_drop zero = refl
no_bytes_drop (suc n) = refl

no_bytes_zero : (n : ℕ) → u32_at [] n ≡ 0
no_bytes_zero n = rw (no_bytes_drop n) refl

-- ---- blocks of one geometry, and more of them

module _ (geo : Geometry) (old new : List (Option (List ℕ))) (frame : KeepsFrame (record { geometry = geo; blocks = old })) (grows : (a : ℕ) (b : List ℕ) → kept_at old a ≡ Some b → kept_at new a ≡ Some b) where
  abbrev before : View
  before = frozen_view (record { geometry = geo; blocks = old })

  abbrev after : View
  after = frozen_view (record { geometry = geo; blocks = new })

  -- a block that is kept has the same bytes in both
  same_bytes : (a : ℕ) → IsSome (kept_at old a) → kept_bytes old a ≡ kept_bytes new a
  same_bytes a some =
      let at = there (kept_at old a) some in
      ap (λ o. unwrap_or o []) at.1 ∙ sym (ap (λ o. unwrap_or o []) (grows a at.0 at.1))

  same_data : (a : ℕ) → IsSome (kept_at old a) → before.bytes a ≡ after.bytes a
  same_data a some = ap (λ b. cond (is_data_address geo a) b []) (same_bytes a some)

  same_record : (n : ℕ) → before.inode n ≡ after.inode n
  same_record n =
      same_cond (is_number geo n) (inode_at geo.version (kept_bytes old (inode_block geo n)) (inode_byte n)) (inode_at geo.version (kept_bytes new (inode_block geo n)) (inode_byte n)) free_inode
      (λ t. ap (λ b. inode_at geo.version b (inode_byte n)) (same_bytes (inode_block geo n) (frame.frame (inode_block geo n) (records_are_frame (record { geometry = geo; blocks = old }) frame n (number_in_group geo frame.geometry n t)))))

  -- a pointer to a data block was read in a table that is kept
  same_pointer : (t place a : ℕ) → a ≡ pointer_in (before.bytes t) place → IsTrue (is_data_address geo a) → a ≡ pointer_in (after.bytes t) place
  same_pointer t place a is is_data = go (kept_at old t) refl
    where
      no_data : (b : Bool) (bytes : List ℕ) → bytes ≡ [] → cond b bytes [] ≡ []
      no_data true bytes e = e
      no_data false bytes e = refl

      go : (o : Option (List ℕ)) → kept_at old t ≡ o → a ≡ pointer_in (after.bytes t) place
      go (Some b) at = is ∙ ap (λ bytes. pointer_in bytes place) (same_data t (ap is_some at))
      go None at = absurd (
          let none : before.bytes t ≡ [] = no_data (is_data_address geo t) (kept_bytes old t) (ap (λ o. unwrap_or o []) at) in
          let zero : a ≡ 0 = is ∙ ap (λ bytes. pointer_in bytes place) none ∙ no_bytes_zero (4 * place) in
          let bad : false ≡ true = subst (λ n. IsTrue (is_data_address geo n)) zero is_data in cc
          )

  claim_stays_here : (i k a : ℕ) → IsClaim geo before i k a → IsClaim geo after i k a
  claim_stays_here i = by_way geo (λ k. (a : ℕ) → IsClaim geo before i k a → IsClaim geo after i k a) step
    where
      pointer_stays : (k a : ℕ) → ((m : ℕ) → table_of geo k ≡ Some m → (t : ℕ) → IsClaim geo before i m t → IsClaim geo after i m t)
          → IsTrue (is_number geo i) → IsTrue (is_data_address geo a) → PointerAt geo before (before.inode i) k a → PointerAt geo after (after.inode i) k a
      pointer_stays k a tables number is_data (OfRecord none has is) = subst (λ r. PointerAt geo after r k a) (same_record i) (OfRecord none has is)
      pointer_stays k a tables number is_data (OfTable m t one has uses address is) =
          let claim = tables m one t (number_use geo before i m t number uses, address) in
          OfTable m t one (subst (λ r. IsTrue (has_position geo r k)) (same_record i) has) (use_number geo after i m t claim.0).1 address (same_pointer t (place_in_table geo k) a is is_data)

      step : (k : ℕ) → ((m : ℕ) → table_of geo k ≡ Some m → (t : ℕ) → IsClaim geo before i m t → IsClaim geo after i m t) → (a : ℕ) → IsClaim geo before i k a → IsClaim geo after i k a
      step k tables a c =
          let u = use_parts geo before i k a c.0 in (
            use_from geo after i k a (record {
              sound = subst (λ (r : Inode). IsTrue (is_number geo i && is_sound geo r)) (same_record i) u.sound;
              pointer = pointer_stays k a tables (use_number geo before i k a c.0).0 c.1 u.pointer;
            }),
            c.1,
          )

  -- where the tables on its way are kept no claim comes
  claim_back_here : (i k a : ℕ) → ((m : ℕ) → IsAbove geo k m → KeepsClaim (record { geometry = geo; blocks = old }) i m) → IsClaim geo after i k a → IsClaim geo before i k a
  claim_back_here i k a tables c = (uses_agree geo before after i k (λ number. same_record i) (λ m b above claim. same_data b (tables m above b claim)) ∙ c.0, c.1)

-- ---- the same of frozen images

module _ (kept more : Kept) (frame : KeepsFrame kept) (grows : KeepsMore kept more) where
  -- the second one has the geometry of the first
  grown : record { geometry = kept.geometry; blocks = more.blocks } ≡ more
  grown = ap (λ (geo : Geometry). record { geometry = geo; blocks = more.blocks }) (sym grows.geometry)

  pub still_there : (a : ℕ) → IsSome (kept_at kept.blocks a) → IsSome (kept_at more.blocks a)
  still_there a some = let at = there (kept_at kept.blocks a) some in subst IsSome (sym (grows.blocks a at.0 at.1)) refl

  pub inode_stays : (n : ℕ) → (frozen_view kept).inode n ≡ (frozen_view more).inode n
  inode_stays n = same_record kept.geometry kept.blocks more.blocks frame grows.blocks n ∙ ap (λ (k : Kept). (frozen_view k).inode n) grown

  -- a claim stays
  pub claim_stays : (i k a : ℕ) → IsClaim kept.geometry (frozen_view kept) i k a → IsClaim more.geometry (frozen_view more) i k a
  claim_stays i k a c =
      subst (λ (m : Kept). IsClaim m.geometry (frozen_view m) i k a) grown (claim_stays_here kept.geometry kept.blocks more.blocks frame grows.blocks i k a c)

  -- where the tables on its way are kept a claim was there before
  pub claim_back : (i k a : ℕ) → ((m : ℕ) → IsAbove kept.geometry k m → KeepsClaim kept i m) → IsClaim more.geometry (frozen_view more) i k a → IsClaim kept.geometry (frozen_view kept) i k a
  claim_back i k a tables c =
      claim_back_here kept.geometry kept.blocks more.blocks frame grows.blocks i k a tables (subst (λ (m : Kept). IsClaim m.geometry (frozen_view m) i k a) (sym grown) c)

  -- a sound directory was one before
  pub directory_back : (d : ℕ) → is_directory_at more.geometry (frozen_view more) d ≡ is_directory_at kept.geometry (frozen_view kept) d
  directory_back d =
      ap (λ (geo : Geometry). (is_number geo d && is_sound geo ((frozen_view more).inode d)) && is_directory ((frozen_view more).inode d)) grows.geometry
      ∙ ap (λ (r : Inode). (is_number kept.geometry d && is_sound kept.geometry r) && is_directory r) (sym (inode_stays d))

  -- what is kept stays kept
  pub claim_kept_stays : (i k : ℕ) → ((m : ℕ) → IsAbove kept.geometry k m → KeepsClaim kept i m) → KeepsClaim kept i k → KeepsClaim more i k
  claim_kept_stays i k tables h a c = still_there a (h a (claim_back i k a tables c))

  above_kept : (i k : ℕ) → KeepsTablesOf kept i → (m : ℕ) → IsAbove kept.geometry k m → KeepsClaim kept i m
  above_kept i k tables m above = tables m (above_table kept.geometry k m above)

  pub tables_stay : (i : ℕ) → KeepsTablesOf kept i → KeepsTablesOf more i
  tables_stay i tables m is = claim_kept_stays i m (above_kept i m tables) (tables m (subst (λ geo. IsTrue (is_table geo m)) grows.geometry is))

  pub all_tables_stay : KeepsTables kept → KeepsTables more
  all_tables_stay tables i = tables_stay i (tables i)

  pub directory_stays : (d : ℕ) → KeepsTablesOf kept d → KeepsDirectory kept d → KeepsDirectory more d
  directory_stays d tables h t k = claim_kept_stays d k (above_kept d k tables) (h (sym (directory_back d) ∙ t) k)

  pub position_stays : (d k : ℕ) → KeepsTablesOf kept d → KeepsClaim kept d k → KeepsClaim more d k
  position_stays d k tables = claim_kept_stays d k (above_kept d k tables)

pub more_of_more : (kept more most : Kept) → KeepsMore kept more → KeepsMore more most → KeepsMore kept most
more_of_more kept more most h k = record {
  geometry = k.geometry ∙ h.geometry;
  blocks = λ a b e. k.blocks a b (h.blocks a b e);
}
