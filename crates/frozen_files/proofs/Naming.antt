-- The commands that change names leave a block of a snapshot's files as it is.
use Rattle.std.proofs.Common.{◌≡◌, ◌<◌, ◌+◌, ◌/◌, ℕ, true, ◌&&◌, List, length, [], ◌∷◌, ◌⊎◌, inl, inr, refl, sym, ap, ◌∙◌, subst, arith, IsTrue, IsFalse, None}
use Rattle.std.specs.Prelude.{replicate}
use Rattle.std.proofs.lemmas.Bool.{leb-true}
use Rattle.model.specs.Layout.{Geometry, IsGeometry, is_number}
use Rattle.model.specs.View.{View}
use Rattle.model.specs.Cells.{SetInode, SetNumber, SetBlock, SetBytes, updated, updated_all}
use Rattle.model.specs.Image.{IsBlock}
use Rattle.model.specs.Slots.{Good as Named}
use Rattle.model.specs.Shape.{most_blocks, direct_positions, is_table}
use Rattle.model.specs.Uses.{is_sound, is_directory, is_directory_at}
use Rattle.model.proofs.Places.{put_here, put_there}
use Rattle.model.proofs.SlotLemmas.{reachable_directory}
use Rattle.model.proofs.Shape.{many_blocks}
use Rattle.machine.specs.State.{State, is_kept}
use Rattle.machine.specs.Command.{Unlink, Rmdir, Rename}
use Rattle.machine.specs.Causes.{causes, refusal_of}
use Rattle.machine.specs.Paths.{holder, name_in, slot_at, number_at}
use Rattle.machine.specs.Cells.{MakesRoom, Enters, with_entry}
use Rattle.machine.specs.Effects.{file_with, Creates, MakesDirectory, Links, Renames, Within as InDirectory, Across, unlinked, removed, emptied, with_links, new_directory}
use Rattle.machine.specs.Balance.{Balance}
use Rattle.machine.proofs.Renaming.{IsPlace, place_at}
use Rattle.machine.proofs.Walks.{quiet}
use Rattle.machine.proofs.Records.{new_directory_uses}
use Rattle.machine.proofs.Pointing.{still_marked}
use Rattle.machine.proofs.Putting.{slot_low}
use Rattle.machine.proofs.WholeBlocks.{put_records}
use Rattle.frozen_files.proofs.Metadata.{IsMetadata, Within, MetadataOf, marks_within, links_within, bytes_within, record_metadata}
use Rattle.frozen_files.proofs.Good.{Good, gains, free_other, free_none, number_good, block_good, bytes_good, links_good, record_good}
use Rattle.frozen_files.proofs.Placed.{resized, resized_there}
use Rattle.frozen_files.proofs.Enters.{entry_good, enters_good}
use Rattle.frozen_files.proofs.Holds.{Holds, nothing_claimed, good_holds, relinked_holds}

module _ (geo : Geometry) (g : IsGeometry geo) (old new : State) (b : Balance geo old) (a : ℕ) (content : List ℕ) (kept : IsTrue (is_kept old a)) (start : Good geo a content old.view) where
  abbrev v : View
  v = old.view

  abbrev Holding : State → Type 0
  Holding s = Holds geo a content s

  is_here : (s : State) → new ≡ s → Holding s → Holding new
  is_here s e h = subst (λ t. Holding t) (sym e) h

  with_view : (w : View) → Good geo a content w → Holding (record old { view = w })
  with_view w h = good_holds geo a content (record old { view = w }) kept h

  -- ---- new names

  pub create_holds : (p words : List ℕ) (i : ℕ) → Creates geo old p words i new → Holding new
  create_holds p words i c =
      let v1 : View = updated v (SetNumber i true) in
      let g1 = number_good geo a content v start i in
      let g2 = record_good geo a content v1 g1 i (file_with words) (λ k q m. absurd (nothing_claimed geo v1 i k q (file_with words) refl m)) in
      is_here (record old { view = c.view }) c.whole
      (with_view c.view (enters_good geo a content g (updated_all v (SetNumber i true ∷ SetInode i (file_with words) ∷ [])) g2 (holder geo v p) (λ m q table t. b.whole q (t.0).1)
      (put_records v1 i (file_with words) b.records refl (holder geo v p)) (name_in p) i c.view c.enters))

  pub link_holds : (p q : List ℕ) → Links geo old p q new → Holding new
  link_holds p q c =
      let i = number_at geo v p in
      is_here (record old { view = c.view }) c.whole
      (with_view c.view (enters_good geo a content g (updated v (SetInode i (with_links (v.inode i) ((v.inode i).links + 1)))) (links_good geo a content v start i ((v.inode i).links + 1)) (holder geo v q)
      (λ m r table t. b.whole r (t.0).1) (put_records v i (with_links (v.inode i) ((v.inode i).links + 1)) b.records (b.records i) (holder geo v q)) (name_in q) i c.view c.enters))

  -- a new directory
  module _ (p words : List ℕ) (i : ℕ) (c : MakesDirectory geo old p words i new) where
    abbrev d : ℕ
    d = holder geo v p

    abbrev v2 : View
    v2 = updated_all v (SetNumber i true ∷ SetBlock c.block true ∷ [])

    abbrev v3 : View
    v3 = updated v2 (SetInode d (with_links (v.inode d) ((v.inode d).links + 1)))

    abbrev v4 : View
    v4 = updated v3 (SetBytes c.block c.bytes)

    abbrev v5 : View
    v5 = updated v4 (SetInode i (new_directory c.block words))

    within3 : Within geo v v3
    within3 j q r m = marks_within geo v v2 refl refl j q r (links_within geo v2 d ((v.inode d).links + 1) j q r m)

    no_table : (j m : ℕ) → IsTrue (is_table geo m) → IsMetadata geo v3 j m c.block → ⊥
    no_table j m table t = free_none geo a content v start c.block j m c.free_block.unmarked (within3 j m c.block t)

    within4 : Within geo v v4
    within4 j q r m = within3 j q r (bytes_within geo v3 c.block c.bytes no_table j q r m)

    apart : a ≡ c.block → ⊥
    apart = free_other geo a content v start c.block c.free_block.unmarked

    good4 : Good geo a content v4
    good4 =
        let g1 = number_good geo a content v start i in
        let g2 = block_good geo a content (updated v (SetNumber i true)) g1 c.block in
        let g3 = links_good geo a content v2 g2 d ((v.inode d).links + 1) in
        bytes_good geo a content v3 g3 c.block c.bytes apart no_table

    abbrev New : ℕ → ℕ → ℕ → Type 0
    New j q r = (j ≡ i) × (q ≡ 0) × (r ≡ c.block)

    own : (q r : ℕ) → MetadataOf geo v4 i (new_directory c.block words) q r → New i q r
    own q r m = let only = new_directory_uses geo v4 c.block words q r m.uses in (refl, only.0, only.1)

    claims5 : (j q r : ℕ) → IsMetadata geo v5 j q r → IsMetadata geo v j q r ⊎ New j q r
    claims5 j q r m = elim (record_metadata geo v4 j q r i (new_directory c.block words) m) [
      | inl there ↦ inl (within4 j q r there.1)
      | inr here ↦ let n = own q r here.1 in inr (here.0, n.1, n.2)
    ]

    good5 : Good geo a content v5
    good5 = gains geo a content v start v5 New claims5
        (λ j q r n. subst (λ e. IsFalse (v.block_marked e) × IsTrue (v5.block_marked e)) (sym n.2) (c.free_block.unmarked, put_here v.block_marked c.block true))
        (λ j q l m r n n'. (n.0 ∙ sym n'.0, n.1 ∙ sym n'.1))
        (λ r m. still_marked v.block_marked c.block r m) (put_there v.bytes c.block a c.bytes apart)

    -- a table was one before
    whole5 : (m r : ℕ) → IsTrue (is_table geo m) → IsMetadata geo v5 d m r → IsBlock (v5.bytes r)
    whole5 m r table t = elim (claims5 d m r t) [
      | inl old_one ↦ subst (λ (xs : List ℕ). IsBlock xs) (sym (put_there v.bytes c.block r c.bytes (λ e. free_none geo a content v start c.block d m c.free_block.unmarked (subst (λ q. IsMetadata geo v d m q) e old_one)))) (b.whole r (old_one.0).1)
      | inr n ↦ absurd (let first : m ≡ 0 = n.1 in let high = leb-true (most_blocks geo) m table in let many = many_blocks geo in omega (arith, first, high, many))
    ]

    records5 : length (v5.inode d).direct ≡ direct_positions
    records5 = put_records v4 i (new_directory c.block words) (put_records v2 d (with_links (v.inode d) ((v.inode d).links + 1)) b.records (b.records d)) refl d

    pub make_holds : Holding new
    make_holds = is_here (record old { view = c.view }) c.whole (with_view c.view (enters_good geo a content g v5 good5 d whole5 records5 (name_in p) i c.view c.enters))

  -- ---- names that go

  -- the directory of a place, and its slot
  place_directory : (p : List ℕ) → IsPlace geo v p → IsTrue (is_directory_at geo v (holder geo v p))
  place_directory p at = reachable_directory geo v (holder geo v p) at.entry.reachable

  place_low : (p : List ℕ) → IsPlace geo v p → slot_at geo v p / 16 < most_blocks geo
  place_low p at = slot_low geo v (holder geo v p) (slot_at geo v p) (Named (number_at geo v p) (name_in p)) (λ q. cc) at.good

  emptied_good : (p : List ℕ) → IsPlace geo v p → Good geo a content (emptied geo old (holder geo v p) (slot_at geo v p)).view
  emptied_good p at = entry_good geo a content v start (holder geo v p) (slot_at geo v p) (replicate 64 0) (place_directory p at) (place_low p at)

  emptied_holds : (p : List ℕ) → IsPlace geo v p → Holding (emptied geo old (holder geo v p) (slot_at geo v p))
  emptied_holds p at = with_view (with_entry geo v (holder geo v p) (slot_at geo v p) (replicate 64 0)) (emptied_good p at)

  pub unlink_holds : (p : List ℕ) → refusal_of geo old (Unlink p) ≡ None → new ≡ unlinked geo old p → Holding new
  unfolding causes
  unlink_holds p none e =
      let c = quiet (causes geo old (Unlink p)) none in
      is_here (unlinked geo old p) e (relinked_holds geo a content (emptied geo old (holder geo v p) (slot_at geo v p)) (emptied_holds p (place_at geo v p c.0 c.1.0 c.1.1.0)) (number_at geo v p) _)

  pub remove_holds : (p : List ℕ) → refusal_of geo old (Rmdir p) ≡ None → new ≡ removed geo old p → Holding new
  unfolding causes
  remove_holds p none e =
      let c = quiet (causes geo old (Rmdir p)) none in
      let s = emptied geo old (holder geo v p) (slot_at geo v p) in
      is_here (removed geo old p) e
      (relinked_holds geo a content _ (relinked_holds geo a content s (emptied_holds p (place_at geo v p c.0 c.1.0 c.1.1.0)) (number_at geo v p) _) (holder geo v p) _)

  -- ---- names that move

  -- another directory gets an entry, which leaves this one's record
  entered_there : (d e : ℕ) (name : List ℕ) (i : ℕ) (w : View) → (e ≡ d → ⊥) → Enters geo v d name i w → w.inode e ≡ v.inode e
  entered_there d e name i w apart c = ap (λ (x : View). x.inode e) c.whole ∙ room c.roomy c.room
    where
      room : (roomy : View) → MakesRoom geo v d roomy → roomy.inode e ≡ v.inode e
      room roomy (inl h) = ap (λ (x : View). x.inode e) h.1
      room roomy (inr h) = resized_there v roomy d _ _ e (resized geo v d _ _ _ roomy h.1) apart

  renamed_by : (p q : List ℕ) → IsPlace geo v p → Renames geo old p q new → Holding new
  renamed_by p q at (InDirectory entry same says is) =
      is_here (record old { view = with_entry geo v (holder geo v p) (slot_at geo v p) entry }) is (with_view _ (entry_good geo a content v start (holder geo v p) (slot_at geo v p) entry (place_directory p at) (place_low p at)))
  renamed_by p q at (Across w apart enters is) =
      let d = holder geo v p in
      let here = entered_there (holder geo v q) d (name_in q) (number_at geo v p) w apart enters in
      is_here (emptied geo (record old { view = w }) d (slot_at geo v p)) is
      (with_view (with_entry geo w d (slot_at geo v p) (replicate 64 0))
      (entry_good geo a content w (enters_good geo a content g v start (holder geo v q) (λ m r table t. b.whole r (t.0).1) (b.records (holder geo v q)) (name_in q) (number_at geo v p) w enters) d (slot_at geo v p) (replicate 64 0)
      (ap (λ y. is_number geo d && is_sound geo y && is_directory y) here ∙ place_directory p at) (place_low p at)))

  pub rename_holds : (p q : List ℕ) → refusal_of geo old (Rename p q) ≡ None → Renames geo old p q new → Holding new
  unfolding causes
  rename_holds p q none r = let c = quiet (causes geo old (Rename p q)) none in renamed_by p q (place_at geo v p c.0 c.1.1.0 c.1.1.1.1.0) r
