-- The command that writes a block of a file keeps the balance.
use Rattle.std.proofs.Common.{◌≡◌, ◌<◌, ◌≤◌, ◌+◌, ◌*◌, ◌/◌, ℕ, false, ◌||◌, eqb, ltb, leb, List, length, [], ◌∷◌, inl, inr, refl, sym, ap, ◌∙◌, subst, arith, IsTrue, IsFalse, None, eq-eqb}
use Rattle.std.proofs.lemmas.Bool.{leb-false, ltb-false, cases_eq, cases_lt, both_ways}
use Rattle.model.specs.Layout.{Geometry, IsGeometry}
use Rattle.model.specs.View.{View, Inode}
use Rattle.model.specs.Shape.{most_blocks}
use Rattle.model.specs.Uses.{is_sound, is_sound_at, is_directory_at, blocks_of, IsUse}
use Rattle.model.specs.Image.{IsBlock}
use Rattle.model.proofs.Uses.{use_number, use_has, has_below, sound_few}
use Rattle.layout.specs.declared.refusal.Refusal.TheVariants.{BadPiece, BadIndex, TooBig}
use Rattle.machine.specs.State.{State}
use Rattle.machine.specs.Command.{Write}
use Rattle.model.specs.Cells.{SetBytes, SetInode, updated_all}
use Rattle.machine.specs.Cells.{Places, block_of}
use Rattle.machine.specs.Causes.{causes, refusal_of, file_of}
use Rattle.machine.specs.Effects.{Writes, Stores, InPlace, Moved, Appended, size_after, lets_go}
use Rattle.machine.specs.Balance.{Balance, Owes}
use Rattle.machine.proofs.Bools.{neither}
use Rattle.machine.proofs.Decisions.{sound_parts}
use Rattle.machine.proofs.OpenHandles.{opened_file}
use Rattle.machine.proofs.Walks.{quiet, when_none}
use Rattle.machine.proofs.FileRecords.{file_mode, file_sound}
use Rattle.machine.proofs.WriteInPlace.{same_blocks, overwritten_ledger}
use Rattle.machine.proofs.Placing.{Placed, moved_ledger, added_ledger, placed_file}
use Rattle.machine.proofs.Placements.{places}
use Rattle.machine.proofs.Ledger.{Ledger, ledger, no_slack, Kept, kept_by}

module _ (geo : Geometry) (g : IsGeometry geo) (old new : State) (b : Balance geo old) (h k : ℕ) (piece : List ℕ) where
  abbrev v : View
  v = old.view

  abbrev i : ℕ
  i = file_of old h

  abbrev inode : Inode
  inode = v.inode i

  abbrev size : ℕ
  size = size_after v i k piece

  l : Ledger geo (Owes geo old) no_slack old
  l = ledger geo old b

  module _ (sound : IsTrue (is_sound_at geo v i)) (file : IsFalse (is_directory_at geo v i)) (some : 1 ≤ length piece) (short : length piece ≤ 1024) (low : k < most_blocks geo) (reaches : k ≤ inode.size / 1024)
      (bytes : List ℕ) (is_block : IsBlock bytes) where
    still : blocks_of size ≤ most_blocks geo → IsTrue (is_sound geo (record inode { size = size }))
    still few = file_sound geo inode size (file_mode geo v i sound file) few

    in_place : k < blocks_of inode.size → Ledger geo (Owes geo old) no_slack (record old { view = updated_all v (SetBytes (block_of geo v i k) bytes ∷ SetInode i (record inode { size = size }) ∷ []) })
    in_place inside = overwritten_ledger geo (Owes geo old) no_slack old l i k bytes size sound file inside (same_blocks inode.size k (length piece) inside short) is_block

    -- where the block moves, the blocks are as many as before
    module _ (view : View) (inside : k < blocks_of inode.size) (p : Places geo v i k bytes size view) where
      same : blocks_of inode.size ≡ blocks_of size
      same = same_blocks inode.size k (length piece) inside short

      few : blocks_of size ≤ most_blocks geo
      few = omega (arith, same, sound_few geo inode (sound_parts geo v i sound).1)

      pub placed : Placed geo v view i k p.block bytes
      placed = places geo v view i k bytes size p (record {
        geometry = g;
        obeys = l.rules;
        whole = l.whole;
        records = l.records;
        sound = sound;
        free = p.free;
        content = is_block;
        still = still few;
        inside = omega (arith, inside, same);
        few = few;
        more = omega (arith, same);
        came = λ q z. inl (omega (arith, z, same));
      })

      moved : Ledger geo (Owes geo old) no_slack (lets_go geo old i view)
      moved = moved_ledger geo (Owes geo old) no_slack old l view i k p.block bytes placed sound (placed_file geo (Owes geo old) no_slack old l view i k p.block bytes placed sound file)

    -- where the file grows, it gets one block more
    module _ (view : View) (at : k ≡ blocks_of inode.size) (p : Places geo v i k bytes size view) where
      exact : inode.size ≡ 1024 * k
      exact = omega (arith, at, reaches)

      grown : size ≡ 1024 * k + length piece
      grown = omega (arith, exact)

      one_more : blocks_of size ≡ k + 1
      one_more = ap blocks_of grown ∙ omega (arith, some, short)

      pub placed_new : Placed geo v view i k p.block bytes
      placed_new = places geo v view i k bytes size p (record {
        geometry = g;
        obeys = l.rules;
        whole = l.whole;
        records = l.records;
        sound = sound;
        free = p.free;
        content = is_block;
        still = still (omega (arith, one_more, low));
        inside = omega (arith, one_more);
        few = omega (arith, one_more, low);
        more = omega (arith, one_more, at);
        came = λ q z. elim (cases_lt q k) [ inl less ↦ inl (omega (arith, less, at)) | inr more ↦ inr (omega (arith, more, z, one_more)) ];
      })

      unused : (a : ℕ) → IsUse geo v i k a → ⊥
      unused a u = let below = has_below geo inode k low (use_has geo v inode k a (use_number geo v i k a u).1) in omega (arith, below, at)

      appended : Ledger geo (Owes geo old) no_slack (record old { view = view })
      appended = added_ledger geo (Owes geo old) no_slack old l view i k p.block bytes placed_new sound unused (placed_file geo (Owes geo old) no_slack old l view i k p.block bytes placed_new sound file)

    stored : Stores geo old i k bytes size new → Kept geo old new
    stored (InPlace inside free is) = subst (λ t. Kept geo old t) (sym is) (kept_by geo old _ (in_place inside) refl refl)
    stored (Moved view inside kept p is) = subst (λ t. Kept geo old t) (sym is) (kept_by geo old _ (moved view inside p) refl refl)
    stored (Appended view at p is) = subst (λ t. Kept geo old t) (sym is) (kept_by geo old _ (appended view at p) refl refl)

  -- what a write that is not refused may rely on
  pub write_allows : {A : Type 0} → refusal_of geo old (Write h k piece) ≡ None
      → (IsTrue (is_sound_at geo v i) → IsFalse (is_directory_at geo v i) → 1 ≤ length piece → length piece ≤ 1024 → k < most_blocks geo → k ≤ inode.size / 1024 → A) → A
  unfolding causes
  write_allows none then =
      let q = quiet (causes geo old (Write h k piece)) none in
      let p = b.open_file i (h, opened_file old h q.0) in
      let sizes = neither (eqb (length piece) 0) (ltb 1024 (length piece)) (when_none (eqb (length piece) 0 || ltb 1024 (length piece)) BadPiece q.1.0) in
      then p.0 p.1 (positive sizes.0) (ltb-false 1024 (length piece) sizes.1) (leb-false (most_blocks geo) k (when_none (leb (most_blocks geo) k) TooBig q.1.1.0)) (ltb-false (inode.size / 1024) k (when_none (ltb (inode.size / 1024) k) BadIndex q.1.1.1.0))
    where
      positive : eqb (length piece) 0 ≡ false → 1 ≤ length piece
      positive f = elim (cases_eq (length piece) 0) [ inl z ↦ absurd (both_ways (eqb (length piece) 0) f (eq-eqb (length piece) 0 z)) | inr d ↦ omega (arith, d) ]

  pub write_keeps : refusal_of geo old (Write h k piece) ≡ None → Writes geo old i k piece new → Kept geo old new
  write_keeps none s = write_allows none (λ sound file some short low reaches. stored sound file some short low reaches s.bytes s.overwritten.whole s.stores)
