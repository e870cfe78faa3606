-- The commands that change data, and repairs, leave a block of a snapshot's files as it is.
use Rattle.std.proofs.Common.{◌≡◌, ◌<◌, ◌≤◌, ◌+◌, ◌*◌, ℕ, Bool, true, false, ◌||◌, eqb, ltb, leb, max, List, length, ◌⊎◌, inl, inr, refl, sym, ap, ◌∙◌, subst, arith, IsTrue, IsFalse, Option, Some, None}
use Rattle.std.specs.Prelude.{is_none, unwrap_or}
use Rattle.std.specs.Option.{option_and_then}
use Rattle.std.proofs.lemmas.Bool.{cases_lt, cases_eq, eq-eqb, both_ways, leb-true, leb-false, ltb-false}
use Rattle.model.specs.Layout.{Geometry, IsGeometry}
use Rattle.model.specs.View.{View}
use Rattle.model.specs.Cells.{SetBytes, put_at, updated}
use Rattle.model.specs.Rules.{ObeysRules}
use Rattle.model.specs.Shape.{most_blocks}
use Rattle.model.specs.Uses.{blocks_of, is_sound_at, is_directory_at, IsClaim}
use Rattle.model.proofs.Places.{put_there}
use Rattle.model.proofs.UseLemmas.{claim_from}
use Rattle.model.proofs.Uses.{below_has, has_claims, sound_few}
use Rattle.findings.specs.declared.repair.Repair.{Repair}
use Rattle.findings.specs.declared.repair.Repair.TheVariants.{DropInode, LowerCount, FreeBlock, FreeNumber}
use Rattle.layout.specs.declared.refusal.Refusal.TheVariants.{BadHandle, BadPiece, BadIndex, TooBig, AlreadyDone}
use Rattle.machine.specs.State.{State, Plan, is_kept, open_at, latest}
use Rattle.machine.specs.Command.{Write, Truncate, RepairAt}
use Rattle.machine.specs.Causes.{causes, refusal_of, file_of, not_open}
use Rattle.machine.specs.Below.{when}
use Rattle.machine.specs.Cells.{block_of, Places}
use Rattle.machine.specs.Effects.{Writes, Stores, InPlace, Moved, Appended, size_after, truncated, closed, attributed}
use Rattle.machine.specs.Repairs.{CarriesOut, repaired}
use Rattle.machine.specs.Balance.{Balance, Owes, OwesBy}
use Rattle.machine.proofs.Decisions.{sound_parts}
use Rattle.machine.proofs.Walks.{quiet, when_none}
use Rattle.machine.proofs.FileRecords.{file_mode, file_sound}
use Rattle.frozen_files.proofs.Metadata.{marks_within}
use Rattle.frozen_files.proofs.Good.{Good, bytes_good, record_good}
use Rattle.frozen_files.proofs.Placed.{placed}
use Rattle.frozen_files.proofs.Holds.{Holds, file_claims, good_holds, lets_go_holds, swept_holds, relinked_holds, truncated_holds, attributed_holds}

-- the inode of an open handle
opened_file : (s : State) (h : ℕ) → not_open s h ≡ None → open_at s h ≡ Some (file_of s h)
opened_file s h e = go (open_at s h) (when_none (is_none (open_at s h)) BadHandle e)
  where
    go : (o : Option ℕ) → is_none o ≡ false → o ≡ Some (unwrap_or o 0)
    go None f = absurd (both_ways true f refl)
    go (Some i) f = refl

neither : (p q : Bool) → (p || q) ≡ false → (p ≡ false) × (q ≡ false)
neither true q e = absurd (both_ways true e refl)
neither false q e = (refl, e)

-- the block at a position below the blocks of a sound inode
module _ (geo : Geometry) (v : View) (o : ObeysRules geo v) (i k : ℕ) (sound : IsTrue (is_sound_at geo v i)) (inside : k < blocks_of (v.inode i).size) where
  block_claimed : IsClaim geo v i k (block_of geo v i k)
  block_claimed =
      let c = has_claims geo v i (λ q x u. o.rule3.claims i q x u) sound k (below_has geo (v.inode i) k inside (sound_few geo (v.inode i) (sound_parts geo v i sound).1)) in
      subst (λ x. IsClaim geo v i k x) (sym (ap (λ p. unwrap_or p 0) (claim_from geo v i k c.0 c.1))) c.1

-- the blocks of a file after a piece at block k
pub blocks_after : (size k n q : ℕ) → k ≤ blocks_of size → n ≤ 1024 → q < blocks_of (max size (1024 * k + n)) → (q < blocks_of size) ⊎ (q ≡ k)
blocks_after size k n q next short less = elim (cases_lt q (blocks_of size)) [ inl was ↦ inl was | inr past ↦ inr (omega (arith, next, short, less, past)) ]

module _ (geo : Geometry) (g : IsGeometry geo) (old new : State) (b : Balance geo old) (a : ℕ) (content : List ℕ) (kept : IsTrue (is_kept old a)) (start : Good geo a content old.view) where
  abbrev v : View
  v = old.view

  abbrev Holding : State → Type 0
  Holding s = Holds geo a content s

  is_here : (s : State) → new ≡ s → Holding s → Holding new
  is_here s e h = subst (λ t. Holding t) (sym e) h

  begin : Holding old
  begin = good_holds geo a content old kept start

  -- ---- handles

  opened_holds : (opened : ℕ → Option ℕ) → Holding (record old { opened = opened })
  opened_holds opened = record { kept = kept; bytes = start.bytes; mark = start.mark; other = start.other }

  pub open_holds : (opened : ℕ → Option ℕ) → new ≡ record old { opened = opened } → Holding new
  open_holds opened e = is_here (record old { opened = opened }) e (opened_holds opened)

  -- a plan
  pub install_holds : (plan : Option Plan) → new ≡ record old { plan = plan } → Holding new
  install_holds plan e = is_here (record old { plan = plan }) e (record { kept = kept; bytes = start.bytes; mark = start.mark; other = start.other })

  pub close_holds : (h : ℕ) → new ≡ closed geo old h → Holding new
  close_holds h e = is_here (closed geo old h) e (swept_holds geo a content _ (opened_holds (put_at old.opened h None)) (file_of old h))

  -- ---- truncations

  pub truncate_holds : (h n : ℕ) → refusal_of geo old (Truncate h n) ≡ None → new ≡ truncated geo old (file_of old h) n → Holding new
  unfolding causes
  truncate_holds h n none e =
      let i = file_of old h in
      let q = quiet (causes geo old (Truncate h n)) none in
      let p = b.open_file i (h, opened_file old h q.0) in
      let less = ltb-false (v.inode i).size n (when_none (ltb (v.inode i).size n) BadIndex q.1.0) in
      is_here (truncated geo old i n) e (truncated_holds geo a content old begin i n p.0 p.1 (omega (arith, less)))

  pub attributes_hold : (i : ℕ) (words : List ℕ) → new ≡ attributed old i words → Holding new
  attributes_hold i words e = is_here (attributed old i words) e (attributed_holds geo a content old begin i words)

  -- ---- writes

  module _ (i k : ℕ) (piece bytes : List ℕ) (sound : IsTrue (is_sound_at geo v i)) (file : IsFalse (is_directory_at geo v i)) (some : 1 ≤ length piece) (short : length piece ≤ 1024) (low : k < most_blocks geo) where
    abbrev size : ℕ
    size = size_after v i k piece

    -- a block is placed
    moved : (w : View) → k ≤ blocks_of (v.inode i).size → Places geo v i k bytes size w → Good geo a content w
    moved w next p = placed geo v i k bytes size w p a content start (record {
      geometry = g;
      number = (sound_parts geo v i sound).0;
      sound = λ l has. (sound_parts geo v i sound).1;
      still = file_sound geo (v.inode i) size (file_mode geo v i sound file) few_after;
      more = omega arith;
      inside = omega (arith, some);
      came = λ q less. blocks_after (v.inode i).size k (length piece) q next short less;
      whole = λ m c table t. b.whole c (t.0).1;
      twelve = b.records i;
    })
      where
        few_before : blocks_of (v.inode i).size ≤ most_blocks geo
        few_before = sound_few geo (v.inode i) (sound_parts geo v i sound).1

        few_after : blocks_of size ≤ most_blocks geo
        few_after = elim (cases_lt (most_blocks geo) (blocks_of size)) [
          | inr few ↦ few
          | inl many ↦ absurd (elim (blocks_after (v.inode i).size k (length piece) (most_blocks geo) next short many) [ inl was ↦ omega (arith, was, few_before) | inr at ↦ omega (arith, at, low) ])
        ]

    stores_hold : Stores geo old i k bytes size new → Holding new
    stores_hold (InPlace inside free is) =
        let c = block_claimed geo v b.rules i k sound inside in
        let x = block_of geo v i k in
        let g1 = bytes_good geo a content v start x bytes (λ e. both_ways (is_kept old x) free (subst (λ q. IsTrue (is_kept old q)) e kept))
        (λ j m table t. let at = (b.rules.rule3.once j m i k x t.0 c).1 in let high = leb-true (most_blocks geo) m table in omega (arith, at, high, low)) in
        let no_more : blocks_of size ≤ blocks_of (v.inode i).size = elim (cases_lt (blocks_of (v.inode i).size) (blocks_of size)) [
          | inr few ↦ few
          | inl many ↦ absurd (elim (blocks_after (v.inode i).size k (length piece) (blocks_of (v.inode i).size) (omega (arith, inside)) short many) [ inl was ↦ omega (arith, was) | inr at ↦ omega (arith, at, inside) ])
        ] in
        let v1 : View = updated v (SetBytes x bytes) in
        is_here _ is (good_holds geo a content _ kept
        (record_good geo a content v1 g1 i (record (v.inode i) { size = size }) (file_claims geo v1 i size sound file no_more)))
    stores_hold (Moved w inside is_kept_too p is) =
        let h = moved w (omega (arith, inside)) p in
        is_here _ is (lets_go_holds geo a content old kept i w h.bytes h.mark h.other)
    stores_hold (Appended w at p is) = is_here _ is (good_holds geo a content _ kept (moved w (omega (arith, at)) p))

  pub write_holds : (h k : ℕ) (piece : List ℕ) → refusal_of geo old (Write h k piece) ≡ None → Writes geo old (file_of old h) k piece new → Holding new
  unfolding causes
  write_holds h k piece none w =
      let i = file_of old h in
      let q = quiet (causes geo old (Write h k piece)) none in
      let p = b.open_file i (h, opened_file old h q.0) in
      let sizes = neither (eqb (length piece) 0) (ltb 1024 (length piece)) (when_none (eqb (length piece) 0 || ltb 1024 (length piece)) BadPiece q.1.0) in
      let some : 1 ≤ length piece = elim (cases_eq (length piece) 0) [ inl e ↦ absurd (both_ways (eqb (length piece) 0) sizes.0 (eq-eqb (length piece) 0 e)) | inr d ↦ omega (arith, d) ] in
      let low = leb-false (most_blocks geo) k (when_none (leb (most_blocks geo) k) TooBig q.1.1.0) in
      stores_hold i k piece w.bytes p.0 p.1 some (ltb-false 1024 (length piece) sizes.1) low w.stores

  -- ---- repairs

  -- what is carried out was owed
  owed : (k : ℕ) (c : CarriesOut geo old k new) → refusal_of geo old (RepairAt k) ≡ None → Owes geo old c.repair
  unfolding causes
  owed k c none =
      let q = quiet (causes geo old (RepairAt k)) none in
      let not_done = when_none (c.plan.done k) AlreadyDone (sym (ap (option_and_then (λ (plan : Plan). when (plan.done k) AlreadyDone)) c.planned) ∙ q.1.1.0) in
      subst (λ x. OwesBy geo old x (latest old) c.repair) (sym c.planned) (k, c.stands, not_done)

  repaired_holds : (Owes geo old (FreeBlock a) → ⊥) → (r : Repair) → Owes geo old r → Holding (repaired geo old r)
  repaired_holds none (DropInode i) o = relinked_holds geo a content old begin i 0
  repaired_holds none (LowerCount i x) o = relinked_holds geo a content old begin i _
  repaired_holds none (FreeBlock x) o = record {
    kept = kept;
    bytes = start.bytes;
    mark = put_there v.block_marked x a false (λ e. none (subst (λ q. Owes geo old (FreeBlock q)) (sym e) o)) ∙ start.mark;
    other = λ i k m. start.other i k (marks_within geo v (repaired geo old (FreeBlock x)).view refl refl i k a m);
  }
  repaired_holds none (FreeNumber i) o = record {
    kept = kept;
    bytes = start.bytes;
    mark = start.mark;
    other = λ j k m. start.other j k (marks_within geo v (repaired geo old (FreeNumber i)).view refl refl j k a m);
  }

  pub repair_holds : (Owes geo old (FreeBlock a) → ⊥) → (k : ℕ) → refusal_of geo old (RepairAt k) ≡ None → CarriesOut geo old k new → Holding new
  repair_holds none k refused c =
      let h = repaired_holds none c.repair (owed k c refused) in
      is_here _ c.whole (record { kept = h.kept; bytes = h.bytes; mark = h.mark; other = h.other })
