-- A file gets a smaller size, and lets go the blocks past it, which keeps the balance.
use Rattle.std.proofs.Common.{◌≡◌, ◌≤◌, ℕ, true, ◌&&◌, ltb, length, inl, refl, sym, ap, ◌∙◌, subst, arith, IsTrue, IsFalse, Some, None}
use Rattle.findings.specs.declared.repair.Repair.{Repair}
use Rattle.std.proofs.lemmas.Bool.{ltb-false}
use Rattle.model.specs.Layout.{Geometry, is_number}
use Rattle.model.specs.View.{View, Inode}
use Rattle.model.specs.Cells.{SetInode, updated}
use Rattle.model.specs.Uses.{is_sound, is_sound_at, is_directory, is_directory_at, record_use, use_at, blocks_of, IsUse, IsClaim}
use Rattle.model.proofs.Shape.{more_reach}
use Rattle.model.proofs.Steps.{use_sound}
use Rattle.model.proofs.Uses.{use_has, use_number, number_use, sound_few, same_field, record_uses_agree}
use Rattle.model.proofs.Places.{put_here, put_there, put_same}
use Rattle.layout.specs.declared.refusal.Refusal.TheVariants.{BadIndex}
use Rattle.machine.specs.State.{State}
use Rattle.machine.specs.Command.{Truncate}
use Rattle.machine.specs.Causes.{causes, refusal_of, file_of}
use Rattle.machine.specs.Effects.{truncated}
use Rattle.machine.specs.Balance.{Balance, Owes}
use Rattle.machine.proofs.Decisions.{sound_parts}
use Rattle.machine.proofs.Tests.{test_claims}
use Rattle.machine.proofs.OpenHandles.{opened_file}
use Rattle.machine.proofs.Walks.{quiet, when_none}
use Rattle.machine.proofs.FileRecords.{file_mode, file_sound}
use Rattle.machine.proofs.FileTrees.{file_tree}
use Rattle.machine.proofs.Ledger.{Ledger, ledger, no_slack, Kept, kept_by}
use Rattle.machine.proofs.Placing.{same_uses}
use Rattle.machine.proofs.Rewrites.{Rewrites}
use Rattle.machine.proofs.Rewriting.{rewritten}

module _ (geo : Geometry) (x : Inode) (n : ℕ) (less : n ≤ x.size) where
  abbrev y : Inode
  y = record x { size = n }

  fewer : blocks_of n ≤ blocks_of x.size
  fewer = omega (arith, less)

  -- what is used was used
  pub shorter_uses : (v : View) → IsTrue (is_sound geo x) → (k a : ℕ) → record_use geo v y k ≡ Some a → record_use geo v x k ≡ Some a
  shorter_uses v sound k a u =
      let has = use_has geo v y k a u in
      sym (same_field geo v y x (use_sound geo v y k a u) sound k has (more_reach geo (blocks_of n) (blocks_of x.size) k fewer has) refl) ∙ u

module _ (geo : Geometry) (owed : Repair → Type 0) (slack : ℕ → ℕ) (s : State) (l : Ledger geo owed slack s) (i n : ℕ) (sound : IsTrue (is_sound_at geo s.view i)) (file : IsFalse (is_directory_at geo s.view i)) (less : n ≤ (s.view.inode i).size) where
  abbrev v : View
  v = s.view

  abbrev shorter : Inode
  shorter = record (v.inode i) { size = n }

  abbrev x : View
  x = updated v (SetInode i shorter)

  still : IsTrue (is_sound geo shorter)
  still = file_sound geo (v.inode i) n (file_mode geo v i sound file) (omega (arith, sound_few geo (v.inode i) (sound_parts geo v i sound).1, fewer geo (v.inode i) n less))

  was : is_sound geo (v.inode i) ≡ true
  was = (sound_parts geo v i sound).1

  sounds : (j : ℕ) → is_sound_at geo v j ≡ is_sound_at geo x j
  sounds = put_same v.inode i shorter (λ m y. is_number geo m && is_sound geo y) (ap (λ t. is_number geo i && t) (was ∙ sym still))

  directories : (j : ℕ) → is_directory_at geo v j ≡ is_directory_at geo x j
  directories = put_same v.inode i shorter (λ m y. is_number geo m && is_sound geo y && is_directory y) (ap (λ t. is_number geo i && t && is_directory (v.inode i)) (was ∙ sym still))

  others : (j k : ℕ) → (j ≡ i → ⊥) → use_at geo v j k ≡ use_at geo x j k
  others j k d = same_uses geo v x j k (put_there v.inode i j shorter d) (λ m a table c. refl)

  use_before : (k a : ℕ) → IsUse geo x i k a → IsUse geo v i k a
  use_before k a u =
      let p = use_number geo x i k a u in
      number_use geo v i k a p.0 (shorter_uses geo (v.inode i) n less v (sound_parts geo v i sound).1 k a
      (sym (record_uses_agree geo x v shorter k (λ m t above e d. refl)) ∙ subst (λ (y : Inode). record_use geo x y k ≡ Some a) (put_here v.inode i shorter) p.1))

  rewrites : Rewrites geo v x i (λ a. ⊥)
  rewrites = record {
    tree = file_tree geo v x i file sounds directories others (λ d s a apart c. refl);
    sounds = sounds;
    directories = directories;
    modes = put_same v.inode i shorter (λ m (y : Inode). y.mode) refl;
    links = put_same v.inode i shorter (λ m (y : Inode). y.links) refl;
    numbers = λ j. refl;
    others = others;
    uses = λ k a u. l.rules.rule3.claims i k a (use_before k a u);
    mine = λ k a c. let was' : IsClaim geo v i k a = (use_before k a c.0, c.1) in inl ((i, k, was'), test_claims geo v i k a was');
    once = λ k m a c e. (l.rules.rule3.once i k i m a (use_before k a c.0, c.1) (use_before m a e.0, e.1)).1;
    marks_kept = λ a m. m;
    marks_came = λ a m. inl m;
    fresh_free = λ a f. absurd f;
    fresh_marked = λ a f. absurd f;
    fresh_claimed = λ a f. absurd f;
    whole = l.whole;
    records = λ j. sym (put_same v.inode i shorter (λ m (y : Inode). length y.direct) refl j) ∙ l.records j;
  }

  pub truncated_ledger : Ledger geo owed slack (truncated geo s i n)
  truncated_ledger = rewritten geo owed slack s l i x (λ a. ⊥) rewrites

module _ (geo : Geometry) (old new : State) (b : Balance geo old) (h n : ℕ) where
  abbrev i : ℕ
  i = file_of old h

  -- what a truncation that is not refused may rely on
  pub truncate_allows : {A : Type 0} → refusal_of geo old (Truncate h n) ≡ None → (IsTrue (is_sound_at geo old.view i) → IsFalse (is_directory_at geo old.view i) → n ≤ (old.view.inode i).size → A) → A
  unfolding causes
  truncate_allows none then =
      let q = quiet (causes geo old (Truncate h n)) none in
      let p = b.open_file i (h, opened_file old h q.0) in
      then p.0 p.1 (ltb-false (old.view.inode i).size n (when_none (ltb (old.view.inode i).size n) BadIndex q.1.0))

  pub truncate_keeps : refusal_of geo old (Truncate h n) ≡ None → new ≡ truncated geo old i n → Kept geo old new
  truncate_keeps none e = subst (λ t. Kept geo old t) (sym e)
      (truncate_allows none (λ sound file less. kept_by geo old (truncated geo old i n) (truncated_ledger geo (Owes geo old) no_slack old (ledger geo old b) i n sound file less) refl refl))
