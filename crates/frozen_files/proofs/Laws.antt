-- Each step keeps the files of snapshots, and so does each run.
use Rattle.std.proofs.Common.{◌≡◌, ◌-◌, ◌*◌, ℕ, Bool, false, List, [], ◌∷◌, take, inl, inr, refl, sym, ap, ◌∙◌, subst, IsTrue, IsFalse, Some, None, Ok, Err}
use Rattle.std.specs.Prelude.{unwrap_or}
use Rattle.std.proofs.lemmas.Bool.{cases_eq, cases_Bool, and_from, both_ways, false_from_ne_true}
use Rattle.model.specs.Layout.{Geometry, IsGeometry, is_data_address}
use Rattle.model.specs.View.{View}
use Rattle.model.specs.Shape.{is_table}
use Rattle.model.specs.Uses.{is_directory_at, IsClaim}
use Rattle.model.proofs.UseLemmas.{claim_from}
use Rattle.findings.specs.declared.repair.Repair.TheVariants.{FreeBlock}
use Rattle.machine.specs.Standing.{Standing, Snapshots, image_at, others}
use Rattle.machine.specs.State.{State, is_kept, snapshot_at, keeps}
use Rattle.machine.specs.Command.{Command, Create, Mkdir, Link, Unlink, Rmdir, Rename, Open, Close, Read, Write, Truncate, ListNames, Stat, Freeze, SnapRead, Release, Install, RepairAt, Flush, Sync, Answer, Done, Number, Bytes, Listed, Reply, SetAttributes, ReadAttributes}
use Rattle.machine.specs.Causes.{Accepts, file_of}
use Rattle.machine.specs.Cells.{seen}
use Rattle.machine.specs.Snapshot.{settled, frozen, released, is_orphan}
use Rattle.machine.specs.Step.{Step, Effect, Run}
use Rattle.machine.specs.Balance.{Balance, Owes}
use Rattle.machine.specs.Debts.{MakesNoDebt}
use Rattle.machine.proofs.AllSteps.{step_keeps, step_debts}
use Rattle.machine.proofs.Base.{settles}
use Rattle.machine.proofs.Clears.{Clears, sound_same, sound_not_gone, directory_same, claim_kept, claim_back}
use Rattle.machine.proofs.Snapshots.{at_here, at_other, at_left, kept_where}
use Rattle.machine.proofs.Decisions.{claim_sound}
use Rattle.frozen_files.specs.Standing.{IsFileClaim, IsOfFile, KeepsFiles}
use Rattle.frozen_files.proofs.Metadata.{IsMetadata}
use Rattle.frozen_files.proofs.Good.{Good, obeyed}
use Rattle.frozen_files.proofs.Frozen.{same_snapshots, unlinked_snapshots, removed_snapshots, renamed_snapshots, closed_snapshots, stores_snapshots, repair_snapshots}
use Rattle.frozen_files.proofs.Holds.{Holds}
use Rattle.frozen_files.proofs.Naming.{create_holds, make_holds, link_holds, unlink_holds, remove_holds, rename_holds}
use Rattle.frozen_files.proofs.Data.{open_holds, install_holds, close_holds, write_holds, truncate_holds, repair_holds, attributes_hold}

no_image : {P : Type 0} (image : View) → None ≡ Some image → P
no_image image e = absurd cc

pub none_kept : (geo : Geometry) (state : State) → state.snapshots.standing ≡ [] → KeepsFiles geo state
none_kept geo state none = record { standing = λ s image i k a e c. no_image image (sym (ap (λ (xs : List (Standing View)). image_at xs s) none) ∙ e) }

-- a block of the files of a snapshot is marked, no metadata, and not to be freed
record IsStanding (geo : Geometry) (s : State) (a : ℕ) : Type 0 where
  kept : IsTrue (is_kept s a)
  good : Good geo a (s.view.bytes a) s.view
  stays : Owes geo s (FreeBlock a) → ⊥

module _ (geo : Geometry) (s : State) (b : Balance geo s) where
  of_file_marked : (a : ℕ) → IsOfFile geo s a → IsTrue (s.view.block_marked a)
  of_file_marked a (inl held) = (b.held_block a held).1
  of_file_marked a (inr c) = b.rules.rule3.marked c.0 c.1 a (c.2).1

  of_file_other : (a : ℕ) → IsOfFile geo s a → (i k : ℕ) → IsMetadata geo s.view i k a → ⊥
  of_file_other a (inl held) i k m = (b.held_block a held).0 (i, k, m.0)
  of_file_other a (inr c) i k m =
      let same = b.rules.rule3.once i k c.0 c.1 a m.0 (c.2).1 in
      elim m.1 [
        | inl table ↦ both_ways (is_table geo c.1) (c.2).2 (subst (λ q. IsTrue (is_table geo q)) same.1 table)
        | inr dir ↦ both_ways (is_directory_at geo s.view c.0) ((c.2).0).1 (subst (λ j. IsTrue (is_directory_at geo s.view j)) same.0 dir)
      ]

  of_file_stays : (a : ℕ) → IsOfFile geo s a → Owes geo s (FreeBlock a) → ⊥
  of_file_stays a (inl held) o = (b.freed_block a o).1 held
  of_file_stays a (inr c) o = (b.freed_block a o).0 (c.0, c.1, (c.2).1)

  standing_by : (n : ℕ) (image : View) (i k a : ℕ) → snapshot_at s n ≡ Some image → IsFileClaim geo image i k a → IsOfFile geo s a → IsStanding geo s a
  standing_by n image i k a e c of = record {
    kept = kept_where s.snapshots.standing n a image e ((b.snapshot n image e).0.rule3.marked i k a c.1);
    good = obeyed geo a (s.view.bytes a) s.view b.rules refl (of_file_marked a of) (c.1).1 (of_file_other a of);
    stays = of_file_stays a of;
  }

  -- a marked block that is no metadata, and not to be freed, is held or a file's
  of_file : (a : ℕ) → IsTrue (is_data_address geo a) → IsTrue (s.view.block_marked a) → ((i k : ℕ) → IsMetadata geo s.view i k a → ⊥) → (Owes geo s (FreeBlock a) → ⊥) → IsOfFile geo s a
  of_file a address mark other stays = elim ((b.blocks a address).0 mark) [
    | inr rest ↦ elim rest [ inl held ↦ inl held | inr o ↦ absurd (stays o) ]
    | inl c ↦
        let claim : IsClaim geo s.view c.0 c.1 a = c.3 in
        let file : IsFalse (is_directory_at geo s.view c.0) = elim (cases_Bool (is_directory_at geo s.view c.0)) [ inl d ↦ absurd (other c.0 c.1 (claim, inr d)) | inr f ↦ f ] in
        inr (c.0, c.1, ((claim_sound geo s.view c.0 c.1 a claim, file), claim, false_from_ne_true (is_table geo c.1) (λ table. other c.0 c.1 (claim, inl table))))
  ]

module _ (geo : Geometry) (old new : State) (b : Balance geo old) (b' : Balance geo new) (debts : MakesNoDebt geo old new) (k : KeepsFiles geo old) where
  -- where the snapshots stay, and each such block is as it was
  by_blocks : new.snapshots ≡ old.snapshots → ((a : ℕ) → IsStanding geo old a → Holds geo a (old.view.bytes a) new) → KeepsFiles geo new
  by_blocks same holds = record {
    standing = λ n image i q a e c.
        let e' : snapshot_at old n ≡ Some image = sym (ap (λ (x : Snapshots View). image_at x.standing n) same) ∙ e in
        let s = k.standing n image i q a e' c in
        let st = standing_by geo old b n image i q a e' c s.0 in
        let h = holds a st in
        (of_file geo new b' a (c.1).1 h.mark h.other (λ o. st.stays (debts (FreeBlock a) o)), h.bytes ∙ s.1);
  }

  -- the same image
  unchanged : new ≡ old → KeepsFiles geo new
  unchanged e = subst (λ s. KeepsFiles geo s) (sym e) k

  -- one more snapshot, of the users' image
  freeze_files : new ≡ frozen geo old → KeepsFiles geo new
  freeze_files e = subst (λ s. KeepsFiles geo s) (sym e) (record {
    standing = λ n image i q a at c. elim (cases_eq old.snapshots.freezes n) [
      | inr earlier ↦ k.standing n image i q a (sym (at_other old.snapshots.freezes n (settled geo old) old.snapshots.standing earlier) ∙ at) c
      | inl here ↦
          let is : settled geo old ≡ image = same_view (settled geo old) image (sym (at_here old.snapshots.freezes (settled geo old) old.snapshots.standing) ∙ ap (snapshot_at (frozen geo old)) here ∙ at) in
          let c' : IsFileClaim geo (settled geo old) i q a = subst (λ v. IsFileClaim geo v i q a) (sym is) c in
          (inr (i, q, was i q a c'), ap (λ (v : View). v.bytes a) is)
    ];
  })
    where
      same_view : (v w : View) → Some v ≡ Some w → v ≡ w
      same_view v w e = cc

      was : (i q a : ℕ) → IsFileClaim geo (settled geo old) i q a → IsFileClaim geo old.view i q a
      was i q a c =
          let cleared = settles geo old b.rules b.open_file in
          let stays = sound_not_gone geo old.view (settled geo old) (is_orphan old) cleared i (c.0).0 in (
            (sym (sound_same geo old.view (settled geo old) (is_orphan old) cleared i stays) ∙ (c.0).0, sym (directory_same geo old.view (settled geo old) (is_orphan old) cleared i stays) ∙ (c.0).1),
            claim_back geo old.view (settled geo old) (is_orphan old) cleared i q a c.1,
            c.2,
          )

  -- a snapshot ends: what another one has marked stays held
  release_files : (s : ℕ) → new ≡ released old s → KeepsFiles geo new
  release_files s e = subst (λ t. KeepsFiles geo t) (sym e) (record {
    standing = λ n image i q a at c.
        let before = at_left n s image old.snapshots.standing at in
        let was = k.standing n image i q a before c in (
          elim was.0 [
            | inl held ↦ inl (and_from (old.held a) (keeps (others old.snapshots.standing s) a) held
                (kept_where (others old.snapshots.standing s) n a image at ((b.snapshot n image before).0.rule3.marked i q a c.1)))
            | inr file ↦ inr (
              file.0,
              file.1,
              (
                (sym (sound_same geo old.view (released old s).view none cleared file.0 refl) ∙ (file.2.0).0, sym (directory_same geo old.view (released old s).view none cleared file.0 refl) ∙ (file.2.0).1),
                claim_kept geo old.view (released old s).view none cleared file.0 file.1 a refl file.2.1,
                file.2.2,
              ),
            )
          ],
          was.1,
        );
  })
    where
      none : ℕ → Bool
      none i = false

      cleared : Clears geo old.view (released old s).view none
      cleared = record { kept = λ i f. refl; cleared = λ i t. absurd (both_ways false refl t); bytes = refl; lost = λ i t. absurd (both_ways false refl t) }

effect_keeps_files : (geo : Geometry) → IsGeometry geo → (old new : State) (command : Command) (answer : Answer) → Balance geo old → Balance geo new → MakesNoDebt geo old new → KeepsFiles geo old → Accepts geo old command
    → Effect geo old command answer new → KeepsFiles geo new
effect_keeps_files geo g old new (Create p words) (Number i) b b' d k a e = by_blocks geo old new b b' d k (same_snapshots geo old new _ e.whole refl) (λ x s. create_holds geo g old new b x _ s.kept s.good p words i e)
effect_keeps_files geo g old new (Mkdir p words) (Number i) b b' d k a e = by_blocks geo old new b b' d k (same_snapshots geo old new _ e.whole refl) (λ x s. make_holds geo g old new b x _ s.kept s.good p words i e)
effect_keeps_files geo g old new (Link p q) Done b b' d k a e = by_blocks geo old new b b' d k (same_snapshots geo old new _ e.whole refl) (λ x s. link_holds geo g old new b x _ s.kept s.good p q e)
effect_keeps_files geo g old new (Unlink p) Done b b' d k a e = by_blocks geo old new b b' d k (unlinked_snapshots geo old new p e) (λ x s. unlink_holds geo g old new b x _ s.kept s.good p a.0 e)
effect_keeps_files geo g old new (Rmdir p) Done b b' d k a e = by_blocks geo old new b b' d k (removed_snapshots geo old new p e) (λ x s. remove_holds geo g old new b x _ s.kept s.good p a.0 e)
effect_keeps_files geo g old new (Rename p q) Done b b' d k a e = by_blocks geo old new b b' d k (renamed_snapshots geo old new p q e) (λ x s. rename_holds geo g old new b x _ s.kept s.good p q a.0 e)
effect_keeps_files geo g old new (Open p) (Number h) b b' d k a e = by_blocks geo old new b b' d k (same_snapshots geo old new _ e.whole refl) (λ x s. open_holds geo g old new b x _ s.kept s.good _ e.whole)
effect_keeps_files geo g old new (Close h) Done b b' d k a e = by_blocks geo old new b b' d k (closed_snapshots geo old new h (file_of old h) e) (λ x s. close_holds geo g old new b x _ s.kept s.good h e)
effect_keeps_files geo g old new (Read h i) (Bytes bytes) b b' d k a e = unchanged geo old new b b' d k e.1
effect_keeps_files geo g old new (Write h i piece) Done b b' d k a e = by_blocks geo old new b b' d k (stores_snapshots geo old new _ _ _ _ e.stores) (λ x s. write_holds geo g old new b x _ s.kept s.good h i piece a.0 e)
effect_keeps_files geo g old new (Truncate h n) Done b b' d k a e = by_blocks geo old new b b' d k (same_snapshots geo old new _ e refl) (λ x s. truncate_holds geo g old new b x _ s.kept s.good h n a.0 e)
effect_keeps_files geo g old new (SetAttributes i words) Done b b' d k a e = by_blocks geo old new b b' d k (same_snapshots geo old new _ e refl) (λ x s. attributes_hold geo g old new b x _ s.kept s.good i words e)
effect_keeps_files geo g old new (ListNames p) (Listed names) b b' d k a e = unchanged geo old new b b' d k e.1
effect_keeps_files geo g old new (Stat p) answer b b' d k a e = unchanged geo old new b b' d k e.1
effect_keeps_files geo g old new (ReadAttributes i) answer b b' d k a e = unchanged geo old new b b' d k e.1
effect_keeps_files geo g old new Freeze answer b b' d k a e = freeze_files geo old new b b' d k e.1
effect_keeps_files geo g old new (SnapRead s i n) (Bytes bytes) b b' d k a e = unchanged geo old new b b' d k e.3
effect_keeps_files geo g old new (Release s) Done b b' d k a e = release_files geo old new b b' d k s e
effect_keeps_files geo g old new (Install check) Done b b' d k a e = by_blocks geo old new b b' d k (same_snapshots geo old new _ e.whole refl) (λ x s. install_holds geo g old new b x _ s.kept s.good _ e.whole)
effect_keeps_files geo g old new (RepairAt n) Done b b' d k a e = by_blocks geo old new b b' d k (repair_snapshots geo old new n e) (λ x s. repair_holds geo g old new b x _ s.kept s.good s.stays n a.0 e)
effect_keeps_files geo g old new (Flush n) (Number m) b b' d k a e = unchanged geo old new b b' d k e
effect_keeps_files geo g old new Sync Done b b' d k a e = unchanged geo old new b b' d k e
effect_keeps_files geo g old new _ _ b b' d k a e = absurd e

pub step_keeps_files : (geo : Geometry) → IsGeometry geo → (old new : State) (command : Command) (reply : Reply) → Balance geo old → KeepsFiles geo old → Step geo old command reply new → KeepsFiles geo new
step_keeps_files geo g old new command (Ok answer) b k s =
    effect_keeps_files geo g old new command answer b (step_keeps geo g old new command (Ok answer) b s) (step_debts geo g old new command (Ok answer) b s) k s.0 s.1
step_keeps_files geo g old new command (Err r) b k s = subst (λ t. KeepsFiles geo t) (sym s.1) k

pub run_keeps_files : (geo : Geometry) → IsGeometry geo → (old new : State) (commands : List Command) (replies : List Reply) → Balance geo old → KeepsFiles geo old → Run geo old commands replies new → KeepsFiles geo new
run_keeps_files geo g old new [] [] b k r = subst (λ t. KeepsFiles geo t) (sym r) k
run_keeps_files geo g old new (c ∷ cs) (x ∷ xs) b k r = run_keeps_files geo g r.0 new cs xs (step_keeps geo g old r.0 c x b r.1) (step_keeps_files geo g old r.0 c x b k r.1) r.2
run_keeps_files geo g old new [] (x ∷ xs) b k r = absurd r
run_keeps_files geo g old new (c ∷ cs) [] b k r = absurd r

-- a read of a snapshot may read the users' block
pub read_of_users : (geo : Geometry) (state : State) (s : ℕ) (image : View) → Balance geo state → KeepsFiles geo state → snapshot_at state s ≡ Some image → (i k a : ℕ) → IsFileClaim geo image i k a
    → seen geo image i k ≡ take ((image.inode i).size - 1024 * k) (state.view.bytes a)
read_of_users geo state s image b kept e i k a c =
    ap (λ o. take ((image.inode i).size - 1024 * k) (image.bytes (unwrap_or o 0))) (claim_from geo image i k a c.1)
    ∙ ap (λ (xs : List ℕ). take ((image.inode i).size - 1024 * k) xs) (sym (kept.standing s image i k a e c).1)
