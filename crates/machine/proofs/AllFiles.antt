-- Each step leaves a file that it does not write as it was, or frees it.
use Rattle.std.proofs.Common.{◌≡◌, ℕ, List, inl, refl, sym, ap, subst, Ok, Err, None}
use Rattle.model.specs.Layout.{Geometry, IsGeometry}
use Rattle.model.specs.Cells.{put_at}
use Rattle.findings.specs.declared.repair.Repair.{Repair}
use Rattle.findings.specs.declared.repair.Repair.TheVariants.{DropInode, LowerCount, FreeBlock, FreeNumber}
use Rattle.machine.specs.State.{State}
use Rattle.machine.specs.Command.{Command, Create, Mkdir, Link, Unlink, Rmdir, Rename, Open, Close, Read, Write, Truncate, SetAttributes, ReadAttributes, ListNames, Stat, Freeze, SnapRead, Release, Install, RepairAt, Flush, Sync, Answer, Done, Number, Bytes, Listed, Reply}
use Rattle.machine.specs.Causes.{Accepts, file_of}
use Rattle.machine.specs.Effects.{closed, truncated}
use Rattle.machine.specs.Snapshot.{released}
use Rattle.machine.specs.Repairs.{repaired}
use Rattle.machine.specs.Step.{Step, Effect}
use Rattle.machine.specs.Balance.{Balance}
use Rattle.machine.specs.Files.{IsFile, IsWriteTo, IsWritten}
use Rattle.machine.proofs.SameFiles.{same_file, record_file}
use Rattle.machine.proofs.FileStays.{Stays, swept_file, relinked_file, stays_or_gone}
use Rattle.machine.proofs.NewFiles.{create_files}
use Rattle.machine.proofs.NewDirectoryFiles.{mkdir_files}
use Rattle.machine.proofs.NewLinks.{link_files}
use Rattle.machine.proofs.Unlinking.{unlink_files}
use Rattle.machine.proofs.Removing.{rmdir_files}
use Rattle.machine.proofs.RenameCommand.{rename_files}
use Rattle.machine.proofs.WritesSeen.{write_shows}
use Rattle.machine.proofs.TruncatedSeen.{truncated_others}
use Rattle.machine.proofs.SettingAttributes.{set_file, set_sound}

module _ (geo : Geometry) (old new : State) (j : ℕ) where
  -- the image is the same
  unchanged : new ≡ old → Stays geo old.view new.view j
  unchanged e = subst (λ (t : State). Stays geo old.view t.view j) (sym e) (inl (same_file geo old.view j))

  -- records and bytes are the same
  remarked : (t : State) → old.view.inode ≡ t.view.inode → old.view.bytes ≡ t.view.bytes → new ≡ t → Stays geo old.view new.view j
  remarked t records bytes e = subst (λ (x : State). Stays geo old.view x.view j) (sym e) (inl (record_file geo old.view t.view j (ap (λ f. f j) records) bytes))

  -- a repair may free the file
  repair_stays : (r : Repair) → Stays geo old.view (repaired geo old r).view j
  repair_stays (DropInode i) = stays_or_gone geo old.view (repaired geo old (DropInode i)).view i j (relinked_file geo old i 0 j)
  repair_stays (LowerCount i x) = stays_or_gone geo old.view (repaired geo old (LowerCount i x)).view i j (relinked_file geo old i _ j)
  repair_stays (FreeBlock a) = inl (record_file geo old.view (repaired geo old (FreeBlock a)).view j refl refl)
  repair_stays (FreeNumber i) = inl (record_file geo old.view (repaired geo old (FreeNumber i)).view j refl refl)

  -- and so may the last close
  close_stays : (h : ℕ) → new ≡ closed geo old h → Stays geo old.view new.view j
  close_stays h e = subst (λ (t : State). Stays geo old.view t.view j) (sym e) (stays_or_gone geo old.view (closed geo old h).view (file_of old h) j (swept_file geo (record old { opened = put_at old.opened h None }) (file_of old h) j))

  -- another file is written, or truncated
  write_stays : IsGeometry geo → Balance geo old → (h k : ℕ) (piece : List ℕ) → Step geo old (Write h k piece) (Ok Done) new → (file_of old h ≡ j → ⊥) → Stays geo old.view new.view j
  write_stays g b h k piece s other = inl ((write_shows geo g old new h k piece b s).others j (λ e. other (sym e)))

  truncate_stays : (h n : ℕ) → new ≡ truncated geo old (file_of old h) n → (file_of old h ≡ j → ⊥) → Stays geo old.view new.view j
  truncate_stays h n e other = subst (λ (t : State). Stays geo old.view t.view j) (sym e) (inl (truncated_others geo old (file_of old h) n j (λ q. other (sym q))))

-- each command that is carried out, but those that write the file
effect_stays : (geo : Geometry) → IsGeometry geo → (old new : State) (command : Command) (answer : Answer) (j : ℕ) → Balance geo old → Accepts geo old command → Effect geo old command answer new → IsFile geo old.view j
    → (IsWriteTo old j command → ⊥) → Stays geo old.view new.view j
effect_stays geo g old new (Create p words) (Number i) j b a e is other = inl (create_files geo g old new b p words i e a.0 j is)
effect_stays geo g old new (Mkdir p words) (Number i) j b a e is other = inl (mkdir_files geo g old new b p words i e a.0 j is)
effect_stays geo g old new (Link p q) Done j b a e is other = inl (link_files geo g old new b p q e a.0 j is)
effect_stays geo g old new (Unlink p) Done j b a e is other = unlink_files geo old new b p a.0 e j is
effect_stays geo g old new (Rmdir p) Done j b a e is other = inl (rmdir_files geo old new b p a.0 e j is)
effect_stays geo g old new (Rename p q) Done j b a e is other = inl (rename_files geo g old new b p q a.0 e j is)
effect_stays geo g old new (Open p) (Number h) j b a e is other = remarked geo old new j _ refl refl e.whole
effect_stays geo g old new (Close h) Done j b a e is other = close_stays geo old new j h e
effect_stays geo g old new (Read h k) (Bytes bytes) j b a e is other = unchanged geo old new j e.1
effect_stays geo g old new (Write h k piece) Done j b a e is other = write_stays geo old new j g b h k piece (a, e) other
effect_stays geo g old new (Truncate h n) Done j b a e is other = truncate_stays geo old new j h n e other
effect_stays geo g old new (SetAttributes i words) Done j b a e is other =
    subst (λ (t : State). Stays geo old.view t.view j) (sym e) (inl (set_file geo old.view i words (set_sound geo old new b i words a.0) j))
effect_stays geo g old new (ListNames p) (Listed names) j b a e is other = unchanged geo old new j e.1
effect_stays geo g old new (Stat p) answer j b a e is other = unchanged geo old new j e.1
effect_stays geo g old new (ReadAttributes i) answer j b a e is other = unchanged geo old new j e.1
effect_stays geo g old new Freeze answer j b a e is other = remarked geo old new j _ refl refl e.1
effect_stays geo g old new (SnapRead s i k) (Bytes bytes) j b a e is other = unchanged geo old new j e.3
effect_stays geo g old new (Release s) Done j b a e is other = remarked geo old new j (released old s) refl refl e
effect_stays geo g old new (Install check) Done j b a e is other = remarked geo old new j _ refl refl e.whole
effect_stays geo g old new (RepairAt k) Done j b a e is other = subst (λ (t : State). Stays geo old.view t.view j) (sym e.whole) (repair_stays geo old new j e.repair)
effect_stays geo g old new (Flush a) (Number n) j b _ e is other = unchanged geo old new j e
effect_stays geo g old new Sync Done j b a e is other = unchanged geo old new j e
effect_stays geo g old new _ _ j b a e is other = absurd e

-- each step, but those
pub step_stays : (geo : Geometry) → IsGeometry geo → (old new : State) (command : Command) (reply : Reply) (j : ℕ) → Balance geo old → Step geo old command reply new → IsFile geo old.view j
    → (IsWritten old j command reply → ⊥) → Stays geo old.view new.view j
step_stays geo g old new command (Ok answer) j b s is other = effect_stays geo g old new command answer j b s.0 s.1 is other
step_stays geo g old new command (Err r) j b s is other = unchanged geo old new j s.1
