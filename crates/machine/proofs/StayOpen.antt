-- A handle stays open on its inode until it is closed.
use Rattle.std.proofs.Common.{◌≡◌, ◌-◌, ℕ, Bool, true, false, not, ◌&&◌, cond, eqb, ltb, List, [], ◌∷◌, inl, inr, refl, sym, ap, ◌∙◌, Option, Some, None}
use Rattle.std.proofs.lemmas.Bool.{cases_Bool, cond-true, cond-false}
use Rattle.model.specs.Layout.{Geometry}
use Rattle.model.specs.View.{free_inode}
use Rattle.model.specs.Cells.{SetInode, SetNumber, updated_all, put_at}
use Rattle.model.proofs.Places.{put_there}
use Rattle.findings.specs.declared.repair.Repair.{Repair}
use Rattle.findings.specs.declared.repair.Repair.TheVariants.{DropInode, LowerCount, FreeBlock, FreeNumber}
use Rattle.machine.specs.State.{State, open_at, handle_count, is_open}
use Rattle.machine.specs.Command.{Command, Create, Mkdir, Link, Unlink, Rmdir, Rename, Open, Close, Read, Write, Truncate, SetAttributes, ReadAttributes, ListNames, Stat, Freeze, SnapRead, Release, Install, RepairAt, Flush, Sync, Answer, Done, Number, Bytes, Listed}
use Rattle.machine.specs.Causes.{file_of}
use Rattle.machine.specs.Paths.{holder, slot_at, number_at}
use Rattle.machine.specs.Effects.{lets_go, swept, relinked, emptied, removed, closed, size_after, Stores, InPlace, Moved, Appended, Renames, Within, Across, Opens}
use Rattle.machine.specs.Repairs.{repaired}
use Rattle.machine.specs.Step.{Effect}
use Rattle.machine.proofs.Tests.{not_some}
use Rattle.machine.proofs.Relinked.{relinked_opened}

module _ (geo : Geometry) (old : State) where
  -- the steps of commands that leave the table of handles as it is
  swept_opened : (s : State) (i : ℕ) → (swept geo s i).opened ≡ s.opened
  swept_opened s i = elim (cases_Bool test) [ inl t ↦ ap (λ (x : State). x.opened) (cond-true test gone s t) | inr f ↦ ap (λ (x : State). x.opened) (cond-false test gone s f) ]
    where
      test : Bool
      test = eqb (s.view.inode i).links 0 && not (is_open s i)

      gone : State
      gone = lets_go geo s i (updated_all s.view (SetInode i free_inode ∷ SetNumber i false ∷ []))

  renames_opened : (new : State) (p q : List ℕ) → Renames geo old p q new → new.opened ≡ old.opened
  renames_opened new p q (Within entry same says e) = ap (λ (s : State). s.opened) e
  renames_opened new p q (Across view differ enters e) = ap (λ (s : State). s.opened) e

  stores_opened : (new : State) (i k : ℕ) (bytes : List ℕ) (size : ℕ) → Stores geo old i k bytes size new → new.opened ≡ old.opened
  stores_opened new i k bytes size (InPlace inside free e) = ap (λ (s : State). s.opened) e
  stores_opened new i k bytes size (Moved view inside kept p e) = ap (λ (s : State). s.opened) e
  stores_opened new i k bytes size (Appended view at p e) = ap (λ (s : State). s.opened) e

  removed_opened : (p : List ℕ) → (removed geo old p).opened ≡ old.opened
  removed_opened p =
      relinked_opened geo (relinked geo (emptied geo old (holder geo old.view p) (slot_at geo old.view p)) (number_at geo old.view p) ((old.view.inode (number_at geo old.view p)).links - 2)) (holder geo old.view p) ((old.view.inode (holder geo old.view p)).links - 1)
      ∙ relinked_opened geo (emptied geo old (holder geo old.view p) (slot_at geo old.view p)) (number_at geo old.view p) ((old.view.inode (number_at geo old.view p)).links - 2)

  repaired_opened : (r : Repair) → (repaired geo old r).opened ≡ old.opened
  repaired_opened (DropInode i) = relinked_opened geo old i 0
  repaired_opened (LowerCount i x) = relinked_opened geo old i ((old.view.inode i).links - x)
  repaired_opened (FreeBlock a) = refl
  repaired_opened (FreeNumber i) = refl

  module _ (new : State) (h i : ℕ) (was : open_at old h ≡ Some i) where
    -- where the table of handles is the same, and where it is at h
    by_table : new.opened ≡ old.opened → open_at new h ≡ Some i
    by_table e = ap (λ (f : ℕ → Option ℕ). cond (ltb h handle_count) (f h) None) e ∙ was

    by_entry : (m : ℕ) (o : Option ℕ) → new.opened ≡ put_at old.opened m o → (h ≡ m → ⊥) → open_at new h ≡ Some i
    by_entry m o e other = ap (λ (f : ℕ → Option ℕ). cond (ltb h handle_count) (f h) None) e ∙ ap (λ x. cond (ltb h handle_count) x None) (put_there old.opened m h o other) ∙ was

    -- a handle that is opened was not open
    opening : (p : List ℕ) (m : ℕ) → Opens geo old p m new → open_at new h ≡ Some i
    opening p m o = by_entry m (Some (number_at geo old.view p)) (ap (λ (s : State). s.opened) o.whole)
        (λ e. not_some i (sym was ∙ ap (λ x. cond (ltb h handle_count) x None) (ap old.opened e ∙ o.free) ∙ same_none (ltb h handle_count)))
      where
        same_none : (b : Bool) → cond {A = Option ℕ} b None None ≡ None
        same_none true = refl
        same_none false = refl

    -- another one is closed
    closing : (m : ℕ) → new ≡ closed geo old m → (h ≡ m → ⊥) → open_at new h ≡ Some i
    closing m e other = by_entry m None (ap (λ (s : State). s.opened) e ∙ swept_opened (record old { opened = put_at old.opened m None }) (file_of old m)) other

-- each command, but the close of the handle
pub effect_opened : (geo : Geometry) (old new : State) (command : Command) (answer : Answer) (h i : ℕ) → Effect geo old command answer new → open_at old h ≡ Some i → (command ≡ Close h → ⊥) → open_at new h ≡ Some i
effect_opened geo old new (Create p words) (Number j) h i e was other = by_table geo old new h i was (ap (λ (s : State). s.opened) e.whole)
effect_opened geo old new (Mkdir p words) (Number j) h i e was other = by_table geo old new h i was (ap (λ (s : State). s.opened) e.whole)
effect_opened geo old new (Link p q) Done h i e was other = by_table geo old new h i was (ap (λ (s : State). s.opened) e.whole)
effect_opened geo old new (Unlink p) Done h i e was other =
    by_table geo old new h i was (ap (λ (s : State). s.opened) e ∙ relinked_opened geo (emptied geo old (holder geo old.view p) (slot_at geo old.view p)) (number_at geo old.view p) ((old.view.inode (number_at geo old.view p)).links - 1))
effect_opened geo old new (Rmdir p) Done h i e was other = by_table geo old new h i was (ap (λ (s : State). s.opened) e ∙ removed_opened geo old p)
effect_opened geo old new (Rename p q) Done h i e was other = by_table geo old new h i was (renames_opened geo old new p q e)
effect_opened geo old new (Open p) (Number m) h i e was other = opening geo old new h i was p m e
effect_opened geo old new (Close m) Done h i e was other = closing geo old new h i was m e (λ q. other (ap Close (sym q)))
effect_opened geo old new (Read m k) (Bytes bytes) h i e was other = by_table geo old new h i was (ap (λ (s : State). s.opened) e.1)
effect_opened geo old new (Write m k piece) Done h i e was other = by_table geo old new h i was (stores_opened geo old new (file_of old m) k e.bytes (size_after old.view (file_of old m) k piece) e.stores)
effect_opened geo old new (Truncate m n) Done h i e was other = by_table geo old new h i was (ap (λ (s : State). s.opened) e)
effect_opened geo old new (SetAttributes j words) Done h i e was other = by_table geo old new h i was (ap (λ (s : State). s.opened) e)
effect_opened geo old new (ListNames p) (Listed names) h i e was other = by_table geo old new h i was (ap (λ (s : State). s.opened) e.1)
effect_opened geo old new (Stat p) answer h i e was other = by_table geo old new h i was (ap (λ (s : State). s.opened) e.1)
effect_opened geo old new (ReadAttributes j) answer h i e was other = by_table geo old new h i was (ap (λ (s : State). s.opened) e.1)
effect_opened geo old new Freeze answer h i e was other = by_table geo old new h i was (ap (λ (s : State). s.opened) e.1)
effect_opened geo old new (SnapRead s j k) (Bytes bytes) h i e was other = by_table geo old new h i was (ap (λ (s : State). s.opened) e.3)
effect_opened geo old new (Release s) Done h i e was other = by_table geo old new h i was (ap (λ (s : State). s.opened) e)
effect_opened geo old new (Install check) Done h i e was other = by_table geo old new h i was (ap (λ (s : State). s.opened) e.whole)
effect_opened geo old new (RepairAt k) Done h i e was other = by_table geo old new h i was (ap (λ (s : State). s.opened) e.whole ∙ repaired_opened geo old e.repair)
effect_opened geo old new (Flush a) (Number n) h i e was other = by_table geo old new h i was (ap (λ (s : State). s.opened) e)
effect_opened geo old new Sync Done h i e was other = by_table geo old new h i was (ap (λ (s : State). s.opened) e)
effect_opened geo old new _ _ h i e was other = absurd e
