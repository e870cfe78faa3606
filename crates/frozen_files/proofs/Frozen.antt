-- Commands leave the snapshots, but the two that begin and end one.
use Rattle.std.proofs.Common.{◌≡◌, ◌-◌, ℕ, Bool, false, not, ◌&&◌, eqb, List, [], ◌∷◌, inl, inr, refl, ap, ◌∙◌, None}
use Rattle.std.proofs.lemmas.Bool.{cases_Bool, cond-true, cond-false}
use Rattle.model.specs.Layout.{Geometry}
use Rattle.model.specs.View.{free_inode}
use Rattle.model.specs.Cells.{SetInode, SetNumber, updated, updated_all, put_at}
use Rattle.findings.specs.declared.repair.Repair.{Repair}
use Rattle.findings.specs.declared.repair.Repair.TheVariants.{DropInode, LowerCount, FreeBlock, FreeNumber}
use Rattle.machine.specs.State.{State, is_open}
use Rattle.machine.specs.Effects.{emptied, lets_go, swept, relinked, with_links, unlinked, removed, Renames, Within, Across, Stores, InPlace, Moved, Appended}
use Rattle.machine.specs.Paths.{holder, slot_at, number_at}
use Rattle.machine.specs.Repairs.{CarriesOut, repaired}

swept_snapshots : (geo : Geometry) (s : State) (i : ℕ) → (swept geo s i).snapshots ≡ s.snapshots
swept_snapshots geo s i = elim (cases_Bool test) [ inl t ↦ ap (λ (x : State). x.snapshots) (cond-true test gone s t) | inr f ↦ ap (λ (x : State). x.snapshots) (cond-false test gone s f) ]
  where
    test : Bool
    test = eqb (s.view.inode i).links 0 && not (is_open s i)

    gone : State
    gone = lets_go geo s i (updated_all s.view (SetInode i free_inode ∷ SetNumber i false ∷ []))

relinked_snapshots : (geo : Geometry) (s : State) (i n : ℕ) → (relinked geo s i n).snapshots ≡ s.snapshots
relinked_snapshots geo s i n = swept_snapshots geo (record s { view = updated s.view (SetInode i (with_links (s.view.inode i) n)) }) i

module _ (geo : Geometry) (old new : State) where
  pub same_snapshots : (s : State) → new ≡ s → s.snapshots ≡ old.snapshots → new.snapshots ≡ old.snapshots
  same_snapshots s e f = ap (λ (x : State). x.snapshots) e ∙ f

  pub unlinked_snapshots : (p : List ℕ) → new ≡ unlinked geo old p → new.snapshots ≡ old.snapshots
  unlinked_snapshots p e = same_snapshots (unlinked geo old p) e (relinked_snapshots geo (emptied geo old (holder geo old.view p) (slot_at geo old.view p)) (number_at geo old.view p) ((old.view.inode (number_at geo old.view p)).links - 1))

  pub removed_snapshots : (p : List ℕ) → new ≡ removed geo old p → new.snapshots ≡ old.snapshots
  removed_snapshots p e =
      let i = number_at geo old.view p in
      let d = holder geo old.view p in
      let s = emptied geo old d (slot_at geo old.view p) in
      let t = relinked geo s i ((old.view.inode i).links - 2) in
      same_snapshots (removed geo old p) e (relinked_snapshots geo t d ((old.view.inode d).links - 1) ∙ relinked_snapshots geo s i ((old.view.inode i).links - 2))

  pub renamed_snapshots : (p q : List ℕ) → Renames geo old p q new → new.snapshots ≡ old.snapshots
  renamed_snapshots p q (Within entry same says is) = same_snapshots _ is refl
  renamed_snapshots p q (Across view apart enters is) = same_snapshots _ is refl

  pub closed_snapshots : (h i : ℕ) → new ≡ swept geo (record old { opened = put_at old.opened h None }) i → new.snapshots ≡ old.snapshots
  closed_snapshots h i e = same_snapshots _ e (swept_snapshots geo (record old { opened = put_at old.opened h None }) i)

  pub stores_snapshots : (i k : ℕ) (bytes : List ℕ) (size : ℕ) → Stores geo old i k bytes size new → new.snapshots ≡ old.snapshots
  stores_snapshots i k bytes size (InPlace inside free is) = same_snapshots _ is refl
  stores_snapshots i k bytes size (Moved view inside kept p is) = same_snapshots _ is refl
  stores_snapshots i k bytes size (Appended view at p is) = same_snapshots _ is refl

  repaired_snapshots : (r : Repair) → (repaired geo old r).snapshots ≡ old.snapshots
  repaired_snapshots (DropInode i) = relinked_snapshots geo old i 0
  repaired_snapshots (LowerCount i x) = relinked_snapshots geo old i _
  repaired_snapshots (FreeBlock a) = refl
  repaired_snapshots (FreeNumber i) = refl

  pub repair_snapshots : (k : ℕ) → CarriesOut geo old k new → new.snapshots ≡ old.snapshots
  repair_snapshots k c = same_snapshots _ c.whole (repaired_snapshots c.repair)
