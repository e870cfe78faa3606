-- The command that renames keeps the balance, and the files.
use Rattle.std.proofs.Common.{◌≡◌, ◌≢◌, ℕ, Bool, true, false, not, eqb, List, refl, sym, ap, subst, Option, None, ne_eqb}
use Rattle.std.proofs.lemmas.Bool.{both_ways}
use Rattle.model.specs.Layout.{Geometry, IsGeometry}
use Rattle.model.specs.View.{View}
use Rattle.model.specs.Uses.{is_directory_at}
use Rattle.model.specs.Slots.{Good}
use Rattle.layout.specs.declared.refusal.Refusal.{Refusal}
use Rattle.layout.specs.declared.refusal.Refusal.TheVariants.{IsDirectory, TooBig}
use Rattle.machine.specs.State.{State}
use Rattle.machine.specs.Command.{Rename}
use Rattle.machine.specs.Paths.{holder, name_in, slot_at, number_at}
use Rattle.machine.specs.Room.{is_full}
use Rattle.machine.specs.Causes.{causes, refusal_of, only}
use Rattle.machine.specs.Effects.{Renames, Within, Across}
use Rattle.machine.specs.Balance.{Balance}
use Rattle.machine.specs.Files.{IsFile}
use Rattle.machine.proofs.Walks.{quiet, when_none}
use Rattle.machine.proofs.Holders.{IsNewPlace, new_place}
use Rattle.machine.proofs.Renaming.{IsPlace, place_at}
use Rattle.machine.proofs.Ledger.{Kept}
use Rattle.machine.proofs.RenameWithin.{within_keeps}
use Rattle.machine.proofs.SameFiles.{SameFile}
use Rattle.machine.proofs.FileStays.{entry_file}
use Rattle.machine.proofs.RenameAcross.{across, across_files}

only_true : (t : Bool) (c : Option Refusal) → t ≡ true → only t c ≡ None → c ≡ None
only_true true c e h = h
only_true false c e h = absurd (both_ways false refl e)

module _ (geo : Geometry) (g : IsGeometry geo) (old new : State) (b : Balance geo old) (p q : List ℕ) where
  abbrev v : View
  v = old.view

  abbrev other : Bool
  other = not (eqb (holder geo v p) (holder geo v q))

  -- what it may rely on: across directories it moves a file to where there is room
  allows : {A : Type 0} → refusal_of geo old (Rename p q) ≡ None
      → (IsPlace geo v p → IsNewPlace geo v q → (holder geo v p ≢ holder geo v q → (is_directory_at geo v (number_at geo v p) ≡ false) × (is_full geo v (holder geo v q) ≡ false)) → A) → A
  unfolding causes
  allows none then =
      let c = quiet (causes geo old (Rename p q)) none in
      then (place_at geo v p c.0 c.1.1.0 c.1.1.1.1.0) (new_place geo v q c.1.0 c.1.1.1.1.1.0 c.1.1.1.1.1.1.1.0)
      (λ apart. let is : other ≡ true = ap not (ne_eqb (holder geo v p) (holder geo v q) apart) in (
        when_none (is_directory_at geo v (number_at geo v p)) IsDirectory (only_true other _ is c.1.1.1.1.1.1.0),
        when_none (is_full geo v (holder geo v q)) TooBig (only_true other _ is c.1.1.1.1.1.1.1.1.1.0),
      ))

  pub rename_keeps : refusal_of geo old (Rename p q) ≡ None → Renames geo old p q new → Kept geo old new
  rename_keeps none (Within entry same says whole) = allows none (λ at to moves. within_keeps geo old new b p q at to entry same says whole)
  rename_keeps none (Across view apart enters whole) =
      allows none (λ at to moves. subst (λ t. Kept geo old t) (sym whole) (across geo g old b p q view at to (moves apart).0 (moves apart).1 apart enters))

  -- a file is as it was
  pub rename_files : refusal_of geo old (Rename p q) ≡ None → Renames geo old p q new → (j : ℕ) → IsFile geo v j → SameFile geo v new.view j
  rename_files none (Within entry same says whole) j is =
      allows none (λ at to moves. subst (λ (t : State). SameFile geo v t.view j) (sym whole) (entry_file geo v b.rules.rule3 (holder geo v p) (slot_at geo v p) entry (Good (number_at geo v p) (name_in p)) (λ z. cc) at.good j is.1))
  rename_files none (Across view apart enters whole) j is =
      allows none (λ at to moves. subst (λ (t : State). SameFile geo v t.view j) (sym whole) (across_files geo g old b p q view at to (moves apart).0 (moves apart).1 apart enters j is))
