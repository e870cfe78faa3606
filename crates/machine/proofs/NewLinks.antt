-- The command that gives a file one more name keeps the balance, and the files.
use Rattle.std.proofs.Common.{◌≡◌, ◌+◌, ℕ, false, List, [], refl, sym, ap, ◌∙◌, subst, arith, IsFalse, None, Ok}
use Rattle.model.specs.Layout.{Geometry, IsGeometry}
use Rattle.model.specs.View.{View, Inode}
use Rattle.model.specs.Uses.{is_directory_at}
use Rattle.model.specs.Slots.{Good}
use Rattle.model.specs.Reach.{IsReachable, IsReachableDirectory}
use Rattle.layout.specs.declared.refusal.Refusal.TheVariants.{IsDirectory, TooBig}
use Rattle.machine.specs.State.{State}
use Rattle.machine.specs.Command.{Link}
use Rattle.machine.specs.Paths.{parts, holder, name_in, number_at, target}
use Rattle.machine.specs.Room.{is_full}
use Rattle.machine.specs.Causes.{causes, refusal_of}
use Rattle.machine.specs.Effects.{Links}
use Rattle.machine.specs.Balance.{Balance, Owes}
use Rattle.machine.specs.Files.{IsFile}
use Rattle.machine.proofs.Decisions.{reachable_sound}
use Rattle.machine.proofs.Walks.{quiet, when_none, no_error, target_reachable}
use Rattle.machine.proofs.Holders.{IsNewPlace, new_place, good_parts}
use Rattle.machine.proofs.Clears.{kept}
use Rattle.machine.proofs.Naming.{once}
use Rattle.machine.proofs.Unlinking.{once_here, once_there}
use Rattle.machine.proofs.OtherLinks.{other_links, shape, same, sounds, directories, slots, links_evolve}
use Rattle.machine.proofs.Ledger.{Ledger, ledger, no_slack, Kept, kept_by}
use Rattle.machine.proofs.Evolves.{evolved}
use Rattle.machine.proofs.SameFiles.{SameFile, then_file}
use Rattle.machine.proofs.FileStays.{links_file}
use Rattle.machine.proofs.EntersFile.{full_same, entered_file, enters_ledger}

-- a reachable inode gets a link more than it has entries
pub raised : (geo : Geometry) (old : State) (b : Balance geo old) (i : ℕ) → IsReachable geo old.view i → Ledger geo (Owes geo old) (once (Good i [])) (record old { view = other_links geo old.view i ((old.view.inode i).links + 1) })
raised geo old b i there =
    evolved geo (Owes geo old) no_slack (once (Good i [])) old (record old { view = other_links geo old.view i ((old.view.inode i).links + 1) }) (λ j. ⊥)
    (links_evolve geo (Owes geo old) no_slack (once (Good i [])) old (ledger geo old b) i ((old.view.inode i).links + 1)
    (λ j x. once_there i j [] x) (omega (arith, once_here i []))
    (λ r e h. omega (arith, b.rules.rule8 i e r h)) (λ lost z. absurd (lost there)) (λ z. absurd (omega (arith, z))))
    (ledger geo old b)

module _ (geo : Geometry) (g : IsGeometry geo) (old new : State) (b : Balance geo old) (p q : List ℕ) (c : Links geo old p q new) where
  abbrev v : View
  v = old.view

  abbrev d : ℕ
  d = holder geo v q

  abbrev i : ℕ
  i = number_at geo v p

  abbrev n : ℕ
  n = (v.inode i).links + 1

  abbrev w : View
  w = other_links geo v i n

  module _ (there : IsReachable geo v i) (file : IsFalse (is_directory_at geo v i)) (at : IsNewPlace geo v q) (not_full : is_full geo v d ≡ false) where
    reachable : IsReachableDirectory geo w d
    reachable = kept geo v w (λ j. false) (same geo v i n) d at.reachable

    not_full' : is_full geo w d ≡ false
    not_full' = sym (full_same geo v w d (slots geo v i n d) (ap (λ (r : Inode). r.size) (shape geo v i n d))) ∙ not_full

    after : Ledger geo (Owes geo old) no_slack (record old { view = c.view })
    after = enters_ledger geo g (Owes geo old) (once (Good i [])) no_slack (record old { view = w }) (raised geo old b i there) d i (name_in q) c.view c.enters
        reachable not_full' at.part
        (λ t j e. at.new t j (slots geo v i n d t ∙ e))
        (sym (sounds geo v i n i) ∙ reachable_sound geo v i there)
        (sym (directories geo v i n i) ∙ file)
        (omega (arith, once_here i [])) (λ j. omega arith)

    linking : Kept geo old (record old { view = c.view })
    linking = kept_by geo old (record old { view = c.view }) after refl refl

    -- a file is as it was, but for its links
    linked_file : (j : ℕ) → IsFile geo v j → SameFile geo v c.view j
    linked_file j is = then_file geo v w c.view j (links_file geo v i n j)
        (entered_file geo g (Owes geo old) (once (Good i [])) (record old { view = w }) (raised geo old b i there) d i (name_in q) c.view c.enters reachable not_full' j (sym (directories geo v i n j) ∙ is.1))

  -- what it may rely on
  allows : {A : Type 0} → refusal_of geo old (Link p q) ≡ None → (IsReachable geo v i → IsFalse (is_directory_at geo v i) → IsNewPlace geo v q → is_full geo v d ≡ false → A) → A
  unfolding causes
  allows none then =
      let k = quiet (causes geo old (Link p q)) none in
      let is : target geo v (parts p) ≡ Ok i = no_error (target geo v (parts p)) 0 k.1.1.1.0 in
      then (target_reachable geo v b.rules (parts p) i (good_parts p k.0) is) (when_none (is_directory_at geo v i) IsDirectory k.1.1.1.1.0)
      (new_place geo v q k.1.0 k.1.1.1.1.1.0 k.1.1.1.1.1.1.0) (when_none (is_full geo v d) TooBig k.1.1.1.1.1.1.1.1.0)

  pub link_keeps : refusal_of geo old (Link p q) ≡ None → Kept geo old new
  link_keeps none = subst (λ t. Kept geo old t) (sym c.whole) (allows none (λ there file at not_full. linking there file at not_full))

  pub link_files : refusal_of geo old (Link p q) ≡ None → (j : ℕ) → IsFile geo v j → SameFile geo v new.view j
  link_files none j is = subst (λ (t : State). SameFile geo v t.view j) (sym c.whole) (allows none (λ there file at not_full. linked_file there file at not_full j is))
