-- The command that creates a file keeps the balance, and the other files.
use Rattle.std.proofs.Common.{◌≡◌, ℕ, true, false, ◌&&◌, List, [], ◌∷◌, length, refl, sym, ap, ◌∙◌, subst, arith, IsTrue, IsFalse, Some, None}
use Rattle.std.proofs.lemmas.Bool.{both_ways}
use Rattle.std.proofs.lemmas.Option.{none-some}
use Rattle.model.specs.Layout.{Geometry, IsGeometry, is_number}
use Rattle.model.specs.View.{View, Inode}
use Rattle.model.specs.Cells.{SetNumber, SetInode, updated_all}
use Rattle.model.specs.Uses.{is_sound, is_sound_at, is_directory, is_directory_at, record_use, IsUse}
use Rattle.model.specs.Slots.{Good, slot}
use Rattle.model.specs.Reach.{IsReachableDirectory}
use Rattle.model.proofs.SlotLemmas.{reachable_directory}
use Rattle.model.proofs.Uses.{use_number, new_file_sound}
use Rattle.model.proofs.Places.{put_here, put_there}
use Rattle.model.proofs.SameTree.{kept}
use Rattle.layout.specs.declared.refusal.Refusal.TheVariants.{TooBig}
use Rattle.machine.specs.State.{State}
use Rattle.machine.specs.Command.{Create}
use Rattle.machine.specs.Paths.{holder, name_in}
use Rattle.machine.specs.Room.{is_full}
use Rattle.machine.specs.Causes.{causes, refusal_of}
use Rattle.machine.specs.Effects.{Creates, file_with}
use Rattle.machine.specs.Balance.{Balance, Owes}
use Rattle.machine.specs.Files.{IsFile}
use Rattle.machine.proofs.Decisions.{directory_is_sound}
use Rattle.machine.proofs.Tests.{and_false}
use Rattle.machine.proofs.Walks.{quiet, when_none}
use Rattle.machine.proofs.Holders.{IsNewPlace, new_place}
use Rattle.machine.proofs.NewFile.{new_unused, unsound_at}
use Rattle.machine.proofs.Naming.{once}
use Rattle.machine.proofs.Unlinking.{once_here, once_there}
use Rattle.machine.proofs.Ledger.{Ledger, ledger, no_slack, Kept, kept_by}
use Rattle.machine.proofs.Founding.{Founded, founded_ledger, founded_tree, founded_slots, founded_number}
use Rattle.machine.proofs.SameFiles.{SameFile, then_file, record_file, same_directory}
use Rattle.machine.proofs.EntersFile.{full_same, entered_file, enters_ledger}

module _ (geo : Geometry) (g : IsGeometry geo) (old new : State) (b : Balance geo old) (p words : List ℕ) (i : ℕ) (c : Creates geo old p words i new) where
  abbrev v : View
  v = old.view

  abbrev d : ℕ
  d = holder geo v p

  abbrev w : View
  w = updated_all v (SetNumber i true ∷ SetInode i (file_with words) ∷ [])

  no_use : (q a : ℕ) → IsUse geo w i q a → ⊥
  no_use q a u = none-some a (sym (new_unused geo w words q) ∙ subst (λ (r : Inode). record_use geo w r q ≡ Some a) (put_here v.inode i (file_with words)) (use_number geo w i q a u).1)

  founded : Founded geo v w i
  founded = record {
    free = c.free;
    there = λ j x. put_there v.inode i j (file_with words) x;
    sound = ap (is_sound geo) (put_here v.inode i (file_with words)) ∙ new_file_sound geo;
    linked = (let one = ap (λ (r : Inode). r.links) (put_here v.inode i (file_with words)) in omega (arith, one));
    direct = ap (λ (r : Inode). length r.direct) (put_here v.inode i (file_with words));
    mark_here = put_here v.number_marked i true;
    mark_there = λ j x. put_there v.number_marked i j true x;
    uses = λ q a u. absurd (no_use q a u);
    once = λ q m a x y. absurd (no_use q a x.0);
    marks_kept = λ a m. m;
    fresh_claimed = λ a f. absurd (both_ways (v.block_marked a) f.0 f.1);
    bytes = λ a m. refl;
    whole = b.whole;
  }

  first : Ledger geo (Owes geo old) (once (Good i [])) (record old { view = w })
  first = founded_ledger geo (Owes geo old) no_slack (once (Good i [])) old (ledger geo old b) w i founded (λ j x. once_there i j [] x)
      (once_here i [] ∙ sym (ap (λ (r : Inode). r.links) (put_here v.inode i (file_with words))))

  module _ (at : IsNewPlace geo v p) (not_full : is_full geo v d ≡ false) where
    slots : (t : ℕ) → slot geo v d t ≡ slot geo w d t
    slots t = founded_slots geo (Owes geo old) no_slack (once (Good i [])) old (ledger geo old b) w i founded (λ j x. once_there i j [] x) (once_here i [] ∙ sym (ap (λ (r : Inode). r.links) (put_here v.inode i (file_with words)))) d t at.reachable

    apart : d ≡ i → ⊥
    apart e = both_ways (is_sound_at geo v i) (unsound_at geo v b.rules i c.free) (subst (λ q. IsTrue (is_sound_at geo v q)) e (directory_is_sound geo v d (reachable_directory geo v d at.reachable)))

    file : IsFalse (is_directory_at geo w i)
    file = ap (λ (r : Inode). is_number geo i && is_sound geo r && is_directory r) (put_here v.inode i (file_with words)) ∙ and_false (is_number geo i && is_sound geo (file_with words))

    reachable : IsReachableDirectory geo w d
    reachable = kept geo v w (founded_tree geo (Owes geo old) no_slack (once (Good i [])) old (ledger geo old b) w i founded (λ j x. once_there i j [] x) (once_here i [] ∙ sym (ap (λ (r : Inode). r.links) (put_here v.inode i (file_with words))))) d at.reachable

    not_full' : is_full geo w d ≡ false
    not_full' = sym (full_same geo v w d slots (sym (ap (λ (r : Inode). r.size) (put_there v.inode i d (file_with words) apart)))) ∙ not_full

    after : Ledger geo (Owes geo old) no_slack (record old { view = c.view })
    after = enters_ledger geo g (Owes geo old) (once (Good i [])) no_slack (record old { view = w }) first d i (name_in p) c.view c.enters
        reachable not_full' at.part
        (λ t j e. at.new t j (slots t ∙ e))
        (founded_number geo (Owes geo old) no_slack (once (Good i [])) old (ledger geo old b) w i founded (λ j x. once_there i j [] x) (once_here i [] ∙ sym (ap (λ (r : Inode). r.links) (put_here v.inode i (file_with words)))))
        file (omega (arith, once_here i [])) (λ j. omega arith)

    -- another file is as it was
    created_file : (j : ℕ) → IsFile geo v j → SameFile geo v c.view j
    created_file j is =
        let there : j ≡ i → ⊥ = λ e. both_ways (is_sound_at geo v i) (unsound_at geo v b.rules i c.free) (subst (λ q. IsTrue (is_sound_at geo v q)) e is.0) in
        let first_file = record_file geo v w j (sym (put_there v.inode i j (file_with words) there)) refl in
        then_file geo v w c.view j first_file
        (entered_file geo g (Owes geo old) (once (Good i [])) (record old { view = w }) first d i (name_in p) c.view c.enters reachable not_full' j (sym (same_directory geo v w j first_file) ∙ is.1))

  -- what it may rely on
  allows : {A : Type 0} → refusal_of geo old (Create p words) ≡ None → (IsNewPlace geo v p → is_full geo v d ≡ false → A) → A
  unfolding causes
  allows none then = let q = quiet (causes geo old (Create p words)) none in then (new_place geo v p q.0 q.1.1.0 q.1.1.1.0) (when_none (is_full geo v d) TooBig q.1.1.1.1.1.0)

  pub create_keeps : refusal_of geo old (Create p words) ≡ None → Kept geo old new
  create_keeps none = subst (λ t. Kept geo old t) (sym c.whole) (allows none (λ at not_full. kept_by geo old (record old { view = c.view }) (after at not_full) refl refl))

  -- and another file
  pub create_files : refusal_of geo old (Create p words) ≡ None → (j : ℕ) → IsFile geo v j → SameFile geo v new.view j
  create_files none j is = subst (λ (t : State). SameFile geo v t.view j) (sym c.whole) (allows none (λ at not_full. created_file at not_full j is))
