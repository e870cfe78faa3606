-- A directory makes room for an entry of a file, and gets it.
use Rattle.std.proofs.Common.{◌≡◌, ◌≤◌, ◌+◌, ℕ, Bool, false, not, ◌&&◌, leb, List, sym, ap, ap₂, ◌∙◌, subst, IsTrue, IsFalse}
use Rattle.model.specs.Layout.{Geometry, IsGeometry}
use Rattle.model.specs.View.{View}
use Rattle.model.specs.Shape.{most_blocks}
use Rattle.model.specs.Uses.{is_sound_at, is_directory_at, blocks_of}
use Rattle.model.specs.Slots.{Empty, Good, slot}
use Rattle.model.specs.Reach.{IsReachableDirectory, slot_count}
use Rattle.model.proofs.SlotLemmas.{reachable_directory}
use Rattle.model.proofs.SameTree.{kept}
use Rattle.findings.specs.declared.repair.Repair.{Repair}
use Rattle.machine.specs.State.{State}
use Rattle.machine.specs.Paths.{is_part}
use Rattle.machine.specs.Room.{is_empty, is_full}
use Rattle.machine.specs.Cells.{Enters, with_entry}
use Rattle.machine.proofs.Decisions.{any_same}
use Rattle.machine.proofs.Behind.{behind_dots}
use Rattle.machine.proofs.Naming.{once}
use Rattle.machine.proofs.Growing.{Roomy, makes_room}
use Rattle.machine.proofs.EnteringFile.{entered_ledger}
use Rattle.machine.proofs.Ledger.{Ledger}
use Rattle.machine.proofs.SameFiles.{SameFile, then_file}
use Rattle.machine.proofs.FileStays.{apart_from, entry_file}

-- a directory with the same slots and size is as full
pub full_same : (geo : Geometry) (v w : View) (d : ℕ) → ((s : ℕ) → slot geo v d s ≡ slot geo w d s) → (v.inode d).size ≡ (w.inode d).size → is_full geo v d ≡ is_full geo w d
full_same geo v w d slots sizes = ap₂ (λ (r : Bool) (n : ℕ). not r && leb (most_blocks geo) (blocks_of n)) (any_same (slot_count geo) _ _ (λ s k. ap is_empty (slots s))) sizes

-- a file shows what it showed
pub entered_file : (geo : Geometry) → IsGeometry geo → (owed : Repair → Type 0) (slack : ℕ → ℕ) (st : State) → Ledger geo owed slack st → (d i : ℕ) (name : List ℕ) (view : View) (e : Enters geo st.view d name i view)
    → IsReachableDirectory geo st.view d → is_full geo st.view d ≡ false → (j : ℕ) → IsFalse (is_directory_at geo st.view j) → SameFile geo st.view view j
entered_file geo g owed slack st l d i name view e reachable not_full j file =
    let room = makes_room geo g owed slack st l d reachable not_full e.roomy e.room in
    subst (λ x. SameFile geo st.view x j) (sym e.whole)
    (then_file geo st.view e.roomy (with_entry geo e.roomy d e.place e.entry) j
    (room.files j (apart_from geo st.view j d file (reachable_directory geo st.view d reachable)))
    (entry_file geo e.roomy room.ledger.rules.rule3 d e.place e.entry Empty (λ q. cc) e.empty j (sym (room.directories j) ∙ file)))

module _ (geo : Geometry) (g : IsGeometry geo) (owed : Repair → Type 0) (slack more : ℕ → ℕ) (st : State) (l : Ledger geo owed slack st) (d i : ℕ) (name : List ℕ) (view : View) (e : Enters geo st.view d name i view)
    (reachable : IsReachableDirectory geo st.view d) (not_full : is_full geo st.view d ≡ false) (part : IsTrue (is_part name)) (new : (t j : ℕ) → slot geo st.view d t ≡ Good j name → ⊥)
    (sound : IsTrue (is_sound_at geo st.view i)) (file : IsFalse (is_directory_at geo st.view i)) (some : 1 ≤ slack i) (less : (j : ℕ) → more j + once (Good i name) j ≡ slack j) where
  room : Roomy geo owed slack st d e.roomy
  room = makes_room geo g owed slack st l d reachable not_full e.roomy e.room

  reachable' : IsReachableDirectory geo e.roomy d
  reachable' = kept geo st.view e.roomy room.tree d reachable

  pub enters_ledger : Ledger geo owed more (record st { view = view })
  enters_ledger = subst (λ (x : View). Ledger geo owed more (record st { view = x })) (sym e.whole)
      (entered_ledger geo owed slack more (record st { view = e.roomy }) room.ledger i d e.place name e.entry e.empty e.says part reachable'
      (behind_dots geo e.roomy room.ledger.rules d e.place reachable' e.empty)
      (λ t j h. new t j ((room.tree.good d t j name reachable).1 h))
      (sym (room.sounds i) ∙ sound) (sym (room.directories i) ∙ file) some less)
